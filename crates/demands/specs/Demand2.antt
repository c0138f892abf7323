-- Demand 2. Within 1,048,576 ASCII bytes tokens, records and the first error equal the Rust's: by differential runs, and by proof against
-- definitions of its rules. Severity words follow the ModSecurity Reference Manual, listings RFC 8259.
-- Said here of every reader that document 01 names, in two parts (of whole directives: `WholeDirectives`). What is given back and left
-- is what the definitions say (`Equals`): `reading`, `actionsOf`, `setvar`, `read_all` and `operator` are the Rust's rules. And each number
-- is given exactly when documents 01 and 02 say so (`Exact`). Where the Rust has one error for an action's argument, document 02 has three
-- numbers: these are mapped to it (`OneError`). What M-104 added, the last word of a record and the last value of a refusal, the Rust has not:
-- all else is held against its rules, which know of no places, and these are the pieces' places by their definition (`Sources`).
use Rattle.std.specs.Prelude.{◌≡◌, List, [], ◌∷◌, ◌++◌, map, ◌↔◌, ℕ, ◌+◌, ◌≤◌, ◌<◌, min, length, drop, ltb, Result}
use Rattle.ascii.specs.Choice.{pick}
use Rattle.ascii.specs.Handed.{Standing}
use Rattle.lent.specs.Sizes.{limit, token_words, action_words, variable_words, room_for}
use Rattle.lent.specs.Buffers.{padded}
use Rattle.lent.specs.Sources.{part_word, Sourced}
use Rattle.lent.specs.Table.{Given, given, flaw_number, no_room, unknown_action, bad_argument, Outcome, refuses, reads, Filled, given_by, text_by, records_by}
use Rattle.lent.specs.Admission.{FirstAt, Opened, Shortened}
use Rattle.lent.specs.declared.refusing.Flaw.{Flaw}
use Rattle.lexer.specs.Tokens.{next, reading}
use Rattle.lexer.specs.Calls.{Fit, Astray, needed}
use Rattle.lexer.specs.Promises as Lexer
use Rattle.lexer.specs.declared.writing.Read.{Read as TokensRead}
use Rattle.lexer.specs.declared.writing.TokensError.{TokensError}
use Rattle.lexer.specs.declared.stepping.Found.{Found}
use Rattle.lexer.specs.declared.stepping.StepError.{StepError}
use Rattle.actions.specs.declared.Read.{Read as ActionsRead}
use Rattle.actions.specs.declared.ActionsError.{ActionsError}
use Rattle.variables.specs.declared.Read.{Read as VariablesRead}
use Rattle.variables.specs.declared.VariablesError.{VariablesError}
use Rattle.operators.specs.declared.Operator.{Operator}
use Rattle.operators.specs.declared.OperatorError.{OperatorError}
use Rattle.actions.specs.Normal.{normalised}
use Rattle.actions.specs.Pieces as Action
use Rattle.single_action.specs.Table.{Row}
use Rattle.single_action.specs.Actions.{Action as OneAction, bad, unknown, single}
use Rattle.single_action.specs.Flaws.{Flawed, invalid_action_argument, parsed, severity_ours, severity_theirs}
use Rattle.actions.specs.Lists.{normal_site, actions_of}
use Rattle.actions.specs.Layout.{action_record, full_record}
use Rattle.actions.specs.Calls.{AllDone, FirstRefused}
use Rattle.actions.specs.Promises as Actions
use Rattle.variables.specs.Parts as Variable
use Rattle.variables.specs.Variables as Of
use Rattle.variables.specs.Variables.{as_written, looked_up, read_all}
use Rattle.variables.specs.Layout.{variable_record, exclusion_record, variable_whole, exclusion_whole}
use Rattle.variables.specs.Steps.{excluding_of}
use Rattle.variables.specs.Calls as Targets
use Rattle.variables.specs.Promises as Variables
use Rattle.variables.specs.declared.singles.Exclusions.{Exclusions}
use Rattle.variables.specs.declared.singles.Exclusions.TheVariants.{AsWritten, LookedUp}
use Rattle.operators.specs.Operators.{operator}
use Rattle.operators.specs.Calls as Operator
use Rattle.operators.specs.Promises as Operators
use Rattle.listing.specs.Grammar.{JsonText}
use Rattle.listing.specs.Listings.{line_of, printed}
use Rattle.demands.specs.Sourceless.{action_texts, variable_texts, sources, bare, rust_actions, bare_targets, rust_targets, variable_places, exclusion_places}
use Rattle.demands.specs.Calls.{Lent, Left, Wrote, Place, next_token_promise, tokens_promise, parse_actions_promise, parse_setvar_promise, parse_variables_promise, parse_update_targets_promise, parse_operator_promise, operator_argument_promise}

-- ---- what is given back and left

-- A number and values, and both buffers, as an outcome of the definitions has them.
pub record Equals (o : Outcome Filled) (g : Given) (text text' records records' : List ℕ) : Type 0 where
  pub answer : g ≡ given_by o
  pub texts : text' ≡ text_by o text
  pub words : records' ≡ records_by o records

-- What a text's tokens come to in a record buffer of m words: 4 where they do not fit.
abbrev pub tokens_in : ℕ → List ℕ → Outcome Filled
tokens_in m s =
    pick (ltb (room_for token_words m) (length (reading s).tokens)) (refuses (no_room (length (reading s).tokens))) (reads (Lexer.laid_out (reading s)))

-- Within the limit, in ASCII, and with buffers as long as asked (`Opened`), whatever the record buffer.
pub record Equal : Type 0 where
  pub tokens : (i : Lent) (o : Left (Result TokensRead TokensError)) → tokens_promise i o → Opened i.input (length i.text) (length i.input)
      → Equals (tokens_in (length i.records) i.input) (Lexer.answer_given o.answer) i.text o.text i.records o.records
  -- at every cursor that fits; the text is written at the buffer's front, and nothing beyond is touched
  pub next_token : (i : Place) (o : Wrote (Result Found StepError)) → next_token_promise i o → Opened i.input (length i.buffer) (length i.input) → Fit i.input i.from
      → (Lexer.step_given o.answer ≡ given 0 (Lexer.step_values (next (drop i.from.place i.input) i.from)))
      × (o.buffer ≡ Lexer.step_text (next (drop i.from.place i.input) i.from) ++ drop (length (Lexer.step_text (next (drop i.from.place i.input) i.from))) i.buffer)
  -- with the normalised text in the scratch buffer, on a refusal too
  pub parse_actions : (i : Lent × List ℕ) (o : Left (Result ActionsRead ActionsError) × List ℕ) → parse_actions_promise i o
      → Opened i.0.input (min (length i.0.text) (length i.1)) (length i.0.input)
      → Equals (Actions.roomed (length i.0.records) (actions_of i.0.input)) (Actions.answer_given o.0.answer) i.0.text o.0.text i.0.records o.0.records
      × (o.1 ≡ padded (length i.1) (normalised i.0.input))
  pub parse_setvar : (i : Lent) (o : Left (Result ActionsRead ActionsError)) → parse_setvar_promise i o → Opened i.input (length i.text) (length i.input + 3)
      → Equals (Actions.roomed (length i.records) (reads (Actions.setvar_alone i.input))) (Actions.answer_given o.answer) i.text o.text i.records o.records
  pub parse_variables : (i : Lent) (o : Left (Result VariablesRead VariablesError)) → parse_variables_promise i o → Opened i.input (length i.text) (length i.input)
      → Equals (Variables.hung (length i.records) (read_all as_written (Variable.pieces i.input))) (Variables.answer_given o.answer) i.text o.text i.records o.records
  pub parse_update_targets : (i : Lent) (o : Left (Result VariablesRead VariablesError)) → parse_update_targets_promise i o → Opened i.input (length i.text) (length i.input)
      → Equals (Variables.updated (length i.records) (read_all looked_up (Variable.pieces i.input))) (Variables.answer_given o.answer) i.text o.text i.records o.records
  pub parse_operator : (s : List ℕ) (r : Result Operator OperatorError) → parse_operator_promise s r → Opened s 0 0
      → Operators.answer_given r ≡ Operators.given_by s (Operators.outcome_of s (operator s))
  pub operator_argument : (s part : Standing) → operator_argument_promise s part → Opened s.bytes 0 0
      → part ≡ Operators.argument_of s (Operators.outcome_of s.bytes (operator s.bytes))
  -- RFC 8259: whatever bytes are read, what the listing program prints is a JSON text, and so is the line of a call, whatever is lent
  pub listing : (s : List ℕ) → JsonText (printed s)
  pub listed : (s : List ℕ) (n m : ℕ) → JsonText (line_of s (given_by (Lexer.tokens_outcome s n m)))

-- ---- each number exactly when

-- Numbers 1, 2 and 3 of a call that lends so much where so much is asked for.
pub record ByGate (s : List ℕ) (lent asked number : ℕ) : Type 0 where
  pub one : (number ≡ 1) ↔ (limit < length s)
  pub two : (number ≡ 2) ↔ ((length s ≤ limit) × ((p : ℕ) × FirstAt s p))
  pub three : (number ≡ 3) ↔ Shortened s lent asked

-- A later number k: none of these, and what B says.
abbrev pub Past : List ℕ → ℕ → ℕ → ℕ → ℕ → Type 0 → Type 0
Past s lent asked number k B = (number ≡ k) ↔ (Opened s lent asked × B)

pub record TokensExact (s text records : List ℕ) (n : ℕ) : Type 0 where
  pub gate : ByGate s (length text) (length s) n
  pub four : Past s (length text) (length s) n 4 (length records < needed s)
  pub zero : Past s (length text) (length s) n 0 (needed s ≤ length records)

pub record StepExact (i : Place) (n : ℕ) : Type 0 where
  pub gate : ByGate i.input (length i.buffer) (length i.input) n
  pub nine : Past i.input (length i.buffer) (length i.input) n 9 (Astray i.input i.from)
  pub zero : Past i.input (length i.buffer) (length i.input) n 0 (Fit i.input i.from)

-- 5 and 10 to 12 at the first piece that gives no action, and then 4
pub record ActionsExact (s : List ℕ) (lent m n : ℕ) : Type 0 where
  pub gate : ByGate s lent (length s) n
  pub five : Past s lent (length s) n 5 (FirstRefused unknown (Action.pieces (normalised s)))
  pub ten : Past s lent (length s) n 10 (FirstRefused (bad Flaw.Absent) (Action.pieces (normalised s)))
  pub eleven : Past s lent (length s) n 11 (FirstRefused (bad Flaw.Unreadable) (Action.pieces (normalised s)))
  pub twelve : Past s lent (length s) n 12 (FirstRefused (bad Flaw.TooLarge) (Action.pieces (normalised s)))
  pub four : Past s lent (length s) n 4 (AllDone (Action.pieces (normalised s)) × (room_for action_words m < length (Action.pieces (normalised s))))
  pub zero : Past s lent (length s) n 0 (AllDone (Action.pieces (normalised s)) × (length (Action.pieces (normalised s)) ≤ room_for action_words m))

-- one record is all that a setvar alone needs
pub record SetvarExact (s : List ℕ) (lent m n : ℕ) : Type 0 where
  pub gate : ByGate s lent (length s + 3) n
  pub four : Past s lent (length s + 3) n 4 (room_for action_words m < 1)
  pub zero : Past s lent (length s + 3) n 0 (1 ≤ room_for action_words m)

-- 7 at the first piece whose name is no variable's, and then 4
pub record TargetsExact (x : Exclusions) (s : List ℕ) (lent m n : ℕ) : Type 0 where
  pub gate : ByGate s lent (length s) n
  pub seven : Past s lent (length s) n 7 (Targets.Missing x (Variable.pieces s))
  pub four : Past s lent (length s) n 4 (Targets.AllMeant x (Variable.pieces s) × (room_for variable_words m < Targets.needed x s))
  pub zero : Past s lent (length s) n 0 (Targets.AllMeant x (Variable.pieces s) × (Targets.needed x s ≤ room_for variable_words m))

-- no buffer is lent, so that there is neither 3 nor 4
pub record OperatorExact (s : List ℕ) (n : ℕ) : Type 0 where
  pub one : (n ≡ 1) ↔ (limit < length s)
  pub two : (n ≡ 2) ↔ ((length s ≤ limit) × ((p : ℕ) × FirstAt s p))
  pub eight : Past s 0 0 n 8 (Operator.Missing s)
  pub zero : Past s 0 0 n 0 (Operator.Meant s)

pub record Exact : Type 0 where
  pub tokens : (i : Lent) (o : Left (Result TokensRead TokensError)) → tokens_promise i o → TokensExact i.input i.text i.records (Lexer.answer_given o.answer).number
  pub next_token : (i : Place) (o : Wrote (Result Found StepError)) → next_token_promise i o → StepExact i (Lexer.step_given o.answer).number
  pub parse_actions : (i : Lent × List ℕ) (o : Left (Result ActionsRead ActionsError) × List ℕ) → parse_actions_promise i o
      → ActionsExact i.0.input (min (length i.0.text) (length i.1)) (length i.0.records) (Actions.answer_given o.0.answer).number
  pub parse_setvar : (i : Lent) (o : Left (Result ActionsRead ActionsError)) → parse_setvar_promise i o
      → SetvarExact i.input (length i.text) (length i.records) (Actions.answer_given o.answer).number
  pub parse_variables : (i : Lent) (o : Left (Result VariablesRead VariablesError)) → parse_variables_promise i o
      → TargetsExact AsWritten i.input (length i.text) (length i.records) (Variables.answer_given o.answer).number
  pub parse_update_targets : (i : Lent) (o : Left (Result VariablesRead VariablesError)) → parse_update_targets_promise i o
      → TargetsExact LookedUp i.input (length i.text) (length i.records) (Variables.answer_given o.answer).number
  pub parse_operator : (s : List ℕ) (r : Result Operator OperatorError) → parse_operator_promise s r → OperatorExact s (Operators.answer_given r).number
  -- which of 10, 11 and 12 a piece is refused by: no argument where one is wanted, one that denotes no number, one that denotes a number past its width
  pub flaws : (piece name : List ℕ) (flaw : Flaw) → (single piece ≡ bad flaw name) ↔ Flawed piece name flaw

-- ---- the Rust's one error

-- The first piece that the Rust's parse_single_action refuses, with the error InvalidActionArgument and a name.
pub record FirstInvalid (ps : List Action.Piece) : Type 0 where
  pub passed : List Action.Piece
  pub piece : Action.Piece
  pub others : List Action.Piece
  pub parted : ps ≡ passed ++ piece ∷ others
  pub before : AllDone passed
  pub name : List ℕ
  pub error : parsed (single piece.text) ≡ invalid_action_argument name

pub record OneError : Type 0 where
  -- one of the three is given exactly where the Rust's first error is that one
  pub parse_actions : (i : Lent × List ℕ) (o : Left (Result ActionsRead ActionsError) × List ℕ) → parse_actions_promise i o
      → ((flaw : Flaw) × ((Actions.answer_given o.0.answer).number ≡ flaw_number flaw))
      ↔ (Opened i.0.input (min (length i.0.text) (length i.1)) (length i.0.input) × FirstInvalid (Action.pieces (normalised i.0.input)))
  -- that a severity word is looked for only where the text denotes no number changes nothing: the Rust's parse_severity, to the letter
  pub severity : (r : Row) (t : List ℕ) → severity_ours r t ≡ severity_theirs r t

-- ---- what M-104 added

pub record Sources : Type 0 where
  -- a record: its words of document 01, and behind them the span of the part that it was read from
  pub action_words_lem : (o : ℕ) (x : Sourced OneAction) → full_record o x ≡ action_record o x.thing ++ (part_word x.source ∷ [])
  pub variable_words_lem : (o : ℕ) (x : Sourced Of.Variable) → variable_whole o x ≡ variable_record o x.thing ++ (part_word x.source ∷ [])
  pub exclusion_words : (o : ℕ) (x : Sourced (List ℕ)) → exclusion_whole o x ≡ exclusion_record o x.thing ++ (part_word x.source ∷ [])
  -- but for these parts, what is read and what is refused is what the Rust's loops make of the pieces' texts
  pub actions_old : (s : List ℕ) → bare (actions_of s) ≡ rust_actions 0 (action_texts (normalised s))
  pub variables_old : (x : Exclusions) (s : List ℕ) → bare_targets (read_all (excluding_of x) (Variable.pieces s)) ≡ rust_targets x (variable_texts s)
  -- and these are the pieces' places: of an action, where its piece of the normalised text came from
  pub actions_new : (s : List ℕ) (xs : List (Sourced OneAction)) → actions_of s ≡ reads xs
      → sources xs ≡ map (λ (p : Action.Piece). normal_site s p.place) (Action.pieces (normalised s))
  pub variables_new : (x : Exclusions) (s : List ℕ) (vs : List (Sourced Of.Variable)) (es : List (Sourced (List ℕ)))
      → read_all (excluding_of x) (Variable.pieces s) ≡ Of.targets vs es
      → (sources vs ≡ variable_places (Variable.pieces s)) × (sources es ≡ exclusion_places (Variable.pieces s))
  -- of a refusal, that of the first piece refused
  pub unknown_new : (s : List ℕ) (x : FirstRefused unknown (Action.pieces (normalised s)))
      → actions_of s ≡ refuses (unknown_action (length x.passed) x.name (normal_site s x.piece.place))
  pub bad_new : (flaw : Flaw) (s : List ℕ) (x : FirstRefused (bad flaw) (Action.pieces (normalised s)))
      → actions_of s ≡ refuses (bad_argument flaw (length x.passed) x.name (normal_site s x.piece.place))
  pub missing_new : (x : Exclusions) (s : List ℕ) (m : Targets.Missing x (Variable.pieces s))
      → read_all (excluding_of x) (Variable.pieces s) ≡ Of.refused (length m.passed) m.text m.this.place

pub record Demand2 : Type 0 where
  pub equal : Equal
  pub exact : Exact
  pub one_error : OneError
  pub sources : Sources
