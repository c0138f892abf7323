-- Demand 2. Within 1,048,576 ASCII bytes tokens, records and the first error equal the Rust's: by differential runs, and by proof against
-- definitions of its rules. Severity words follow the ModSecurity Reference Manual, listings RFC 8259.
-- The idea: an input that the gate lets pass leaves only the definitions; the crates' own laws have the numbers.
use Rattle.lent.specs.declared.gating.GateError.{GateError}
use Rattle.std.specs.Prelude.{Result, Ok}
use mathlib.Core.Path.{◌≡◌, ◌∙◌, refl, ap}
use mathlib.Core.Bool.{Bool, true, false}
use mathlib.Core.List.{List, [], ◌∷◌}
use mathlib.Core.Logic.{inl, inr}
use Prim.Native.Nat.{ℕ, ◌+◌, ◌≤◌, ◌<◌, min}
use native.Mathlib.Omega.{arith}
use lib.ListN.{length}
use lib.Dec.{ltb}
use borrow.Author.Tests.{lt-ltb, le-ltb, ltb-true, ltb-false}
use Rattle.lent.specs.Sizes.{action_words, room_for}
use Rattle.lent.specs.Table.{Given, flaw_number, unknown_action, bad_argument, Outcome, refuses, reads, sited_outcome, Filled, given_by, text_by, records_by}
use Rattle.lent.specs.Sources.{Sourced}
use Rattle.lent.specs.Admission.{Opened}
use Rattle.lent.specs.declared.refusing.Flaw.{Flaw}
use Rattle.lent.proofs.GateLaws.{row_gate}
use Rattle.lent.proofs.OutcomeLaws.{number_of, given_number, past_row}
use Rattle.lent.proofs.RowLaws.{Row, row, OneOf, Numbered, Exactly, absent, differ, behind, gated, exactly_gated}
use Rattle.lexer.specs.Promises as Lexer
use Rattle.lexer.proofs.ReadLaws.{tokens_0, tokens_1, tokens_2, tokens_3, tokens_4}
use Rattle.lexer.proofs.PromiseLaws.{next_token_0, next_token_1, next_token_2, next_token_3, next_token_9, next_token_reads}
use Rattle.single_action.specs.Actions.{Action, Single, done, bad, unknown, single}
use Rattle.single_action.specs.Flaws.{invalid_action_argument, parsed}
use Rattle.single_action.proofs.FlawLaws.{flawed, severity_original}
use Rattle.actions.specs.Normal.{normalised}
use Rattle.actions.specs.Pieces.{Piece, pieces}
use Rattle.actions.specs.Calls.{FirstRefused}
use Rattle.actions.specs.Lists.{normal_site, actions_of}
use Rattle.actions.specs.Promises as Actions
use Rattle.actions.specs.declared.Read.{Read as ActionsRead}
use Rattle.actions.specs.declared.ActionsError.{ActionsError}
use Rattle.variables.specs.declared.Read.{Read as VariablesRead}
use Rattle.variables.specs.declared.VariablesError.{VariablesError}
use Rattle.actions.proofs.NumberLaws.{first_refused, bad_way, unknown_way, parse_actions_numbers}
use Rattle.variables.specs.Parts as Variable
use Rattle.variables.specs.Variables.{as_written, looked_up, read_all}
use Rattle.variables.specs.Promises as Variables
use Rattle.variables.specs.declared.singles.Exclusions.{Exclusions}
use Rattle.variables.proofs.PromiseLaws as Targets
use Rattle.variables.proofs.MeantLaws.{refused_there}
use Rattle.operators.specs.Operators.{operator}
use Rattle.operators.specs.Promises as Operators
use Rattle.operators.proofs.PromiseLaws.{parse_operator_0, parse_operator_1, parse_operator_2, parse_operator_8}
use Rattle.listing.proofs.JsonLaws.{printed_json, line_json}
use Rattle.demands.specs.Calls.{Lent, Left, parse_setvar_promise}
use Rattle.demands.specs.Demand2.{Equals, tokens_in, Equal, Past, ActionsExact, SetvarExact, TargetsExact, Exact, FirstInvalid, OneError, Sources, Demand2}
use Rattle.demands.proofs.SourcelessLaws.{actions_old, actions_new, variables_old, variables_new}

-- ---- what is given back and left

-- a call that comes to p, which is o
same : {o p : Outcome Filled} {g : Given} {text text' records records' : List ℕ} → p ≡ o
    → g ≡ given_by p → text' ≡ text_by p text → records' ≡ records_by p records → Equals o g text text' records records'
same {text = text} {records = records} e a t w = record {
  answer = a ∙ ap given_by e;
  texts = t ∙ ap (λ (o : Outcome Filled). text_by o text) e;
  words = w ∙ ap (λ (o : Outcome Filled). records_by o records) e;
}

tokens_are : (s : List ℕ) (n m : ℕ) → Opened s n (length s) → Lexer.tokens_outcome s n m ≡ tokens_in m s
unfolding Lexer.tokens_outcome
tokens_are s n m h = past_row s n (length s) (tokens_in m s) (Ok tt) h

actions_are : (s : List ℕ) (n k m : ℕ) → Opened s (min n k) (length s) → Actions.actions_outcome s n k m ≡ Actions.roomed m (actions_of s)
unfolding Actions.actions_outcome
actions_are s n k m h = past_row s (min n k) (length s) (Actions.roomed m (actions_of s)) (Ok tt) h

setvar_is : (s : List ℕ) (n m : ℕ) → Opened s n (length s + 3) → Actions.setvar_outcome s n m ≡ Actions.roomed m (reads (Actions.setvar_alone s))
unfolding Actions.setvar_outcome
setvar_is s n m h = past_row s n (length s + 3) (Actions.roomed m (reads (Actions.setvar_alone s))) (Ok tt) h

variables_are : (s : List ℕ) (n m : ℕ) → Opened s n (length s) → Variables.variables_outcome s n m ≡ Variables.hung m (read_all as_written (Variable.pieces s))
unfolding Variables.variables_outcome
variables_are s n m h = past_row s n (length s) (Variables.hung m (read_all as_written (Variable.pieces s))) (Ok tt) h

updates_are : (s : List ℕ) (n m : ℕ) → Opened s n (length s) → Variables.update_outcome s n m ≡ Variables.updated m (read_all looked_up (Variable.pieces s))
unfolding Variables.update_outcome
updates_are s n m h = past_row s n (length s) (Variables.updated m (read_all looked_up (Variable.pieces s))) (Ok tt) h

operator_is : (s : List ℕ) → Opened s 0 0 → Operators.operator_outcome s ≡ Operators.outcome_of s (operator s)
unfolding Operators.operator_outcome
operator_is s h = past_row s 0 0 (Operators.outcome_of s (operator s)) (Ok tt) h

equal : Equal
equal = record {
  tokens = λ i o x h. same (tokens_are i.input (length i.text) (length i.records) h) x.answer x.texts x.words;
  next_token = λ i o x h f. next_token_reads x h f;
  parse_actions = λ i o x h. (
    same (actions_are i.0.input (length i.0.text) (length i.1) (length i.0.records) h) x.answer x.texts x.words,
    x.scratch ∙ ap (λ (g : Result Unit GateError). Actions.scratch_by g i.0.input i.1) (row_gate i.0.input (min (length i.0.text) (length i.1)) (length i.0.input) (Ok tt) h),
  );
  parse_setvar = λ i o x h. same (setvar_is i.input (length i.text) (length i.records) h) x.answer x.texts x.words;
  parse_variables = λ i o x h. same (variables_are i.input (length i.text) (length i.records) h) x.answer x.texts x.words;
  parse_update_targets = λ i o x h. same (updates_are i.input (length i.text) (length i.records) h) x.answer x.texts x.words;
  parse_operator = λ s r x h. x.answer ∙ ap (Operators.given_by s) (operator_is s h);
  operator_argument = λ s part x h. x.argument ∙ ap (Operators.argument_of s) (operator_is s.bytes h);
  listing = λ s. printed_json s;
  listed = line_json;
}

-- ---- each number exactly when

-- one record: it does not fit, or it does
module _ (s : List ℕ) (n m : ℕ) where
  abbrev alone : Outcome Filled
  alone = Actions.roomed m (reads (Actions.setvar_alone s))

  abbrev rows : List Row
  rows = row 4 (room_for action_words m < 1) ∷ row 0 (1 ≤ room_for action_words m) ∷ []

  one : OneOf rows
  unfolding OneOf
  one = go (ltb (room_for action_words m) 1) refl
    where
      go : (b : Bool) → ltb (room_for action_words m) 1 ≡ b → OneOf rows
      go true e = inl (ltb-true (room_for action_words m) 1 e)
      go false e = inr (inl (ltb-false (room_for action_words m) 1 e))

  numbered : Numbered (number_of alone) rows
  unfolding Numbered
  numbered = (λ h. rw (lt-ltb (room_for action_words m) 1 h), (λ h. rw (le-ltb (room_for action_words m) 1 h), tt))

  alone_exact : Exactly (number_of (Actions.setvar_outcome s n m)) (gated s n (length s + 3) rows)
  unfolding Actions.setvar_outcome differ absent behind
  alone_exact = exactly_gated s n (length s + 3) alone rows refl one numbered

setvar_exact : (i : Lent) (o : Left (Result ActionsRead ActionsError)) → parse_setvar_promise i o
    → SetvarExact i.input (length i.text) (length i.records) (Actions.answer_given o.answer).number
unfolding Exactly behind
setvar_exact i o x =
    let s = i.input in
    let n = length i.text in
    let m = length i.records in
    let e : (Actions.answer_given o.answer).number ≡ number_of (Actions.setvar_outcome s n m) =
    ap (λ (g : Given). g.number) x.answer ∙ given_number (Actions.setvar_outcome s n m) in
    let k = alone_exact s n m in
    rw e (record { gate = record { one = k.0; two = k.1.0; three = k.1.1.0 }; four = k.1.1.1.0; zero = k.1.1.1.1.0 })

targets_exact : (x : Exclusions) (s text text' records records' : List ℕ) (r : Result VariablesRead VariablesError) → Targets.Numbers x s text text' records records' r
    → TargetsExact x s (length text) (length records) (Variables.answer_given r).number
targets_exact x s text text' records records' r k = record {
  gate = record { one = k.number_1; two = k.number_2; three = k.number_3 };
  seven = k.number_7;
  four = k.number_4;
  zero = k.number_0;
}

exact : Exact
exact = record {
  tokens = λ i o x. record { gate = record { one = tokens_1 x; two = tokens_2 x; three = tokens_3 x }; four = tokens_4 x; zero = tokens_0 x };
  next_token = λ i o x.
      record { gate = record { one = next_token_1 x; two = next_token_2 x; three = next_token_3 x }; nine = next_token_9 x; zero = next_token_0 x };
  parse_actions = λ i o x.
      let k = parse_actions_numbers x in
      record {
        gate = record { one = k.number_1; two = k.number_2; three = k.number_3 };
        five = k.number_5;
        ten = k.number_10;
        eleven = k.number_11;
        twelve = k.number_12;
        four = k.number_4;
        zero = k.number_0;
      };
  parse_setvar = setvar_exact;
  parse_variables = λ i o x. targets_exact _ i.input i.text o.text i.records o.records o.answer (Targets.parse_variables_numbers i.input x);
  parse_update_targets = λ i o x. targets_exact _ i.input i.text o.text i.records o.records o.answer (Targets.parse_update_targets_numbers i.input x);
  parse_operator = λ s r x. record { one = parse_operator_1 x; two = parse_operator_2 x; eight = parse_operator_8 x; zero = parse_operator_0 x };
  flaws = flawed;
}

-- ---- the Rust's one error

-- a piece that the Rust refuses so is refused here for a flaw
refused_for : (x : Single) (name : List ℕ) → parsed x ≡ invalid_action_argument name → (flaw : Flaw) × (x ≡ bad flaw name)
refused_for (bad flaw n) name e = let q : n ≡ name = cc in (flaw, ap (bad flaw) q)
refused_for (done y) name e = let z : ◌≡◌ {A = ℕ} 0 1 = cc in absurd (omega arith)
refused_for (unknown n) name e = let z : ◌≡◌ {A = ℕ} 0 1 = cc in absurd (omega arith)

first_invalid : (flaw : Flaw) (ps : List Piece) → FirstRefused (bad flaw) ps → FirstInvalid ps
first_invalid flaw ps x =
    record { passed = x.passed; piece = x.piece; others = x.others; parted = x.parted; before = x.before; name = x.name; error = ap parsed x.refused }

first_flawed : (ps : List Piece) → FirstInvalid ps → (flaw : Flaw) × FirstRefused (bad flaw) ps
first_flawed ps x =
    let p = refused_for (single x.piece.text) x.name x.error in
    (p.0, record { passed = x.passed; piece = x.piece; others = x.others; parted = x.parted; before = x.before; name = x.name; refused = p.1 })

-- each flaw's number, exactly when
flaw_exact : {s : List ℕ} {lent m n : ℕ} → ActionsExact s lent m n → (flaw : Flaw) → Past s lent (length s) n (flaw_number flaw) (FirstRefused (bad flaw) (pieces (normalised s)))
flaw_exact k Flaw.Absent = k.ten
flaw_exact k Flaw.Unreadable = k.eleven
flaw_exact k Flaw.TooLarge = k.twelve

one_error : OneError
one_error = record {
  parse_actions = λ i o x.
      let ps = pieces (normalised i.0.input) in
      let k = flaw_exact (exact.parse_actions i o x) in (
        λ h. let p = (k h.0).0 h.1 in (p.0, first_invalid h.0 ps p.1),
        λ h. let q = first_flawed ps h.1 in (q.0, (k q.0).1 (h.0, q.1)),
      );
  severity = severity_original;
}

-- ---- what M-104 added

unknown_new : (s : List ℕ) (x : FirstRefused unknown (pieces (normalised s)))
    → actions_of s ≡ refuses (unknown_action (length x.passed) x.name (normal_site s x.piece.place))
unfolding actions_of
unknown_new s x = ap (λ (o : Outcome (List (Sourced Action))). sited_outcome (normal_site s) o) (first_refused unknown_way (pieces (normalised s)) x)

bad_new : (flaw : Flaw) (s : List ℕ) (x : FirstRefused (bad flaw) (pieces (normalised s)))
    → actions_of s ≡ refuses (bad_argument flaw (length x.passed) x.name (normal_site s x.piece.place))
unfolding actions_of
bad_new flaw s x = ap (λ (o : Outcome (List (Sourced Action))). sited_outcome (normal_site s) o) (first_refused (bad_way flaw) (pieces (normalised s)) x)

sources : Sources
sources = record {
  action_words_lem = λ o x. refl;
  variable_words_lem = λ o x. refl;
  exclusion_words = λ o x. refl;
  actions_old = actions_old;
  variables_old = variables_old;
  actions_new = actions_new;
  variables_new = variables_new;
  unknown_new = unknown_new;
  bad_new = bad_new;
  missing_new = λ x s m. refused_there x m;
}

pub demand2 : Demand2
demand2 = record { equal = equal; exact = exact; one_error = one_error; sources = sources }
