-- What the two parsers promise, by document 01's table.
use Rattle.std.specs.Prelude.{◌≡◌, ℕ, ◌+◌, List, [], ◌∷◌, length, ltb, Result, Ok, Err}
use Rattle.ascii.specs.Choice.{pick}
use Rattle.lent.specs.Sizes.{variable_words, room_for}
use Rattle.lent.specs.Sources.{Sourced}
use Rattle.lent.specs.Gates.{gate_of}
use Rattle.lent.specs.declared.gating.GateError.TheVariants.{TooLong, NotAscii, Short}
use Rattle.lent.specs.Table.{Given, given, too_long, not_ascii, short_buffer, no_room, unknown_variable, refused as refused_by, Outcome, refuses, reads, past_gate, Filled, given_by, text_by, records_by}
use Rattle.variables.specs.Parts.{pieces}
use Rattle.variables.specs.Variables.{Variable, Targets, targets, refused, as_written, looked_up, read_all}
use Rattle.variables.specs.Layout.{words_from, texts}
use Rattle.variables.specs.declared.Read.{Read}
use Rattle.variables.specs.declared.VariablesError.{VariablesError}
use Rattle.variables.specs.declared.VariablesError.TheVariants.{Gate, Unknown, NoRoom}

-- The paper's number and values for each answer.
abbrev pub answer_given : Result Read VariablesError → Given
answer_given (Ok r) = given 0 (r.count ∷ r.text ∷ [])
answer_given (Err (Gate TooLong)) = refused_by too_long
answer_given (Err (Gate (NotAscii place))) = refused_by (not_ascii place)
answer_given (Err (Gate Short)) = refused_by short_buffer
answer_given (Err (Unknown piece name span)) = given 7 (piece ∷ name ∷ span ∷ [])
answer_given (Err (NoRoom needed)) = refused_by (no_room needed)

-- Targets laid out: the count of records and the length of the texts, the texts, and the words.
abbrev pub laid_out : List (Sourced Variable) → List (Sourced (List ℕ)) → Filled
laid_out vs es = record { values = (length vs + length es) ∷ length (texts vs es) ∷ []; texts = texts vs es; words = words_from 0 vs es }

-- Number 4 comes last.
abbrev pub roomed : ℕ → List (Sourced Variable) → List (Sourced (List ℕ)) → Outcome Filled
roomed m vs es = pick (ltb (room_for variable_words m) (length vs + length es)) (refuses (no_room (length vs + length es))) (reads (laid_out vs es))

-- Update targets keep their exclusions.
abbrev pub updated : ℕ → Targets → Outcome Filled
updated m (targets vs es) = roomed m vs es
updated m (refused i name x) = refuses (unknown_variable i name x)

-- parse_variables hangs its exclusions on its variables: with none of these, nothing is left.
abbrev pub hung : ℕ → Targets → Outcome Filled
hung m (targets [] es) = roomed m [] []
hung m (targets (v ∷ vs) es) = roomed m (v ∷ vs) es
hung m (refused i name x) = refuses (unknown_variable i name x)

-- What each call comes to, with n bytes of text and m words of records lent.
unfoldable pub variables_outcome : List ℕ → ℕ → ℕ → Outcome Filled
variables_outcome s n m = past_gate (gate_of s n (length s)) (hung m (read_all as_written (pieces s)))

unfoldable pub update_outcome : List ℕ → ℕ → ℕ → Outcome Filled
update_outcome s n m = past_gate (gate_of s n (length s)) (updated m (read_all looked_up (pieces s)))

-- An answer and both buffers, by an outcome.
pub record Meets (o : Outcome Filled) (text text' records records' : List ℕ) (r : Result Read VariablesError) : Type 0 where
  pub answer : answer_given r ≡ given_by o
  pub texts : text' ≡ text_by o text
  pub words : records' ≡ records_by o records

abbrev pub ParseVariables : List ℕ → List ℕ → List ℕ → List ℕ → List ℕ → Result Read VariablesError → Type 0
ParseVariables s text text' records records' = Meets (variables_outcome s (length text) (length records)) text text' records records'

abbrev pub ParseUpdateTargets : List ℕ → List ℕ → List ℕ → List ℕ → List ℕ → Result Read VariablesError → Type 0
ParseUpdateTargets s text text' records records' = Meets (update_outcome s (length text) (length records)) text text' records records'
