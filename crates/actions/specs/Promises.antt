-- What parse_actions and parse_setvar promise, by document 01's table: the answer, and every byte of lent memory, on every path.
use Rattle.lent.specs.declared.gating.GateError.TheVariants.{TooLong, Short, NotAscii}
use Rattle.lent.specs.declared.gating.GateError.{GateError}
use Rattle.std.specs.Prelude.{◌≡◌, ℕ, ◌+◌, min, List, [], ◌∷◌, length, ltb, Result, Ok, Err}
use Rattle.ascii.specs.Choice.{pick}
use Rattle.lent.specs.Sizes.{action_words, room_for}
use Rattle.ascii.specs.Trim.{trimmed_part}
use Rattle.lent.specs.Buffers.{padded}
use Rattle.lent.specs.Sources.{Sourced, sourced}
use Rattle.lent.specs.Gates.{gate_of}
use Rattle.lent.specs.Table.{Given, given, flaw_number, too_long, not_ascii, short_buffer, no_room, refused, Outcome, refuses, reads, past_gate, Filled, given_by, text_by, records_by}
use Rattle.records.specs.Codes.{set_var_code}
use Rattle.single_action.specs.Setvar.{setvar}
use Rattle.single_action.specs.Actions.{Action, setvar_action}
use Rattle.actions.specs.Normal.{normalised}
use Rattle.actions.specs.Lists.{actions_of}
use Rattle.actions.specs.Layout.{words_from, texts}
use Rattle.actions.specs.declared.Read.{Read}
use Rattle.actions.specs.declared.ActionsError.{ActionsError}
use Rattle.actions.specs.declared.ActionsError.TheVariants.{Gate, UnknownAction, BadArgument, NoRoom}

-- The paper's number and values for each answer.
abbrev pub answer_given : Result Read ActionsError → Given
answer_given (Ok r) = given 0 (r.count ∷ r.text ∷ [])
answer_given (Err (Gate TooLong)) = refused too_long
answer_given (Err (Gate (NotAscii place))) = refused (not_ascii place)
answer_given (Err (Gate Short)) = refused short_buffer
answer_given (Err (UnknownAction piece name span)) = given 5 (piece ∷ name ∷ span ∷ [])
answer_given (Err (BadArgument flaw piece name span)) = given (flaw_number flaw) (piece ∷ name ∷ span ∷ [])
answer_given (Err (NoRoom needed)) = refused (no_room needed)

-- Actions laid out: the count of records and the length of the texts, the texts, and the records' words.
abbrev pub laid_out : List (Sourced Action) → Filled
laid_out xs = record { values = length xs ∷ length (texts xs) ∷ []; texts = texts xs; words = words_from 0 xs }

-- Number 4 comes last: actions that are read, but more than m words of records take.
abbrev pub roomed : ℕ → Outcome (List (Sourced Action)) → Outcome Filled
roomed m (refuses f) = refuses f
roomed m (reads xs) = pick (ltb (room_for action_words m) (length xs)) (refuses (no_room (length xs))) (reads (laid_out xs))

-- ---- a list

-- Checks 1, 2 and 3 of parse_actions, the last for the shorter of n bytes of text and k of scratch.
abbrev pub actions_gate : List ℕ → ℕ → ℕ → Result Unit GateError
actions_gate s n k = gate_of s (min n k) (length s)

-- What a call of parse_actions comes to, with m words of records lent: the gate, 5 or 10 to 12 at the first bad piece, and then 4.
unfoldable pub actions_outcome : List ℕ → ℕ → ℕ → ℕ → Outcome Filled
actions_outcome s n k m = past_gate (actions_gate s n k) (roomed m (actions_of s))

-- Scratch afterwards: untouched for 1 to 3, else the normalised text and then zeros.
abbrev pub scratch_by : Result Unit GateError → List ℕ → List ℕ → List ℕ
scratch_by (Ok tt) s old = padded (length old) (normalised s)
scratch_by (Err TooLong) s old = old
scratch_by (Err (NotAscii place)) s old = old
scratch_by (Err Short) s old = old

-- The promise of parse_actions: the answer, and text, records and scratch afterwards.
pub record ParseActions (s text text' work work' records records' : List ℕ) (r : Result Read ActionsError) : Type 0 where
  pub answer : answer_given r ≡ given_by (actions_outcome s (length text) (length work) (length records))
  pub texts : text' ≡ text_by (actions_outcome s (length text) (length work) (length records)) text
  pub words : records' ≡ records_by (actions_outcome s (length text) (length work) (length records)) records
  pub scratch : work' ≡ scratch_by (actions_gate s (length text) (length work)) s work

-- ---- a setvar alone

-- The one action of parse_setvar alone, with the code of SetVar, read from the trimmed input; where nothing is left, from its end.
abbrev pub setvar_alone : List ℕ → List (Sourced Action)
setvar_alone s = sourced (setvar_action set_var_code (setvar s)) (trimmed_part s) ∷ []

-- What a call of parse_setvar comes to, with n bytes of text and m words of records lent: 3 where text is shorter than the input plus 3.
unfoldable pub setvar_outcome : List ℕ → ℕ → ℕ → Outcome Filled
setvar_outcome s n m = past_gate (gate_of s n (length s + 3)) (roomed m (reads (setvar_alone s)))

-- The promise of parse_setvar alone: the answer, and text and records afterwards.
pub record SetvarAlone (s text text' records records' : List ℕ) (r : Result Read ActionsError) : Type 0 where
  pub answer : answer_given r ≡ given_by (setvar_outcome s (length text) (length records))
  pub texts : text' ≡ text_by (setvar_outcome s (length text) (length records)) text
  pub words : records' ≡ records_by (setvar_outcome s (length text) (length records)) records
