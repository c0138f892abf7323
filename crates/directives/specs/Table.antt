-- What a call gives back, and what it leaves in lent memory: document 01's table as document 02 has it for directives.
use Rattle.lent.specs.declared.gating.GateError.{GateError}
use Rattle.lent.specs.declared.gating.GateError.TheVariants.{TooLong, Short, NotAscii}
use Rattle.std.specs.Prelude.{ℕ, List, [], ◌∷◌, length, Result, Ok, Err}
use Rattle.lent.specs.Buffers.{zeros, padded}
use Rattle.lent.specs.Table.{Given, given, Refusal, too_long, not_ascii, short_buffer, no_room, named, unknown_operator, bad_cursor, refused}
use Rattle.directives.specs.Directives.{Fault, wrong_count, untaken, stopped, id_missing, within}

-- Row 0: values, texts, and the words of the three record buffers.
pub record Filled : Type 0 where
  pub values : List ℕ
  pub texts : List ℕ
  pub directives : List ℕ
  pub variables : List ℕ
  pub actions : List ℕ

pub data Outcome : Type 0 where
  -- 1 to 3
  shut : Refusal → Outcome
  -- 5, 7, 8, 10 to 15 and 18
  faulty : Fault → Outcome
  -- 4: directive, variable and action records needed
  overfull : ℕ → ℕ → ℕ → Outcome
  filled : Filled → Outcome

-- Rows 1, 2 and 3 come first.
abbrev pub past_gate : Result Unit GateError → Outcome → Outcome
past_gate (Ok tt) o = o
past_gate (Err TooLong) o = shut too_long
past_gate (Err (NotAscii place)) o = shut (not_ascii place)
past_gate (Err Short) o = shut short_buffer

-- Number and values: a fault in a directive has the line first.
abbrev pub fault_given : Fault → Given
fault_given (wrong_count l) = given 13 (l ∷ [])
fault_given (untaken l) = given 14 (l ∷ [])
fault_given (stopped l) = given 15 (l ∷ [])
fault_given (id_missing l) = given 18 (l ∷ [])
fault_given (within l f) = given (refused f).number (l ∷ (refused f).values)

abbrev pub given_by : Outcome → Given
given_by (shut f) = refused f
given_by (faulty f) = fault_given f
given_by (overfull d v a) = given 4 (d ∷ v ∷ a ∷ [])
given_by (filled x) = given 0 x.values

-- The name that stands in text after 5, 7 and 10 to 12; for all others none.
abbrev pub name_left : Refusal → List ℕ
name_left too_long = []
name_left (not_ascii place) = []
name_left short_buffer = []
name_left (no_room needed) = []
name_left (named why piece name source) = name
name_left (unknown_operator place len source) = []
name_left bad_cursor = []

abbrev pub fault_name : Fault → List ℕ
fault_name (wrong_count l) = []
fault_name (untaken l) = []
fault_name (stopped l) = []
fault_name (id_missing l) = []
fault_name (within l f) = name_left f

-- The text buffer.
abbrev pub text_by : Outcome → List ℕ → List ℕ
text_by (shut f) old = old
text_by (faulty f) old = padded (length old) (fault_name f)
text_by (overfull d v a) old = zeros (length old)
text_by (filled x) old = padded (length old) x.texts

-- A record buffer, by the words of row 0 that it takes.
abbrev pub records_by : (Filled → List ℕ) → Outcome → List ℕ → List ℕ
records_by words (shut f) old = old
records_by words (faulty f) old = zeros (length old)
records_by words (overfull d v a) old = zeros (length old)
records_by words (filled x) old = padded (length old) (words x)

-- Scratch: all zeros after every call past 1 to 3.
abbrev pub scratch_by : Outcome → List ℕ → List ℕ
scratch_by (shut f) old = old
scratch_by (faulty f) old = zeros (length old)
scratch_by (overfull d v a) old = zeros (length old)
scratch_by (filled x) old = zeros (length old)
