-- What the public calls promise, by document 01's table.
use Rattle.std.specs.Prelude.{◌≡◌, ℕ, ◌+◌, List, [], ◌∷◌, length, Result, Ok, Err}
use Rattle.ascii.specs.Choice.{bit}
use Rattle.ascii.specs.Handed.{Standing, part_at}
use Rattle.lent.specs.Gates.{gate_of}
use Rattle.lent.specs.Sources.{part}
use Rattle.lent.specs.declared.gating.GateError.TheVariants.{TooLong, NotAscii, Short}
use Rattle.lent.specs.Table.{Given, given, refused, too_long, not_ascii, short_buffer, unknown_operator, Outcome, refuses, reads, past_gate}
use Rattle.operators.specs.Operators.{Spec, Reading, accepted, unknown, operator}
use Rattle.operators.specs.Places.{name_place, argument_place}
use Rattle.operators.specs.declared.Operator.{Operator}
use Rattle.operators.specs.declared.UnknownOperator.{UnknownOperator}
use Rattle.operators.specs.declared.OperatorError.{OperatorError}
use Rattle.operators.specs.declared.OperatorError.TheVariants.{Gate, Unknown}

-- The paper's number and values for each answer: with 0, whether it is negated, the name's code, and the argument's place in the input and its length.
-- What stands behind 8 to be underlined is the name itself, so its place and length tell the source too.
abbrev pub in_given : Result Operator UnknownOperator → Given
in_given (Ok o) = given 0 (bit o.negated ∷ o.name ∷ o.place ∷ o.len ∷ [])
in_given (Err u) = refused (unknown_operator u.place u.len (part u.place (u.place + u.len)))

abbrev pub answer_given : Result Operator OperatorError → Given
answer_given (Ok o) = in_given (Ok o)
answer_given (Err (Gate TooLong)) = refused too_long
answer_given (Err (Gate (NotAscii place))) = refused (not_ascii place)
answer_given (Err (Gate Short)) = refused short_buffer
answer_given (Err (Unknown u)) = in_given (Err u)

-- What a reading comes to: number 8 has the unknown name's place in the input and its length, and its source is the name.
abbrev pub outcome_of : List ℕ → Reading → Outcome Spec
outcome_of s (accepted x) = reads x
outcome_of s (unknown name) = refuses (unknown_operator (name_place s) (length name) (part (name_place s) (name_place s + length name)))

-- What a call comes to: the checks 1 and 2, then the operator. No buffer is asked for, so 3 is never given.
unfoldable pub operator_outcome : List ℕ → Outcome Spec
operator_outcome s = past_gate (gate_of s 0 0) (outcome_of s (operator s))

abbrev pub given_by : List ℕ → Outcome Spec → Given
given_by s (refuses f) = refused f
given_by s (reads x) = given 0 (bit x.negated ∷ x.name ∷ argument_place s ∷ length x.argument ∷ [])

-- The argument handed back: on any refusal the empty one.
abbrev pub argument_by : Outcome Spec → List ℕ
argument_by (refuses f) = []
argument_by (reads x) = x.argument

-- Where the part handed back begins: an empty argument is the empty part at the trimmed text's end, and on a refusal that at the front.
abbrev pub part_place : List ℕ → Outcome Spec → ℕ
part_place s (refuses f) = 0
part_place s (reads x) = argument_place s

abbrev pub argument_of : Standing → Outcome Spec → Standing
argument_of s o = part_at s (part_place s.bytes o) (argument_by o)

-- Without the gate, for any bytes.
pub record OperatorIn (s : List ℕ) (r : Result Operator UnknownOperator) : Type 0 where
  pub answer : in_given r ≡ given_by s (outcome_of s (operator s))

pub record ParseOperator (s : List ℕ) (r : Result Operator OperatorError) : Type 0 where
  pub answer : answer_given r ≡ given_by s (operator_outcome s)

-- What is handed back, and where it stands in the caller's input.
pub record OperatorArgument (s part : Standing) : Type 0 where
  pub argument : part ≡ argument_of s (operator_outcome s.bytes)
