-- The promises of operator_in, parse_operator and operator_argument are total, and have no second answer.
use Rattle.operators.specs.declared.OperatorError.TheVariants as OperatorError
use Rattle.lent.specs.declared.gating.GateError.TheVariants as GateError
use Rattle.lent.specs.declared.gating.GateError.TheVariants.{TooLong, Short, NotAscii}
use Rattle.lent.specs.declared.gating.GateError.{GateError}
use Rattle.std.specs.Prelude.{Result, Ok, Err}
use mathlib.Core.Path.{◌≡◌, ◌∙◌, refl}
use mathlib.Core.List.{List}
use Prim.Native.Nat.{ℕ}
use lib.ListN.{length}
use Rattle.ascii.specs.Handed.{Standing}
use Rattle.lent.specs.Gates.{gate_of}
use Rattle.lent.specs.Table.{past_gate}
use Rattle.lent.proofs.GateLaws.{gate_row}
use Rattle.operators.specs.Operators.{Reading, accepted, unknown, operator}
use Rattle.operators.specs.Places.{name_place, argument_place}
use Rattle.operators.specs.Promises as O
use Rattle.operators.specs.declared.Operator.{Operator}
use Rattle.operators.specs.declared.UnknownOperator.{UnknownOperator}
use Rattle.operators.specs.declared.OperatorError.{OperatorError}
use Rattle.operators.proofs.GivenLaws.{operator_in_once, parse_operator_once, operator_argument_once}
use Rattle.demands.specs.Fixed.{Fixed}
use Rattle.demands.specs.Calls.{operator_in_promise, parse_operator_promise, operator_argument_promise}
use native.Mathlib.Omega.{arith}
use Rattle.lent.proofs.GateLaws.{Row}

reading_told : (s : List ℕ) (x : Reading) → (r : Result Operator UnknownOperator) × (O.in_given r ≡ O.given_by s (O.outcome_of s x))
reading_told s (accepted x) = (Ok (record { negated = x.negated; name = x.name; place = argument_place s; len = length x.argument }), refl)
reading_told s (unknown name) = (Err (record { place = name_place s; len = length name }), refl)

-- the same behind the gate
abbrev widened : Result Operator UnknownOperator → Result Operator OperatorError
widened (Ok o) = Ok o
widened (Err u) = Err (OperatorError.Unknown u)

widened_same : (r : Result Operator UnknownOperator) → O.answer_given (widened r) ≡ O.in_given r
widened_same (Ok o) = refl
widened_same (Err u) = refl

-- no buffer is asked for, so that 3 cannot come
gate_told : (s : List ℕ) (x : Reading) (g : Result Unit GateError) → Row s 0 0 g → (r : Result Operator OperatorError) × (O.answer_given r ≡ O.given_by s (past_gate g (O.outcome_of s x)))
gate_told s x (Ok tt) h = let r = reading_told s x in (widened r.0, widened_same r.0 ∙ r.1)
gate_told s x (Err TooLong) h = (Err (OperatorError.Gate GateError.TooLong), refl)
gate_told s x (Err (NotAscii p)) h = (Err (OperatorError.Gate (GateError.NotAscii p)), refl)
gate_told s x (Err Short) h = absurd (omega (arith, h.less))

pub operator_in_fixed : Fixed (List ℕ) (Result Operator UnknownOperator) operator_in_promise
operator_in_fixed = record {
  total = λ s.
      let r = reading_told s (operator s) in
      (r.0, record { answer = r.1 });
  once = λ s r v x y. operator_in_once x y;
}

pub parse_operator_fixed : Fixed (List ℕ) (Result Operator OperatorError) parse_operator_promise
unfolding O.operator_outcome
parse_operator_fixed = record {
  total = λ s.
      let r = gate_told s (operator s) (gate_of s 0 0) (gate_row s 0 0) in
      (r.0, record { answer = r.1 });
  once = λ s r v x y. parse_operator_once x y;
}

pub operator_argument_fixed : Fixed Standing Standing operator_argument_promise
operator_argument_fixed = record {
  total = λ s. (O.argument_of s (O.operator_outcome s.bytes), record { argument = refl });
  once = λ s a b x y. operator_argument_once x y;
}
