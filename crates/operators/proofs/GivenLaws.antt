-- What is given back tells the answer: the paper's number and values lose nothing of it, so a promise is met by one answer only.
-- The idea: `answerFrom` reads an answer back from its number and values.
use mathlib.Core.Path.{◌≡◌, ◌∙◌, refl, sym, ap}
use mathlib.Core.List.{List}
use Prim.Native.Nat.{ℕ}
use lib.ListN.{get_or}
use lib.Dec.{eqb}
use Rattle.ascii.specs.Choice.{pick}
use Rattle.ascii.specs.Handed.{Standing}
use Rattle.ascii.proofs.OneAnswer.{one_answer, bit_back}
use Rattle.lent.specs.Table.{Given}
use Rattle.lent.specs.declared.gating.GateError.TheVariants.{TooLong, NotAscii, Short}
use Rattle.std.specs.Prelude.{Result, Ok, Err}
use Rattle.operators.specs.Promises.{in_given, answer_given, OperatorIn, ParseOperator, OperatorArgument}
use Rattle.operators.specs.declared.Operator.{Operator}
use Rattle.operators.specs.declared.UnknownOperator.{UnknownOperator}
use Rattle.operators.specs.declared.OperatorError.{OperatorError}
use Rattle.operators.specs.declared.OperatorError.TheVariants.{Gate, Unknown}

value : Given → ℕ → ℕ
value g i = get_or g.values i 0

read_from : Given → Operator
read_from g = record { negated = eqb (value g 0) 1; name = value g 1; place = value g 2; len = value g 3 }

unknown_from : Given → UnknownOperator
unknown_from g = record { place = value g 0; len = value g 1 }

in_from : Given → Result Operator UnknownOperator
in_from g = pick (eqb g.number 0) (Ok (read_from g)) (Err (unknown_from g))

in_back : (r : Result Operator UnknownOperator) → in_from (in_given r) ≡ r
unfolding in_from read_from unknown_from value
in_back (Ok o) = rw (bit_back o.negated)
in_back (Err u) = refl

answer_from : Given → Result Operator OperatorError
answer_from g =
    pick (eqb g.number 0) (Ok (read_from g))
    (pick (eqb g.number 1) (Err (Gate TooLong))
    (pick (eqb g.number 2) (Err (Gate (NotAscii (value g 0))))
    (pick (eqb g.number 3) (Err (Gate Short)) (Err (Unknown (unknown_from g))))))

answer_back : (r : Result Operator OperatorError) → answer_from (answer_given r) ≡ r
unfolding answer_from read_from unknown_from value
answer_back (Ok o) = rw (bit_back o.negated)
answer_back (Err (Gate TooLong)) = refl
answer_back (Err (Gate (NotAscii place))) = refl
answer_back (Err (Gate Short)) = refl
answer_back (Err (Unknown u)) = refl

-- Two answers that give the same back are the same.
pub in_told : (r v : Result Operator UnknownOperator) → in_given r ≡ in_given v → r ≡ v
in_told r v e = sym (in_back r) ∙ ap in_from e ∙ in_back v

pub answer_told : (r v : Result Operator OperatorError) → answer_given r ≡ answer_given v → r ≡ v
answer_told r v e = sym (answer_back r) ∙ ap answer_from e ∙ answer_back v

-- No second answer of operator_in, and none of parse_operator.
pub operator_in_once : {s : List ℕ} {r v : Result Operator UnknownOperator} → OperatorIn s r → OperatorIn s v → r ≡ v
operator_in_once {r = r} {v = v} x y = in_told r v (one_answer x.answer y.answer)

pub parse_operator_once : {s : List ℕ} {r v : Result Operator OperatorError} → ParseOperator s r → ParseOperator s v → r ≡ v
parse_operator_once {r = r} {v = v} x y = answer_told r v (one_answer x.answer y.answer)

-- No second argument of operator_argument.
pub operator_argument_once : {s part other : Standing} → OperatorArgument s part → OperatorArgument s other → part ≡ other
operator_argument_once x y = one_answer x.argument y.argument
