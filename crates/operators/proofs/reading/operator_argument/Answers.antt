-- By the answer of parse_operator: where it is read, the place and length that it gives cut the argument out.
use mathlib.Core.Path.{refl}
use native.Mathlib.Omega.{arith}
use Rattle.ascii.specs.Handed.{standing}
use Rattle.operators.proofs.AnswerLaws.{argument_in_lem, argument_read, argument_refused}
use Rattle.operators.proofs.reading.operator_argument.Goals as goal

pub overflow_add-result : goal.overflow_add-result
overflow_add-result c = omega (arith, argument_in_lem c.args.input.now c.in-Ok.operator c.in-Ok.ensures)

pub slice_bounds-result-end : goal.slice_bounds-result-end
slice_bounds-result-end c = omega (arith, argument_in_lem c.args.input.now c.in-Ok.operator c.in-Ok.ensures)

pub returns-in-Ok : goal.returns-in-Ok
returns-in-Ok c = argument_read (standing c.args.input) c.in-Ok.operator c.in-Ok.ensures _ refl

pub returns-in-Err : goal.returns-in-Err
returns-in-Err c = argument_refused (standing c.args.input) _ c.in-Err.ensures
