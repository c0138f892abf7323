-- As written it is an exclusion at once; looked up, by what the lookup finds.
use native.Mathlib.Omega.{arith}
use mathlib.Core.Bool.{false}
use Rattle.variables.proofs.SingleLaws.{colon_fits, marked_written, marked_known, marked_unknown}
use Rattle.variables.proofs.singles.marked.Goals as goal

pub overflow_add-end : goal.overflow_add-end
overflow_add-end c = omega (arith, colon_fits c.args.p.now 1 _ false (omega arith) c.first_of-end.ensures)

pub slice_bounds-variable_code-end : goal.slice_bounds-variable_code-end
slice_bounds-variable_code-end c = colon_fits c.args.p.now 1 _ false (omega arith) c.first_of-end.ensures

pub returns-in-AsWritten : goal.returns-in-AsWritten
returns-in-AsWritten c = rw c.in-AsWritten.is (marked_written c.args.p.now c.requires.p_nonzero c.requires.p_value)

pub returns-in-Some : goal.returns-in-Some
returns-in-Some c =
    rw c.in-LookedUp.is (marked_known c.args.p.now c.requires.p_nonzero c.requires.p_value _ c.first_of-end.ensures _ c.variable_code.ensures _ c.in-Some.is)

pub returns-in-None : goal.returns-in-None
returns-in-None c =
    rw c.in-LookedUp.is (marked_unknown c.args.p.now c.requires.p_nonzero c.requires.p_value _ c.first_of-end.ensures _ c.variable_code.ensures c.in-None.is)
