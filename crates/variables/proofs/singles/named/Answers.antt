-- By what the lookup finds; each way out is one law.
use native.Mathlib.Omega.{arith}
use Rattle.variables.proofs.SingleLaws.{colon_fits, named_unknown, named_code}
use Rattle.variables.proofs.singles.named.Goals as goal

pub overflow_add-colon : goal.overflow_add-colon
overflow_add-colon c = omega (arith, colon_fits c.args.p.now c.args.first _ c.args.counts c.requires.first_in_bounds c.first_of.ensures)

pub slice_bounds-variable_code-end : goal.slice_bounds-variable_code-end
slice_bounds-variable_code-end c = colon_fits c.args.p.now c.args.first _ c.args.counts c.requires.first_in_bounds c.first_of.ensures

pub selection_at-chosen-requires : goal.selection_at-chosen-requires
selection_at-chosen-requires c =
    record { p_nonzero = c.requires.p_nonzero; colon_in_bounds = colon_fits c.args.p.now c.args.first _ c.args.counts c.requires.first_in_bounds c.first_of.ensures }

pub returns-in-None : goal.returns-in-None
returns-in-None c =
    named_unknown c.args.p.now c.args.first _ c.args.counts c.requires.first_in_bounds c.first_of.ensures _ c.variable_code.ensures c.in-None.is

pub returns-in-Some : goal.returns-in-Some
returns-in-Some c =
    named_code c.args.p.now c.args.first _ c.args.counts c.requires.first_in_bounds c.first_of.ensures _ c.variable_code.ensures _ c.in-Some.is _ c.selection_at-chosen.ensures
