use mathlib.Core.Path.{◌∙◌}
use native.Mathlib.Omega.{arith}
use Rattle.variables.proofs.PlaceLaws.{bar_fits, trim_fits, trim_first, piece_found, part_empty, next_from, pieces_end}
use Rattle.variables.proofs.finding.next_piece.Goals as goal

pub overflow_add-bar : goal.overflow_add-bar
overflow_add-bar c = omega (arith, bar_fits c.args.s.now c.loop-at.at _ c.loop-at-test.true c.first_of.ensures)

pub slice_bounds-trimmed-end : goal.slice_bounds-trimmed-end
slice_bounds-trimmed-end c = omega (arith, bar_fits c.args.s.now c.loop-at.at _ c.loop-at-test.true c.first_of.ensures)

pub overflow_add-result : goal.overflow_add-result
overflow_add-result c =
    omega (arith, bar_fits c.args.s.now c.loop-at.at _ c.loop-at-test.true c.first_of.ensures, trim_first c.args.s.now c.loop-at.at _ c.loop-at-test.true c.first_of.ensures _ c.trimmed-part.ensures)

pub overflow_add-result-then-part : goal.overflow_add-result-then-part
overflow_add-result-then-part c =
    omega (arith, bar_fits c.args.s.now c.loop-at.at _ c.loop-at-test.true c.first_of.ensures, trim_fits c.args.s.now c.loop-at.at _ c.loop-at-test.true c.first_of.ensures _ c.trimmed-part.ensures)

pub returns-then-part : goal.returns-then-part
returns-then-part c =
    next_from c.loop-at.invariant.0 c.loop-at.invariant.1 (piece_found c.args.s.now c.loop-at.at _ c.loop-at-test.true c.first_of.ensures _ c.trimmed-part.ensures c.if-part.true)

pub loop-at-preserved : goal.loop-at-preserved
loop-at-preserved c = (omega arith, part_empty c.args.s.now c.loop-at.at _ c.loop-at-test.true c.first_of.ensures _ c.trimmed-part.ensures c.if-part.false ∙ c.loop-at.invariant.1)

pub returns : goal.returns
returns c = pieces_end c.args.s.now c.loop-at.at c.args.from c.loop-at-test.false c.loop-at.invariant.1
