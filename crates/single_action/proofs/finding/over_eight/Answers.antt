-- One name after another: each is the name, or is not.
use mathlib.Core.Path.{refl}
use native.Mathlib.Omega.{arith}
use Rattle.ascii.specs.Text.{bytes}
use Rattle.ascii.specs.Fold.{lower}
use Rattle.single_action.specs.Table.{rows}
use Rattle.single_action.proofs.RowLaws.{hit, other}
use Rattle.single_action.proofs.finding.over_eight.Goals as goal

pub returns-then-same_lowered : goal.returns-then-same_lowered
unfolding rows bytes lower
returns-then-same_lowered c = hit c.args.name.now c.if-same_lowered.true c.same_lowered.ensures refl (omega arith)

pub returns-then-same_lowered-2 : goal.returns-then-same_lowered-2
unfolding rows bytes lower
returns-then-same_lowered-2 c = hit c.args.name.now c.if-same_lowered-2.true c.same_lowered-2.ensures refl (omega arith)

pub returns-then-same_lowered-3 : goal.returns-then-same_lowered-3
unfolding rows bytes lower
returns-then-same_lowered-3 c = hit c.args.name.now c.if-same_lowered-3.true c.same_lowered-3.ensures refl (omega arith)

pub returns-then-same_lowered-4 : goal.returns-then-same_lowered-4
unfolding rows bytes lower
returns-then-same_lowered-4 c = hit c.args.name.now c.if-same_lowered-4.true c.same_lowered-4.ensures refl (omega arith)

pub returns-then-same_lowered-5 : goal.returns-then-same_lowered-5
unfolding rows bytes lower
returns-then-same_lowered-5 c = hit c.args.name.now c.if-same_lowered-5.true c.same_lowered-5.ensures refl (omega arith)

pub returns-then-same_lowered-6 : goal.returns-then-same_lowered-6
unfolding rows bytes lower
returns-then-same_lowered-6 c = hit c.args.name.now c.if-same_lowered-6.true c.same_lowered-6.ensures refl (omega arith)

pub returns-then-same_lowered-7 : goal.returns-then-same_lowered-7
unfolding rows bytes lower
returns-then-same_lowered-7 c = hit c.args.name.now c.if-same_lowered-7.true c.same_lowered-7.ensures refl (omega arith)

pub returns : goal.returns
unfolding rows bytes lower
returns c = (other c.args.name.now 25 c.same_lowered.ensures c.if-same_lowered.false, (other c.args.name.now 8 c.same_lowered-2.ensures c.if-same_lowered-2.false, (other c.args.name.now 34 c.same_lowered-3.ensures c.if-same_lowered-3.false, (other c.args.name.now 33 c.same_lowered-4.ensures c.if-same_lowered-4.false, (other c.args.name.now 26 c.same_lowered-5.ensures c.if-same_lowered-5.false, (other c.args.name.now 27 c.same_lowered-6.ensures c.if-same_lowered-6.false, (other c.args.name.now 32 c.same_lowered-7.ensures c.if-same_lowered-7.false, tt)))))))
