-- Each need is one law of WholeLaws, by what the cell says.
use mathlib.Core.Path.{refl}
use Rattle.plain.specs.Table.{over}
use Rattle.plain.proofs.WholeLaws.{begun, ready, halted, turned, ready_over, ended}
use Rattle.plain.proofs.running.run_by.Goals as goal

pub loop-b-init : goal.loop-b-init
loop-b-init c = begun c.args.s.now _ _ _ c.start-here.ensures c.requires.s_len_bound.0 c.requires.s_len_bound.1

pub step-held-requires : goal.step-held-requires
step-held-requires c = ready c.loop-b.invariant c.loop-b-test.true _ (λ q e. c.cell_of-x.ensures q _ e c.column_of-class.ensures)

pub returns-then-x-ge-HALT : goal.returns-then-x-ge-HALT
returns-then-x-ge-HALT c = rw c.tally.ensures (halted c.loop-b.invariant c.loop-b-test.true _ (λ q e. c.cell_of-x.ensures q _ e c.column_of-class.ensures) c.step-held.ensures c.if-x-ge-HALT.true)

pub loop-b-preserved : goal.loop-b-preserved
loop-b-preserved c = turned c.loop-b.invariant c.loop-b-test.true _ (λ q e. c.cell_of-x.ensures q _ e c.column_of-class.ensures) c.step-held.ensures c.if-x-ge-HALT.false _ (c.past-here.ensures _ c.column_of-class.ensures)

pub act-held-requires : goal.act-held-requires
act-held-requires c = ready_over c.loop-b.invariant c.loop-b-test.false _ (λ q e. c.cell_of-x-2.ensures q over e refl)

pub returns : goal.returns
returns c = rw c.tally-2.ensures (ended c.loop-b.invariant c.loop-b-test.false _ (λ q e. c.cell_of-x-2.ensures q over e refl) c.act-held.ensures)
