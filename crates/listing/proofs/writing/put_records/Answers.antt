use native.Mathlib.Omega.{arith}
use Rattle.listing.proofs.ElementLaws.{comma_length}
use Rattle.listing.proofs.RowsLaws.{begun, halted, turned, ended}
use Rattle.listing.proofs.writing.put_records.Goals as goal

pub loop-count-init : goal.loop-count-init
loop-count-init c = begun _ _ _ _ _

pub returns-in_default : goal.returns-in_default
returns-in_default c = halted c.loop-count.invariant c.loop-count-test.true c.in_default.ensures

pub put_comma-next-requires : goal.put_comma-next-requires
put_comma-next-requires c = omega (arith, c.loop-count.invariant.near, c.loop-count.invariant.low)

pub put_element-to-requires : goal.put_element-to-requires
put_element-to-requires c = record { widest_bound = omega (arith, c.loop-count.invariant.near, c.loop-count.invariant.low, c.put_comma-next.ensures.next_is, comma_length c.loop-count.count); text_value = c.in-Some.ensures.text_plain }

pub loop-count-preserved : goal.loop-count-preserved
loop-count-preserved c = turned c.loop-count.invariant c.loop-count-test.true c.in-Some.ensures.plain c.put_comma-next.ensures (rw c.in-Some.ensures.kind_is at c.put_element-to.ensures)

pub shape_of-out : goal.shape_of-out
shape_of-out c = c.loop-count.invariant.put.long

pub returns : goal.returns
returns c = ended c.loop-count.invariant c.loop-count-test.false
