use native.Mathlib.Omega.{arith}
use Rattle.lent.proofs.HighLaws.{highest_more, highest_end}
use Rattle.lent.proofs.gating.highest_byte.Goals as goal

pub loop-b-preserved : goal.loop-b-preserved
loop-b-preserved c = omega (arith, highest_more c.args.s.now c.loop-b.b-index c.loop-b-test.true)

pub returns : goal.returns
returns c = omega (arith, highest_end c.args.s.now c.loop-b.b-index c.loop-b-test.false)
