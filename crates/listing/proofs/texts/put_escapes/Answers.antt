use Rattle.listing.proofs.TextLaws.{turned, ended}
use Rattle.listing.proofs.texts.put_escapes.Goals as goal

pub loop-b-preserved : goal.loop-b-preserved
loop-b-preserved c = turned c.loop-b.invariant c.loop-b-test.true c.put_escaped-to.ensures

pub returns : goal.returns
returns c = ended c.loop-b.invariant c.loop-b-test.false
