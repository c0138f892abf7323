use Rattle.listing.proofs.DigitLaws.{digits_done, digits_more, digits_full}
use Rattle.listing.proofs.numbers.digits_into.Goals as goal

pub returns-then-left-eq0 : goal.returns-then-left-eq0
returns-then-left-eq0 c = digits_done c.loop-i.invariant c.loop-i-test.true c.if-left-eq0.true

pub loop-i-preserved : goal.loop-i-preserved
loop-i-preserved c = digits_more c.loop-i.invariant c.loop-i-test.true c.if-left-eq0.false

pub returns : goal.returns
returns c = digits_full c.loop-i.invariant c.loop-i-test.false
