-- By the test of the lengths: nothing is touched, or all is as put_normal leaves it.
use Rattle.actions.proofs.NormalActLaws.{normal_short, normal_text}
use Rattle.actions.proofs.normalising.normalise.Goals as goal

pub returns-then-out-s : goal.returns-then-out-s
returns-then-out-s c = normal_short _ _ c.if-out-s.true

pub returns : goal.returns
returns c = normal_text _ _ c.if-out-s.false c.put_normal.ensures
