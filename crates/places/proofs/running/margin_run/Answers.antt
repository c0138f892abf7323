-- By the mode.
use Rattle.places.proofs.RunLaws.{spaces_blank, feed_blank}
use Rattle.places.proofs.running.margin_run.Goals as goal

pub returns-in-Plain : goal.returns-in-Plain
returns-in-Plain c = rw c.in-Plain.is (feed_blank c.continued.ensures)

pub returns-in-Margin : goal.returns-in-Margin
returns-in-Margin c = rw c.in-Margin.is (spaces_blank c.spaces.ensures)
