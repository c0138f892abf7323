-- One word a turn, by ChangeLaws.
use Rattle.index.proofs.ChangeLaws.{Rising}
use Rattle.index.proofs.changing.enter.Given as goal

abbrev pub invariant-loop-at : goal.invariant-loop-at
invariant-loop-at l = Rising l.initial.words l.first l.last l.words l.at
