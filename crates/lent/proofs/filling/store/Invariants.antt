-- One element a turn, by LoopLaws.
use Rattle.lent.proofs.LoopLaws.{Storing}
use Rattle.lent.proofs.filling.store.Given as goal

abbrev pub invariant-loop-i : goal.invariant-loop-i
invariant-loop-i g l = Storing l.initial.out l.at l.run l.out l.i
