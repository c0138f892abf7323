-- As lent's store, with each byte made small on its way.
use Rattle.ascii.specs.Fold.{lowered}
use Rattle.lent.proofs.LoopLaws.{Storing}
use Rattle.actions.proofs.writing.store_lowered.Given as goal

abbrev pub invariant-loop-i : goal.invariant-loop-i
invariant-loop-i l = Storing l.initial.out l.at (lowered l.text) l.out l.i
