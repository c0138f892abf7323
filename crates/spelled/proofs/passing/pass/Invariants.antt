-- The loop keeps that what is left decides.
use Rattle.spelled.proofs.WalkLaws.{Walking}
use Rattle.spelled.proofs.passing.pass.Given as goal

abbrev pub invariant-loop-at : goal.invariant-loop-at
invariant-loop-at l = Walking l.initial.reached.mark l.initial.reached.depth l.t l.reached.mark l.reached.depth l.at
