-- The loop keeps `Cutting`: where the part goes on, with no mark open.
use Prim.Native.Nat.{◌-◌}
use lib.ListN.{length}
use Rattle.actions.proofs.QuoteLaws.{Cutting}
use Rattle.actions.proofs.cutting.part_end.Given as goal

abbrev pub invariant-loop-at : goal.invariant-loop-at
invariant-loop-at l = Cutting l.s l.from l.at l.depth

abbrev pub decreases-loop-at : goal.decreases-loop-at
decreases-loop-at l = length l.s - l.at
