-- The loop keeps `Reaching`, and ends at n bytes of the text or at the end of the source.
use Prim.Native.Nat.{◌-◌}
use lib.ListN.{length}
use Rattle.places.proofs.WalkLaws.{Reaching}
use Rattle.places.proofs.walking.pass_to.Given as goal

abbrev pub invariant-loop-w : goal.invariant-loop-w
invariant-loop-w l = Reaching l.rule l.s l.initial.w l.stop l.n l.noted l.w

abbrev pub decreases-loop-w : goal.decreases-loop-w
decreases-loop-w l = length l.s - l.w.place
