-- The loop keeps that what is left to compare decides the whole.
use mathlib.Core.Path.{◌≡◌}
use lib.ListN.{length, drop}
use Rattle.ascii.specs.Fold.{same_lowered}
use Rattle.ascii.proofs.folding.same_lowered.Given as goal

abbrev pub invariant-loop-i : goal.invariant-loop-i
invariant-loop-i l = (length l.a ≡ length l.b) × (same_lowered (drop l.i l.a) (drop l.i l.b) ≡ same_lowered l.a l.b)
