-- The loop keeps that the largest of `top` and of what is left is the largest of all.
use mathlib.Core.Path.{◌≡◌}
use Prim.Native.Nat.{max}
use lib.ListN.{drop}
use Rattle.lent.specs.Gates.{highest}
use Rattle.lent.proofs.gating.highest_byte.Given as goal

abbrev pub invariant-loop-b : goal.invariant-loop-b
invariant-loop-b l = max l.top (highest (drop l.b-index l.s)) ≡ highest l.s
