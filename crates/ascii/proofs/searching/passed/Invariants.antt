-- The loop keeps that the place is the bytes passed and those still to come.
use mathlib.Core.Path.{◌≡◌}
use Prim.Native.Nat.{◌+◌, ◌≤◌, ◌-◌}
use lib.ListN.{length, drop}
use Rattle.ascii.specs.Splits.{first_of}
use Rattle.ascii.proofs.searching.passed.Given as goal

abbrev pub invariant-loop-at : goal.invariant-loop-at
invariant-loop-at l = (l.at ≤ length l.s) × (l.at + first_of l.m (drop l.at l.s) ≡ l.from + first_of l.m (drop l.from l.s))

abbrev pub decreases-loop-at : goal.decreases-loop-at
decreases-loop-at l = length l.s - l.at
