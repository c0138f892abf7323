-- The loop keeps that the place is the bytes passed and those still to come.
use mathlib.Core.Path.{◌≡◌}
use Prim.Native.Nat.{◌+◌}
use lib.ListN.{drop}
use Rattle.ascii.specs.Splits.{first_of}
use Rattle.ascii.proofs.searching.first_of.Given as goal

abbrev pub invariant-loop-i : goal.invariant-loop-i
invariant-loop-i l = l.i + first_of l.m (drop l.i l.s) ≡ first_of l.m l.s
