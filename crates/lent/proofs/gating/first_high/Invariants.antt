-- The loop keeps that the first high byte of what is left, counted from i, is that of the whole.
use mathlib.Core.Path.{◌≡◌}
use Prim.Native.Nat.{◌+◌}
use lib.ListN.{drop}
use Rattle.lent.specs.Gates.{first_high}
use Rattle.lent.proofs.gating.first_high.Given as goal

abbrev pub invariant-loop-i : goal.invariant-loop-i
invariant-loop-i l = l.i + first_high (drop l.i l.s) ≡ first_high l.s
