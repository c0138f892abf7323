-- The loop keeps that the name's bytes are those passed and those still to come.
use mathlib.Core.Path.{◌≡◌}
use Prim.Native.Nat.{◌+◌}
use lib.ListN.{drop}
use Rattle.operators.specs.Operators.{name_length}
use Rattle.operators.proofs.finding.name_length.Given as goal

abbrev pub invariant-loop-i : goal.invariant-loop-i
invariant-loop-i l = l.i + name_length (drop l.i l.s) ≡ name_length l.s
