-- The loop keeps that the bytes that pass are those passed and those still to come.
use mathlib.Core.Path.{◌≡◌}
use Prim.Native.Nat.{◌+◌}
use lib.ListN.{drop}
use Rattle.ascii.specs.Trim.{leading}
use Rattle.ascii.proofs.trimming.leading.Given as goal

abbrev pub invariant-loop-i : goal.invariant-loop-i
invariant-loop-i g l = l.i + leading g.T.ByteTest.test (drop l.i l.s) ≡ leading g.T.ByteTest.test l.s
