-- The loop keeps that the bytes left are the same without those that pass at their end.
use mathlib.Core.Path.{◌≡◌}
use lib.ListN.{take}
use Rattle.ascii.specs.Trim.{strip_end}
use Rattle.ascii.proofs.trimming.kept_len.Given as goal

abbrev pub invariant-loop-last : goal.invariant-loop-last
invariant-loop-last g l = strip_end g.T.ByteTest.test (take l.last l.s) ≡ strip_end g.T.ByteTest.test l.s
