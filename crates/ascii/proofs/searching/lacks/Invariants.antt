-- The loop keeps that the bytes passed hold no `m`, unless one was met.
use Rattle.ascii.proofs.LackLaws.{Lacking}
use Rattle.ascii.proofs.searching.lacks.Given as goal

abbrev pub invariant-loop-b : goal.invariant-loop-b
invariant-loop-b l = Lacking l.m l.part l.b-index l.none
