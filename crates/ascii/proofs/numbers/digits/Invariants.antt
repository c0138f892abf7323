-- The loop keeps that the bytes passed are digits whose value the sum holds.
use Rattle.ascii.proofs.NumberLaws.{Sofar}
use Rattle.ascii.proofs.numbers.digits.Given as goal

abbrev pub invariant-loop-b : goal.invariant-loop-b
invariant-loop-b l = Sofar l.s l.sum l.b-index
