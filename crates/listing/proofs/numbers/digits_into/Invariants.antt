-- The loop keeps what is left to write; each need is one law of DigitLaws.
use Rattle.listing.proofs.DigitLaws.{Sofar}
use Rattle.listing.proofs.numbers.digits_into.Given as goal

abbrev pub invariant-loop-i : goal.invariant-loop-i
invariant-loop-i l = Sofar l.n l.initial.digits l.digits l.i l.left
