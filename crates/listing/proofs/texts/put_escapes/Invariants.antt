-- The loop keeps that the bytes passed are put; each need is one law of TextLaws.
use Rattle.listing.proofs.TextLaws.{Sofar}
use Rattle.listing.proofs.texts.put_escapes.Given as goal

abbrev pub invariant-loop-b : goal.invariant-loop-b
invariant-loop-b l = Sofar l.text l.initial.out l.out l.at l.to l.b-index
