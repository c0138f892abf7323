-- The loop keeps `Resiting`: what is still to be done of the records gives the whole.
use Rattle.places.proofs.MoveLaws.{Resiting}
use Rattle.places.proofs.moving.words_sited.Given as goal

abbrev pub invariant-loop : goal.invariant-loop
invariant-loop l = Resiting l.s l.k l.rule l.count l.width l.at l.initial.records l.records l.w l.i l.counter
