-- All bytes passed are spaces.
use Rattle.places.specs.Steps.{Spaces}
use Rattle.places.proofs.running.spaces.Given as goal

abbrev pub invariant-loop-n : goal.invariant-loop-n
invariant-loop-n l = Spaces l.fn.s l.fn.place l.n
