-- The parts still to come decide.
use mathlib.Core.Path.{◌≡◌}
use Rattle.ascii.specs.Fold.{uppered}
use Rattle.names.specs.Runs.{parts}
use Rattle.names.proofs.RunLaws.{left}
use Rattle.names.proofs.matching.among.Given as goal

abbrev pub invariant-loop-at : goal.invariant-loop-at
invariant-loop-at l = left (parts l.n l.run l.parts) (uppered l.name) l.at-index ≡ left (parts l.n l.run l.parts) (uppered l.name) 0
