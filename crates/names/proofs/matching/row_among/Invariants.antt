-- The rows still to come decide.
use mathlib.Core.Path.{◌≡◌}
use Rattle.ascii.specs.Fold.{lowered}
use Rattle.names.specs.Runs.{fronts}
use Rattle.names.proofs.RunLaws.{left}
use Rattle.names.proofs.matching.row_among.Given as goal

abbrev pub invariant-loop-row : goal.invariant-loop-row
invariant-loop-row l = left (fronts l.n l.rows l.listed) (lowered l.name) l.row-index ≡ left (fronts l.n l.rows l.listed) (lowered l.name) 0
