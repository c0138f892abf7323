-- The rows are those of the definition's table.
use mathlib.Core.Path.{refl}
use Rattle.ascii.specs.Text.{bytes}
use Rattle.names.specs.Shelves.{shelved}
use Rattle.names.specs.Severities.{severities}
use Rattle.names.proofs.severities.severity_code.Goals as goal

pub by_length-requires : goal.by_length-requires
unfolding severities bytes shelved
by_length-requires c = refl
