-- The rows are those of the definition's table.
use mathlib.Core.Path.{refl}
use native.Mathlib.Omega.{arith}
use Rattle.ascii.specs.Text.{bytes}
use Rattle.names.specs.Shelves.{shelved}
use Rattle.names.specs.Operators.{operators}
use Rattle.names.proofs.operator_names.operator_code.Goals as goal

pub up_to_eleven-requires : goal.up_to_eleven-requires
unfolding operators bytes shelved
up_to_eleven-requires c = record { rows = refl; long = omega arith }

pub of_twelve_and_more-requires : goal.of_twelve_and_more-requires
unfolding operators bytes shelved
of_twelve_and_more-requires c = record { rows = refl; long = omega arith }
