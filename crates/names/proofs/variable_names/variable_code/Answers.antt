-- The run is the definition's.
use mathlib.Core.Path.{refl}
use native.Mathlib.Omega.{arith}
use Rattle.ascii.specs.Text.{bytes}
use Rattle.names.specs.Run.{run}
use Rattle.names.proofs.variable_names.variable_code.Goals as goal

pub up_to_eight-requires : goal.up_to_eight-requires
unfolding run bytes
up_to_eight-requires c = record { run = refl; long = omega arith }

pub of_nine_to_twelve-requires : goal.of_nine_to_twelve-requires
unfolding run bytes
of_nine_to_twelve-requires c = record { run = refl; long = (omega arith, omega arith) }

pub of_thirteen_to_seventeen-requires : goal.of_thirteen_to_seventeen-requires
unfolding run bytes
of_thirteen_to_seventeen-requires c = record { run = refl; long = (omega arith, omega arith) }

pub of_eighteen_and_more-requires : goal.of_eighteen_and_more-requires
unfolding run bytes
of_eighteen_and_more-requires c = record { run = refl; long = omega arith }
