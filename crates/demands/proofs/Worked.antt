-- The table of worked texts holds: one test, computed.
use mathlib.Core.Path.{◌≡◌, refl}
use Rattle.lexer.specs.Cases as Lexer
use Rattle.actions.specs.Cases as Actions
use Rattle.variables.specs.Cases as Variables
use Rattle.operators.specs.Cases as Operators
use Rattle.demands.specs.Worked.{table, replies, wanted}

pub worked : replies ≡ wanted
unfolding table Lexer.Reads Actions.Comes Variables.Reads Operators.Reads
worked = refl
