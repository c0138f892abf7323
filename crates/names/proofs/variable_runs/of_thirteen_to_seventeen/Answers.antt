-- The places and codes of each length are those of the run.
use mathlib.Core.Path.{refl}
use mathlib.Core.List.{[], ◌∷◌}
use native.Mathlib.Omega.{arith}
use lib.ListN.{length}
use lib.Dec.{leb, ltb}
use borrow.Author.Tests.{le-ltb, lt-leb}
use Rattle.ascii.specs.Choice.{or}
use Rattle.ascii.specs.Text.{bytes}
use Rattle.ascii.specs.Fold.{upper}
use Rattle.names.specs.Variables.{variables, variable_code}
use Rattle.names.proofs.Tests.{every}
use Rattle.names.proofs.LengthLaws.{covers, none_of}
use Rattle.names.proofs.VariableLaws.{parts_of, variables_fit, of_variables}
use Rattle.names.proofs.variable_runs.of_thirteen_to_seventeen.Goals as goal

pub among-requires : goal.among-requires
unfolding parts_of
among-requires c = record { here = omega arith; fits = variables_fit 13 c.requires.run (omega arith) (omega arith) }

pub among-requires-in-14 : goal.among-requires-in-14
unfolding parts_of
among-requires-in-14 c = record { here = omega arith; fits = variables_fit 14 c.requires.run (omega arith) (omega arith) }

pub among-requires-in-15 : goal.among-requires-in-15
unfolding parts_of
among-requires-in-15 c = record { here = omega arith; fits = variables_fit 15 c.requires.run (omega arith) (omega arith) }

pub among-requires-in-16 : goal.among-requires-in-16
unfolding parts_of
among-requires-in-16 c = record { here = omega arith; fits = variables_fit 16 c.requires.run (omega arith) (omega arith) }

pub among-requires-in-17 : goal.among-requires-in-17
unfolding parts_of
among-requires-in-17 c = record { here = omega arith; fits = variables_fit 17 c.requires.run (omega arith) (omega arith) }

pub returns-in-13 : goal.returns-in-13
unfolding parts_of
returns-in-13 c = of_variables 13 c.requires.run c.among.ensures (omega arith)

pub returns-in-14 : goal.returns-in-14
unfolding parts_of
returns-in-14 c = of_variables 14 c.requires.run c.among-in-14.ensures (omega arith)

pub returns-in-15 : goal.returns-in-15
unfolding parts_of
returns-in-15 c = of_variables 15 c.requires.run c.among-in-15.ensures (omega arith)

pub returns-in-16 : goal.returns-in-16
unfolding parts_of
returns-in-16 c = of_variables 16 c.requires.run c.among-in-16.ensures (omega arith)

pub returns-in-17 : goal.returns-in-17
unfolding parts_of
returns-in-17 c = of_variables 17 c.requires.run c.among-in-17.ensures (omega arith)

-- no name has another length
pub returns-in_default : goal.returns-in_default
unfolding covers every variables bytes variable_code
returns-in_default c =
    let n = c.args.name.now in
    none_of upper variables (17 ∷ 16 ∷ 15 ∷ 14 ∷ 13 ∷ []) (λ l. or (leb l 12) (ltb 17 l)) refl n c.in_default.in_default-own.rest (rw (lt-leb (length n) 12 (omega arith), le-ltb 17 (length n) (omega arith)))
