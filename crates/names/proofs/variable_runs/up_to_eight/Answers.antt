-- The places and codes of each length are those of the run.
use mathlib.Core.Path.{refl}
use mathlib.Core.List.{[], ◌∷◌}
use native.Mathlib.Omega.{arith}
use lib.ListN.{length}
use lib.Dec.{ltb}
use borrow.Author.Tests.{le-ltb}
use Rattle.ascii.specs.Text.{bytes}
use Rattle.ascii.specs.Fold.{upper}
use Rattle.names.specs.Variables.{variables, variable_code}
use Rattle.names.proofs.Tests.{every}
use Rattle.names.proofs.LengthLaws.{covers, none_of}
use Rattle.names.proofs.VariableLaws.{parts_of, variables_fit, of_variables}
use Rattle.names.proofs.variable_runs.up_to_eight.Goals as goal

pub among-requires : goal.among-requires
unfolding parts_of
among-requires c = record { here = omega arith; fits = variables_fit 2 c.requires.run (omega arith) (omega arith) }

pub among-requires-in-3 : goal.among-requires-in-3
unfolding parts_of
among-requires-in-3 c = record { here = omega arith; fits = variables_fit 3 c.requires.run (omega arith) (omega arith) }

pub among-requires-in-4 : goal.among-requires-in-4
unfolding parts_of
among-requires-in-4 c = record { here = omega arith; fits = variables_fit 4 c.requires.run (omega arith) (omega arith) }

pub among-requires-in-5 : goal.among-requires-in-5
unfolding parts_of
among-requires-in-5 c = record { here = omega arith; fits = variables_fit 5 c.requires.run (omega arith) (omega arith) }

pub among-requires-in-6 : goal.among-requires-in-6
unfolding parts_of
among-requires-in-6 c = record { here = omega arith; fits = variables_fit 6 c.requires.run (omega arith) (omega arith) }

pub among-requires-in-7 : goal.among-requires-in-7
unfolding parts_of
among-requires-in-7 c = record { here = omega arith; fits = variables_fit 7 c.requires.run (omega arith) (omega arith) }

pub among-requires-in-8 : goal.among-requires-in-8
unfolding parts_of
among-requires-in-8 c = record { here = omega arith; fits = variables_fit 8 c.requires.run (omega arith) (omega arith) }

pub returns-in-2 : goal.returns-in-2
unfolding parts_of
returns-in-2 c = of_variables 2 c.requires.run c.among.ensures (omega arith)

pub returns-in-3 : goal.returns-in-3
unfolding parts_of
returns-in-3 c = of_variables 3 c.requires.run c.among-in-3.ensures (omega arith)

pub returns-in-4 : goal.returns-in-4
unfolding parts_of
returns-in-4 c = of_variables 4 c.requires.run c.among-in-4.ensures (omega arith)

pub returns-in-5 : goal.returns-in-5
unfolding parts_of
returns-in-5 c = of_variables 5 c.requires.run c.among-in-5.ensures (omega arith)

pub returns-in-6 : goal.returns-in-6
unfolding parts_of
returns-in-6 c = of_variables 6 c.requires.run c.among-in-6.ensures (omega arith)

pub returns-in-7 : goal.returns-in-7
unfolding parts_of
returns-in-7 c = of_variables 7 c.requires.run c.among-in-7.ensures (omega arith)

pub returns-in-8 : goal.returns-in-8
unfolding parts_of
returns-in-8 c = of_variables 8 c.requires.run c.among-in-8.ensures (omega arith)

-- no name has another length
pub returns-in_default : goal.returns-in_default
unfolding covers every variables bytes variable_code
returns-in_default c =
    let n = c.args.name.now in
    none_of upper variables (8 ∷ 7 ∷ 6 ∷ 5 ∷ 4 ∷ 3 ∷ 2 ∷ []) (λ l. ltb 8 l) refl n c.in_default.in_default-own.rest (le-ltb 8 (length n) (omega arith))
