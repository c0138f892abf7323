-- The places and codes of each length are those of the run.
use mathlib.Core.Path.{refl}
use mathlib.Core.List.{[], ◌∷◌}
use native.Mathlib.Omega.{arith}
use lib.ListN.{length}
use lib.Dec.{leb}
use borrow.Author.Tests.{lt-leb}
use Rattle.ascii.specs.Text.{bytes}
use Rattle.ascii.specs.Fold.{upper}
use Rattle.names.specs.Variables.{variables, variable_code}
use Rattle.names.proofs.Tests.{every}
use Rattle.names.proofs.LengthLaws.{covers, none_of}
use Rattle.names.proofs.VariableLaws.{parts_of, variables_fit, of_variables}
use Rattle.names.proofs.variable_runs.of_eighteen_and_more.Goals as goal

pub among-requires : goal.among-requires
unfolding parts_of
among-requires c = record { here = omega arith; fits = variables_fit 18 c.requires.run (omega arith) (omega arith) }

pub among-requires-in-19 : goal.among-requires-in-19
unfolding parts_of
among-requires-in-19 c = record { here = omega arith; fits = variables_fit 19 c.requires.run (omega arith) (omega arith) }

pub among-requires-in-21 : goal.among-requires-in-21
unfolding parts_of
among-requires-in-21 c = record { here = omega arith; fits = variables_fit 21 c.requires.run (omega arith) (omega arith) }

pub among-requires-in-22 : goal.among-requires-in-22
unfolding parts_of
among-requires-in-22 c = record { here = omega arith; fits = variables_fit 22 c.requires.run (omega arith) (omega arith) }

pub among-requires-in-23 : goal.among-requires-in-23
unfolding parts_of
among-requires-in-23 c = record { here = omega arith; fits = variables_fit 23 c.requires.run (omega arith) (omega arith) }

pub among-requires-in-27 : goal.among-requires-in-27
unfolding parts_of
among-requires-in-27 c = record { here = omega arith; fits = variables_fit 27 c.requires.run (omega arith) (omega arith) }

pub returns-in-18 : goal.returns-in-18
unfolding parts_of
returns-in-18 c = of_variables 18 c.requires.run c.among.ensures (omega arith)

pub returns-in-19 : goal.returns-in-19
unfolding parts_of
returns-in-19 c = of_variables 19 c.requires.run c.among-in-19.ensures (omega arith)

pub returns-in-21 : goal.returns-in-21
unfolding parts_of
returns-in-21 c = of_variables 21 c.requires.run c.among-in-21.ensures (omega arith)

pub returns-in-22 : goal.returns-in-22
unfolding parts_of
returns-in-22 c = of_variables 22 c.requires.run c.among-in-22.ensures (omega arith)

pub returns-in-23 : goal.returns-in-23
unfolding parts_of
returns-in-23 c = of_variables 23 c.requires.run c.among-in-23.ensures (omega arith)

pub returns-in-27 : goal.returns-in-27
unfolding parts_of
returns-in-27 c = of_variables 27 c.requires.run c.among-in-27.ensures (omega arith)

-- no name has another length
pub returns-in_default : goal.returns-in_default
unfolding covers every variables bytes variable_code
returns-in_default c =
    let n = c.args.name.now in
    none_of upper variables (27 ∷ 23 ∷ 22 ∷ 21 ∷ 19 ∷ 18 ∷ []) (λ l. leb l 17) refl n c.in_default.in_default-own.rest (lt-leb (length n) 17 (omega arith))
