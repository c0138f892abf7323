-- The places and codes of each length are those of the run.
use mathlib.Core.Path.{refl}
use mathlib.Core.List.{[], ◌∷◌}
use native.Mathlib.Omega.{arith}
use lib.ListN.{length}
use lib.Dec.{leb, ltb}
use borrow.Author.Tests.{le-ltb, lt-leb}
use Rattle.ascii.specs.Choice.{or}
use Rattle.ascii.specs.Text.{bytes}
use Rattle.ascii.specs.Fold.{upper}
use Rattle.names.specs.Variables.{variables, variable_code}
use Rattle.names.proofs.Tests.{every}
use Rattle.names.proofs.LengthLaws.{covers, none_of}
use Rattle.names.proofs.VariableLaws.{parts_of, variables_fit, of_variables}
use Rattle.names.proofs.variable_runs.of_nine_to_twelve.Goals as goal

pub among-requires : goal.among-requires
unfolding parts_of
among-requires c = record { here = omega arith; fits = variables_fit 9 c.requires.run (omega arith) (omega arith) }

pub among-requires-in-10 : goal.among-requires-in-10
unfolding parts_of
among-requires-in-10 c = record { here = omega arith; fits = variables_fit 10 c.requires.run (omega arith) (omega arith) }

pub among-requires-in-11 : goal.among-requires-in-11
unfolding parts_of
among-requires-in-11 c = record { here = omega arith; fits = variables_fit 11 c.requires.run (omega arith) (omega arith) }

pub among-requires-in-12 : goal.among-requires-in-12
unfolding parts_of
among-requires-in-12 c = record { here = omega arith; fits = variables_fit 12 c.requires.run (omega arith) (omega arith) }

pub returns-in-9 : goal.returns-in-9
unfolding parts_of
returns-in-9 c = of_variables 9 c.requires.run c.among.ensures (omega arith)

pub returns-in-10 : goal.returns-in-10
unfolding parts_of
returns-in-10 c = of_variables 10 c.requires.run c.among-in-10.ensures (omega arith)

pub returns-in-11 : goal.returns-in-11
unfolding parts_of
returns-in-11 c = of_variables 11 c.requires.run c.among-in-11.ensures (omega arith)

pub returns-in-12 : goal.returns-in-12
unfolding parts_of
returns-in-12 c = of_variables 12 c.requires.run c.among-in-12.ensures (omega arith)

-- no name has another length
pub returns-in_default : goal.returns-in_default
unfolding covers every variables bytes variable_code
returns-in_default c =
    let n = c.args.name.now in
    none_of upper variables (12 ∷ 11 ∷ 10 ∷ 9 ∷ []) (λ l. or (leb l 8) (ltb 12 l)) refl n c.in_default.in_default-own.rest (rw (lt-leb (length n) 8 (omega arith), le-ltb 12 (length n) (omega arith)))
