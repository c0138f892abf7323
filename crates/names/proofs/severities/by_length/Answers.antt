-- The rows with a name of each length are those of the table.
use mathlib.Core.Path.{refl}
use mathlib.Core.List.{[], ◌∷◌}
use mathlib.Core.Bool.{false}
use native.Mathlib.Omega.{arith}
use Rattle.ascii.specs.Text.{bytes}
use Rattle.ascii.specs.Fold.{lower}
use Rattle.names.specs.Severities.{severities, severity_code}
use Rattle.names.proofs.Tests.{every}
use Rattle.names.proofs.LengthLaws.{covers, none_of}
use Rattle.names.proofs.ShelfLaws.{numbers_of, rows_fit, of_rows, severities_numbered}
use Rattle.names.proofs.severities.by_length.Goals as goal

pub row_among-requires : goal.row_among-requires
unfolding numbers_of severities bytes severity_code
row_among-requires c = record { here = omega arith; fits = rows_fit severities 4 c.requires (omega arith) (omega arith) }

pub row_among-requires-in-5 : goal.row_among-requires-in-5
unfolding numbers_of severities bytes severity_code
row_among-requires-in-5 c = record { here = omega arith; fits = rows_fit severities 5 c.requires (omega arith) (omega arith) }

pub row_among-requires-in-6 : goal.row_among-requires-in-6
unfolding numbers_of severities bytes severity_code
row_among-requires-in-6 c = record { here = omega arith; fits = rows_fit severities 6 c.requires (omega arith) (omega arith) }

pub row_among-requires-in-7 : goal.row_among-requires-in-7
unfolding numbers_of severities bytes severity_code
row_among-requires-in-7 c = record { here = omega arith; fits = rows_fit severities 7 c.requires (omega arith) (omega arith) }

pub row_among-requires-in-8 : goal.row_among-requires-in-8
unfolding numbers_of severities bytes severity_code
row_among-requires-in-8 c = record { here = omega arith; fits = rows_fit severities 8 c.requires (omega arith) (omega arith) }

pub row_among-requires-in-9 : goal.row_among-requires-in-9
unfolding numbers_of severities bytes severity_code
row_among-requires-in-9 c = record { here = omega arith; fits = rows_fit severities 9 c.requires (omega arith) (omega arith) }

pub returns-in-4 : goal.returns-in-4
unfolding numbers_of severities bytes severity_code
returns-in-4 c = of_rows severities 4 c.requires severities_numbered c.row_among.ensures (omega arith)

pub returns-in-5 : goal.returns-in-5
unfolding numbers_of severities bytes severity_code
returns-in-5 c = of_rows severities 5 c.requires severities_numbered c.row_among-in-5.ensures (omega arith)

pub returns-in-6 : goal.returns-in-6
unfolding numbers_of severities bytes severity_code
returns-in-6 c = of_rows severities 6 c.requires severities_numbered c.row_among-in-6.ensures (omega arith)

pub returns-in-7 : goal.returns-in-7
unfolding numbers_of severities bytes severity_code
returns-in-7 c = of_rows severities 7 c.requires severities_numbered c.row_among-in-7.ensures (omega arith)

pub returns-in-8 : goal.returns-in-8
unfolding numbers_of severities bytes severity_code
returns-in-8 c = of_rows severities 8 c.requires severities_numbered c.row_among-in-8.ensures (omega arith)

pub returns-in-9 : goal.returns-in-9
unfolding numbers_of severities bytes severity_code
returns-in-9 c = of_rows severities 9 c.requires severities_numbered c.row_among-in-9.ensures (omega arith)

-- no name has another length
pub returns-in_default : goal.returns-in_default
unfolding covers every severities bytes severity_code
returns-in_default c =
    let n = c.args.word.now in
    none_of lower severities (9 ∷ 8 ∷ 7 ∷ 6 ∷ 5 ∷ 4 ∷ []) (λ l. false) refl n c.in_default.in_default-own.rest refl
