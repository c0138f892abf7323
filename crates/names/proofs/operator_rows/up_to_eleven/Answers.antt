-- The rows with a name of each length are those of the table.
use mathlib.Core.Path.{refl}
use mathlib.Core.List.{[], ◌∷◌}
use native.Mathlib.Omega.{arith}
use lib.ListN.{length}
use lib.Dec.{ltb}
use borrow.Author.Tests.{le-ltb}
use Rattle.ascii.specs.Text.{bytes}
use Rattle.ascii.specs.Fold.{lower}
use Rattle.names.specs.Operators.{operators, operator_code}
use Rattle.names.proofs.Tests.{every}
use Rattle.names.proofs.LengthLaws.{covers, none_of}
use Rattle.names.proofs.ShelfLaws.{numbers_of, rows_fit, of_rows, operators_numbered}
use Rattle.names.proofs.operator_rows.up_to_eleven.Goals as goal

pub row_among-requires : goal.row_among-requires
unfolding numbers_of operators bytes operator_code
row_among-requires c = record { here = omega arith; fits = rows_fit operators 2 c.requires.rows (omega arith) (omega arith) }

pub row_among-requires-in-3 : goal.row_among-requires-in-3
unfolding numbers_of operators bytes operator_code
row_among-requires-in-3 c = record { here = omega arith; fits = rows_fit operators 3 c.requires.rows (omega arith) (omega arith) }

pub row_among-requires-in-4 : goal.row_among-requires-in-4
unfolding numbers_of operators bytes operator_code
row_among-requires-in-4 c = record { here = omega arith; fits = rows_fit operators 4 c.requires.rows (omega arith) (omega arith) }

pub row_among-requires-in-5 : goal.row_among-requires-in-5
unfolding numbers_of operators bytes operator_code
row_among-requires-in-5 c = record { here = omega arith; fits = rows_fit operators 5 c.requires.rows (omega arith) (omega arith) }

pub row_among-requires-in-6 : goal.row_among-requires-in-6
unfolding numbers_of operators bytes operator_code
row_among-requires-in-6 c = record { here = omega arith; fits = rows_fit operators 6 c.requires.rows (omega arith) (omega arith) }

pub row_among-requires-in-7 : goal.row_among-requires-in-7
unfolding numbers_of operators bytes operator_code
row_among-requires-in-7 c = record { here = omega arith; fits = rows_fit operators 7 c.requires.rows (omega arith) (omega arith) }

pub row_among-requires-in-8 : goal.row_among-requires-in-8
unfolding numbers_of operators bytes operator_code
row_among-requires-in-8 c = record { here = omega arith; fits = rows_fit operators 8 c.requires.rows (omega arith) (omega arith) }

pub row_among-requires-in-9 : goal.row_among-requires-in-9
unfolding numbers_of operators bytes operator_code
row_among-requires-in-9 c = record { here = omega arith; fits = rows_fit operators 9 c.requires.rows (omega arith) (omega arith) }

pub row_among-requires-in-10 : goal.row_among-requires-in-10
unfolding numbers_of operators bytes operator_code
row_among-requires-in-10 c = record { here = omega arith; fits = rows_fit operators 10 c.requires.rows (omega arith) (omega arith) }

pub row_among-requires-in-11 : goal.row_among-requires-in-11
unfolding numbers_of operators bytes operator_code
row_among-requires-in-11 c = record { here = omega arith; fits = rows_fit operators 11 c.requires.rows (omega arith) (omega arith) }

pub returns-in-2 : goal.returns-in-2
unfolding numbers_of operators bytes operator_code
returns-in-2 c = of_rows operators 2 c.requires.rows operators_numbered c.row_among.ensures (omega arith)

pub returns-in-3 : goal.returns-in-3
unfolding numbers_of operators bytes operator_code
returns-in-3 c = of_rows operators 3 c.requires.rows operators_numbered c.row_among-in-3.ensures (omega arith)

pub returns-in-4 : goal.returns-in-4
unfolding numbers_of operators bytes operator_code
returns-in-4 c = of_rows operators 4 c.requires.rows operators_numbered c.row_among-in-4.ensures (omega arith)

pub returns-in-5 : goal.returns-in-5
unfolding numbers_of operators bytes operator_code
returns-in-5 c = of_rows operators 5 c.requires.rows operators_numbered c.row_among-in-5.ensures (omega arith)

pub returns-in-6 : goal.returns-in-6
unfolding numbers_of operators bytes operator_code
returns-in-6 c = of_rows operators 6 c.requires.rows operators_numbered c.row_among-in-6.ensures (omega arith)

pub returns-in-7 : goal.returns-in-7
unfolding numbers_of operators bytes operator_code
returns-in-7 c = of_rows operators 7 c.requires.rows operators_numbered c.row_among-in-7.ensures (omega arith)

pub returns-in-8 : goal.returns-in-8
unfolding numbers_of operators bytes operator_code
returns-in-8 c = of_rows operators 8 c.requires.rows operators_numbered c.row_among-in-8.ensures (omega arith)

pub returns-in-9 : goal.returns-in-9
unfolding numbers_of operators bytes operator_code
returns-in-9 c = of_rows operators 9 c.requires.rows operators_numbered c.row_among-in-9.ensures (omega arith)

pub returns-in-10 : goal.returns-in-10
unfolding numbers_of operators bytes operator_code
returns-in-10 c = of_rows operators 10 c.requires.rows operators_numbered c.row_among-in-10.ensures (omega arith)

pub returns-in-11 : goal.returns-in-11
unfolding numbers_of operators bytes operator_code
returns-in-11 c = of_rows operators 11 c.requires.rows operators_numbered c.row_among-in-11.ensures (omega arith)

-- no name has another length
pub returns-in_default : goal.returns-in_default
unfolding covers every operators bytes operator_code
returns-in_default c =
    let n = c.args.name.now in
    none_of lower operators (11 ∷ 10 ∷ 9 ∷ 8 ∷ 7 ∷ 6 ∷ 5 ∷ 4 ∷ 3 ∷ 2 ∷ []) (λ l. ltb 11 l) refl n c.in_default.in_default-own.rest (le-ltb 11 (length n) (omega arith))
