-- The rows with a name of each length are those of the table.
use mathlib.Core.Path.{refl}
use mathlib.Core.List.{[], ◌∷◌}
use native.Mathlib.Omega.{arith}
use lib.ListN.{length}
use lib.Dec.{leb}
use borrow.Author.Tests.{lt-leb}
use Rattle.ascii.specs.Text.{bytes}
use Rattle.ascii.specs.Fold.{lower}
use Rattle.names.specs.Operators.{operators, operator_code}
use Rattle.names.proofs.Tests.{every}
use Rattle.names.proofs.LengthLaws.{covers, none_of}
use Rattle.names.proofs.ShelfLaws.{numbers_of, rows_fit, of_rows, operators_numbered}
use Rattle.names.proofs.operator_rows.of_twelve_and_more.Goals as goal

pub row_among-requires : goal.row_among-requires
unfolding numbers_of operators bytes operator_code
row_among-requires c = record { here = omega arith; fits = rows_fit operators 12 c.requires.rows (omega arith) (omega arith) }

pub row_among-requires-in-14 : goal.row_among-requires-in-14
unfolding numbers_of operators bytes operator_code
row_among-requires-in-14 c = record { here = omega arith; fits = rows_fit operators 14 c.requires.rows (omega arith) (omega arith) }

pub row_among-requires-in-15 : goal.row_among-requires-in-15
unfolding numbers_of operators bytes operator_code
row_among-requires-in-15 c = record { here = omega arith; fits = rows_fit operators 15 c.requires.rows (omega arith) (omega arith) }

pub row_among-requires-in-17 : goal.row_among-requires-in-17
unfolding numbers_of operators bytes operator_code
row_among-requires-in-17 c = record { here = omega arith; fits = rows_fit operators 17 c.requires.rows (omega arith) (omega arith) }

pub row_among-requires-in-18 : goal.row_among-requires-in-18
unfolding numbers_of operators bytes operator_code
row_among-requires-in-18 c = record { here = omega arith; fits = rows_fit operators 18 c.requires.rows (omega arith) (omega arith) }

pub row_among-requires-in-19 : goal.row_among-requires-in-19
unfolding numbers_of operators bytes operator_code
row_among-requires-in-19 c = record { here = omega arith; fits = rows_fit operators 19 c.requires.rows (omega arith) (omega arith) }

pub row_among-requires-in-20 : goal.row_among-requires-in-20
unfolding numbers_of operators bytes operator_code
row_among-requires-in-20 c = record { here = omega arith; fits = rows_fit operators 20 c.requires.rows (omega arith) (omega arith) }

pub returns-in-12 : goal.returns-in-12
unfolding numbers_of operators bytes operator_code
returns-in-12 c = of_rows operators 12 c.requires.rows operators_numbered c.row_among.ensures (omega arith)

pub returns-in-14 : goal.returns-in-14
unfolding numbers_of operators bytes operator_code
returns-in-14 c = of_rows operators 14 c.requires.rows operators_numbered c.row_among-in-14.ensures (omega arith)

pub returns-in-15 : goal.returns-in-15
unfolding numbers_of operators bytes operator_code
returns-in-15 c = of_rows operators 15 c.requires.rows operators_numbered c.row_among-in-15.ensures (omega arith)

pub returns-in-17 : goal.returns-in-17
unfolding numbers_of operators bytes operator_code
returns-in-17 c = of_rows operators 17 c.requires.rows operators_numbered c.row_among-in-17.ensures (omega arith)

pub returns-in-18 : goal.returns-in-18
unfolding numbers_of operators bytes operator_code
returns-in-18 c = of_rows operators 18 c.requires.rows operators_numbered c.row_among-in-18.ensures (omega arith)

pub returns-in-19 : goal.returns-in-19
unfolding numbers_of operators bytes operator_code
returns-in-19 c = of_rows operators 19 c.requires.rows operators_numbered c.row_among-in-19.ensures (omega arith)

pub returns-in-20 : goal.returns-in-20
unfolding numbers_of operators bytes operator_code
returns-in-20 c = of_rows operators 20 c.requires.rows operators_numbered c.row_among-in-20.ensures (omega arith)

-- no name has another length
pub returns-in_default : goal.returns-in_default
unfolding covers every operators bytes operator_code
returns-in_default c =
    let n = c.args.name.now in
    none_of lower operators (20 ∷ 19 ∷ 18 ∷ 17 ∷ 15 ∷ 14 ∷ 12 ∷ []) (λ l. leb l 11) refl n c.in_default.in_default-own.rest (lt-leb (length n) 11 (omega arith))
