-- The rows of a name's length cover all rows that it can be.
use mathlib.Core.Path.{refl}
use mathlib.Core.List.{[], ◌∷◌}
use native.Mathlib.Omega.{arith}
use lib.ListN.{length}
use lib.Dec.{leb}
use borrow.Author.Tests.{le-leb}
use Rattle.ascii.specs.Text.{bytes}
use Rattle.names.proofs.Tests.{every}
use Rattle.single_action.specs.Table.{rows}
use Rattle.single_action.proofs.RowLaws.{member, covers, between, is_between, placed_by}
use Rattle.single_action.proofs.finding.row_of.Goals as goal

pub returns-then-n-lt4 : goal.returns-then-n-lt4
unfolding every covers member rows bytes
returns-then-n-lt4 c = placed_by (between 0 3) (13 ∷ 12 ∷ 9 ∷ 28 ∷ 15 ∷ 22 ∷ 14 ∷ []) c.args.name.now refl (is_between 0 3 (length c.args.name.now) (omega arith) (omega arith)) _ c.up_to_three.ensures

pub returns-then-n-lt5 : goal.returns-then-n-lt5
unfolding every covers member rows bytes
returns-then-n-lt5 c = placed_by (between 4 4) (2 ∷ 0 ∷ 4 ∷ 7 ∷ 35 ∷ []) c.args.name.now refl (is_between 4 4 (length c.args.name.now) (omega arith) (omega arith)) _ c.of_four.ensures

pub returns-then-n-lt6 : goal.returns-then-n-lt6
unfolding every covers member rows bytes
returns-then-n-lt6 c = placed_by (between 5 5) (10 ∷ 1 ∷ 23 ∷ 6 ∷ 3 ∷ 38 ∷ 39 ∷ 40 ∷ []) c.args.name.now refl (is_between 5 5 (length c.args.name.now) (omega arith) (omega arith)) _ c.of_five.ensures

pub returns-then-n-lt8 : goal.returns-then-n-lt8
unfolding every covers member rows bytes
returns-then-n-lt8 c = placed_by (between 6 7) (20 ∷ 21 ∷ 18 ∷ 19 ∷ 29 ∷ 36 ∷ 37 ∷ 30 ∷ 31 ∷ []) c.args.name.now refl (is_between 6 7 (length c.args.name.now) (omega arith) (omega arith)) _ c.six_or_seven.ensures

pub returns-then-n-lt9 : goal.returns-then-n-lt9
unfolding every covers member rows bytes
returns-then-n-lt9 c = placed_by (between 8 8) (11 ∷ 24 ∷ 16 ∷ 17 ∷ 5 ∷ []) c.args.name.now refl (is_between 8 8 (length c.args.name.now) (omega arith) (omega arith)) _ c.of_eight.ensures

pub returns : goal.returns
unfolding every covers member rows bytes
returns c = placed_by (leb 9) (25 ∷ 8 ∷ 34 ∷ 33 ∷ 26 ∷ 27 ∷ 32 ∷ []) c.args.name.now refl (le-leb 9 (length c.args.name.now) (omega arith)) _ c.over_eight.ensures
