-- The lent list is that of the definitions.
use mathlib.Core.Path.{◌≡◌, refl, ap, ap₂, ◌∙◌}
use mathlib.Core.List.{List}
use Prim.Native.Nat.{ℕ, ◌+◌}
use lib.ListN.{get_or}
use Rattle.plain.specs.Table.{State, Class, cell}
use Rattle.plain.specs.Coding.{code, class_code, encode, cell_numbers}
use Rattle.plain.proofs.TableLaws.{cell_is}
use Rattle.plain.proofs.table.cell_of.Goals as goal

read_is : (l : List ℕ) (i j n : ℕ) (q : State) (k : Class) → l ≡ cell_numbers → i ≡ code q → j ≡ class_code k → n ≡ get_or l (i + j) 0 → n ≡ encode (cell q k)
read_is l i j n q k e f g h = h ∙ ap (λ (v : List ℕ). get_or v (i + j) 0) e ∙ ap₂ (λ (a b : ℕ). get_or cell_numbers (a + b) 0) f g ∙ cell_is q k

pub returns : goal.returns
returns c = λ q k e f. read_is c.args.cells.now c.args.state c.args.column _ q k c.requires.cells_value e f refl
