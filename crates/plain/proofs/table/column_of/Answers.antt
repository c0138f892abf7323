-- The lent list is that of the definitions, a digit for each byte.
use mathlib.Core.Path.{◌≡◌, ap, ◌∙◌}
use mathlib.Core.List.{List}
use Prim.Native.Nat.{ℕ, ◌+◌, ◌<◌}
use native.Mathlib.Omega.{arith}
use lib.ListN.{get_or}
use Rattle.plain.specs.Table.{class_of}
use Rattle.plain.specs.Coding.{class_code, column_digits}
use Rattle.plain.proofs.TableLaws.{class_is}
use borrow.Author.Rules.{rules}
use Rattle.plain.proofs.table.column_of.Goals as goal

read_is : (l : List ℕ) (b : ℕ) → l ≡ column_digits → b < 256 → get_or l b 0 ≡ class_code (class_of b) + 48
read_is l b e h = ap (λ (i : List ℕ). get_or i b 0) e ∙ class_is b h

pub overflow_sub-columns : goal.overflow_sub-columns
overflow_sub-columns c = rw c.from.ensures (omega (arith, read_is c.args.columns.now c.args.b c.requires (search rules)))

pub returns : goal.returns
returns c = c.from-2.ensures ∙ rw (c.from.ensures, read_is c.args.columns.now c.args.b c.requires (search rules)) (omega arith)
