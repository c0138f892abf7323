-- The code's constants are the table's columns: names in rows of 16 bytes, lengths, codes and numbered rules.
use mathlib.Core.Path.{◌≡◌, ◌∙◌, refl, sym, ap}
use mathlib.Core.Bool.{Bool, true}
use mathlib.Core.List.{List, [], ◌∷◌, ◌++◌, map}
use Prim.Native.Nat.{ℕ, ◌+◌, ◌*◌, ◌-◌, ◌<◌, ◌≤◌}
use native.Mathlib.Omega.{arith}
use lib.ListN.{length, take, drop, get_or, replicate, get_or-eq_default}
use mir.Syntax.{w64}
use mir.Val.{Fits}
use lib.Dec.{leb}
use borrow.Author.Tests.{leb-true}
use Rattle.ascii.specs.Text.{bytes}
use Rattle.ascii.specs.Fold.{same}
use Rattle.lent.specs.Buffers.{stored}
use Rattle.lent.proofs.BufferLaws.{stored_none}
use Rattle.names.proofs.Tests.{every, at}
use Rattle.ascii.proofs.SameLaws.{same_true}
use Rattle.names.proofs.TableLaws.{get_d_map}
use Rattle.single_action.specs.Table.{Rule, plain, Row, row, rows, row_at, rule_of}
use Rattle.single_action.proofs.TableLaws.{rows_count}

-- the columns, as the code holds them
unfoldable pub shelves : List Row → List ℕ
shelves [] = []
shelves (r ∷ rs) = (r.name ++ replicate (16 - length r.name) 0) ++ shelves rs

abbrev pub lengths : List ℕ
lengths = map (λ (r : Row). length r.name) rows

abbrev pub codes : List ℕ
codes = map (λ (r : Row). r.code) rows

unfoldable pub rule_numbers : List ℕ
rule_numbers = 0 ∷ 0 ∷ 0 ∷ 0 ∷ 0 ∷ 1 ∷ 0 ∷ 5 ∷ 1 ∷ 6 ∷ 3 ∷ 7 ∷ 2 ∷ 2 ∷ 2 ∷ 2 ∷ 3 ∷ 3 ∷ 2 ∷ 4 ∷ 10 ∷ 0 ∷ 0 ∷ 0 ∷ 0 ∷ 0 ∷ 0 ∷ 0 ∷ 8 ∷ 8 ∷ 0 ∷ 0 ∷ 0 ∷ 9 ∷ 0 ∷ 0 ∷ 0 ∷ 0 ∷ 0 ∷ 0 ∷ 0 ∷ []

rules_are : map rule_of rule_numbers ≡ map (λ (r : Row). r.rule) rows
unfolding rule_numbers rows rule_of
rules_are = refl

rules_count : length rule_numbers ≡ 41
unfolding rule_numbers
rules_count = refl

shelf : ℕ → Bool
shelf k = same (take (length (row_at k).name) (drop (16 * k) (shelves rows))) (row_at k).name

all_shelved : every shelf 41 ≡ true
unfolding every shelf shelves rows bytes same
all_shelved = refl

short : ℕ → Bool
short k = leb (length (row_at k).name) 15

all_short : every short 41 ≡ true
unfolding every short rows bytes
all_short = refl

pub shelves_count : length (shelves rows) ≡ 656
unfolding shelves rows bytes
shelves_count = refl

module _ (k : ℕ) (h : k < 41) where
  inside : k < length rows
  inside = rw rows_count h

  pub length_at : get_or lengths k 0 ≡ length (row_at k).name
  length_at = get_d_map (λ (r : Row). length r.name) rows k (row "" 0 plain) 0 inside

  pub length_short : length (row_at k).name ≤ 15
  unfolding short
  length_short = leb-true _ _ (at short 41 all_short k h)

  pub code_at : get_or codes k 0 ≡ (row_at k).code
  code_at = get_d_map (λ (r : Row). r.code) rows k (row "" 0 plain) 0 inside

  pub length_fits : Fits w64 (get_or lengths k 0)
  length_fits = omega (arith, length_at, length_short)

  pub end_fits : Fits w64 (16 * k + get_or lengths k 0)
  end_fits = omega (arith, length_at, length_short)

  pub end_inside : 16 * k + get_or lengths k 0 ≤ length (shelves rows)
  end_inside = omega (arith, length_at, length_short, shelves_count)

  pub rule_at_lem : rule_of (get_or rule_numbers k 0) ≡ (row_at k).rule
  rule_at_lem =
      sym (get_d_map rule_of rule_numbers k 0 plain (rw rules_count h))
      ∙ ap (λ (rs : List Rule). get_or rs k plain) rules_are
      ∙ get_d_map (λ (r : Row). r.rule) rows k (row "" 0 plain) plain inside

  pub name_at_lem : take (length (row_at k).name) (drop (16 * k) (shelves rows)) ≡ (row_at k).name
  unfolding shelf
  name_at_lem = same_true _ _ (at shelf 41 all_shelved k h)

-- the part of the shelves that the code copies
abbrev pub part_at : ℕ → ℕ → List ℕ
part_at k n = take (16 * k + n - 16 * k) (drop (16 * k) (shelves rows))

pub part_name : (k : ℕ) → k < 41 → part_at k (get_or lengths k 0) ≡ (row_at k).name
part_name k h =
    let e : 16 * k + get_or lengths k 0 - 16 * k ≡ length (row_at k).name = omega (arith, length_at k h) in
    ap (λ (n : ℕ). take n (drop (16 * k) (shelves rows))) e ∙ name_at_lem k h

-- ---- a row past the table

pub past_name : (k : ℕ) → 41 ≤ k → (row_at k).name ≡ []
unfolding bytes
past_name k h = ap (λ (r : Row). r.name) (get_or-eq_default rows (row "" 0 plain) {n = k} (rw rows_count h))

-- its name is stored, and nothing changes
pub past_stored : (k : ℕ) → 41 ≤ k → (out : List ℕ) → (out ≡ stored out 0 (row_at k).name) × (0 ≡ length (row_at k).name)
past_stored k h out = rw (past_name k h) (sym (stored_none out 0), refl)
