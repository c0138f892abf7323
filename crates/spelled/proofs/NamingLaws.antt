-- The code's constants are columns by code: names in rows of 16 bytes, their lengths, and numbered rules.
use mathlib.Core.Path.{◌≡◌, ◌∙◌, refl, sym, ap}
use mathlib.Core.Bool.{Bool, true}
use mathlib.Core.List.{List, [], ◌∷◌, ◌++◌, map}
use Prim.Native.Nat.{ℕ, ◌+◌, ◌*◌, ◌-◌, ◌<◌, ◌≤◌}
use native.Mathlib.Omega.{arith}
use lib.ListN.{length, take, drop, get_or, replicate}
use lib.Dec.{eqb, leb}
use mir.Syntax.{w64}
use mir.Val.{Fits}
use borrow.Author.Tests.{leb-true, eqb-true}
use Rattle.ascii.specs.Text.{bytes}
use Rattle.ascii.specs.Fold.{lower, same}
use Rattle.ascii.proofs.SameLaws.{same_true}
use Rattle.names.proofs.Tests.{every, at}
use Rattle.names.proofs.TableLaws.{get_d_map}
use Rattle.single_action.specs.declared.naming.Rule.{Rule}
use Rattle.single_action.specs.declared.naming.Rule.TheVariants.{Plain as plain}
use Rattle.single_action.specs.Table.{rows, rule_of}
use Rattle.spelled.specs.Spelling.{coded}
use Rattle.spelled.specs.Steps.{name_for, rule_for}

-- the codes, and the columns as the code holds them
unfoldable pub codes : List ℕ
codes =
    0 ∷ 1 ∷ 2 ∷ 3 ∷ 4 ∷ 5 ∷ 6 ∷ 7 ∷ 8 ∷ 9 ∷ 10 ∷ 11 ∷ 12 ∷ 13 ∷ 14 ∷ 15 ∷ 16 ∷ 17 ∷ 18 ∷ 19 ∷ 20 ∷ 21 ∷ 22 ∷ 23 ∷ 24 ∷ 25 ∷ 26 ∷ 27 ∷ 28 ∷ 29 ∷ 30 ∷ 31 ∷ 32 ∷ []

unfoldable pub shelves_of : List ℕ → List ℕ
shelves_of [] = []
shelves_of (k ∷ ks) = (name_for k ++ replicate (16 - length (name_for k)) 0) ++ shelves_of ks

abbrev pub shelves : List ℕ
shelves = shelves_of codes

unfoldable pub lengths : List ℕ
lengths =
    0 ∷ 4 ∷ 5 ∷ 4 ∷ 5 ∷ 4 ∷ 8 ∷ 5 ∷ 4 ∷ 9 ∷ 10 ∷ 2 ∷ 5 ∷ 8 ∷ 3 ∷ 3 ∷ 3 ∷ 3 ∷ 8 ∷ 8 ∷ 7 ∷ 6 ∷ 6 ∷ 7 ∷ 7 ∷ 9 ∷ 3 ∷ 5 ∷ 8 ∷ 10 ∷ 15 ∷ 3 ∷ 1 ∷ []

unfoldable pub rule_numbers : List ℕ
rule_numbers =
    0 ∷ 0 ∷ 0 ∷ 0 ∷ 0 ∷ 0 ∷ 1 ∷ 0 ∷ 5 ∷ 1 ∷ 0 ∷ 6 ∷ 3 ∷ 7 ∷ 2 ∷ 2 ∷ 2 ∷ 2 ∷ 3 ∷ 3 ∷ 2 ∷ 4 ∷ 10 ∷ 0 ∷ 8 ∷ 9 ∷ 0 ∷ 0 ∷ 0 ∷ 0 ∷ 0 ∷ 8 ∷ 1 ∷ []

-- ---- each is one computed test

rules_are : map rule_of rule_numbers ≡ map rule_for codes
unfolding rule_numbers codes rows rule_of rule_for coded
rules_are = refl

rules_count : length rule_numbers ≡ 33
unfolding rule_numbers
rules_count = refl

codes_count : length codes ≡ 33
unfolding codes
codes_count = refl

counted : ℕ → Bool
counted k = eqb (get_or codes k 0) k

all_counted : every counted 33 ≡ true
unfolding every counted codes
all_counted = refl

shelf : ℕ → Bool
shelf k = same (take (length (name_for k)) (drop (16 * k) shelves)) (name_for k)

all_shelved : every shelf 33 ≡ true
unfolding every shelf codes shelves_of name_for coded rows bytes lower same
all_shelved = refl

long : ℕ → Bool
long k = eqb (get_or lengths k 0) (length (name_for k))

all_long : every long 33 ≡ true
unfolding every long lengths name_for coded rows bytes
all_long = refl

short : ℕ → Bool
short k = leb (get_or lengths k 0) 15

all_short : every short 33 ≡ true
unfolding every short lengths
all_short = refl

shelves_count : length shelves ≡ 528
unfolding codes shelves_of name_for coded rows bytes
shelves_count = refl

module _ (k : ℕ) (h : k ≤ 32) where
  below : k < 33
  below = omega arith

  pub length_at : get_or lengths k 0 ≡ length (name_for k)
  unfolding long
  length_at = eqb-true _ _ (at long 33 all_long k below)

  pub length_short : get_or lengths k 0 ≤ 15
  unfolding short
  length_short = leb-true _ _ (at short 33 all_short k below)

  pub length_fits : Fits w64 (get_or lengths k 0)
  length_fits = omega (arith, length_short)

  pub end_fits : Fits w64 (16 * k + get_or lengths k 0)
  end_fits = omega (arith, length_short)

  pub end_inside : 16 * k + get_or lengths k 0 ≤ length shelves
  end_inside = omega (arith, length_short, shelves_count)

  name_at_lem : take (length (name_for k)) (drop (16 * k) shelves) ≡ name_for k
  unfolding shelf
  name_at_lem = same_true _ _ (at shelf 33 all_shelved k below)

  -- the part of the shelves that the code copies
  pub part_name : take (16 * k + get_or lengths k 0 - 16 * k) (drop (16 * k) shelves) ≡ name_for k
  part_name =
      let e : 16 * k + get_or lengths k 0 - 16 * k ≡ length (name_for k) = omega (arith, length_at) in
      ap (λ (n : ℕ). take n (drop (16 * k) shelves)) e ∙ name_at_lem

  pub name_short : length (name_for k) ≤ 15
  name_short = omega (arith, length_at, length_short)

  code_at : get_or codes k 0 ≡ k
  unfolding counted
  code_at = eqb-true _ _ (at counted 33 all_counted k below)

  pub rule_at_lem : rule_of (get_or rule_numbers k 0) ≡ rule_for k
  rule_at_lem =
      sym (get_d_map rule_of rule_numbers k 0 plain (rw rules_count below))
      ∙ ap (λ (rs : List Rule). get_or rs k plain) rules_are
      ∙ get_d_map rule_for codes k 0 plain (rw codes_count below)
      ∙ ap rule_for code_at
