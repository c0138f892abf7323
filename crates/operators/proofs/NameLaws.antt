-- A name's length by a loop, what follows the name, and the first byte by a test.
use mathlib.Core.Path.{◌≡◌, refl}
use mathlib.Core.Bool.{Bool, true, false}
use mathlib.Core.List.{List, [], ◌∷◌}
use Prim.Native.Nat.{ℕ, ◌+◌, ◌≤◌, ◌<◌}
use native.Mathlib.Numerals.{one-add}
use native.Mathlib.Omega.{arith}
use lib.ListN.{length, drop, get_or}
use lib.Dec.{eqb}
use borrow.Author.Tests.{ne_eqb}
use Rattle.ascii.specs.Choice.{pick, or}
use Rattle.ascii.specs.Classes.{within, white, operator_name_end}
use Rattle.ascii.specs.Trim.{leading, leading_white}
use Rattle.ascii.proofs.ByteLaws.{inside, above, bounds}
use Rattle.ascii.proofs.TrimLaws.{leading_more, leading_stop}
use Rattle.operators.specs.Operators.{starts, in_name, name_length}

-- ---- the name's length

module _ (s : List ℕ) (i : ℕ) (h : i < length s) where
  pub name_more : operator_name_end (get_or s i 0) ≡ false → name_length (drop i s) ≡ 1 + name_length (drop (i + 1) s)
  name_more w = leading_more in_name s i h (rw w)

  pub name_stop : operator_name_end (get_or s i 0) ≡ true → name_length (drop i s) ≡ 0
  name_stop w = leading_stop in_name s i h (rw w)

pub past_blank : (b : ℕ) → 32 < b → operator_name_end b ≡ false
unfolding operator_name_end
past_blank b h = simp (above 9 10 b (omega arith) (omega arith), above 12 13 b (omega arith) (omega arith), ne_eqb b 32 (omega arith))

-- past a name nothing of it is left
pub name_ended : (s : List ℕ) → name_length (drop (name_length s) s) ≡ 0
unfolding leading
name_ended [] = refl
name_ended (b ∷ r) = go (in_name b) refl (name_ended r)
  where
    go : (t : Bool) → in_name b ≡ t → leading in_name (drop (leading in_name r) r) ≡ 0
        → leading in_name (drop (pick t (1 + leading in_name r) 0) (b ∷ r)) ≡ 0
    go true e h = rw one-add h
    go false e h = rw e

-- ---- what ends a name is white

ender_white : (b : ℕ) → operator_name_end b ≡ true → white b ≡ true
unfolding operator_name_end white
ender_white b e = go (within 9 10 b) (within 12 13 b) (eqb b 32) refl refl refl e
  where
    last : (x : Bool) → or x true ≡ true
    last true = refl
    last false = refl

    go : (x y z : Bool) → within 9 10 b ≡ x → within 12 13 b ≡ y → eqb b 32 ≡ z → or x (or y z) ≡ true → or (within 9 13 b) (eqb b 32) ≡ true
    go true y z p q r e = rw (inside 9 13 b (bounds 9 10 b p).0 (omega (arith, (bounds 9 10 b p).1)))
    go false true z p q r e = rw (inside 9 13 b (omega (arith, (bounds 12 13 b q).0)) (bounds 12 13 b q).1)
    go false false true p q r e = rw r (last (within 9 13 b))
    go false false false p q r e = let z : ◌≡◌ {A = ℕ} 0 1 = cc in absurd (omega arith)

first_ends : (b : ℕ) (r : List ℕ) → name_length (b ∷ r) ≡ 0 → operator_name_end b ≡ true
unfolding leading
first_ends b r e = go (operator_name_end b) refl e
  where
    go : (t : Bool) → operator_name_end b ≡ t → pick (pick t false true) (1 + leading in_name r) 0 ≡ 0 → operator_name_end b ≡ true
    go true h e = h
    go false h e = absurd (omega arith)

pub gap_more : (s : List ℕ) → name_length s ≡ 0 → (length s ≡ 0 → ⊥) → leading_white s ≡ 1 + leading_white (drop 1 s)
unfolding leading
gap_more [] e h = absurd (h refl)
gap_more (b ∷ r) e h = rw (ender_white b (first_ends b r e))

-- ---- the first byte

pub starts_none : (b : ℕ) (s : List ℕ) → length s ≡ 0 → starts b s ≡ false
starts_none b [] h = refl
starts_none b (x ∷ r) h = absurd (omega arith)

pub starts_first : (b : ℕ) (s : List ℕ) → (length s ≡ 0 → ⊥) → starts b s ≡ eqb (get_or s 0 0) b
starts_first b [] h = absurd (h refl)
starts_first b (x ∷ r) h = refl

-- a byte that stands first is one of at least one
pub starts_some : (b : ℕ) (s : List ℕ) → starts b s ≡ true → 1 ≤ length s
starts_some b [] e = let z : ◌≡◌ {A = ℕ} 0 1 = cc in absurd (omega arith)
starts_some b (x ∷ r) e = omega arith
