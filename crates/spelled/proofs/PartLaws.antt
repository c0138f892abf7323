-- What is left of a text: stripped by a test, split at a byte, its letters made small.
use mathlib.Core.Path.{◌≡◌, ◌∙◌, refl, sym, ap}
use mathlib.Core.Bool.{Bool, true, false}
use mathlib.Core.List.{List, [], ◌∷◌, ◌++◌}
use Prim.Native.Nat.{ℕ, ◌+◌, ◌<◌}
use native.Mathlib.Omega.{arith}
use lib.Dec.{eqb}
use borrow.Author.Tests.{eqb-true, ne_eqb}
use Rattle.ascii.specs.Choice.{pick}
use Rattle.ascii.specs.Classes.{within}
use Rattle.ascii.specs.Fold.{lower, lowered, same}
use Rattle.ascii.specs.Trim.{strip_start, strip_end, strip_ends, before}
use Rattle.ascii.specs.Splits.{Split, whole, halves, onto, split, leads}
use Rattle.ascii.proofs.ByteLaws.{above, bounds}
use Rattle.ascii.proofs.SameLaws.{same_refl}
use Rattle.ascii.proofs.TestLaws.{or_false}
use Rattle.spelled.specs.Spelling.{has}
use Rattle.spelled.specs.Condition.{first_by, last_by}

-- ---- stripped by a test

module _ (test : ℕ → Bool) where
  start_first : (s : List ℕ) → first_by test (strip_start test s) ≡ false
  unfolding strip_start
  start_first [] = refl
  start_first (b ∷ r) = go (test b) refl (start_first r)
    where
      go : (t : Bool) → test b ≡ t → first_by test (strip_start test r) ≡ false → first_by test (pick t (strip_start test r) (b ∷ r)) ≡ false
      go true e ih = ih
      go false e ih = e

  end_first : (s : List ℕ) → first_by test s ≡ false → first_by test (strip_end test s) ≡ false
  unfolding strip_end
  end_first [] h = refl
  end_first (b ∷ r) h = go (strip_end test r)
    where
      one : (t : Bool) → first_by test (pick t [] (b ∷ [])) ≡ false
      one true = refl
      one false = h

      go : (l : List ℕ) → first_by test (before test b l) ≡ false
      go [] = one (test b)
      go (x ∷ l) = h

  pub end_last : (s : List ℕ) → last_by test false (strip_end test s) ≡ false
  unfolding strip_end last_by
  end_last [] = refl
  end_last (b ∷ r) = go (strip_end test r) (end_last r)
    where
      one : (t : Bool) → test b ≡ t → last_by test false (pick t [] (b ∷ [])) ≡ false
      one true e = refl
      one false e = e

      go : (l : List ℕ) → last_by test false l ≡ false → last_by test false (before test b l) ≡ false
      go [] ih = one (test b) refl
      go (x ∷ l) ih = ih

  pub ends_first : (s : List ℕ) → first_by test (strip_ends test s) ≡ false
  ends_first s = end_first (strip_start test s) (start_first s)

-- ---- a split

abbrev pub join_by : ℕ → Split → List ℕ
join_by m (whole a) = a
join_by m (halves a b) = a ++ (m ∷ b)

onto_join : (m b : ℕ) (x : Split) → join_by m (onto b x) ≡ b ∷ join_by m x
onto_join m b (whole a) = refl
onto_join m b (halves a c) = refl

-- the halves, joined again
pub split_join : (m : ℕ) (s : List ℕ) → join_by m (split m s) ≡ s
unfolding split
split_join m [] = refl
split_join m (b ∷ r) = go (eqb b m) refl (split_join m r)
  where
    go : (t : Bool) → eqb b m ≡ t → join_by m (split m r) ≡ r → join_by m (pick t (halves [] r) (onto b (split m r))) ≡ b ∷ r
    go true e ih = ap (λ (c : ℕ). c ∷ r) (sym (eqb-true b m e))
    go false e ih = onto_join m b (split m r) ∙ ap (λ (l : List ℕ). b ∷ l) ih

abbrev pub first_half : Split → List ℕ
first_half (whole a) = a
first_half (halves a b) = a

onto_first : (b : ℕ) (x : Split) → first_half (onto b x) ≡ b ∷ first_half x
onto_first b (whole a) = refl
onto_first b (halves a c) = refl

-- the first has not the byte that it is split at
pub split_free : (m : ℕ) (s : List ℕ) → has m (first_half (split m s)) ≡ false
unfolding split has
split_free m [] = refl
split_free m (b ∷ r) = go (eqb b m) refl (split_free m r)
  where
    go : (t : Bool) → eqb b m ≡ t → has m (first_half (split m r)) ≡ false → has m (first_half (pick t (halves [] r) (onto b (split m r)))) ≡ false
    go true e ih = refl
    go false e ih = rw (onto_first b (split m r), e) ih

pub has_parts : (m : ℕ) (a b : List ℕ) → has m (a ++ b) ≡ false → (has m a ≡ false) × (has m b ≡ false)
unfolding has
has_parts m [] b h = (refl, h)
has_parts m (x ∷ a) b h =
    let n = or_false (eqb x m) (has m (a ++ b)) h in
    let p = has_parts m a b n.1 in
    (rw (n.0, p.0), p.1)

pub leads_part : (m : ℕ) (a b : List ℕ) → leads m (a ++ b) ≡ false → leads m a ≡ false
leads_part m [] b h = refl
leads_part m (x ∷ a) b h = h

-- ---- small letters

lower_same : (m b : ℕ) → m < 65 → eqb (lower b) m ≡ eqb b m
unfolding lower
lower_same m b h = go (within 65 90 b) refl
  where
    go : (t : Bool) → within 65 90 b ≡ t → eqb (pick t (b + 32) b) m ≡ eqb b m
    go true e = let g = bounds 65 90 b e in rw (ne_eqb (b + 32) m (λ e. omega (arith, e, g.0)), ne_eqb b m (λ e. omega (arith, e, g.0)))
    go false e = refl

pub lowered_has : (m : ℕ) (s : List ℕ) → m < 65 → has m (lowered s) ≡ has m s
unfolding has
lowered_has m [] h = refl
lowered_has m (b ∷ r) h = rw (lower_same m b h, lowered_has m r h)

pub lowered_leads : (m : ℕ) (s : List ℕ) → m < 65 → leads m (lowered s) ≡ leads m s
lowered_leads m [] h = refl
lowered_leads m (b ∷ r) h = lower_same m b h

lower_again : (b : ℕ) → lower (lower b) ≡ lower b
unfolding lower
lower_again b = go (within 65 90 b) refl
  where
    go : (t : Bool) → within 65 90 b ≡ t → pick (within 65 90 (pick t (b + 32) b)) (pick t (b + 32) b + 32) (pick t (b + 32) b) ≡ pick t (b + 32) b
    go true e = let g = bounds 65 90 b e in rw (above 65 90 (b + 32) (omega (arith, g.0)) (omega (arith, g.0)))
    go false e = rw e

lowered_again : (s : List ℕ) → lowered (lowered s) ≡ lowered s
lowered_again [] = refl
lowered_again (b ∷ r) = rw (lower_again b, lowered_again r)

pub lowered_small : (s : List ℕ) → same (lowered (lowered s)) (lowered s) ≡ true
lowered_small s = rw (lowered_again s) (same_refl (lowered s))
