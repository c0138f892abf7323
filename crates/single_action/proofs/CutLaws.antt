-- A part of a text between two places: parts of it, its first byte, and a split of it by the place that a search finds.
use mathlib.Core.Path.{◌≡◌, ◌∙◌, ap}
use mathlib.Core.Bool.{false}
use mathlib.Core.List.{List, [], ◌∷◌}
use Prim.Native.Nat.{ℕ, suc, ◌+◌, ◌-◌, ◌≤◌, ◌<◌}
use native.Mathlib.Omega.{arith}
use lib.ListN.{length, take, drop, get_or, length-drop}
use lib.Seq.{length-take-le, take-take, take-add, drop_at, drop-drop}
use lib.Dec.{eqb}
use Rattle.ascii.specs.Splits.{whole, halves, split, leads, first_of}
use Rattle.ascii.proofs.ListLaws.{next_byte, rest_is}
use Rattle.ascii.proofs.SplitLaws.{first_fits, split_halves, split_whole}
use Rattle.single_action.specs.Plans.{cut}

-- up to the end
pub cut_end : (s : List ℕ) (f : ℕ) → cut s f (length s) ≡ drop f s
cut_end s f = rest_is s f

-- of a text from a place on
pub cut_shift : (s : List ℕ) (k f p : ℕ) → cut (drop k s) f p ≡ cut s (k + f) (k + p)
cut_shift s k f p =
    let e : p - f ≡ k + p - (k + f) = omega arith in
    ap (take (p - f)) (drop-drop f k s) ∙ ap (λ (n : ℕ). take n (drop (k + f) s)) e

pub cut_none : (s : List ℕ) (f p : ℕ) → p ≤ f → cut s f p ≡ []
cut_none s f p h = let e : p - f ≡ 0 = omega arith in ap (λ (n : ℕ). take n (drop f s)) e

module _ (s : List ℕ) (f p : ℕ) (fits : p ≤ length s) where
  pub cut_length : length (cut s f p) ≡ p - f
  cut_length = length-take-le (p - f) (drop f s) (rw (length-drop f s) (omega arith))

  pub cut_take : (k : ℕ) → f + k ≤ p → take k (cut s f p) ≡ cut s f (f + k)
  cut_take k h =
      let e : k ≡ f + k - f = omega arith in
      take-take k (p - f) (drop f s) (omega arith) ∙ ap (λ (n : ℕ). take n (drop f s)) e

  pub cut_drop : (k : ℕ) → f + k ≤ p → drop k (cut s f p) ≡ cut s (f + k) p
  cut_drop k h =
      let e : p - f ≡ k + (p - (f + k)) = omega arith in
      ap (λ (n : ℕ). drop k (take n (drop f s))) e
      ∙ ap (drop k) (take-add k (p - (f + k)) (drop f s))
      ∙ drop_at (take k (drop f s)) (take (p - (f + k)) (drop k (drop f s))) k (length-take-le k (drop f s) (rw (length-drop f s) (omega arith)))
      ∙ ap (take (p - (f + k))) (drop-drop k f s)

  pub cut_first : f < p → cut s f p ≡ get_or s f 0 ∷ cut s (f + 1) p
  cut_first h =
      let e : p - f ≡ suc (p - (f + 1)) = omega arith in
      ap (λ (n : ℕ). take n (drop f s)) e ∙ ap (take (suc (p - (f + 1)))) (next_byte s f (omega arith))

  pub leads_cut : (m : ℕ) → f < p → leads m (cut s f p) ≡ eqb (get_or s f 0) m
  leads_cut m h = ap (leads m) (cut_first h)

  -- ---- a search

  module _ (m n : ℕ) (e : n ≡ first_of m (cut s f p)) where
    pub found_within : f ≤ p → f + n ≤ p
    found_within o = omega (arith, e, first_fits m (cut s f p), cut_length)

    pub cut_whole : f ≤ p → p ≤ f + n → split m (cut s f p) ≡ whole (cut s f p)
    cut_whole o h = split_whole m (cut s f p) (omega (arith, e, cut_length))

    pub cut_halves : f + n < p → split m (cut s f p) ≡ halves (cut s f (f + n)) (cut s (f + n + 1) p)
    cut_halves h =
        let g : f + (n + 1) ≡ f + n + 1 = omega arith in
        rw (split_halves m (cut s f p) (omega (arith, e, cut_length)), ← e, cut_take n (omega arith), cut_drop (n + 1) (omega arith), g)

pub leads_none : (s : List ℕ) (m f p : ℕ) → p ≤ f → leads m (cut s f p) ≡ false
leads_none s m f p h = ap (leads m) (cut_none s f p h)
