-- A word is made exactly where neither half is above what both forms hold.
use Rattle.std.specs.Prelude.{Result, Ok, Err}
use mathlib.Core.Path.{◌≡◌, ◌∙◌, refl, sym, ap}
use mathlib.Core.Bool.{Bool, true, false}
use mathlib.Core.Logic.{◌↔◌}
use Prim.Native.Nat.{ℕ, ◌≤◌}
use native.Mathlib.Omega.{arith}
use lib.Dec.{leb}
use borrow.Author.Tests.{le-leb, lt-leb, leb-true, leb-false}
use Rattle.ascii.specs.Choice.{and, bit}
use Rattle.ascii.proofs.SameLaws.{and_left, and_right}
use Rattle.spans.specs.Conversion.{TooFar, too_far, half_most, in_both, made, Far, far, long}

-- A word is no refusal, and one word is not two.
apart : (w : ℕ) → Ok w ≡ Err too_far → ⊥
apart w e = cc

word_in : Result ℕ TooFar → ℕ
word_in (Ok w) = w
word_in (Err e) = 0

module _ (offset len : ℕ) where
  pub both_low : in_both offset len ≡ true → (offset ≤ half_most) × (len ≤ half_most)
  unfolding in_both
  both_low e = (leb-true _ _ (and_left (leb offset half_most) (leb len half_most) e), leb-true _ _ (and_right (leb offset half_most) (leb len half_most) e))

  pub low_both : offset ≤ half_most → len ≤ half_most → in_both offset len ≡ true
  unfolding in_both
  low_both n m = rw (le-leb offset half_most n, le-leb len half_most m)

  both_far : (t u : Bool) → leb offset half_most ≡ t → leb len half_most ≡ u → and t u ≡ false → Far offset len
  both_far false u e d f = far (leb-false offset half_most e)
  both_far true false e d f = long (leb-false len half_most d)
  both_far true true e d f = absurd (omega (arith, ap bit f))

  pub far_both : Far offset len → in_both offset len ≡ false
  unfolding in_both
  far_both (far h) = rw (lt-leb offset half_most h)
  far_both (long h) = go (leb offset half_most)
    where
      go : (t : Bool) → and t (leb len half_most) ≡ false
      go true = lt-leb len half_most h
      go false = refl

  module _ (form : ℕ → ℕ → ℕ) where
    pub made_near : in_both offset len ≡ true → made form offset len ≡ Ok (form offset len)
    unfolding made
    made_near e = rw e

    pub made_far : in_both offset len ≡ false → made form offset len ≡ Err too_far
    unfolding made
    made_far e = rw e

    -- what a word that was made says
    pub made_word : (w : ℕ) → made form offset len ≡ Ok w → (in_both offset len ≡ true) × (w ≡ form offset len)
    unfolding word_in
    made_word w = go (in_both offset len) refl
      where
        go : (t : Bool) → in_both offset len ≡ t → made form offset len ≡ Ok w → (in_both offset len ≡ true) × (w ≡ form offset len)
        go true e d = (e, ap word_in (sym d ∙ made_near e))
        go false e d = absurd (apart w (sym d ∙ made_far e))

    -- and when none was
    pub made_refuses : (made form offset len ≡ Err too_far) ↔ Far offset len
    unfolding in_both
    made_refuses = (go (in_both offset len) refl, λ x. made_far (far_both x))
      where
        go : (t : Bool) → in_both offset len ≡ t → made form offset len ≡ Err too_far → Far offset len
        go true e d = absurd (apart (form offset len) (sym (made_near e) ∙ d))
        go false e d = both_far (leb offset half_most) (leb len half_most) refl refl e
