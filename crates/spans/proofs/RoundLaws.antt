-- There and back: a word that is made in the other form gives the same word again.
use Rattle.std.specs.Prelude.{Ok}
use mathlib.Core.Path.{◌≡◌, ◌∙◌}
use Prim.Native.Nat.{ℕ, ◌/◌, ◌%◌, ◌≤◌}
use native.Mathlib.Omega.{arith}
use Rattle.lent.specs.Sizes.{span_word, span_offset, span_length}
use Rattle.lent.proofs.SpanLaws.{span_offset_lem, span_length_lem}
use Rattle.spans.specs.Conversion.{old_base, old_word, half_most, from_old, to_old}
use Rattle.spans.proofs.ConversionLaws.{both_low, low_both, made_near, made_word}

-- an old word tells its halves
module _ (o l : ℕ) (h : l ≤ half_most) where
  pub old_offset : old_word o l / old_base ≡ o
  unfolding old_word
  old_offset = omega arith

  pub old_length : old_word o l % old_base ≡ l
  unfolding old_word
  old_length = omega arith

-- and each word is its two halves
pub span_whole : (w : ℕ) → span_word (span_offset w) (span_length w) ≡ w
unfolding span_word span_offset span_length
span_whole w = omega arith

pub old_whole : (w : ℕ) → old_word (w / old_base) (w % old_base) ≡ w
unfolding old_word
old_whole w = omega arith

-- offset and length in both forms
module _ (o l : ℕ) (n : o ≤ half_most) (m : l ≤ half_most) where
  pub old_is : from_old (old_word o l) ≡ Ok (span_word o l)
  old_is = rw (old_offset o l m, old_length o l m) (made_near o l span_word (low_both o l n m))

  pub new_is : to_old (span_word o l) ≡ Ok (old_word o l)
  new_is = rw (span_offset_lem o l (omega arith), span_length_lem o l (omega arith)) (made_near o l old_word (low_both o l n m))

pub there_and_back : (v w : ℕ) → from_old v ≡ Ok w → to_old w ≡ Ok v
there_and_back v w e =
    let x = made_word (v / old_base) (v % old_base) span_word w e in
    let b = both_low (v / old_base) (v % old_base) x.0 in
    rw x.1 (new_is (v / old_base) (v % old_base) b.0 b.1 ∙ rw (old_whole v))

pub back_and_there : (v w : ℕ) → to_old w ≡ Ok v → from_old v ≡ Ok w
back_and_there v w e =
    let x = made_word (span_offset w) (span_length w) old_word v e in
    let b = both_low (span_offset w) (span_length w) x.0 in
    rw x.1 (old_is (span_offset w) (span_length w) b.0 b.1 ∙ rw (span_whole w))
