-- What is stored after what was written.
use mathlib.Core.Path.{◌≡◌, ◌∙◌, refl, sym, ap}
use mathlib.Core.List.{List, [], ◌∷◌, ◌++◌}
use Prim.Native.Nat.{ℕ, ◌+◌, ◌*◌}
use native.Mathlib.Omega.{arith}
use lib.ListN.{length, length-append}
use Rattle.lent.specs.Sizes.{variable_words}
use Rattle.lent.specs.Buffers.{stored, stored_each, joined}
use Rattle.lent.specs.Layout.{texts_of, each_text, records_of}
use Rattle.lent.proofs.BufferLaws.{each_more, each_length}
use Rattle.lent.proofs.LayoutLaws.{texts_more, each_text_more, texts_joined, records_more, records_joined, words_length, count_more}
use Rattle.variables.specs.Steps.{Wrote}

module _ {A : Type 0} {words : ℕ → A → List ℕ} {text_of : A → List ℕ} {offset place : ℕ} {text text₁ records records₁ : List ℕ} {xs : List A} {used count : ℕ}
    (x : Wrote words text_of offset place text text₁ records records₁ xs used count) where
  pub text_long : length text₁ ≡ length text
  text_long = ap length x.text_laid ∙ each_length text offset (each_text text_of xs)

  pub records_long : length records₁ ≡ length records
  records_long = ap length x.words_laid ∙ each_length records (place * variable_words) (records_of words text_of offset xs)

  -- where the next text goes, and with records of so many words the next record
  pub text_next : used ≡ offset + length (joined (each_text text_of xs))
  text_next = x.used_is ∙ ap (λ (l : List ℕ). offset + length l) (sym (texts_joined text_of xs))

  module _ (wide : (o : ℕ) (y : A) → length (words o y) ≡ variable_words) where
    pub words_next : count * variable_words ≡ place * variable_words + length (joined (records_of words text_of offset xs))
    words_next =
        omega (arith, x.count_is, words_length text_of words variable_words wide offset xs, ap length (records_joined text_of words offset xs))

    -- one more of a list
    pub wrote_more : (y : A) (text₂ records₂ t w : List ℕ) (used' : ℕ) → t ≡ text_of y → w ≡ words used y → used' ≡ used + length t
        → text₂ ≡ stored text₁ used t → records₂ ≡ stored records₁ (count * variable_words) w
        → Wrote words text_of offset place text text₂ records records₂ (xs ++ (y ∷ [])) used' (count + 1)
    wrote_more y text₂ records₂ t w used' a b c d e =
        let l = texts_more text_of xs y in
        record {
          used_is = omega (arith, x.used_is, ap length a, ap length l, length-append (texts_of text_of xs) (text_of y));
          count_is = omega (arith, x.count_is, count_more xs y);
          text_laid = d ∙ rw (x.text_laid, text_next, a, each_text_more) (sym (each_more text offset (each_text text_of xs) (text_of y)));
          words_laid = e ∙ rw (x.words_laid, words_next, b, x.used_is, records_more) (sym (each_more records (place * variable_words) (records_of words text_of offset xs) (words (offset + length (texts_of text_of xs)) y)));
        }

pub wrote_none : {A : Type 0} (words : ℕ → A → List ℕ) (text_of : A → List ℕ) (offset place : ℕ) (text records : List ℕ)
    → Wrote words text_of offset place text text records records [] offset place
unfolding texts_of each_text records_of stored_each
wrote_none words text_of offset place text records = record { used_is = omega arith; count_is = omega arith; text_laid = refl; words_laid = refl }
