-- Numbers in decimal: their digits, and that every reader of numbers gives the number back.
use Rattle.std.specs.Prelude.{Ok}
use mathlib.Core.Path.{◌≡◌, ◌∙◌, refl, ap}
use mathlib.Core.Bool.{Bool, true, false}
use mathlib.Core.List.{List, [], ◌∷◌}
use Prim.Native.Nat.{ℕ, zero, suc, ◌+◌, ◌*◌, ◌/◌, ◌%◌, ◌^◌, ◌<◌, ◌-◌}
use native.Mathlib.Omega.{arith}
use lib.ListN.{length}
use lib.Dec.{ltb}
use borrow.Author.Tests.{ltb-true, ltb-false, ne_eqb}
use Rattle.ascii.specs.Choice.{pick}
use Rattle.ascii.specs.Classes.{digit}
use Rattle.ascii.specs.Numbers.{value, all_digits, numeral, bounded, digits_by, after_plus, unsigned_by, complement, minus, signed_word}
use Rattle.ascii.proofs.ByteLaws.{inside}
use Rattle.ascii.proofs.NumberLaws.{digit_bounds, in_bound}
use Rattle.ascii.proofs.TestLaws.{both, joins}
use Rattle.listing.specs.Json.{onto, decimal}
use Rattle.listing.proofs.DigitLaws.{tens}
use Rattle.spelled.specs.Spelling.{signed}

-- ---- its bytes

pub is_digit : (d : ℕ) → d < 10 → digit (48 + d) ≡ true
unfolding digit
is_digit d h = inside 48 57 (48 + d) (omega arith) (omega arith)

pub digits_cons : (b : ℕ) (r : List ℕ) → all_digits (b ∷ r) ≡ true → (digit b ≡ true) × (all_digits r ≡ true)
unfolding all_digits
digits_cons b r h = both (digit b) (all_digits r) h

onto_digits : (k n : ℕ) (r : List ℕ) → all_digits r ≡ true → all_digits (onto k n r) ≡ true
unfolding onto all_digits
onto_digits zero n r h = h
onto_digits (suc k) n r h = go (ltb n 10) refl (onto_digits k (n / 10) ((48 + n % 10) ∷ r))
  where
    front : (d : ℕ) → d < 10 → all_digits ((48 + d) ∷ r) ≡ true
    front d g = joins (is_digit d g) h

    go : (t : Bool) → ltb n 10 ≡ t → (all_digits ((48 + n % 10) ∷ r) ≡ true → all_digits (onto k (n / 10) ((48 + n % 10) ∷ r)) ≡ true)
        → all_digits (pick t ((48 + n) ∷ r) (onto k (n / 10) ((48 + n % 10) ∷ r))) ≡ true
    go true e ih = front n (ltb-true n 10 e)
    go false e ih = ih (front (n % 10) (omega arith))

pub decimal_digits : (n : ℕ) → all_digits (decimal n) ≡ true
unfolding decimal all_digits
decimal_digits n = onto_digits 20 n [] refl

onto_some : (k n b : ℕ) (r : List ℕ) → 0 < length (onto k n (b ∷ r))
unfolding onto
onto_some zero n b r = omega arith
onto_some (suc k) n b r = go (ltb n 10) (onto_some k (n / 10) (48 + n % 10) (b ∷ r))
  where
    go : (t : Bool) → 0 < length (onto k (n / 10) ((48 + n % 10) ∷ b ∷ r)) → 0 < length (pick t ((48 + n) ∷ b ∷ r) (onto k (n / 10) ((48 + n % 10) ∷ b ∷ r)))
    go true h = omega arith
    go false h = h

pub decimal_some : (n : ℕ) → 0 < length (decimal n)
unfolding decimal onto
decimal_some n = go (ltb n 10) (onto_some 19 (n / 10) (48 + n % 10) [])
  where
    go : (t : Bool) → 0 < length (onto 19 (n / 10) ((48 + n % 10) ∷ [])) → 0 < length (pick t ((48 + n) ∷ []) (onto 19 (n / 10) ((48 + n % 10) ∷ [])))
    go true h = omega arith
    go false h = h

-- ---- its value

onto_value : (k n : ℕ) (r : List ℕ) → n < tens k → value 0 (onto k n r) ≡ value n r
unfolding onto tens value
onto_value zero n r h = let e : n ≡ 0 = omega arith in rw e
onto_value (suc k) n r h = go (ltb n 10) (onto_value k (n / 10) ((48 + n % 10) ∷ r))
  where
    go : (t : Bool) → (n / 10 < tens k → value 0 (onto k (n / 10) ((48 + n % 10) ∷ r)) ≡ value (n / 10) ((48 + n % 10) ∷ r))
        → value 0 (pick t ((48 + n) ∷ r) (onto k (n / 10) ((48 + n % 10) ∷ r))) ≡ value n r
    go true ih = let d : 0 * 10 + (48 + n - 48) ≡ n = omega arith in ap (λ (m : ℕ). value m r) d
    go false ih =
        let d : n / 10 * 10 + (48 + n % 10 - 48) ≡ n = omega arith in
        ih (omega (arith, h)) ∙ ap (λ (m : ℕ). value m r) d

pub decimal_value : (n : ℕ) → n < 100000000000000000000 → value 0 (decimal n) ≡ n
unfolding decimal tens value
decimal_value n h = onto_value 20 n [] (omega arith)

module _ (s : List ℕ) (h : 0 < length s) (d : all_digits s ≡ true) where
  is_numeral : numeral s ≡ true
  is_numeral = go s h d
    where
      go : (s : List ℕ) → 0 < length s → all_digits s ≡ true → numeral s ≡ true
      go [] h d = absurd (omega arith)
      go (b ∷ r) h d = d

  pub digits_read : (most : ℕ) → digits_by most s ≡ bounded most (value 0 s)
  unfolding digits_by
  digits_read most = rw is_numeral

  pub digits_unsigned : (most : ℕ) → unsigned_by most s ≡ digits_by most s
  unfolding unsigned_by
  digits_unsigned most = ap (digits_by most) (go s h d)
    where
      go : (s : List ℕ) → 0 < length s → all_digits s ≡ true → after_plus s ≡ s
      go [] h d = refl
      go (b ∷ r) h d =
          let g = digit_bounds b (digits_cons b r d).0 in
          rw (ne_eqb b 43 (λ e. omega (arith, e, g.0)))

  pub digits_signed : signed_word s ≡ unsigned_by (2 ^ 63 - 1) s
  unfolding signed_word
  digits_signed = go s h d
    where
      go : (s : List ℕ) → 0 < length s → all_digits s ≡ true → signed_word s ≡ unsigned_by (2 ^ 63 - 1) s
      go [] h d = absurd (omega arith)
      go (b ∷ r) h d =
          let g = digit_bounds b (digits_cons b r d).0 in
          rw (ne_eqb b 45 (λ e. omega (arith, e, g.0)))

module _ (n : ℕ) (h : n < 100000000000000000000) where
  pub decimal_unsigned : (most : ℕ) → unsigned_by most (decimal n) ≡ bounded most n
  decimal_unsigned most =
      digits_unsigned (decimal n) (decimal_some n) (decimal_digits n) most
      ∙ digits_read (decimal n) (decimal_some n) (decimal_digits n) most
      ∙ ap (bounded most) (decimal_value n h)

  pub decimal_signed : signed_word (decimal n) ≡ bounded (2 ^ 63 - 1) n
  decimal_signed = digits_signed (decimal n) (decimal_some n) (decimal_digits n) ∙ decimal_unsigned (2 ^ 63 - 1)

  pub decimal_minus : signed_word (45 ∷ decimal n) ≡ minus (bounded (2 ^ 63) n)
  unfolding signed_word
  decimal_minus = ap minus (digits_read (decimal n) (decimal_some n) (decimal_digits n) (2 ^ 63) ∙ ap (bounded (2 ^ 63)) (decimal_value n h))

-- a signed amount
pub signed_read : (n : ℕ) → n < 2 ^ 64 → signed_word (signed n) ≡ Ok n
unfolding signed
signed_read n h = go (ltb n (2 ^ 63)) refl
  where
    back : complement (2 ^ 64 - n) ≡ n
    back = rw (ne_eqb (2 ^ 64 - n) 0 (λ e. omega (arith, e))) (omega arith)

    go : (t : Bool) → ltb n (2 ^ 63) ≡ t → signed_word (pick t (decimal n) (45 ∷ decimal (2 ^ 64 - n))) ≡ Ok n
    go true e = let l = ltb-true n (2 ^ 63) e in decimal_signed n (omega arith) ∙ in_bound (2 ^ 63 - 1) n (omega arith)
    go false e =
        let l = ltb-false n (2 ^ 63) e in
        decimal_minus (2 ^ 64 - n) (omega arith)
        ∙ ap minus (in_bound (2 ^ 63) (2 ^ 64 - n) (omega arith))
        ∙ ap Ok back
