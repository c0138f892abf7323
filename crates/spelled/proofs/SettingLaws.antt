-- A setvar's value by its kind, and a setvar as the code puts it, piece by piece.
use mathlib.Core.Path.{◌≡◌, refl}
use mathlib.Core.Bool.{Bool, true, false}
use mathlib.Core.List.{List, [], ◌∷◌, ◌++◌}
use Prim.Native.Nat.{ℕ, ◌+◌, ◌-◌, ◌≤◌, ◌<◌}
use native.Mathlib.Omega.{arith}
use lib.ListN.{length, length-append}
use lib.Dec.{eqb, leb, ltb}
use borrow.Author.Tests.{ne_eqb, eqb-false, leb-true}
use Rattle.ascii.specs.Choice.{pick}
use Rattle.ascii.specs.Text.{bytes}
use Rattle.ascii.specs.Fold.{same}
use Rattle.ascii.proofs.SameLaws.{and_left, and_right}
use Rattle.lent.specs.Sizes.{span_base}
use Rattle.listing.specs.Json.{decimal}
use Rattle.listing.specs.Steps.{Puts}
use Rattle.listing.proofs.DigitLaws.{decimal_length}
use Rattle.listing.proofs.PutLaws.{put_more}
use Rattle.records.specs.Codes.{is_kind}
use Rattle.single_action.specs.Plans.{cut}
use Rattle.single_action.proofs.CutLaws.{cut_length}
use Rattle.single_action.specs.Setvar.{SetValue, text, int, increment, decrement, delete, macro}
use Rattle.spelled.specs.Spelling.{signed, value_in, tail, bang, setvar_in, setvar_text}
use Rattle.spelled.specs.Steps.{Placed, entry_action, broad}
use Rattle.spelled.specs.declared.entries.Entry.{Entry}

-- ---- by the kind

past : (k j : ℕ) → j ≤ k → (k ≡ j → ⊥) → j + 1 ≤ k
past k j h n = omega (arith, h, n)

module _ {k : ℕ} (n : ℕ) (t : List ℕ) where
  pub tail_one : k ≡ 1 → same t (49 ∷ []) ≡ true → tail (value_in k n t) ≡ []
  unfolding value_in bytes
  tail_one e s = rw (e, s)

  pub tail_text : k ≡ 1 → same t (49 ∷ []) ≡ false → tail (value_in k n t) ≡ 61 ∷ t
  unfolding value_in bytes
  tail_text e s = rw (e, s)

  pub tail_int : k ≡ 2 → tail (value_in k n t) ≡ 61 ∷ decimal n
  unfolding value_in
  tail_int e = rw e

  pub tail_up : k ≡ 3 → tail (value_in k n t) ≡ 61 ∷ 43 ∷ signed n
  unfolding value_in
  tail_up e = rw e

  pub tail_down : k ≡ 4 → tail (value_in k n t) ≡ 61 ∷ 45 ∷ signed n
  unfolding value_in
  tail_down e = rw e

  pub tail_macro : k ≡ 6 → tail (value_in k n t) ≡ 61 ∷ t
  unfolding value_in
  tail_macro e = rw e

  pub tail_none : (k ≡ 1 → ⊥) → (k ≡ 2 → ⊥) → (k ≡ 3 → ⊥) → (k ≡ 4 → ⊥) → (k ≡ 6 → ⊥) → tail (value_in k n t) ≡ []
  unfolding value_in
  tail_none a b c d e = rw (ne_eqb k 1 a, ne_eqb k 2 b, ne_eqb k 3 c, ne_eqb k 4 d, ne_eqb k 6 e)

  pub bang_delete : k ≡ 5 → bang (value_in k n t) ≡ 33 ∷ []
  unfolding value_in
  bang_delete e = rw e

  -- one of a reader's kinds, and not Delete
  pub bang_none : (k ≡ 5 → ⊥) → is_kind k ≡ true → bang (value_in k n t) ≡ []
  unfolding value_in
  bang_none z h =
      let low : 1 ≤ k = leb-true 1 k (and_left (leb 1 k) (leb k 6) h) in
      let high : k ≤ 6 = leb-true k 6 (and_right (leb 1 k) (leb k 6) h) in
      go (eqb k 1) (eqb k 2) (eqb k 3) (eqb k 4) (eqb k 6)
      (λ a b c d e. seven high (past k 6 (past k 5 (past k 4 (past k 3 (past k 2 (past k 1 low (eqb-false k 1 a)) (eqb-false k 2 b)) (eqb-false k 3 c)) (eqb-false k 4 d)) z) (eqb-false k 6 e)))
    where
      seven : k ≤ 6 → 7 ≤ k → ⊥
      seven a b = omega arith

      go : (p q r s u : Bool) → (p ≡ false → q ≡ false → r ≡ false → s ≡ false → u ≡ false → ⊥)
          → bang (pick p (text t) (pick q (int n) (pick r (increment n) (pick s (decrement n) (pick u (macro t) delete))))) ≡ []
      go true q r s u f = refl
      go false true r s u f = refl
      go false false true s u f = refl
      go false false false true u f = refl
      go false false false false true f = refl
      go false false false false false f = absurd (f refl refl refl refl refl)

signed_length : (n : ℕ) → length (signed n) ≤ 21
unfolding signed
signed_length n = go (ltb n 9223372036854775808)
  where
    go : (t : Bool) → length (pick t (decimal n) (45 ∷ decimal (18446744073709551616 - n))) ≤ 21
    go true = omega (arith, decimal_length n)
    go false = omega (arith, decimal_length (18446744073709551616 - n))

pub bang_length : (v : SetValue) → length (bang v) ≤ 1
bang_length (text t) = omega arith
bang_length (int n) = omega arith
bang_length (increment n) = omega arith
bang_length (decrement n) = omega arith
bang_length delete = omega arith
bang_length (macro t) = omega arith

tail_length : (k n : ℕ) (t : List ℕ) → length (tail (value_in k n t)) ≤ 23 + length t
unfolding value_in
tail_length k n t = go (eqb k 1) (eqb k 2) (eqb k 3) (eqb k 4) (eqb k 6)
  where
    one : (w : Bool) → length (pick w [] (61 ∷ t)) ≤ 23 + length t
    one true = omega arith
    one false = omega arith

    go : (p q r s u : Bool) → length (tail (pick p (text t) (pick q (int n) (pick r (increment n) (pick s (decrement n) (pick u (macro t) delete)))))) ≤ 23 + length t
    go true q r s u = one (same t (bytes "1"))
    go false true r s u = omega (arith, decimal_length n)
    go false false true s u = omega (arith, signed_length n)
    go false false false true u = omega (arith, signed_length n)
    go false false false false true = omega arith
    go false false false false false = omega arith

-- ---- by the places of its texts

module _ {s : List ℕ} {e : Entry} (p : Placed s e) where
  pub a_length : length (cut s e.first e.second) + e.first ≡ e.second
  a_length = omega (arith, cut_length s e.first e.second (omega (arith, p.ascends, p.inside)), p.ascends)

  pub b_length : length (cut s e.second e.third) + e.second ≡ e.third
  b_length = omega (arith, cut_length s e.second e.third (omega (arith, p.ascends, p.inside)), p.ascends)

  pub c_length : length (cut s e.third e.past) + e.third ≡ e.past
  c_length = omega (arith, cut_length s e.third e.past p.inside, p.ascends)

  -- all three together are short
  pub texts_length : length (cut s e.first e.second) + length (cut s e.second e.third) + length (cut s e.third e.past) < span_base
  texts_length = omega (arith, a_length, b_length, c_length, p.near)

  abbrev value : SetValue
  value = value_in e.kind e.number (cut s e.third e.past)

  setvar_runs : setvar_text (setvar_in (entry_action s e)) ≡ bang value ++ (cut s e.first e.second ++ (46 ∷ (cut s e.second e.third ++ tail value)))
  unfolding setvar_text entry_action
  setvar_runs = rw (p.a_is, p.b_is, p.c_is)

  pub setvar_length_lem : length (setvar_text (setvar_in (entry_action s e))) ≤ broad
  setvar_length_lem = rw (setvar_runs, length-append, length-append, length-append)
      (omega (arith, texts_length, bang_length value, tail_length e.kind e.number (cut s e.third e.past)))

  -- its four runs
  pub put_setting : {old m₁ m₂ m₃ new : List ℕ} {at i₁ i₂ i₃ next : ℕ} → Puts old m₁ at i₁ (bang value) → Puts m₁ m₂ i₁ i₂ (cut s e.first e.second)
      → Puts m₂ m₃ i₂ i₃ (46 ∷ cut s e.second e.third) → Puts m₃ new i₃ next (tail value) → Puts old new at next (setvar_text (setvar_in (entry_action s e)))
  put_setting a b c d = rw setvar_runs (put_more a (put_more b (put_more c d)))
