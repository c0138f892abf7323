-- Normalising by spans: the bytes up to the next backslash stand for themselves.
use mathlib.Core.Path.{◌≡◌, ◌∙◌, refl, sym, ap, subst}
use mathlib.Core.Bool.{Bool, true, false}
use mathlib.Core.List.{List, [], ◌∷◌, ◌++◌}
use Prim.Native.Nat.{ℕ, ◌+◌, ◌-◌, ◌≤◌}
use native.Mathlib.Numerals.{one-add}
use native.Mathlib.Omega.{arith}
use lib.ListN.{length, take, drop, length-drop}
use lib.Seq.{drop-drop, length-take-le}
use lib.Dec.{eqb}
use Rattle.ascii.specs.Choice.{pick}
use Rattle.lent.specs.Buffers.{stored}
use Rattle.lent.proofs.BufferLaws.{Written, written_stored, front_stored}
use Rattle.ascii.specs.Trim.{leading}
use Rattle.ascii.specs.Splits.{first_of}
use Rattle.ascii.proofs.SplitLaws.{first_fits}
use Rattle.actions.specs.Steps.{Passed}
use Rattle.actions.specs.Normal.{plain, mode_after, text_given, normalised_from}
use Rattle.actions.proofs.NormalLoop.{Normalising}

-- the span gives itself, and the mode stays plain
span_text : (l : List ℕ) → normalised_from plain l ≡ take (first_of 92 l) l ++ normalised_from plain (drop (first_of 92 l) l)
unfolding leading normalised_from text_given mode_after
span_text [] = refl
span_text (b ∷ r) = go (eqb b 92) refl (span_text r)
  where
    go : (t : Bool) → eqb b 92 ≡ t → normalised_from plain r ≡ take (first_of 92 r) r ++ normalised_from plain (drop (first_of 92 r) r)
        → normalised_from plain (b ∷ r) ≡ take (pick (pick t false true) (1 + first_of 92 r) 0) (b ∷ r) ++ normalised_from plain (drop (pick (pick t false true) (1 + first_of 92 r) 0) (b ∷ r))
    go true e ih = refl
    go false e ih = rw (one-add, e, ih)

-- the loop that normalises, past such a span
module _ {s old new : List ℕ} {i n : ℕ} (room : length s ≤ length old) (x : Normalising s old new plain i n) where
  span_on : (k : ℕ) → k ≡ first_of 92 (drop i s) → Normalising s old (stored new n (take k (drop i s))) plain (i + k) (n + k)
  span_on k e =
      let w = take k (drop i s) in
      let t = normalised_from plain (drop (i + k) s) in
      let l : length w ≡ k = length-take-le k (drop i s) (omega (arith, first_fits 92 (drop i s))) in
      let h : n + length w ≤ length old = omega (arith, first_fits 92 (drop i s), length-drop i s, x.paid, x.inside) in
      let f : normalised_from plain (drop i s) ≡ w ++ t = span_text (drop i s) ∙ rw (← e, drop-drop) in
      record {
        inside = omega (arith, first_fits 92 (drop i s), length-drop i s, x.inside);
        paid = omega (arith, x.paid);
        written = subst (λ (m : ℕ). Written old (stored new n w) (n + m)) l (written_stored x.written w h);
        front = subst (λ (m : ℕ). take (n + m) (stored new n w) ++ t ≡ take n new ++ (w ++ t)) l (front_stored x.written w h t)
            ∙ ap (λ (r : List ℕ). take n new ++ r) (sym f) ∙ x.front;
      }

  pub passed_on : {new' : List ℕ} {r : ℕ} → Passed s i new new' n r → (i ≤ r) × Normalising s old new' plain r (n + (r - i))
  passed_on {new'} {r} p =
      let e : i + (r - i) ≡ r = omega (arith, p.place) in
      let y : Normalising s old (stored new n (take (r - i) (drop i s))) plain (i + (r - i)) (n + (r - i)) = span_on (r - i) (omega (arith, p.place)) in
      (omega (arith, p.place), rw p.text (subst (λ (j : ℕ). Normalising s old (stored new n (take (r - i) (drop i s))) plain j (n + (r - i))) e y))
