-- The four tests are what document 02 says of an index.
use mathlib.Core.Path.{◌≡◌, ◌∙◌, refl, sym}
use mathlib.Core.Bool.{Bool, true, false}
use mathlib.Core.List.{List, [], ◌∷◌}
use mathlib.Core.Logic.{◌↔◌}
use Prim.Native.Nat.{ℕ, zero, suc, ◌+◌, ◌-◌, ◌*◌, ◌≤◌, ◌<◌}
use native.Mathlib.Omega.{arith}
use lib.ListN.{drop, get_or}
use lib.Seq.{get_or-drop}
use lib.Dec.{eqb}
use borrow.Author.Tests.{eqb-true, eq-eqb}
use Rattle.index.specs.Standing.{Distinct, from}
use Rattle.index.specs.Words.{rules_of, count_of, rules_in, all_zero, sound, Index}
use Rattle.index.proofs.RuleLaws.{and_both, and_of, from_head, from_tail, from_cons, ascending_distinct}
use Rattle.index.proofs.WordLaws.{sound_is, is_sound}

-- ---- zeros

zero_at : (w : List ℕ) → all_zero w ≡ true → (i : ℕ) → get_or w i 0 ≡ 0
unfolding all_zero
zero_at [] e i = refl
zero_at (a ∷ w) e zero = eqb-true a 0 (and_both (eqb a 0) (all_zero w) e).0
zero_at (a ∷ w) e (suc i) = zero_at w (and_both (eqb a 0) (all_zero w) e).1 i

at_zero : (w : List ℕ) → ((i : ℕ) → get_or w i 0 ≡ 0) → all_zero w ≡ true
unfolding all_zero
at_zero [] h = refl
at_zero (a ∷ w) h = and_of (eqb a 0) (all_zero w) (eq-eqb a 0 (h 0)) (at_zero w (λ i. h (suc i)))

-- ---- ids

climbs_at : (n least : ℕ) (w : List ℕ) → from least (rules_of n w) ≡ true → (i : ℕ) → suc i < n → get_or w (i * 2) 0 < get_or w (2 + i * 2) 0
unfolding rules_of
climbs_at zero least w f i h = absurd (omega arith)
climbs_at (suc zero) least w f zero h = absurd (omega arith)
climbs_at (suc (suc m)) least w f zero h = rw (← get_or-drop 2 w 0 0) (from_head (suc (get_or w 0 0)) _ _ (from_tail least _ _ f))
climbs_at (suc m) least w f (suc i) h =
    let e : suc i * 2 ≡ 2 + i * 2 = omega arith in
    let k = climbs_at m (suc (get_or w 0 0)) (drop 2 w) (from_tail least _ _ f) i (omega arith) in
    rw e (rw (get_or-drop 2 w (i * 2) 0, get_or-drop 2 w (2 + i * 2) 0) at k)

at_climbs : (n least : ℕ) (w : List ℕ) → (0 < n → least ≤ get_or w 0 0) → ((i : ℕ) → suc i < n → get_or w (i * 2) 0 < get_or w (2 + i * 2) 0) → from least (rules_of n w) ≡ true
unfolding rules_of from
at_climbs zero least w l h = refl
at_climbs (suc m) least w l h =
    from_cons least (record { id = get_or w 0 0; line = get_or w 1 0 }) (rules_of m (drop 2 w)) (l (omega arith))
    (at_climbs m (suc (get_or w 0 0)) (drop 2 w) (λ p. rw (get_or-drop 2 w 0 0) (h 0 (omega arith)))
    (λ i k. (let e : suc i * 2 ≡ 2 + i * 2 = omega arith in rw (get_or-drop 2 w (i * 2) 0, get_or-drop 2 w (2 + i * 2) 0) (rw e at (h (suc i) (omega arith))))))

module _ (s : List ℕ) where
  pub sound_index : sound s ≡ true → Index s
  unfolding rules_in
  sound_index e =
      let x = sound_is s e in record {
        some = x.some;
        fits = x.fits;
        ascends = λ i h. (let k = climbs_at (count_of s) 0 (drop 1 s) x.sorted i h in let f : 1 + (2 + i * 2) ≡ 3 + i * 2 = omega arith in rw (get_or-drop 1 s (i * 2) 0, get_or-drop 1 s (2 + i * 2) 0, f) at k);
        beyond = λ i h. (let f : 1 + count_of s * 2 + (i - (1 + count_of s * 2)) ≡ i = omega arith in rw f at (sym (get_or-drop (1 + count_of s * 2) s (i - (1 + count_of s * 2)) 0) ∙ zero_at (drop (1 + count_of s * 2) s) x.beyond (i - (1 + count_of s * 2))));
      }

  pub index_sound : Index s → sound s ≡ true
  unfolding rules_in
  index_sound x =
      is_sound s (record {
        some = x.some;
        fits = x.fits;
        sorted = at_climbs (count_of s) 0 (drop 1 s) (λ p. omega arith) (λ i h. (let f : 1 + (2 + i * 2) ≡ 3 + i * 2 = omega arith in rw (get_or-drop 1 s (i * 2) 0, get_or-drop 1 s (2 + i * 2) 0, f) (x.ascends i h)));
        beyond = at_zero (drop (1 + count_of s * 2) s) (λ i. get_or-drop (1 + count_of s * 2) s i 0 ∙ x.beyond (1 + count_of s * 2 + i) (omega arith));
      })

  -- no index exactly if a test fails
  pub unsound_exactly : (sound s ≡ false) ↔ (Index s → ⊥)
  unsound_exactly = (λ e x. (let f = index_sound x in let z : ◌≡◌ {A = ℕ} 0 1 = cc in omega arith), λ n. go (sound s) refl n)
    where
      go : (b : Bool) → sound s ≡ b → (Index s → ⊥) → sound s ≡ false
      go true e n = absurd (n (sound_index e))
      go false e n = e

  -- ids in words that are an index are distinct
  pub index_apart : Index s → Distinct (rules_in s)
  index_apart x = ascending_distinct 0 (rules_in s) (sound_is s (index_sound x)).sorted
