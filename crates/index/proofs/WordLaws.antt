-- The index as words: what is laid out is read back, and what is read is what was laid out.
use mathlib.Core.Path.{◌≡◌, ◌∙◌, refl, ap}
use mathlib.Core.Bool.{true, false}
use mathlib.Core.List.{List, [], ◌∷◌, ◌++◌}
use Prim.Native.Nat.{ℕ, zero, suc, ◌+◌, ◌-◌, ◌*◌, ◌≤◌, ◌<◌}
use native.Mathlib.Omega.{arith}
use native.Mathlib.Nat.{add-zero, sub-zero, zero-sub}
use lib.ListN.{length, take, drop, get_or, length-drop}
use lib.Seq.{get_or-drop, drop_at, drop-drop}
use lib.Dec.{eqb, leb}
use borrow.Author.Tests.{eqb-true, le-leb, lt-leb, leb-true}
use Rattle.ascii.proofs.ListLaws.{rest_is}
use Rattle.lent.specs.Buffers.{zeros}
use Rattle.lent.proofs.BufferLaws.{padded_length}
use Rattle.index.specs.Standing.{Rule, from}
use Rattle.index.specs.Words.{pairs, laid, places_in, rules_of, count_of, rules_in, all_zero, sound}
use Rattle.index.proofs.RuleLaws.{and_both, and_of}

pub length_pairs : (rs : List Rule) → length (pairs rs) ≡ length rs * 2
unfolding pairs
length_pairs [] = refl
length_pairs (x ∷ r) = let ih = length_pairs r in omega arith

pub pairs_append : (xs ys : List Rule) → pairs (xs ++ ys) ≡ pairs xs ++ pairs ys
unfolding pairs
pairs_append [] ys = refl
pairs_append (x ∷ xs) ys = rw (pairs_append xs ys)

pub length_rules : (n : ℕ) (w : List ℕ) → length (rules_of n w) ≡ n
unfolding rules_of
length_rules zero w = refl
length_rules (suc n) w = ap suc (length_rules n (drop 2 w))

pub rules_pairs : (rs : List Rule) (z : List ℕ) → rules_of (length rs) (pairs rs ++ z) ≡ rs
unfolding pairs rules_of
rules_pairs [] z = refl
rules_pairs (x ∷ r) z = ap (λ (l : List Rule). x ∷ l) (rules_pairs r z)

pub pairs_rules : (n : ℕ) (w : List ℕ) → n * 2 ≤ length w → pairs (rules_of n w) ≡ take (n * 2) w
unfolding pairs rules_of
pairs_rules zero w h = refl
pairs_rules (suc n) [] h = absurd (omega arith)
pairs_rules (suc n) (a ∷ []) h = absurd (omega arith)
pairs_rules (suc n) (a ∷ b ∷ w) h =
    let e : suc n * 2 ≡ suc (suc (n * 2)) = omega arith in
    rw (e, pairs_rules n w (omega arith))

pub zeros_are : (n : ℕ) → all_zero (zeros n) ≡ true
unfolding all_zero
zeros_are zero = refl
zeros_are (suc n) = zeros_are n

pub are_zeros : (w : List ℕ) → all_zero w ≡ true → w ≡ zeros (length w)
unfolding all_zero
are_zeros [] e = refl
are_zeros (a ∷ w) e =
    let k = and_both (eqb a 0) (all_zero w) e in
    rw (eqb-true a 0 k.0) (ap (λ (l : List ℕ). 0 ∷ l) (are_zeros w k.1))

-- ---- one rule

-- the rule at a word
abbrev pub rule_at : List ℕ → ℕ → Rule
rule_at w at = record { id = get_or w at 0; line = get_or w (at + 1) 0 }

pub next_rule : (w : List ℕ) (at k : ℕ) → 0 < k → rules_of k (drop at w) ≡ rule_at w at ∷ rules_of (k - 1) (drop (at + 2) w)
unfolding rules_of
next_rule w at zero h = absurd (omega arith)
next_rule w at (suc k) h = let e : suc k - 1 ≡ k = omega arith in rw (e, get_or-drop at w 0 0, get_or-drop at w 1 0, add-zero, drop-drop)

pub no_rule : (w : List ℕ) (k : ℕ) → k ≤ 0 → rules_of k w ≡ []
unfolding rules_of
no_rule w zero h = refl
no_rule w (suc k) h = absurd (omega arith)

-- rules up to a place, and from it on
pub take_rules : (m n : ℕ) (w : List ℕ) → m ≤ n → take m (rules_of n w) ≡ rules_of m w
unfolding rules_of
take_rules zero n w h = refl
take_rules (suc m) zero w h = absurd (omega arith)
take_rules (suc m) (suc n) w h = rw (take_rules m n (drop 2 w) (omega arith))

pub drop_rules : (m n : ℕ) (w : List ℕ) → drop m (rules_of n w) ≡ rules_of (n - m) (drop (m * 2) w)
unfolding rules_of
drop_rules zero n w = rw sub-zero
drop_rules (suc m) zero w = rw zero-sub
drop_rules (suc m) (suc n) w =
    let e : suc n - suc m ≡ n - m = omega arith in
    let f : suc m * 2 ≡ 2 + m * 2 = omega arith in
    rw (e, f) (drop_rules m n (drop 2 w) ∙ rw drop-drop)

pub rule_at_lem : (w : List ℕ) (n m : ℕ) → m < n → drop m (rules_of n (drop 1 w)) ≡ rule_at w (1 + m * 2) ∷ drop (suc m) (rules_of n (drop 1 w))
rule_at_lem w n m h =
    let e : n - m - 1 ≡ n - suc m = omega arith in
    let f : 1 + m * 2 + 2 ≡ 1 + suc m * 2 = omega arith in
    let g : drop (suc m) (rules_of n (drop 1 w)) ≡ rules_of (n - suc m) (drop (1 + suc m * 2) w) = drop_rules (suc m) n (drop 1 w) ∙ rw drop-drop in
    let d : drop m (rules_of n (drop 1 w)) ≡ rules_of (n - m) (drop (1 + m * 2) w) = drop_rules m n (drop 1 w) ∙ rw drop-drop in
    rw (d, g) (rw (e, f) at (next_rule w (1 + m * 2) (n - m) (omega arith)))

-- ---- rules that n words can hold

pub record Holds (n : ℕ) (rs : List Rule) : Type 0 where
  pub some : 1 ≤ n
  pub sorted : from 0 rs ≡ true
  pub fits : length rs ≤ places_in n

module _ {n : ℕ} {rs : List Rule} (x : Holds n rs) where
  pub room : length (length rs ∷ pairs rs) ≤ n
  unfolding places_in
  room = omega (arith, length_pairs rs, x.fits, x.some)

  pub laid_length : length (laid n rs) ≡ n
  unfolding laid
  laid_length = padded_length n (length rs ∷ pairs rs) room

  pub laid_count : count_of (laid n rs) ≡ length rs
  unfolding laid
  laid_count = refl

  pub laid_rules : rules_in (laid n rs) ≡ rs
  unfolding laid rules_in
  laid_rules = rules_pairs rs _

  laid_beyond : drop (1 + length rs * 2) (laid n rs) ≡ zeros (n - length (length rs ∷ pairs rs))
  unfolding laid
  laid_beyond = drop_at (length rs ∷ pairs rs) _ (1 + length rs * 2) (omega (arith, length_pairs rs))

  pub laid_sound : sound (laid n rs) ≡ true
  unfolding sound
  laid_sound =
      rw (laid_rules, laid_count, laid_length, laid_beyond)
      (and_of (leb 1 n) _ (le-leb 1 n x.some)
      (and_of (leb (length rs) (places_in n)) _ (le-leb (length rs) (places_in n) x.fits)
      (and_of (from 0 rs) _ x.sorted (zeros_are (n - length (length rs ∷ pairs rs))))))

-- ---- words that are an index

pub record Sound (s : List ℕ) : Type 0 where
  pub some : 1 ≤ length s
  pub fits : count_of s ≤ places_in (length s)
  pub sorted : from 0 (rules_in s) ≡ true
  pub beyond : all_zero (drop (1 + count_of s * 2) s) ≡ true

pub sound_is : (s : List ℕ) → sound s ≡ true → Sound s
unfolding sound
sound_is s e =
    let a = and_both (leb 1 (length s)) _ e in
    let b = and_both (leb (count_of s) (places_in (length s))) _ a.1 in
    let c = and_both (from 0 (rules_in s)) _ b.1 in
    record { some = leb-true 1 (length s) a.0; fits = leb-true (count_of s) (places_in (length s)) b.0; sorted = c.0; beyond = c.1 }

pub is_sound : (s : List ℕ) → Sound s → sound s ≡ true
unfolding sound
is_sound s x =
    and_of (leb 1 (length s)) _ (le-leb 1 (length s) x.some)
    (and_of (leb (count_of s) (places_in (length s))) _ (le-leb (count_of s) (places_in (length s)) x.fits)
    (and_of (from 0 (rules_in s)) _ x.sorted x.beyond))

-- ---- the ways out of `is_index`

pub places_room : (n count : ℕ) → 1 ≤ n → count ≤ places_in n → 1 + count * 2 ≤ n
unfolding places_in
places_room n count h f = omega arith

module _ (s : List ℕ) where
  pub unsound_empty : length s ≡ 0 → false ≡ sound s
  unfolding sound
  unsound_empty h = rw (lt-leb 1 (length s) (omega arith))

  module _ (some : 1 ≤ length s) where
    pub unsound_count : places_in (length s) < count_of s → false ≡ sound s
    unfolding sound
    unsound_count h = rw (le-leb 1 (length s) some, lt-leb (count_of s) (places_in (length s)) h)

    module _ (fits : count_of s ≤ places_in (length s)) where
      pub unsound_order : from 0 (rules_of (count_of s) (drop 1 s)) ≡ false → false ≡ sound s
      unfolding sound rules_in
      unsound_order h = rw (le-leb 1 (length s) some, le-leb (count_of s) (places_in (length s)) fits, h)

      -- the words beyond, as the part of a slice that they are
      pub sound_rest : (n : ℕ) → n ≡ count_of s → from 0 (rules_of n (drop 1 s)) ≡ true → sound s ≡ all_zero (take (length s - (1 + n * 2)) (drop (1 + n * 2) s))
      unfolding sound rules_in
      sound_rest n e h = rw (le-leb 1 (length s) some, le-leb (count_of s) (places_in (length s)) fits, ← e, h, rest_is s (1 + n * 2))

-- the words of an index
module _ (s : List ℕ) (e : sound s ≡ true) where
  pub sound_some : 1 ≤ length s
  sound_some = (sound_is s e).some

  pub sound_room : 1 + count_of s * 2 ≤ length s
  sound_room = places_room (length s) (count_of s) (sound_is s e).some (sound_is s e).fits

  pub sound_order : from 0 (rules_of (count_of s) (drop 1 s)) ≡ true
  unfolding rules_in
  sound_order = (sound_is s e).sorted

all_drop : (n : ℕ) (w : List ℕ) → all_zero w ≡ true → all_zero (drop n w) ≡ true
unfolding all_zero
all_drop zero w e = e
all_drop (suc n) [] e = e
all_drop (suc n) (a ∷ w) e = all_drop n w (and_both (eqb a 0) (all_zero w) e).1

-- what stands behind the rules, and two words further on, is zeros
pub sound_beyond : (s : List ℕ) → sound s ≡ true → drop (1 + count_of s * 2) s ≡ zeros (length s - (1 + count_of s * 2))
sound_beyond s e = are_zeros (drop (1 + count_of s * 2) s) (sound_is s e).beyond ∙ ap zeros (length-drop (1 + count_of s * 2) s)

pub sound_zeros : (s : List ℕ) → sound s ≡ true → drop (3 + count_of s * 2) s ≡ zeros (length s - (3 + count_of s * 2))
sound_zeros s e =
    let n : 1 + count_of s * 2 + 2 ≡ 3 + count_of s * 2 = omega arith in
    let a : all_zero (drop (1 + count_of s * 2 + 2) s) ≡ true = rw (← drop-drop 2 (1 + count_of s * 2) s) (all_drop 2 (drop (1 + count_of s * 2) s) (sound_is s e).beyond) in
    are_zeros (drop (3 + count_of s * 2) s) (rw n at a) ∙ ap zeros (length-drop (3 + count_of s * 2) s)

pub ruleset checks = (places_room, unsound_empty, unsound_count, unsound_order, sound_rest)
