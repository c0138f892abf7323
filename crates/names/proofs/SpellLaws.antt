-- A name in words, beside a part of a table: what one word that differs says, and all that are the same.
use mathlib.Core.Path.{◌≡◌, ◌∙◌, refl, sym, ap, ap₂}
use mathlib.Core.Bool.{Bool, true, false}
use mathlib.Core.List.{List, [], ◌∷◌, ◌++◌, map}
use Prim.Native.Nat.{ℕ, zero, suc, ◌+◌, ◌-◌, ◌<◌, ◌≤◌}
use native.Mathlib.Nat.{add-zero, min-le_left}
use native.Mathlib.Omega.{arith}
use lib.ListN.{length, take, drop, length-take, length-drop, length-map, take-append-drop}
use lib.Seq.{drop-drop, take-take, take-nil, take_all, length-take-le}
use Rattle.ascii.proofs.SameLaws.{same_refl, same_false}
use Rattle.names.specs.Tables.{casing}
use Rattle.names.specs.declared.spelling.Words.{Words}
use Rattle.names.specs.Words.{little, Packed, Folds, Eighth, Worded, Spelled, before}
use Rattle.names.proofs.WordLaws.{packed_same}

drop_take : (j n : ℕ) (l : List ℕ) → drop j (take n l) ≡ take (n - j) (drop j l)
drop_take zero n l = let e : n - 0 ≡ n = omega arith in rw e
drop_take (suc j) zero l = let e : 0 - suc j ≡ 0 = omega arith in rw e
drop_take (suc j) (suc n) [] = sym (take-nil (suc n - suc j))
drop_take (suc j) (suc n) (x ∷ l) = let e : suc n - suc j ≡ n - j = omega arith in rw e (drop_take j n l)

pub map_take : (f : ℕ → ℕ) (n : ℕ) (l : List ℕ) → map f (take n l) ≡ take n (map f l)
map_take f zero l = refl
map_take f (suc n) [] = refl
map_take f (suc n) (x ∷ l) = ap (λ (m : List ℕ). f x ∷ m) (map_take f n l)

pub map_drop : (f : ℕ → ℕ) (n : ℕ) (l : List ℕ) → map f (drop n l) ≡ drop n (map f l)
map_drop f zero l = refl
map_drop f (suc n) [] = refl
map_drop f (suc n) (x ∷ l) = map_drop f n l

-- ---- a name folded, in words

module _ (capitals : Bool) (name : List ℕ) (at : ℕ) where
  pub eighth_folded : at + 8 < length name → {w r : ℕ} → Packed (take 8 (drop at name)) w → Folds capitals w r → Eighth (map (casing capitals) name) at r
  eighth_folded h p f = record {
    there = λ l. rw (map_take (casing capitals) 8 (drop at name), map_drop (casing capitals) at name) at
        (f.folds (take 8 (drop at name)) (rw (length-take 8 (drop at name)) (min-le_left 8 (length (drop at name)))) p);
  }

  pub eighth_none : length name ≤ at + 8 → {r : ℕ} → Eighth (map (casing capitals) name) at r
  eighth_none h = record { there = λ l. absurd (omega (arith, length-map name (casing capitals))) }

pub worded : (capitals : Bool) (name : List ℕ) (n : ℕ) → n ≡ length name → 0 < n → {w : ℕ} {x : Words}
    → Packed (take (n - before n) (drop (before n) name)) w
    → Folds capitals w x.last
    → Eighth (map (casing capitals) name) 0 x.first
    → Eighth (map (casing capitals) name) 8 x.second
    → Eighth (map (casing capitals) name) 16 x.third
    → Worded (map (casing capitals) name) x
worded capitals name n e h {w} {x} p f a b c = record { last = last; first = a; second = b; third = c }
  where
    whole : take (n - before n) (drop (before n) name) ≡ drop (before n) name
    whole = take_all (n - before n) (drop (before n) name) (rw (length-drop (before n) name) (omega arith))

    last : Packed (drop (before (length (map (casing capitals) name))) (map (casing capitals) name)) x.last
    last =
        rw (length-map name (casing capitals), sym e, sym (map_drop (casing capitals) (before n) name))
        (f.folds (drop (before n) name) (rw (length-drop (before n) name) (omega arith)) (rw whole at p))

-- as long as each other, and the words of a part the same
module _ (p q : List ℕ) (h : length p ≡ length q) where
  pub ends : (j : ℕ) {a b : ℕ} → Packed (drop j p) a → Packed (drop j q) b → a ≡ b → drop j p ≡ drop j q
  ends j x y e = packed_same x y (rw (length-drop j p, length-drop j q, h)) e

  pub joins : (j : ℕ) {a b : ℕ} → Packed (take 8 (drop j p)) a → Packed (take 8 (drop j q)) b → a ≡ b
      → drop (j + 8) p ≡ drop (j + 8) q → drop j p ≡ drop j q
  joins j x y e f =
      let t : take 8 (drop j p) ≡ take 8 (drop j q) = packed_same x y (rw (length-take 8 (drop j p), length-take 8 (drop j q), length-drop j p, length-drop j q, h)) e in
      let d : drop 8 (drop j p) ≡ drop 8 (drop j q) = drop-drop 8 j p ∙ f ∙ sym (drop-drop 8 j q) in
      sym (take-append-drop 8 (drop j p)) ∙ ap₂ (λ (a b : List ℕ). a ++ b) t d ∙ take-append-drop 8 (drop j q)

-- ---- a part of a table

module _ (table : List ℕ) (at n : ℕ) where
  pub part_rest : (j : ℕ) {w : ℕ} → Packed (take (n - j) (drop (at + j) table)) w → Packed (drop j (take n (drop at table))) w
  part_rest j p = rw (drop_take j n (drop at table), drop-drop j at table) p

  pub part_eight : (j : ℕ) {w : ℕ} → j + 8 ≤ n → Packed (take 8 (drop (at + j) table)) w → Packed (take 8 (drop j (take n (drop at table)))) w
  part_eight j h p = rw (drop_take j n (drop at table), drop-drop j at table, take-take 8 (n - j) (drop (at + j) table) (omega arith)) p

  module _ (x : Words) where
    -- one word differs
    other : (g : List ℕ → List ℕ) {w v : ℕ} → Packed (g (take n (drop at table))) w
        → ((name : List ℕ) → length name ≡ n → Worded name x → Packed (g name) v)
        → (w ≡ v → ⊥) → Spelled table at n x false
    other g p q d = record {
      tells = λ name e y. sym (same_false (take n (drop at table)) name (λ f. d (p.is ∙ ap (λ (l : List ℕ). little (g l)) f ∙ sym (q name e y).is)));
    }

    pub other_last : {w : ℕ} → Packed (take (n - before n) (drop (at + before n) table)) w → (w ≡ x.last → ⊥) → Spelled table at n x false
    other_last p d = other (drop (before n)) (part_rest (before n) p) (λ name e y. rw e at y.last) d

    pub other_first : {w : ℕ} → 8 < n → Packed (take 8 (drop at table)) w → (w ≡ x.first → ⊥) → Spelled table at n x false
    other_first h p d = other (take 8) (part_eight 0 (omega arith) (rw (add-zero at) p)) (λ name e y. y.first.there (omega arith)) d

    pub other_second : {w : ℕ} → 16 < n → Packed (take 8 (drop (at + 8) table)) w → (w ≡ x.second → ⊥) → Spelled table at n x false
    other_second h p d = other (λ l. take 8 (drop 8 l)) (part_eight 8 (omega arith) p) (λ name e y. y.second.there (omega arith)) d

    pub other_third : {w : ℕ} → 24 < n → Packed (take 8 (drop (at + 16) table)) w → (w ≡ x.third → ⊥) → Spelled table at n x false
    other_third h p d = other (λ l. take 8 (drop 16 l)) (part_eight 16 (omega arith) p) (λ name e y. y.third.there (omega arith)) d

    -- all words are the same
    pub alike : ((name : List ℕ) → length name ≡ n → Worded name x → take n (drop at table) ≡ name) → Spelled table at n x true
    alike f = record { tells = λ name e y. sym (rw (f name e y) (same_refl name)) }

    module _ (h : at + n ≤ length table) {w : ℕ} (p : Packed (take (n - before n) (drop (at + before n) table)) w) (e : w ≡ x.last) where
      long : (name : List ℕ) → length name ≡ n → length (take n (drop at table)) ≡ length name
      long name l = length-take-le n (drop at table) (rw (length-drop at table) (omega arith)) ∙ sym l

      rest : (j : ℕ) → before n ≡ j → (name : List ℕ) → length name ≡ n → Worded name x → drop j (take n (drop at table)) ≡ drop j name
      rest j z name l y =
          rw z at (ends (take n (drop at table)) name (long name l) (before n) (part_rest (before n) p) (rw l at y.last) e)

      pub one_word : 0 < n → n ≤ 8 → Spelled table at n x true
      one_word b k = alike (rest 0 (omega arith))

      module _ (k : 8 < n) {w₁ : ℕ} (p₁ : Packed (take 8 (drop at table)) w₁) (e₁ : w₁ ≡ x.first) where
        from_first : (name : List ℕ) → length name ≡ n → Worded name x → drop 8 (take n (drop at table)) ≡ drop 8 name → take n (drop at table) ≡ name
        from_first name l y d =
            joins (take n (drop at table)) name (long name l) 0 (part_eight 0 (omega arith) (rw (add-zero at) p₁)) (y.first.there (omega arith)) e₁ d

        pub two_words : n ≤ 16 → Spelled table at n x true
        two_words m = alike (λ name l y. from_first name l y (rest 8 (omega arith) name l y))

        module _ (k₂ : 16 < n) {w₂ : ℕ} (p₂ : Packed (take 8 (drop (at + 8) table)) w₂) (e₂ : w₂ ≡ x.second) where
          from_second : (name : List ℕ) → length name ≡ n → Worded name x → drop 16 (take n (drop at table)) ≡ drop 16 name → take n (drop at table) ≡ name
          from_second name l y d =
              from_first name l y
              (joins (take n (drop at table)) name (long name l) 8 (part_eight 8 (omega arith) p₂) (y.second.there (omega arith)) e₂ d)

          pub three_words : n ≤ 24 → Spelled table at n x true
          three_words m = alike (λ name l y. from_second name l y (rest 16 (omega arith) name l y))

          pub four_words : 24 < n → n ≤ 32 → {w₃ : ℕ} → Packed (take 8 (drop (at + 16) table)) w₃ → w₃ ≡ x.third → Spelled table at n x true
          four_words k₃ m p₃ e₃ = alike (λ name l y. from_second name l y
              (joins (take n (drop at table)) name (long name l) 16 (part_eight 16 (omega arith) p₃) (y.third.there (omega arith)) e₃
              (rest 24 (omega arith) name l y)))
