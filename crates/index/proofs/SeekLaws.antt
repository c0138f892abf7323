-- The place that halving finds, and what stands there.
use Rattle.std.specs.Prelude.{Some, None, Ok, Err}
use mathlib.Core.Path.{◌≡◌, ◌∙◌, refl, sym, ap}
use mathlib.Core.Bool.{Bool, true, false}
use mathlib.Core.List.{List, [], ◌∷◌, ◌++◌}
use mathlib.Core.Logic.{inl, inr}
use Prim.Native.Nat.{ℕ, zero, suc, ◌+◌, ◌-◌, ◌*◌, ◌/◌, ◌≤◌, ◌<◌}
use native.Mathlib.Omega.{arith}
use lib.ListN.{length, take, drop, get_or, length-drop}
use lib.Seq.{get_or-take, get_or-drop, length-take-le}
use lib.Dec.{ltb}
use borrow.Author.Tests.{eq-eqb, ltb-true, ltb-false, lt-ltb, le-ltb}
use Rattle.std.specs.Simd.{first_chunks}
use Rattle.std.specs.List.Sorted.{IsPartitionedBy, IsPartitionPoint}
use Rattle.std.proofs.lemmas.Bool.{cases_lt}
use Rattle.ascii.proofs.ListLaws.{rest_is}
use Rattle.ascii.specs.Choice.{pick}
use Rattle.index.specs.Standing.{Rule, line_of, from, insert}
use Rattle.index.specs.Words.{rules_of}
use Rattle.index.specs.Steps.{Sorted, run, below, seen_at, seen}
use Rattle.index.proofs.RuleLaws.{from_head, from_tail, line_other, line_past, line_low}
use Rattle.index.proofs.WordLaws.{rule_at, length_rules, rule_at_lem}

-- ---- how many ids are smaller

pub run_most : (t : ℕ → Bool) (rs : List Rule) → run t rs ≤ length rs
unfolding run
run_most t [] = omega arith
run_most t (x ∷ r) = go (run_most t r) (t x.id)
  where
    go : run t r ≤ length r → (b : Bool) → pick b (suc (run t r)) 0 ≤ suc (length r)
    go ih true = omega arith
    go ih false = omega arith

pub below_most : (id : ℕ) (rs : List Rule) → below id rs ≤ length rs
below_most id rs = run_most (λ i. ltb i id) rs

-- ids that ascend from n on are no less than n
from_at : (n k : ℕ) (rs : List Rule) {y : Rule} {r : List Rule} → from n rs ≡ true → drop k rs ≡ y ∷ r → n ≤ y.id
from_at n zero [] f e = let z : ◌≡◌ {A = ℕ} 0 1 = cc in absurd (omega arith)
from_at n (suc k) [] f e = let z : ◌≡◌ {A = ℕ} 0 1 = cc in absurd (omega arith)
from_at n zero (x ∷ t) {y} f e = let q : x.id ≡ y.id = cc in let h = from_head n x t f in omega arith
from_at n (suc k) (x ∷ t) f e =
    let h = from_head n x t f in
    let i = from_at (suc x.id) k t (from_tail n x t f) e in
    omega arith

-- a rule whose id is smaller stands before the place, and with it those before it; one whose id is not, at the place or behind
pub below_more : (id n k : ℕ) (rs : List Rule) {y : Rule} {r : List Rule} → from n rs ≡ true → drop k rs ≡ y ∷ r → y.id < id → k < below id rs
unfolding run
below_more id n zero [] f e l = let z : ◌≡◌ {A = ℕ} 0 1 = cc in absurd (omega arith)
below_more id n (suc k) [] f e l = let z : ◌≡◌ {A = ℕ} 0 1 = cc in absurd (omega arith)
below_more id n zero (x ∷ t) {y} f e l =
    let q : x.id ≡ y.id = cc in
    rw (lt-ltb x.id id (omega arith)) (omega arith)
below_more id n (suc k) (x ∷ t) {y} f e l =
    let h = from_at (suc x.id) k t (from_tail n x t f) e in
    let i = below_more id (suc x.id) k t (from_tail n x t f) e l in
    rw (lt-ltb x.id id (omega arith)) (omega arith)

pub below_less : (id k : ℕ) (rs : List Rule) {y : Rule} {r : List Rule} → drop k rs ≡ y ∷ r → id ≤ y.id → below id rs ≤ k
unfolding run
below_less id zero [] e l = omega arith
below_less id (suc k) [] e l = omega arith
below_less id zero (x ∷ t) {y} e l =
    let q : x.id ≡ y.id = cc in
    rw (le-ltb x.id id (omega arith)) (omega arith)
below_less id (suc k) (x ∷ t) e l = go (below_less id k t e l) (ltb x.id id)
  where
    go : below id t ≤ k → (b : Bool) → pick b (suc (below id t)) 0 ≤ suc k
    go ih true = omega arith
    go ih false = omega arith

-- ---- what stands at the place

pub place_has : (id : ℕ) (rs : List Rule) {y : Rule} {r : List Rule} → drop (below id rs) rs ≡ y ∷ r → y.id ≡ id → line_of id rs ≡ Some y.line
unfolding run line_of
place_has id [] e q = let z : ◌≡◌ {A = ℕ} 0 1 = cc in absurd (omega arith)
place_has id (x ∷ t) {y} {r} e q = go (place_has id t) (ltb x.id id) refl e
  where
    go : (drop (below id t) t ≡ y ∷ r → y.id ≡ id → line_of id t ≡ Some y.line) → (b : Bool) → ltb x.id id ≡ b →
        drop (pick b (suc (below id t)) 0) (x ∷ t) ≡ y ∷ r → line_of id (x ∷ t) ≡ Some y.line
    go ih true l m = let k = ltb-true x.id id l in line_past id x t (λ s. omega arith) ∙ ih m q
    go ih false l m =
        let s : x.id ≡ id = (let p : x.id ≡ y.id = cc in p ∙ q) in
        let u : x.line ≡ y.line = cc in
        rw (eq-eqb x.id id s, u)

pub place_other : (id n : ℕ) (rs : List Rule) {y : Rule} {r : List Rule} → from n rs ≡ true → drop (below id rs) rs ≡ y ∷ r → (y.id ≡ id → ⊥) → line_of id rs ≡ None
unfolding run line_of
place_other id n [] f e q = refl
place_other id n (x ∷ t) {y} {r} f e q = go (place_other id (suc x.id) t (from_tail n x t f)) (ltb x.id id) refl e
  where
    go : (drop (below id t) t ≡ y ∷ r → (y.id ≡ id → ⊥) → line_of id t ≡ None) → (b : Bool) → ltb x.id id ≡ b →
        drop (pick b (suc (below id t)) 0) (x ∷ t) ≡ y ∷ r → line_of id (x ∷ t) ≡ None
    go ih true l m = let k = ltb-true x.id id l in line_past id x t (λ s. omega arith) ∙ ih m q
    go ih false l m =
        let k = ltb-false x.id id l in
        let p : x.id ≡ y.id = cc in
        let d : id < x.id = omega (arith, q) in
        line_past id x t (λ s. omega arith) ∙ line_low id (suc x.id) t (omega arith) (from_tail n x t f)

pub place_last : (id : ℕ) (rs : List Rule) → length rs ≤ below id rs → line_of id rs ≡ None
unfolding run line_of
place_last id [] h = refl
place_last id (x ∷ t) h = go (place_last id t) (ltb x.id id) refl h
  where
    go : (length t ≤ below id t → line_of id t ≡ None) → (b : Bool) → ltb x.id id ≡ b → suc (length t) ≤ pick b (suc (below id t)) 0 → line_of id (x ∷ t) ≡ None
    go ih true l m = let k = ltb-true x.id id l in line_past id x t (λ s. omega arith) ∙ ih (omega arith)
    go ih false l m = absurd (omega arith)

-- a rule with a new id is entered at the place
pub insert_at : (x : Rule) (rs : List Rule) → line_of x.id rs ≡ None → insert x rs ≡ take (below x.id rs) rs ++ x ∷ drop (below x.id rs) rs
unfolding run insert
insert_at x [] m = refl
insert_at x (y ∷ t) m = go (insert_at x t) (ltb y.id x.id) refl
  where
    o : (y.id ≡ x.id → ⊥) × (line_of x.id t ≡ None)
    o = line_other x.id y t m

    go : (line_of x.id t ≡ None → insert x t ≡ take (below x.id t) t ++ x ∷ drop (below x.id t) t) → (b : Bool) → ltb y.id x.id ≡ b →
        insert x (y ∷ t) ≡ take (pick b (suc (below x.id t)) 0) (y ∷ t) ++ x ∷ drop (pick b (suc (below x.id t)) 0) (y ∷ t)
    go ih true l =
        let k = ltb-true y.id x.id l in
        rw (le-ltb x.id y.id (omega arith), ih o.1)
    go ih false l =
        let k = ltb-false y.id x.id l in
        let d : x.id < y.id = omega (arith, o.0) in
        rw (lt-ltb x.id y.id d)

-- ---- the rules as pairs of words

-- a pair's first word
pair_id : (w : List ℕ) (n k : ℕ) (d : List ℕ) → k < n → get_or (get_or (first_chunks 2 n w) k d) 0 0 ≡ get_or w (k * 2) 0
pair_id w zero k d h = absurd (omega arith)
pair_id w (suc n) zero d h = get_or-take 2 w 0 0 (omega arith)
pair_id w (suc n) (suc k) d h =
    let e : 2 + k * 2 ≡ suc k * 2 = omega arith in
    pair_id (drop 2 w) n k d (omega arith) ∙ rw e at (get_or-drop 2 w (k * 2) 0)

length_pairs : (n : ℕ) (w : List ℕ) → length (first_chunks 2 n w) ≡ n
length_pairs zero w = refl
length_pairs (suc n) w = ap suc (length_pairs n (drop 2 w))

abbrev pub smaller_id : ℕ → List ℕ → Bool
smaller_id id pair = ltb (get_or pair 0 0) id

-- what `as_chunks` gives of the words behind the first
module _ {w : List ℕ} {count : ℕ} (s : Sorted count w) (id : ℕ) {chunks : List (List ℕ)} (e : chunks ≡ first_chunks 2 (length (take (length w - 1) (drop 1 w)) / 2) (take (length w - 1) (drop 1 w))) where
  ids : List Rule
  ids = rules_of count (drop 1 w)

  abbrev pub pairs : List (List ℕ)
  pairs = take count chunks

  rest : take (length w - 1) (drop 1 w) ≡ drop 1 w
  rest = rest_is w 1

  room : count ≤ length (drop 1 w) / 2
  room = rw length-drop (omega (arith, s.room))

  id_at : (k : ℕ) (d : List ℕ) → k < count → get_or (get_or pairs k d) 0 0 ≡ get_or w (1 + k * 2) 0
  id_at k d h = rw (e, rest, get_or-take count (first_chunks 2 (length (drop 1 w) / 2) (drop 1 w)) k d h) (pair_id (drop 1 w) (length (drop 1 w) / 2) k d (omega (arith, room)) ∙ get_or-drop 1 w (k * 2) 0)

  long : length pairs ≡ count
  long = rw (e, rest) (length-take-le count (first_chunks 2 (length (drop 1 w) / 2) (drop 1 w)) (rw length_pairs room))

  there : (k : ℕ) → k < count → drop k ids ≡ rule_at w (1 + k * 2) ∷ drop (suc k) ids
  unfolding ids
  there k h = rule_at_lem w count k h

  pub ids_partitioned : IsPartitionedBy (smaller_id id) pairs
  unfolding ids
  ids_partitioned i j d h l t =
      let m : j < count = omega (arith, long) in
      let a = below_more id 0 j ids s.sorted (there j m) (rw id_at at (ltb-true (get_or (get_or pairs j d) 0 0) id t)) in
      go (smaller_id id (get_or pairs i d)) refl a (omega arith)
    where
      go : (b : Bool) → smaller_id id (get_or pairs i d) ≡ b → j < below id ids → i < count → b ≡ true
      go true t a n = refl
      go false t a n = let c = below_less id i ids (there i n) (rw id_at at (ltb-false (get_or (get_or pairs i d) 0 0) id t)) in absurd (omega arith)

  pub point_below : (i : ℕ) → i ≤ length pairs → IsPartitionPoint (λ y. smaller_id id y ≡ true) (λ y. smaller_id id y ≡ false) pairs i → i ≡ below id (rules_of count (drop 1 w))
  unfolding ids
  point_below i h p = omega (arith, low i refl, high)
    where
      low : (n : ℕ) → n ≡ i → n ≤ below id ids
      low zero e = omega arith
      low (suc n) e =
          let m : n < count = omega (arith, long) in
          let t = p.0 n [] (omega arith) (omega arith) in
          below_more id 0 n ids s.sorted (there n m) (rw id_at at (ltb-true (get_or (get_or pairs n []) 0 0) id t))

      high : below id ids ≤ i
      high = elim (cases_lt i count) [
        | inl m ↦
            let t = p.1 i [] (omega arith) (omega (arith, long)) in
            below_less id i ids (there i m) (rw id_at at (ltb-false (get_or (get_or pairs i []) 0 0) id t))
        | inr m ↦ let a = below_most id ids in let b = length_rules count (drop 1 w) in omega arith
      ]

-- ---- what is seen

module _ {w : List ℕ} {count : ℕ} (s : Sorted count w) (id : ℕ) {place : ℕ} (p : place ≡ below id (rules_of count (drop 1 w))) where
  rs : List Rule
  rs = rules_of count (drop 1 w)

  at_place : place < count → drop (below id rs) rs ≡ rule_at w (1 + place * 2) ∷ drop (suc place) rs
  unfolding rs
  at_place h = rw (← p) (rule_at_lem w count place h)

  pub seek_found : place < count → get_or w (1 + place * 2) 0 ≡ id → Ok (get_or w (2 + place * 2) 0) ≡ seen id (rules_of count (drop 1 w))
  unfolding rs
  seek_found h e = let f : 1 + place * 2 + 1 ≡ 2 + place * 2 = omega arith in rw f at (sym (ap (seen_at (below id rs)) (place_has id rs (at_place h) e)))

  pub seek_other : place < count → (get_or w (1 + place * 2) 0 ≡ id → ⊥) → Err place ≡ seen id (rules_of count (drop 1 w))
  unfolding rs
  seek_other h e = ap Err p ∙ sym (ap (seen_at (below id rs)) (place_other id 0 rs s.sorted (at_place h) e))

  pub seek_behind : count ≤ place → Err place ≡ seen id (rules_of count (drop 1 w))
  unfolding rs
  seek_behind h = ap Err p ∙ sym (ap (seen_at (below id rs)) (place_last id rs (let l = length_rules count (drop 1 w) in omega (arith, l, p))))

pub ruleset sought = (seek_found, seek_other, seek_behind)
