-- Lists of rules: ascending ids are kept, and removing goes past entering.
use Rattle.std.specs.Prelude.{Some, None}
use mathlib.Core.Path.{◌≡◌, ◌∙◌, refl, sym, ap}
use mathlib.Core.Bool.{Bool, true, false}
use mathlib.Core.List.{List, [], ◌∷◌}
use Prim.Native.Nat.{ℕ, suc, ◌≤◌, ◌<◌}
use native.Mathlib.Omega.{arith}
use lib.ListN.{length}
use lib.Dec.{eqb, leb, ltb}
use borrow.Author.Tests.{eqb-false, eq-eqb, ne_eqb, le-leb, leb-true, lt-ltb, ltb-true, ltb-false}
use Rattle.ascii.specs.Choice.{pick, and, or}
use Rattle.index.specs.Standing.{Rule, line_of, Distinct, none, more, from, insert, without}

pub and_both : (a b : Bool) → and a b ≡ true → (a ≡ true) × (b ≡ true)
and_both true b e = (refl, e)
and_both false b e = let z : ◌≡◌ {A = ℕ} 0 1 = cc in absurd (omega arith)

pub and_of : (a b : Bool) → a ≡ true → b ≡ true → and a b ≡ true
and_of a b e f = rw (e, f)

-- ---- ascending

module _ (n : ℕ) (x : Rule) (r : List Rule) (f : from n (x ∷ r) ≡ true) where
  halves : (leb n x.id ≡ true) × (from (suc x.id) r ≡ true)
  unfolding from
  halves = and_both (leb n x.id) (from (suc x.id) r) f

  pub from_head : n ≤ x.id
  from_head = leb-true n x.id halves.0

  pub from_tail : from (suc x.id) r ≡ true
  from_tail = halves.1

pub from_cons : (n : ℕ) (x : Rule) (r : List Rule) → n ≤ x.id → from (suc x.id) r ≡ true → from n (x ∷ r) ≡ true
unfolding from
from_cons n x r h f = and_of (leb n x.id) (from (suc x.id) r) (le-leb n x.id h) f

pub from_less : (m n : ℕ) (rs : List Rule) → m ≤ n → from n rs ≡ true → from m rs ≡ true
unfolding from
from_less m n [] h f = refl
from_less m n (x ∷ r) h f = let k = from_head n x r f in from_cons m x r (omega arith) (from_tail n x r f)

pub from_without : (t : ℕ → Bool) (n : ℕ) (rs : List Rule) → from n rs ≡ true → from n (without t rs) ≡ true
unfolding without
from_without t n [] f = f
from_without t n (x ∷ r) f = go (from_head n x r f) (from_without t (suc x.id) r (from_tail n x r f)) (t x.id)
  where
    go : n ≤ x.id → from (suc x.id) (without t r) ≡ true → (b : Bool) → from n (pick b (without t r) (x ∷ without t r)) ≡ true
    go k rest true = from_less n (suc x.id) (without t r) (omega arith) rest
    go k rest false = from_cons n x (without t r) k rest

-- ---- an id that is not there

module _ (id : ℕ) (y : Rule) (r : List Rule) where
  pub line_other : line_of id (y ∷ r) ≡ None → (y.id ≡ id → ⊥) × (line_of id r ≡ None)
  unfolding line_of
  line_other e = go (eqb y.id id) refl e
    where
      go : (b : Bool) → eqb y.id id ≡ b → pick b (Some y.line) (line_of id r) ≡ None → (y.id ≡ id → ⊥) × (line_of id r ≡ None)
      go true q m = let z : ◌≡◌ {A = ℕ} 0 1 = cc in absurd (omega arith)
      go false q m = (eqb-false y.id id q, m)

  pub line_past : (y.id ≡ id → ⊥) → line_of id (y ∷ r) ≡ line_of id r
  unfolding line_of
  line_past n = rw (ne_eqb y.id id n)

pub line_low : (id n : ℕ) (rs : List Rule) → id < n → from n rs ≡ true → line_of id rs ≡ None
unfolding line_of
line_low id n [] h f = refl
line_low id n (y ∷ r) h f =
    let k = from_head n y r f in
    line_past id y r (λ e. omega arith) ∙ line_low id (suc y.id) r (omega arith) (from_tail n y r f)

-- ---- entered

module _ (x : Rule) where
  pub insert_front : (rs : List Rule) → from (suc x.id) rs ≡ true → insert x rs ≡ x ∷ rs
  unfolding insert
  insert_front [] f = refl
  insert_front (y ∷ r) f = let k = from_head (suc x.id) y r f in rw (lt-ltb x.id y.id (omega arith))

  pub from_insert : (n : ℕ) (rs : List Rule) → n ≤ x.id → line_of x.id rs ≡ None → from n rs ≡ true → from n (insert x rs) ≡ true
  unfolding insert from
  from_insert n [] h m f = from_cons n x [] h refl
  from_insert n (y ∷ r) h m f = go (λ l o. from_insert (suc y.id) r l o (from_tail n y r f)) (ltb x.id y.id) refl
    where
      go : (suc y.id ≤ x.id → line_of x.id r ≡ None → from (suc y.id) (insert x r) ≡ true) → (b : Bool) → ltb x.id y.id ≡ b → from n (pick b (x ∷ y ∷ r) (y ∷ insert x r)) ≡ true
      go ih true e =
          let k = ltb-true x.id y.id e in
          from_cons n x (y ∷ r) h (from_cons (suc x.id) y r (omega arith) (from_tail n y r f))
      go ih false e =
          let k = ltb-false x.id y.id e in
          let o = line_other x.id y r m in
          let d : y.id < x.id = omega (arith, o.0) in
          from_cons n y (insert x r) (from_head n y r f) (ih (omega arith) o.1)

  pub length_insert : (rs : List Rule) → length (insert x rs) ≡ suc (length rs)
  unfolding insert
  length_insert [] = refl
  length_insert (y ∷ r) = go (length_insert r) (ltb x.id y.id)
    where
      go : length (insert x r) ≡ suc (length r) → (b : Bool) → length (pick b (x ∷ y ∷ r) (y ∷ insert x r)) ≡ suc (suc (length r))
      go ih true = refl
      go ih false = ap suc ih

  pub line_insert : (id : ℕ) (rs : List Rule) → (x.id ≡ id → ⊥) → line_of id (insert x rs) ≡ line_of id rs
  unfolding insert line_of
  line_insert id [] n = line_past id x [] n
  line_insert id (y ∷ r) n = go (line_insert id r n) (ltb x.id y.id) (eqb y.id id) refl
    where
      go : line_of id (insert x r) ≡ line_of id r → (b d : Bool) → eqb y.id id ≡ d → line_of id (pick b (x ∷ y ∷ r) (y ∷ insert x r)) ≡ line_of id (y ∷ r)
      go ih true d e = line_past id x (y ∷ r) n
      go ih false true e = rw e
      go ih false false e = rw e ih

-- ---- removed

module _ (t : ℕ → Bool) where
  pub length_without : (rs : List Rule) → length (without t rs) ≤ length rs
  unfolding without
  length_without [] = omega arith
  length_without (x ∷ r) = go (length_without r) (t x.id)
    where
      go : length (without t r) ≤ length r → (b : Bool) → length (pick b (without t r) (x ∷ without t r)) ≤ suc (length r)
      go ih true = omega arith
      go ih false = omega arith

  -- a rule that was entered is removed again, or stands in its place
  pub without_insert : (x : Rule) (n : ℕ) (rs : List Rule) → from n rs ≡ true → without t (insert x rs) ≡ pick (t x.id) (without t rs) (insert x (without t rs))
  unfolding without insert
  without_insert x n [] f = refl
  without_insert x n (y ∷ r) f = go (without_insert x (suc y.id) r (from_tail n y r f)) (ltb x.id y.id) refl
    where
      W : List Rule
      W = without t r

      high : (d c : Bool) → ltb x.id y.id ≡ false → pick d (pick c W (insert x W)) (y ∷ pick c W (insert x W)) ≡ pick c (pick d W (y ∷ W)) (insert x (pick d W (y ∷ W)))
      high true true e = refl
      high true false e = refl
      high false true e = refl
      high false false e = rw e

      go : without t (insert x r) ≡ pick (t x.id) W (insert x W) → (b : Bool) → ltb x.id y.id ≡ b
          → without t (pick b (x ∷ y ∷ r) (y ∷ insert x r)) ≡ pick (t x.id) (without t (y ∷ r)) (insert x (without t (y ∷ r)))
      go ih true e =
          let k = ltb-true x.id y.id e in
          let up : from (suc x.id) (y ∷ r) ≡ true = from_cons (suc x.id) y r (omega arith) (from_tail n y r f) in
          ap (λ (l : List Rule). pick (t x.id) (without t (y ∷ r)) l) (sym (insert_front x (without t (y ∷ r)) (from_without t (suc x.id) (y ∷ r) up)))
      go ih false e =
          ap (λ (l : List Rule). pick (t y.id) l (y ∷ l)) ih
          ∙ high (t y.id) (t x.id) e

  pub without_none : ((i : ℕ) → t i ≡ false) → (rs : List Rule) → without t rs ≡ rs
  unfolding without
  without_none h [] = refl
  without_none h (x ∷ r) = rw (h x.id, without_none h r)

  pub without_same : (u : ℕ → Bool) → ((i : ℕ) → u i ≡ t i) → (rs : List Rule) → without u rs ≡ without t rs
  unfolding without
  without_same u h [] = refl
  without_same u h (x ∷ r) = rw (h x.id, without_same u h r)

  pub without_both : (u v : ℕ → Bool) → ((i : ℕ) → v i ≡ or (t i) (u i)) → (rs : List Rule) → without u (without t rs) ≡ without v rs
  unfolding without
  without_both u v h [] = refl
  without_both u v h (x ∷ r) = go (without_both u v h r) (t x.id) refl
    where
      go : without u (without t r) ≡ without v r → (b : Bool) → t x.id ≡ b → without u (pick b (without t r) (x ∷ without t r)) ≡ pick (v x.id) (without v r) (x ∷ without v r)
      go ih true e = rw (h x.id, e) ih
      go ih false e = rw (h x.id, e, ih)

-- ---- distinct ids

pub ascending_distinct : (n : ℕ) (rs : List Rule) → from n rs ≡ true → Distinct rs
ascending_distinct n [] f = none
ascending_distinct n (x ∷ r) f =
    let t = from_tail n x r f in
    more (line_low x.id (suc x.id) r (omega arith) t) (ascending_distinct (suc x.id) r t)

-- ---- an ascending list was entered rule by rule, each new

module _ (x : Rule) where
  insert_least : (n : ℕ) (rs : List Rule) → from n (insert x rs) ≡ true → n ≤ x.id
  unfolding insert
  insert_least n [] f = from_head n x [] f
  insert_least n (y ∷ r) f = go (ltb x.id y.id) refl f
    where
      go : (b : Bool) → ltb x.id y.id ≡ b → from n (pick b (x ∷ y ∷ r) (y ∷ insert x r)) ≡ true → n ≤ x.id
      go true e g = from_head n x (y ∷ r) g
      go false e g = let k = from_head n y (insert x r) g in let l = ltb-false x.id y.id e in omega arith

  pub insert_new : (n : ℕ) (rs : List Rule) → from n (insert x rs) ≡ true → (from n rs ≡ true) × (line_of x.id rs ≡ None)
  unfolding insert from line_of
  insert_new n [] f = (refl, refl)
  insert_new n (y ∷ r) f = go (insert_new (suc y.id) r) (ltb x.id y.id) refl f
    where
      go : (from (suc y.id) (insert x r) ≡ true → (from (suc y.id) r ≡ true) × (line_of x.id r ≡ None)) →
          (b : Bool) → ltb x.id y.id ≡ b → from n (pick b (x ∷ y ∷ r) (y ∷ insert x r)) ≡ true → (from n (y ∷ r) ≡ true) × (line_of x.id (y ∷ r) ≡ None)
      go ih true e g =
          let h = from_head n x (y ∷ r) g in
          let t = from_tail n x (y ∷ r) g in
          (from_less n (suc x.id) (y ∷ r) (omega arith) t, line_low x.id (suc x.id) (y ∷ r) (omega arith) t)
      go ih false e g =
          let h = from_head n y (insert x r) g in
          let t = from_tail n y (insert x r) g in
          let l = insert_least (suc y.id) r t in
          let i = ih t in
          (from_cons n y r h i.0, line_past x.id y r (λ q. omega arith) ∙ i.1)

-- the line of an id, in a list that the rule was entered into
pub line_inserted : (x : Rule) (rs : List Rule) → line_of x.id rs ≡ None → line_of x.id (insert x rs) ≡ Some x.line
unfolding insert line_of
line_inserted x [] m = rw (eq-eqb x.id x.id refl)
line_inserted x (y ∷ r) m = go (line_inserted x r) (ltb x.id y.id)
  where
    go : (line_of x.id r ≡ None → line_of x.id (insert x r) ≡ Some x.line) → (b : Bool) → line_of x.id (pick b (x ∷ y ∷ r) (y ∷ insert x r)) ≡ Some x.line
    go ih true = rw (eq-eqb x.id x.id refl)
    go ih false = let o = line_other x.id y r m in line_past x.id y (insert x r) o.0 ∙ ih o.1
