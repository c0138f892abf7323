-- Bytes counted by a test: in lists, and in what is taken off a text or apart. The test is a parameter.
use mathlib.Core.Path.{◌≡◌, refl}
use mathlib.Core.Bool.{Bool, true, false}
use mathlib.Core.List.{List, [], ◌∷◌, ◌++◌}
use Prim.Native.Nat.{ℕ, zero, suc, ◌+◌, ◌≤◌, ◌<◌, ◌-◌}
use native.Mathlib.Omega.{arith}
use lib.ListN.{length, take, drop}
use lib.Dec.{eqb}
use Rattle.ascii.specs.Choice.{pick}
use Rattle.ascii.specs.Trim.{strip_start, strip_end, strip_ends, before}
use Rattle.ascii.specs.Splits.{Split, whole, halves, onto, split}
use Rattle.records.specs.Actions.{Action, slot_text, action_text}
use Rattle.single_action.specs.Marks.{paired, unpaired}

-- how many bytes pass the test
unfoldable pub count : (ℕ → Bool) → List ℕ → ℕ
count test [] = 0
count test (b ∷ r) = pick (test b) (suc (count test r)) (count test r)

-- names, numbers, marks and signs do not pass it
pub record Tidy (test : ℕ → Bool) : Type 0 where
  pub solid : (b : ℕ) → 45 ≤ b → b < 128 → test b ≡ false
  pub bang : test 33 ≡ false
  pub double : test 34 ≡ false
  pub single : test 39 ≡ false
  pub plus : test 43 ≡ false

-- ---- any test

module _ (test : ℕ → Bool) where
  abbrev pub counted : List ℕ → ℕ
  counted = count test

  pub nil_count : counted [] ≡ 0
  unfolding count
  nil_count = refl

  pub count_append : (a b : List ℕ) → counted (a ++ b) ≡ counted a + counted b
  unfolding count
  count_append [] b = omega arith
  count_append (x ∷ a) b = go (test x) (count_append a b)
    where
      go : (t : Bool) → counted (a ++ b) ≡ counted a + counted b → pick t (suc (counted (a ++ b))) (counted (a ++ b)) ≡ pick t (suc (counted a)) (counted a) + counted b
      go true h = omega arith
      go false h = h

  pub count_cons : (b : ℕ) (r : List ℕ) → counted r ≤ counted (b ∷ r)
  unfolding count
  count_cons b r = go (test b)
    where
      go : (t : Bool) → counted r ≤ pick t (suc (counted r)) (counted r)
      go true = omega arith
      go false = omega arith

  pub count_more : (b : ℕ) (r s : List ℕ) → counted r ≤ counted s → counted (b ∷ r) ≤ counted (b ∷ s)
  unfolding count
  count_more b r s h = go (test b)
    where
      go : (t : Bool) → pick t (suc (counted r)) (counted r) ≤ pick t (suc (counted s)) (counted s)
      go true = omega arith
      go false = h

  pub count_drop : (n : ℕ) (s : List ℕ) → counted (drop n s) ≤ counted s
  count_drop zero s = omega arith
  count_drop (suc n) [] = omega arith
  count_drop (suc n) (b ∷ r) = omega (arith, count_drop n r, count_cons b r)

  pub count_take : (n : ℕ) (s : List ℕ) → counted (take n s) ≤ counted s
  unfolding count
  count_take zero s = omega arith
  count_take (suc n) [] = omega arith
  count_take (suc n) (b ∷ r) = count_more b (take n r) r (count_take n r)

  pub skip : (b : ℕ) (s : List ℕ) → test b ≡ false → counted (b ∷ s) ≡ counted s
  unfolding count
  skip b s e = rw e

  abbrev pub one : ℕ → ℕ
  one b = counted (b ∷ [])

  pub cons_count : (b : ℕ) (r : List ℕ) → counted (b ∷ r) ≡ one b + counted r
  cons_count b r = count_append (b ∷ []) r

  -- ---- what is taken off or apart

  module _ (by : ℕ → Bool) where
    start_count : (s : List ℕ) → counted (strip_start by s) ≤ counted s
    unfolding strip_start
    start_count [] = omega arith
    start_count (b ∷ r) = go (by b) (start_count r)
      where
        go : (t : Bool) → counted (strip_start by r) ≤ counted r → counted (pick t (strip_start by r) (b ∷ r)) ≤ counted (b ∷ r)
        go true h = omega (arith, count_cons b r)
        go false h = omega arith

    pub before_count : (b : ℕ) (l : List ℕ) → counted (before by b l) ≤ counted (b ∷ l)
    unfolding count
    before_count b [] = go (by b)
      where
        go : (t : Bool) → counted (pick t [] (b ∷ [])) ≤ counted (b ∷ [])
        go true = omega (arith, count_cons b [], nil_count)
        go false = omega arith
    before_count b (x ∷ l) = omega arith

    end_count : (s : List ℕ) → counted (strip_end by s) ≤ counted s
    unfolding strip_end
    end_count [] = omega arith
    end_count (b ∷ r) = omega (arith, before_count b (strip_end by r), count_more b (strip_end by r) r (end_count r))

    pub ends_count : (s : List ℕ) → counted (strip_ends by s) ≤ counted s
    ends_count s = omega (arith, end_count (strip_start by s), start_count s)

  pub unpaired_count : (s : List ℕ) → counted (unpaired s) ≤ counted s
  unfolding unpaired
  unpaired_count s = go (paired s)
    where
      go : (t : Bool) → counted (pick t (take (length s - 2) (drop 1 s)) s) ≤ counted s
      go true = omega (arith, count_take (length s - 2) (drop 1 s), count_drop 1 s)
      go false = omega arith

  abbrev pub split_count : Split → ℕ
  split_count (whole a) = counted a
  split_count (halves a b) = counted a + counted b

  onto_count : (b : ℕ) (x : Split) (r : List ℕ) → split_count x ≤ counted r → split_count (onto b x) ≤ counted (b ∷ r)
  unfolding count
  onto_count b (whole a) r h = count_more b a r h
  onto_count b (halves a c) r h = go (test b)
    where
      go : (t : Bool) → pick t (suc (counted a)) (counted a) + counted c ≤ pick t (suc (counted r)) (counted r)
      go true = omega arith
      go false = h

  pub split_count_lem : (m : ℕ) (s : List ℕ) → split_count (split m s) ≤ counted s
  unfolding split
  split_count_lem m [] = omega arith
  split_count_lem m (b ∷ r) = go (eqb b m) (split_count_lem m r)
    where
      go : (t : Bool) → split_count (split m r) ≤ counted r → split_count (pick t (halves [] r) (onto b (split m r))) ≤ counted (b ∷ r)
      go true h = omega (arith, count_cons b r, nil_count)
      go false h = onto_count b (split m r) r h

  -- the texts of an action, counted one by one
  pub texts_count : (x : Action) → counted (action_text x) ≡ counted (slot_text x.a) + (counted (slot_text x.b) + counted (slot_text x.c))
  unfolding action_text
  texts_count x =
      omega (arith, count_append (slot_text x.a) (slot_text x.b ++ slot_text x.c), count_append (slot_text x.b) (slot_text x.c))
