-- Texts put between marks or on both sides of a byte, and taken apart again.
use mathlib.Core.Path.{◌≡◌, ◌∙◌, refl, ap}
use mathlib.Core.Bool.{Bool, true, false}
use mathlib.Core.List.{List, [], ◌∷◌, ◌++◌}
use Prim.Native.Nat.{ℕ, suc, ◌+◌, ◌-◌}
use native.Mathlib.Omega.{arith}
use lib.ListN.{length, get_or, length-append}
use lib.Seq.{take_at}
use lib.Dec.{eqb, leb}
use borrow.Author.Tests.{eqb-true, eq-eqb, le-leb}
use Rattle.ascii.specs.Choice.{pick, or}
use Rattle.ascii.specs.Classes.{white, within}
use Rattle.ascii.specs.Trim.{strip_start, strip_end, before, trim_ends}
use Rattle.ascii.specs.Splits.{whole, halves, split}
use Rattle.ascii.proofs.TestLaws.{or_false}
use Rattle.single_action.specs.Marks.{quotation, stripped, paired, unpaired}
use Rattle.spelled.specs.Spelling.{has, between}
use Rattle.spelled.specs.Condition.{first_by, last_by}

-- ---- a split

pub split_back : (m : ℕ) (a b : List ℕ) → has m a ≡ false → split m (a ++ (m ∷ b)) ≡ halves a b
unfolding split has
split_back m [] b h = rw (eq-eqb m m refl)
split_back m (x ∷ a) b h =
    let n = or_false (eqb x m) (has m a) h in
    rw (n.0, split_back m a b n.1)

pub split_none : (m : ℕ) (a : List ℕ) → has m a ≡ false → split m a ≡ whole a
unfolding split has
split_none m [] h = refl
split_none m (x ∷ a) h =
    let n = or_false (eqb x m) (has m a) h in
    rw (n.0, split_none m a n.1)

pub has_append : (m : ℕ) (a b : List ℕ) → has m a ≡ false → has m b ≡ false → has m (a ++ b) ≡ false
unfolding has
has_append m [] b h k = k
has_append m (x ∷ a) b h k =
    let n = or_false (eqb x m) (has m a) h in
    rw (n.0, has_append m a b n.1 k)

-- ---- stripping by a test

module _ (test : ℕ → Bool) where
  pub last_append : (d : Bool) (s : List ℕ) (b : ℕ) (r : List ℕ) → last_by test d (s ++ (b ∷ r)) ≡ last_by test (test b) r
  unfolding last_by
  last_append d [] b r = refl
  last_append d (x ∷ s) b r = last_append (test x) s b r

  pub start_alone : (s : List ℕ) → first_by test s ≡ false → strip_start test s ≡ s
  unfolding strip_start
  start_alone [] h = refl
  start_alone (b ∷ r) h = rw h

  -- a byte that passes, or a last one that does not
  pub end_alone : (s : List ℕ) → last_by test false s ≡ false → strip_end test s ≡ s
  unfolding strip_end last_by
  end_alone [] h = refl
  end_alone (b ∷ []) h = rw h
  end_alone (b ∷ c ∷ r) h = ap (before test b) (end_alone (c ∷ r) h)

  pub end_drops : (s : List ℕ) (m : ℕ) → test m ≡ true → strip_end test (s ++ (m ∷ [])) ≡ strip_end test s
  unfolding strip_end
  end_drops [] m w = rw w
  end_drops (x ∷ s) m w = ap (before test x) (end_drops s m w)

-- ---- between marks

pub stripped_between : (m : ℕ) (t : List ℕ) → quotation m ≡ true → first_by quotation t ≡ false → last_by quotation false t ≡ false → stripped (between m t) ≡ t
unfolding strip_start
stripped_between m [] q f l = rw q (end_alone quotation [] l)
stripped_between m (b ∷ t) q f l = rw (q, f) (end_drops quotation (b ∷ t) m q ∙ end_alone quotation (b ∷ t) l)

pub mark_white : (m : ℕ) → quotation m ≡ true → white m ≡ false
unfolding white quotation
mark_white m q = go (eqb m 34) refl q
  where
    go : (t : Bool) → eqb m 34 ≡ t → quotation m ≡ true → or (within 9 13 m) (eqb m 32) ≡ false
    go true e q = rw (eqb-true m 34 e)
    go false e q = rw (eqb-true m 39 (rw e at q))

pub trimmed_between : (m : ℕ) (t : List ℕ) → quotation m ≡ true → trim_ends (between m t) ≡ between m t
unfolding last_by
trimmed_between m t q =
    let w = mark_white m q in
    ap (strip_end white) (start_alone white (between m t) w)
    ∙ end_alone white (between m t) (go t w)
  where
    go : (t : List ℕ) → white m ≡ false → last_by white false (between m t) ≡ false
    go t w = last_append white (white m) t m [] ∙ w

pub unpaired_between : (m : ℕ) (t : List ℕ) → quotation m ≡ true → unpaired (between m t) ≡ t
unfolding unpaired paired
unpaired_between m t q =
    let l : length (t ++ (m ∷ [])) ≡ length t + 1 = length-append t (m ∷ []) in
    let long : leb 2 (suc (length (t ++ (m ∷ [])))) ≡ true = le-leb 2 (suc (length (t ++ (m ∷ [])))) (omega arith) in
    let k : suc (length (t ++ (m ∷ []))) - 1 ≡ suc (length t) = omega arith in
    let j : suc (length (t ++ (m ∷ []))) - 2 ≡ length t = omega arith in
    let g : get_or (t ++ (m ∷ [])) (length t) 0 ≡ m = at_end t in
    rw (long, k, j, q, g, eq-eqb m m refl) (take_at t (m ∷ []) (length t) refl)
  where
    at_end : (t : List ℕ) → get_or (t ++ (m ∷ [])) (length t) 0 ≡ m
    at_end [] = refl
    at_end (b ∷ t) = at_end t

-- the mark of a text is one
pub mark_is : (t : Bool) → quotation (pick t 34 39) ≡ true
unfolding quotation
mark_is true = refl
mark_is false = refl
