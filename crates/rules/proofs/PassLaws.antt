-- The grade says what the documents say of it, in both directions.
use mathlib.Core.Path.{◌≡◌, refl, subst}
use mathlib.Core.Bool.{Bool, true, false}
use mathlib.Core.List.{List, [], ◌∷◌}
use mathlib.Core.Logic.{◌↔◌}
use Prim.Native.Nat.{ℕ, ◌≤◌}
use lib.Dec.{eqb, leb}
use borrow.Author.Tests.{eqb-true, eqb-false, le-leb, leb-true}
use Rattle.ascii.specs.Choice.{pick, and}
use Rattle.ascii.proofs.TestLaws.{both, joins}
use Rattle.rules.specs.Entries.{Entry, id_code, phase_code, severity_code, maturity_code, accuracy_code}
use Rattle.rules.specs.Grades.{between, fine, all_fine, ids, grades, Asked, Every, none, more, Passes}

between_is : (l m n : ℕ) → between l m n ≡ true → (l ≤ n) × (n ≤ m)
between_is l m n e = let k = both (leb l n) (leb n m) e in (leb-true l n k.0, leb-true n m k.1)

is_between : (l m n : ℕ) → (l ≤ n) × (n ≤ m) → between l m n ≡ true
is_between l m n h = joins (le-leb l n h.0) (le-leb n m h.1)

-- ---- one action

fine_asked : (e : Entry) → fine e.code e.number ≡ true → Asked e
unfolding fine
fine_asked e f = record {
  id = λ q. leb-true _ _ (at q);
  phase = λ q. between_is _ _ _ (at q);
  severity = λ q. leb-true _ _ (at q);
  maturity = λ q. between_is _ _ _ (at q);
  accuracy = λ q. between_is _ _ _ (at q);
}
  where
    at : {k : ℕ} → e.code ≡ k → fine k e.number ≡ true
    at q = subst (λ (c : ℕ). fine c e.number ≡ true) q f

asked_fine : (e : Entry) → Asked e → fine e.code e.number ≡ true
unfolding fine
asked_fine e x =
    by id_code (λ q. le-leb _ _ (x.id q)) (λ a.
    by phase_code (λ q. is_between _ _ _ (x.phase q)) (λ b.
    by severity_code (λ q. le-leb _ _ (x.severity q)) (λ c.
    by maturity_code (λ q. is_between _ _ _ (x.maturity q)) (λ d.
    by accuracy_code (λ q. is_between _ _ _ (x.accuracy q)) (λ e. refl)))))
  where
    by : (k : ℕ) {y z : Bool} → (e.code ≡ k → y ≡ true) → ((e.code ≡ k → ⊥) → z ≡ true) → pick (eqb e.code k) y z ≡ true
    by k {y} {z} f g = go (eqb e.code k) refl
      where
        go : (t : Bool) → eqb e.code k ≡ t → pick t y z ≡ true
        go true h = f (eqb-true e.code k h)
        go false h = g (eqb-false e.code k h)

-- ---- all of them

fine_each : (es : List Entry) → all_fine es ≡ true → Every Asked es
unfolding all_fine
fine_each [] h = none
fine_each (e ∷ r) h = let k = both (fine e.code e.number) (all_fine r) h in more (fine_asked e k.0) (fine_each r k.1)

each_fine : {es : List Entry} → Every Asked es → all_fine es ≡ true
unfolding all_fine
each_fine none = refl
each_fine (more {e} {r} x xs) = joins (asked_fine e x) (each_fine xs)

-- A list of actions passes exactly when it is as the documents say.
pub grade_passes : (es : List Entry) → (grades es ≡ true) ↔ Passes es
unfolding grades
grade_passes es = (there, back)
  where
    there : and (all_fine es) (leb (ids es) 1) ≡ true → Passes es
    there e = let k = both (all_fine es) (leb (ids es) 1) e in record { one_id = leb-true (ids es) 1 k.1; each = fine_each es k.0 }

    back : Passes es → and (all_fine es) (leb (ids es) 1) ≡ true
    back p = joins (each_fine p.each) (le-leb (ids es) 1 p.one_id)
