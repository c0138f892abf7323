-- The marks of a record by their places, and a code past the table.
use mathlib.Core.Path.{◌≡◌, refl, ap}
use mathlib.Core.Bool.{false}
use Prim.Native.Nat.{ℕ, zero, suc, ◌-◌, ◌<◌}
use native.Mathlib.Omega.{arith}
use lib.ListN.{get_or, replicate, get_or-eq_default}
use Rattle.lent.specs.Sizes.{action_words}
use Rattle.records.specs.Codes.{transformation_code, Shape, no_code, shapes, shape_of, known_by}
use Rattle.records.specs.Marks.{marks_for}

-- the further words of a wider record are no texts
further : (n p : ℕ) → get_or (replicate n false) p false ≡ false
further zero p = refl
further (suc n) zero = refl
further (suc n) (suc p) = further n p

pub at_other : (c k p : ℕ) → (p ≡ 2 → ⊥) → (p ≡ 3 → ⊥) → (p ≡ 5 → ⊥) → get_or (marks_for c k) p false ≡ false
unfolding marks_for
at_other c k zero x y z = refl
at_other c k (suc zero) x y z = refl
at_other c k (suc (suc zero)) x y z = absurd (x refl)
at_other c k (suc (suc (suc zero))) x y z = absurd (y refl)
at_other c k (suc (suc (suc (suc zero)))) x y z = refl
at_other c k (suc (suc (suc (suc (suc zero))))) x y z = absurd (z refl)
at_other c k (suc (suc (suc (suc (suc (suc p)))))) x y z = further (action_words - 6) p

-- a code past the table is none
pub known_past : (c k : ℕ) → transformation_code < c → known_by (shape_of c) k ≡ false
unfolding shape_of shapes
known_past c k h = ap (λ (s : Shape). known_by s k) (get_or-eq_default shapes no_code {n = c} (omega (arith, h)))
