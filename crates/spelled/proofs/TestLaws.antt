-- Tests joined and denied, taken apart.
use mathlib.Core.Path.{◌≡◌, refl, sym}
use mathlib.Core.Bool.{Bool, true, false}
use mathlib.Core.Logic.{◌⊎◌, inl, inr}
use Rattle.ascii.specs.Choice.{or}
use Rattle.ascii.proofs.TestLaws.{apart}
use Rattle.spelled.specs.Condition.{isnt}

pub denied : (x : Bool) → isnt x ≡ true → x ≡ false
denied true e = absurd (apart e refl)
denied false e = refl

pub deny : {x : Bool} → x ≡ false → isnt x ≡ true
deny e = rw e

pub either : (x y : Bool) → or x y ≡ true → (x ≡ true) ⊎ (y ≡ true)
either true y e = inl refl
either false y e = inr e

-- a test that does not hold fails
pub fails : (b : Bool) → (b ≡ true → ⊥) → b ≡ false
fails true f = absurd (f refl)
fails false f = refl

pub succeeds : (b : Bool) → (b ≡ false → ⊥) → b ≡ true
succeeds true f = refl
succeeds false f = absurd (f refl)

-- two tests of which each says the other come out alike
pub agree : (a b : Bool) → (a ≡ true → b ≡ true) → (b ≡ true → a ≡ true) → a ≡ b
agree true b f g = sym (f refl)
agree false true f g = g refl
agree false false f g = refl
