-- A table of flags written as the digits 1 and 0.
use mathlib.Core.Path.{◌≡◌, ◌∙◌, refl, sym, ap}
use mathlib.Core.Bool.{Bool, true, false}
use mathlib.Core.List.{List, [], ◌∷◌, map}
use Prim.Native.Nat.{ℕ, zero, suc, ◌≤◌}
use lib.ListN.{length, get_or, get_or-eq_default}
use lib.Dec.{eqb}
use Rattle.ascii.specs.Choice.{pick}

abbrev pub digit : Bool → ℕ
digit b = pick b 49 48

digit_one : (b : Bool) → eqb (digit b) 49 ≡ b
digit_one true = refl
digit_one false = refl

module _ {A : Type 0} (f : A → Bool) (d : A) (none : f d ≡ false) where
  -- the digit at a place is 1 exactly where the flag is set
  pub flag_at : (xs : List A) (code : ℕ) → eqb (get_or (map (λ (x : A). digit (f x)) xs) code 0) 49 ≡ f (get_or xs code d)
  flag_at [] code = sym none
  flag_at (x ∷ xs) zero = digit_one (f x)
  flag_at (x ∷ xs) (suc code) = flag_at xs code

  pub flag_past : (xs : List A) (code : ℕ) → length xs ≤ code → false ≡ f (get_or xs code d)
  flag_past xs code h = sym (ap f (get_or-eq_default xs d h) ∙ none)
