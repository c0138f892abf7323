-- A rule of a whole table as one computed test, and what it says at each place.
use mathlib.Core.Path.{◌≡◌}
use mathlib.Core.Logic.{◌⊎◌, inl, inr}
use mathlib.Core.Bool.{Bool, true}
use Prim.Native.Nat.{ℕ, zero, suc, ◌<◌}
use native.Mathlib.Nat.{not-suc-le-zero, le_of_suc-le-suc, eq-or-lt_of_le}
use Rattle.ascii.proofs.SameLaws.{and_left, and_right}
use Rattle.ascii.specs.Choice.{and}

-- the test passes at each place below n
unfoldable pub every : (ℕ → Bool) → ℕ → Bool
every f zero = true
every f (suc n) = and (f n) (every f n)

pub at : (f : ℕ → Bool) (n : ℕ) → every f n ≡ true → (k : ℕ) → k < n → f k ≡ true
unfolding every
at f zero e k h = absurd (not-suc-le-zero h)
at f (suc n) e k h = go (at f n (and_right (f n) (every f n) e) k) (eq-or-lt_of_le (le_of_suc-le-suc h))
  where
    go : (k < n → f k ≡ true) → (k ≡ n) ⊎ (k < n) → f k ≡ true
    go r (inl p) = rw p (and_left (f n) (every f n) e)
    go r (inr l) = r l
