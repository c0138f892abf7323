-- Tests on bytes that the tables make.
use mathlib.Core.Path.{◌≡◌, refl}
use mathlib.Core.Logic.{◌⊎◌, ⊎_elim}
use mathlib.Core.Bool.{Bool, true, false}
use Prim.Native.Nat.{ℕ, ◌≤◌, ◌<◌}
use native.Mathlib.Omega.{arith}
use lib.Dec.{eqb}
use borrow.Author.Tests.{ne_eqb, eqb-false}
use Rattle.ascii.specs.Choice.{pick}
use Rattle.ascii.specs.Classes.{white}
use Rattle.ascii.proofs.ByteLaws.{inside, below, above}
use Rattle.places.specs.Tables.{skipped}

-- the whitespace of a margin
module _ (b : ℕ) where
  pub skipped_range : 11 ≤ b → b ≤ 13 → skipped b ≡ true
  unfolding white
  skipped_range h k = rw (ne_eqb b 10 (omega arith), inside 9 13 b (omega arith) (omega arith))

  pub skipped_not : (b ≡ 9 → ⊥) → (b < 11) ⊎ (13 < b) → (b ≡ 32 → ⊥) → skipped b ≡ false
  unfolding white
  skipped_not n h m = go (eqb b 10) refl
    where
      low : b < 11 → (b ≡ 10 → ⊥) → white b ≡ false
      low h k = rw (below 9 13 b (omega arith), ne_eqb b 32 m)

      go : (t : Bool) → eqb b 10 ≡ t → pick t false (white b) ≡ false
      go true e = refl
      go false e = ⊎_elim (λ l. low l (eqb-false b 10 e)) (λ l. rw (above 9 13 b (omega arith) (omega arith), ne_eqb b 32 m)) h
