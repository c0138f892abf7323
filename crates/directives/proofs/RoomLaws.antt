-- When the record buffers lack room, in plain words: one of the three has fewer places than records are needed.
use mathlib.Core.Path.{◌≡◌, refl}
use mathlib.Core.Logic.{◌↔◌, ◌⊎◌, inl, inr}
use Prim.Native.Nat.{ℕ, ◌≤◌, ◌<◌}
use mathlib.Core.Bool.{Bool, true, false}
use mathlib.Core.List.{List}
use native.Mathlib.Omega.{arith}
use lib.ListN.{length}
use lib.Dec.{ltb}
use borrow.Author.Tests.{ltb-true, ltb-false}
use Rattle.ascii.specs.Choice.{or}
use Rattle.lent.specs.Sizes.{variable_words, action_words, directive_words, room_for}
use Rattle.ascii.proofs.TestLaws.{apart}
use Rattle.directives.specs.Directives.{Directive}
use Rattle.directives.specs.Layout.{listed_counts, action_counts}
use Rattle.directives.specs.Promises.{Lent, rooms_of, lacks}

-- three buffers of so many places, and so many records needed
module _ (x a y b z c : ℕ) where
  abbrev Over : Type 0
  Over = (x < a) ⊎ ((y < b) ⊎ (z < c))

  abbrev pub Under : Type 0
  Under = (a ≤ x) × ((b ≤ y) × (c ≤ z))

  abbrev pub tested : Bool
  tested = or (ltb x a) (or (ltb y b) (ltb z c))

  -- one of the two holds, with what the test says of it
  told : ((tested ≡ true) × Over) ⊎ ((tested ≡ false) × Under)
  told = go (ltb x a) refl (ltb y b) refl (ltb z c) refl
    where
      go : (p : Bool) → ltb x a ≡ p → (q : Bool) → ltb y b ≡ q → (r : Bool) → ltb z c ≡ r → ((or p (or q r) ≡ true) × Over) ⊎ ((or p (or q r) ≡ false) × Under)
      go true e q f r g = inl (refl, inl (ltb-true x a e))
      go false e true f r g = inl (refl, inr (inl (ltb-true y b f)))
      go false e false f true g = inl (refl, inr (inr (ltb-true z c g)))
      go false e false f false g = inr (refl, (ltb-false x a e, (ltb-false y b f, ltb-false z c g)))

  over_under : Over → Under → ⊥
  over_under (inl h) (i, j) = absurd (omega arith)
  over_under (inr (inl h)) (i, (j, k)) = absurd (omega arith)
  over_under (inr (inr h)) (i, (j, k)) = absurd (omega arith)

  over_is : (tested ≡ true) ↔ Over
  over_is = go told
    where
      go : ((tested ≡ true) × Over) ⊎ ((tested ≡ false) × Under) → (tested ≡ true) ↔ Over
      go (inl (e, h)) = (λ q. h, λ o. e)
      go (inr (e, h)) = (λ q. absurd (apart q e), λ o. absurd (over_under o h))

  pub under_is : (tested ≡ false) ↔ Under
  under_is = go told
    where
      go : ((tested ≡ true) × Over) ⊎ ((tested ≡ false) × Under) → (tested ≡ false) ↔ Under
      go (inl (e, h)) = (λ q. absurd (apart e q), λ u. absurd (over_under h u))
      go (inr (e, h)) = (λ q. h, λ u. e)

-- how many records each buffer has room for
abbrev pub directive_room : Lent → ℕ
directive_room m = room_for directive_words (length m.directives)

abbrev pub variable_room : Lent → ℕ
variable_room m = room_for variable_words (length m.variables)

abbrev pub action_room : Lent → ℕ
action_room m = room_for action_words (length m.actions)

module _ (m : Lent) (ds : List Directive) where
  -- more records are needed than one of the buffers has room for, or not
  abbrev pub Crowded : Type 0
  Crowded = (directive_room m < length ds) ⊎ ((variable_room m < listed_counts ds) ⊎ (action_room m < action_counts ds))

  abbrev pub Roomy : Type 0
  Roomy = (length ds ≤ directive_room m) × ((listed_counts ds ≤ variable_room m) × (action_counts ds ≤ action_room m))

  pub crowded_is : (lacks (rooms_of m) ds ≡ true) ↔ Crowded
  crowded_is = over_is (directive_room m) (length ds) (variable_room m) (listed_counts ds) (action_room m) (action_counts ds)

  pub roomy_is : (lacks (rooms_of m) ds ≡ false) ↔ Roomy
  roomy_is = under_is (directive_room m) (length ds) (variable_room m) (listed_counts ds) (action_room m) (action_counts ds)
