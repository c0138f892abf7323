-- The condition is exact: it holds for just the lists whose spelling is read back to them.
use mathlib.Core.Path.{◌≡◌, refl, sym}
use mathlib.Core.Bool.{true}
use mathlib.Core.List.{List, [], ◌∷◌}
use mathlib.Core.Logic.{◌↔◌}
use Rattle.ascii.proofs.TestLaws.{apart, both, joins}
use Rattle.lent.specs.Sources.{Sourced}
use Rattle.lent.specs.Table.{Outcome, refuses, reads}
use Rattle.records.specs.Actions.{Action}
use Rattle.actions.specs.Lists.{actions_of}
use Rattle.spelled.specs.Spelling.{spell_all}
use Rattle.spelled.specs.Condition.{same_action, written}
use Rattle.spelled.specs.Back.{things, same_all, reads_as, reads_back}
use Rattle.spelled.proofs.TestLaws.{agree}
use Rattle.spelled.proofs.BareLaws.{Accepted}
use Rattle.spelled.proofs.SameLaws.{action_true, true_action}
use Rattle.spelled.proofs.ListLaws.{list_back}
use Rattle.spelled.proofs.ConverseLaws.{back_written}

-- ---- lists that pass the test are equal

all_true : (xs ys : List Action) → same_all xs ys ≡ true → xs ≡ ys
unfolding same_all
all_true [] [] h = refl
all_true [] (y ∷ ys) h = absurd (apart h refl)
all_true (x ∷ xs) [] h = absurd (apart h refl)
all_true (x ∷ xs) (y ∷ ys) h =
    let p = both (same_action x y) (same_all xs ys) h in
    rw (action_true x y p.0, all_true xs ys p.1)

all_refl : (xs : List Action) → same_all xs xs ≡ true
unfolding same_all
all_refl [] = refl
all_refl (x ∷ xs) = joins (true_action x x refl) (all_refl xs)

-- ---- what it is to be read back

-- the test says that the spelling is accepted, and as these actions
pub back_is : (xs : List Action) → (reads_back xs ≡ true) ↔ ((ys : List (Sourced Action)) × (actions_of (spell_all xs) ≡ reads ys) × (things ys ≡ xs))
unfolding reads_back
back_is xs = (λ h. told (actions_of (spell_all xs)) refl h, λ a. tell a.0 a.1 a.2)
  where
    told : (o : Outcome (List (Sourced Action))) → actions_of (spell_all xs) ≡ o → reads_as xs o ≡ true → Accepted (spell_all xs) xs
    told (refuses f) e h = absurd (apart h refl)
    told (reads ys) e h = (ys, e, sym (all_true xs (things ys) h))

    tell : (ys : List (Sourced Action)) → actions_of (spell_all xs) ≡ reads ys → things ys ≡ xs → reads_as xs (actions_of (spell_all xs)) ≡ true
    tell ys e f = rw (e, f) (all_refl xs)

pub exact : (xs : List Action) → written xs ≡ reads_back xs
exact xs = agree (written xs) (reads_back xs) (λ h. (back_is xs).1 (list_back xs h)) (λ h. back_written xs ((back_is xs).0 h))
