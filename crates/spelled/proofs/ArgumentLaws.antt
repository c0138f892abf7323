-- What stands behind a name, by its rule, as the code puts it.
use mathlib.Core.Path.{◌≡◌, refl, ap}
use mathlib.Core.List.{List, [], ◌∷◌, ◌++◌}
use Prim.Native.Nat.{ℕ}
use Rattle.listing.specs.Json.{decimal}
use Rattle.single_action.specs.declared.naming.Rule.TheVariants.{Plain as plain, Wanted as wanted, Unmarked as unmarked, UpTo as up_to, Severity as severity, Equation as equation, Expiry as expiry, Setting as setting}
use Rattle.single_action.specs.Plans.{cut}
use Rattle.spelled.specs.Spelling.{between, setvar_in, setvar_text}
use Rattle.spelled.specs.Steps.{Placed, entry_action, behind_name}
use Rattle.spelled.specs.declared.entries.Entry.{Entry}

module _ {s : List ℕ} {e : Entry} (p : Placed s e) (m : ℕ) where
  pub behind_plain : behind_name plain m (entry_action s e) ≡ []
  unfolding behind_name
  behind_plain = refl

  pub behind_wanted : behind_name wanted m (entry_action s e) ≡ 58 ∷ cut s e.first e.second
  unfolding behind_name
  behind_wanted = ap (λ (t : List ℕ). 58 ∷ t) p.a_is

  pub behind_unmarked : behind_name unmarked m (entry_action s e) ≡ (58 ∷ []) ++ ((m ∷ cut s e.first e.second) ++ (m ∷ []))
  unfolding behind_name
  behind_unmarked = ap (λ (t : List ℕ). 58 ∷ between m t) p.a_is

  pub behind_up_to : (most : ℕ) → behind_name (up_to most) m (entry_action s e) ≡ 58 ∷ decimal e.number
  unfolding behind_name entry_action
  behind_up_to most = refl

  pub behind_severity : behind_name severity m (entry_action s e) ≡ 58 ∷ decimal e.number
  unfolding behind_name entry_action
  behind_severity = refl

  pub behind_equation : behind_name equation m (entry_action s e) ≡ (58 ∷ cut s e.first e.second) ++ (61 ∷ cut s e.second e.third)
  unfolding behind_name
  behind_equation = rw (p.a_is, p.b_is)

  pub behind_expiry : behind_name expiry m (entry_action s e) ≡ (58 ∷ cut s e.first e.second) ++ (61 ∷ decimal e.number)
  unfolding behind_name entry_action
  behind_expiry = ap (λ (t : List ℕ). (58 ∷ t) ++ (61 ∷ decimal e.number)) p.a_is

  pub behind_setting : behind_name setting m (entry_action s e) ≡ (58 ∷ []) ++ ((m ∷ []) ++ (setvar_text (setvar_in (entry_action s e)) ++ (m ∷ [])))
  unfolding behind_name
  behind_setting = refl
