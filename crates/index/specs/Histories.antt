-- Which rules stand after a history, and what is answered then. Nothing here knows of slices.
use Rattle.std.specs.Prelude.{ℕ, ◌+◌, ◌-◌, Bool, false, List, [], ◌∷◌, length, Option, Some, None}
use Rattle.ascii.specs.Choice.{pick, or}
use Rattle.lent.specs.Table.{Given, given}
use Rattle.rules.specs.Selectors.{matched}
use Rattle.rules.specs.declared.selecting.RuleIdSelector.{RuleIdSelector}
use Rattle.index.specs.Standing.{Rule, without, Verdict, passes, taken, full, enters}

-- What a call did: a rule was accepted, by its id if it has one and with its line; rules were removed; or the call was refused.
pub data Event : Type 0 where
  accepted : Option ℕ → ℕ → Event
  removed : RuleIdSelector → Event
  refused : Event

-- whether an id is removed by something in a history
unfoldable pub removed_in : List Event → ℕ → Bool
removed_in [] id = false
removed_in (accepted n l ∷ h) id = removed_in h id
removed_in (removed selector ∷ h) id = or (matched selector id) (removed_in h id)
removed_in (refused ∷ h) id = removed_in h id

-- a rule that was accepted stands if it has an id and nothing later removes it
abbrev pub stays : Option ℕ → ℕ → (ℕ → Bool) → List Rule → List Rule
stays None line gone rs = rs
stays (Some id) line gone rs = pick (gone id) rs (record { id = id; line = line } ∷ rs)

-- The rules that stand after a history: accepted with an id, and not since removed.
unfoldable pub standing : List Event → List Rule
standing [] = []
standing (accepted n l ∷ h) = stays n l (removed_in h) (standing h)
standing (removed selector ∷ h) = standing h
standing (refused ∷ h) = standing h

-- What adding answers, by what it comes to where so many rules stand and so many have a place; and what removing answers.
abbrev pub added_told : ℕ → ℕ → Verdict → Given
added_told places count passes = given 0 (0 ∷ count ∷ [])
added_told places count (taken line) = given 16 (line ∷ [])
added_told places count full = given 17 (places ∷ [])
added_told places count (enters x) = given 0 (1 ∷ (count + 1) ∷ [])

abbrev pub removed_told : RuleIdSelector → List Rule → Given
removed_told selector rs = given 0 ((length rs - length (without (matched selector) rs)) ∷ length (without (matched selector) rs) ∷ [])

-- each of these rules accepted, and nothing else
unfoldable pub accepting : List Rule → List Event
accepting [] = []
accepting (x ∷ xs) = accepted (Some x.id) x.line ∷ accepting xs
