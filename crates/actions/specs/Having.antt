-- Whether a list has an action of a code (document 02, M-108: a rule's id, and `chain`).
use Rattle.std.specs.Prelude.{ℕ, Bool, false, List, [], ◌∷◌, eqb}
use Rattle.ascii.specs.Choice.{or}
use Rattle.lent.specs.Sources.{Sourced}
use Rattle.records.specs.Actions.{Action}

unfoldable pub has : ℕ → List (Sourced Action) → Bool
has code [] = false
has code (x ∷ xs) = or (eqb x.thing.code code) (has code xs)
