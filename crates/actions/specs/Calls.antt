-- What can be told of a list's pieces before any reading: all give an action, or one is the first that does not.
use Rattle.std.specs.Prelude.{◌≡◌, List, [], ◌∷◌, ◌++◌, ℕ}
use Rattle.single_action.specs.Actions.{Action, Single, done, single}
use Rattle.actions.specs.Pieces.{Piece}

-- Every piece gives an action.
unfoldable pub AllDone : List Piece → Type 0
AllDone [] = Unit {0}
AllDone (p ∷ ps) = ((x : Action) × (single p.text ≡ done x)) × AllDone ps

-- The first piece that gives none is refused in this way, with a name.
pub record FirstRefused (way : List ℕ → Single) (ps : List Piece) : Type 0 where
  pub passed : List Piece
  pub piece : Piece
  pub others : List Piece
  pub parted : ps ≡ passed ++ piece ∷ others
  pub before : AllDone passed
  pub name : List ℕ
  pub refused : single piece.text ≡ way name
