-- A list's spelling read back: the reader's own definition says what comes of it.
use Rattle.std.specs.Prelude.{Bool, true, false, List, [], ◌∷◌, map}
use Rattle.ascii.specs.Choice.{and}
use Rattle.lent.specs.Sources.{Sourced}
use Rattle.lent.specs.Table.{Outcome, refuses, reads}
use Rattle.records.specs.Actions.{Action}
use Rattle.actions.specs.Lists.{actions_of}
use Rattle.spelled.specs.Spelling.{spell_all}
use Rattle.spelled.specs.Condition.{same_action}

-- The actions, without the parts that they were read from.
abbrev pub things : List (Sourced Action) → List Action
things = map (λ (x : Sourced Action). x.thing)

unfoldable pub same_all : List Action → List Action → Bool
same_all [] [] = true
same_all [] (y ∷ ys) = false
same_all (x ∷ xs) [] = false
same_all (x ∷ xs) (y ∷ ys) = and (same_action x y) (same_all xs ys)

-- A refusal reads as no list.
abbrev pub reads_as : List Action → Outcome (List (Sourced Action)) → Bool
reads_as xs (refuses f) = false
reads_as xs (reads ys) = same_all xs (things ys)

-- Its spelling is read as the list itself.
unfoldable pub reads_back : List Action → Bool
reads_back xs = reads_as xs (actions_of (spell_all xs))
