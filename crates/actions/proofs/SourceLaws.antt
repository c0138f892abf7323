-- Where the actions of a list, or its refused piece, stand: inside the text that was cut, and the bytes there are the piece.
use mathlib.Core.List.{List, [], ◌∷◌}
use Prim.Native.Nat.{ℕ, suc, ◌≤◌, ◌<◌}
use lib.ListN.{length}
use Rattle.lent.specs.Sources.{Part, Sourced, sourced}
use Rattle.lent.specs.Table.{Refusal, too_long, not_ascii, short_buffer, no_room, named, unknown_operator, bad_cursor, Outcome, refuses, reads}
use Rattle.single_action.specs.Actions.{Action, Single, done, bad, unknown, single}
use Rattle.actions.specs.Pieces.{Piece, pieces}
use Rattle.actions.specs.Lists.{action_then, single_then, actions_from, listed}
use Rattle.actions.proofs.PlaceLaws.{AllStand, none, also, pieces_stand}

-- a part of a text of n bytes that is not empty
pub record Inside (n : ℕ) (x : Part) : Type 0 where
  pub some : x.first < x.past
  pub inside : x.past ≤ n

abbrev pub EachInside : ℕ → List (Sourced Action) → Type 0
EachInside n [] = Unit {0}
EachInside n (x ∷ xs) = Inside n x.source × EachInside n xs

abbrev pub RefusedInside : ℕ → Refusal → Type 0
RefusedInside n too_long = Unit {0}
RefusedInside n (not_ascii p) = Unit {0}
RefusedInside n short_buffer = Unit {0}
RefusedInside n (no_room p) = Unit {0}
RefusedInside n (named why p name x) = Inside n x
RefusedInside n (unknown_operator p l x) = Unit {0}
RefusedInside n bad_cursor = Unit {0}

abbrev pub AllInside : ℕ → Outcome (List (Sourced Action)) → Type 0
AllInside n (refuses f) = RefusedInside n f
AllInside n (reads xs) = EachInside n xs

then_inside : (n : ℕ) (x : Sourced Action) (o : Outcome (List (Sourced Action))) → Inside n x.source → AllInside n o → AllInside n (action_then x o)
then_inside n x (refuses f) h a = a
then_inside n x (reads xs) h a = (h, a)

single_inside : (n k : ℕ) (x : Part) (v : Single) (o : Outcome (List (Sourced Action))) → Inside n x → AllInside n o → AllInside n (single_then k x v o)
single_inside n k x (done a) o h i = then_inside n (sourced a x) o h i
single_inside n k x (bad flaw name) o h i = h
single_inside n k x (unknown name) o h i = h

from_inside : (s : List ℕ) (k : ℕ) (ps : List Piece) → AllStand s ps → AllInside (length s) (actions_from k ps)
unfolding actions_from
from_inside s k [] none = tt
from_inside s k (p ∷ ps) (also h a) =
    single_inside (length s) k p.place (single p.text) (actions_from (suc k) ps) (record { some = h.some; inside = h.inside }) (from_inside s (suc k) ps a)

pub listed_inside : (s : List ℕ) → AllInside (length s) (listed s)
listed_inside s = from_inside s 0 (pieces s) (pieces_stand s)
