-- The actions of a list, or its first refusal: what parse_actions gives back.
use Rattle.std.specs.Prelude.{ℕ, suc, List, [], ◌∷◌}
use Rattle.lent.specs.Sources.{Part, Sourced, sourced}
use Rattle.lent.specs.Table.{unknown_action, bad_argument, Outcome, refuses, reads, sited_outcome}
use Rattle.places.specs.declared.Rule.TheVariants.{Joined}
use Rattle.places.specs.Sites.{site_of}
use Rattle.single_action.specs.Actions.{Action, Single, done, bad, unknown, single}
use Rattle.actions.specs.Normal.{normalised}
use Rattle.actions.specs.Pieces.{Piece, pieces}

-- An action before those of the pieces after it, if these are read.
abbrev pub action_then : Sourced Action → Outcome (List (Sourced Action)) → Outcome (List (Sourced Action))
action_then a (refuses f) = refuses f
action_then a (reads xs) = reads (a ∷ xs)

-- Piece k, that stands at x, before those after it: the `?` of parse_actions, so that the first refusal is the answer.
abbrev pub single_then : ℕ → Part → Single → Outcome (List (Sourced Action)) → Outcome (List (Sourced Action))
single_then k x (done a) o = action_then (sourced a x) o
single_then k x (bad flaw name) o = refuses (bad_argument flaw k name x)
single_then k x (unknown name) o = refuses (unknown_action k name x)

-- The actions of pieces that are counted from k: the calls of parse_single_action in parse_actions.
unfoldable pub actions_from : ℕ → List Piece → Outcome (List (Sourced Action))
actions_from k [] = reads []
actions_from k (p ∷ ps) = single_then k p.place (single p.text) (actions_from (suc k) ps)

-- Those of a normalised text, with their places in it.
abbrev pub listed : List ℕ → Outcome (List (Sourced Action))
listed s = actions_from 0 (pieces s)

-- Where a part of the normalised text of s stands in s.
abbrev pub normal_site : List ℕ → Part → Part
normal_site s = site_of Joined 0 s

-- The actions of a text, parse_actions, each with the part of the text that it was read from.
unfoldable pub actions_of : List ℕ → Outcome (List (Sourced Action))
actions_of s = sited_outcome (normal_site s) (listed (normalised s))
