-- The texts of an accepted list, and the name of a refused one, are no longer than the normalised text; those of a setvar alone than the input plus 3.
-- Each piece pays for its own.
use mathlib.Core.List.{List, [], ◌∷◌}
use Prim.Native.Nat.{ℕ, suc, ◌+◌, ◌≤◌}
use native.Mathlib.Omega.{arith}
use lib.ListN.{length, length-append}
use Rattle.lent.specs.Table.{too_long, not_ascii, short_buffer, no_room, named, no_action, no_argument, no_variable, unknown_operator, bad_cursor, Outcome, refuses, reads, sited_outcome}
use Rattle.lent.specs.Sources.{Part, Sourced, sourced}
use Rattle.lent.proofs.LayoutLaws.{sited_texts}
use Rattle.lent.specs.Layout.{texts_of}
use Rattle.records.specs.Codes.{set_var_code}
use Rattle.single_action.specs.Setvar.{setvar}
use Rattle.single_action.specs.Actions.{Action, action_text, Single, done, bad, unknown, setvar_action, single}
use Rattle.single_action.proofs.SingleLaws.{Within, setvar_text_lem, single_within}
use Rattle.actions.specs.Normal.{normalised}
use Rattle.actions.specs.Pieces.{Piece, pieces}
use Rattle.actions.specs.Lists.{action_then, single_then, actions_from, listed, normal_site, actions_of}
use Rattle.actions.specs.Layout.{full_text, texts}
use Rattle.actions.specs.Promises.{setvar_alone}
use Rattle.actions.proofs.PieceLaws.{taken, pieces_taken}

-- ---- a list

-- what a list writes is at most n bytes long
abbrev pub Fits : ℕ → Outcome (List (Sourced Action)) → Type 0
Fits n (reads xs) = length (texts xs) ≤ n
Fits n (refuses (named no_action k name x')) = length name ≤ n
Fits n (refuses (named (no_argument flaw) k name x')) = length name ≤ n
Fits n (refuses too_long) = Unit {0}
Fits n (refuses (not_ascii k)) = Unit {0}
Fits n (refuses short_buffer) = Unit {0}
Fits n (refuses (no_room k)) = Unit {0}
Fits n (refuses (named no_variable k name x')) = Unit {0}
Fits n (refuses (unknown_operator k l x')) = Unit {0}
Fits n (refuses bad_cursor) = Unit {0}

action_fits : (x : Sourced Action) (o : Outcome (List (Sourced Action))) (m n : ℕ) → length (full_text x) ≤ m → Fits n o → Fits (m + n) (action_then x o)
unfolding texts_of
action_fits x (reads xs) m n h k = omega (arith, length-append (full_text x) (texts xs))
action_fits x (refuses (named no_action p name x')) m n h k = omega arith
action_fits x (refuses (named (no_argument flaw) p name x')) m n h k = omega arith
action_fits x (refuses too_long) m n h k = tt
action_fits x (refuses (not_ascii p)) m n h k = tt
action_fits x (refuses short_buffer) m n h k = tt
action_fits x (refuses (no_room p)) m n h k = tt
action_fits x (refuses (named no_variable p name x')) m n h k = tt
action_fits x (refuses (unknown_operator p l x')) m n h k = tt
action_fits x (refuses bad_cursor) m n h k = tt

single_fits : (p : ℕ) (place : Part) (x : Single) (o : Outcome (List (Sourced Action))) (m n : ℕ) → Within m x → Fits n o → Fits (m + n) (single_then p place x o)
single_fits p place (done x) o m n h k = action_fits (sourced x place) o m n h k
single_fits p place (bad flaw name) o m n h k = omega arith
single_fits p place (unknown name) o m n h k = omega arith

from_fits : (k : ℕ) (ps : List Piece) → Fits (taken ps) (actions_from k ps)
unfolding actions_from taken texts_of
from_fits k [] = omega arith
from_fits k (p ∷ ps) = single_fits k p.place (single p.text) (actions_from (suc k) ps) (length p.text) (taken ps) (single_within p.text) (from_fits (suc k) ps)

fits_more : (o : Outcome (List (Sourced Action))) (m n : ℕ) → m ≤ n → Fits m o → Fits n o
fits_more (reads xs) m n h k = omega arith
fits_more (refuses (named no_action p name x')) m n h k = omega arith
fits_more (refuses (named (no_argument flaw) p name x')) m n h k = omega arith
fits_more (refuses too_long) m n h k = tt
fits_more (refuses (not_ascii p)) m n h k = tt
fits_more (refuses short_buffer) m n h k = tt
fits_more (refuses (no_room p)) m n h k = tt
fits_more (refuses (named no_variable p name x')) m n h k = tt
fits_more (refuses (unknown_operator p l x')) m n h k = tt
fits_more (refuses bad_cursor) m n h k = tt

-- wherever they stand, the texts are the same
sited_fits : (f : Part → Part) (o : Outcome (List (Sourced Action))) (n : ℕ) → Fits n o → Fits n (sited_outcome f o)
sited_fits f (reads xs) n h = rw (sited_texts f action_text xs) h
sited_fits f (refuses (named no_action p name x')) n h = h
sited_fits f (refuses (named (no_argument flaw) p name x')) n h = h
sited_fits f (refuses too_long) n h = h
sited_fits f (refuses (not_ascii p)) n h = h
sited_fits f (refuses short_buffer) n h = h
sited_fits f (refuses (no_room p)) n h = h
sited_fits f (refuses (named no_variable p name x')) n h = h
sited_fits f (refuses (unknown_operator p l x')) n h = h
sited_fits f (refuses bad_cursor) n h = h

-- the texts of an accepted list, or the name of a refused one, are no longer than the normalised text
pub listed_fits : (s : List ℕ) → Fits (length s) (listed s)
listed_fits s = fits_more (listed s) (taken (pieces s)) (length s) (pieces_taken s) (from_fits 0 (pieces s))

pub actions_fit : (s : List ℕ) → Fits (length (normalised s)) (actions_of s)
unfolding actions_of
actions_fit s = sited_fits (normal_site s) (listed (normalised s)) (length (normalised s)) (listed_fits (normalised s))

-- the texts of a setvar alone
pub alone_fits : (s : List ℕ) → length (texts (setvar_alone s)) ≤ length s + 3
unfolding texts_of
alone_fits s = omega (arith, setvar_text_lem set_var_code s, length-append (action_text (setvar_action set_var_code (setvar s))) [])
