-- Counts: pieces are no more than the bytes, an accepted list has an action for each, and a refused piece is one of them.
use mathlib.Core.Path.{◌≡◌, ◌∙◌, refl}
use mathlib.Core.List.{List, [], ◌∷◌}
use Prim.Native.Nat.{ℕ, suc, ◌+◌, ◌≤◌, ◌<◌}
use native.Mathlib.Omega.{arith}
use lib.ListN.{length, length-map}
use Rattle.ascii.specs.Classes.{white}
use Rattle.ascii.specs.Trim.{trim_ends}
use Rattle.ascii.proofs.TrimLaws.{ends_fit}
use Rattle.lent.specs.Table.{too_long, not_ascii, short_buffer, no_room, named, no_action, no_argument, no_variable, unknown_operator, bad_cursor, Outcome, refuses, reads, sited_outcome}
use Rattle.lent.specs.Sources.{Part, Sourced, sourced, sited_by}
use Rattle.single_action.specs.Actions.{Action, Single, done, bad, unknown, single}
use Rattle.actions.specs.Normal.{normalised}
use Rattle.actions.specs.Pieces.{outside, parts_from, Piece, place_of, keep, pieces_of, pieces_from, pieces}
use Rattle.actions.specs.Lists.{action_then, single_then, actions_from, listed, normal_site, actions_of}
use Rattle.actions.proofs.PieceLaws.{total, parts_total}

-- ---- the pieces

keep_count : (t : List ℕ) (x : Part) (ps : List Piece) → length (keep t x ps) ≤ length t + length ps
keep_count [] x ps = omega arith
keep_count (b ∷ r) x ps = omega arith

kept_count_lem : (k : ℕ) (ps : List (List ℕ)) → length (pieces_of k ps) ≤ total ps
unfolding pieces_of total
kept_count_lem k [] = omega arith
kept_count_lem k (p ∷ ps) = omega (arith, keep_count (trim_ends p) (place_of k p) (pieces_of (k + length p + 1) ps), kept_count_lem (k + length p + 1) ps, ends_fit white p)

pub pieces_count : (s : List ℕ) → length (pieces s) ≤ length s
unfolding pieces_from
pieces_count s = omega (arith, kept_count_lem 0 (parts_from outside s), parts_total outside s)

-- ---- the actions

-- what n pieces, counted from k, may come to
abbrev pub Counted : ℕ → ℕ → Outcome (List (Sourced Action)) → Type 0
Counted k n (reads xs) = length xs ≡ n
Counted k n (refuses (named no_action p name x')) = (k ≤ p) × (p < k + n)
Counted k n (refuses (named (no_argument flaw) p name x')) = (k ≤ p) × (p < k + n)
Counted k n (refuses too_long) = ⊥
Counted k n (refuses (not_ascii p)) = ⊥
Counted k n (refuses short_buffer) = ⊥
Counted k n (refuses (no_room p)) = ⊥
Counted k n (refuses (named no_variable p name x')) = ⊥
Counted k n (refuses (unknown_operator p l x')) = ⊥
Counted k n (refuses bad_cursor) = ⊥

then_counted : (k n : ℕ) (x : Sourced Action) (o : Outcome (List (Sourced Action))) → Counted (suc k) n o → Counted k (suc n) (action_then x o)
then_counted k n x (reads xs) h = omega arith
then_counted k n x (refuses (named no_action p name x')) (h, l) = (omega arith, omega arith)
then_counted k n x (refuses (named (no_argument flaw) p name x')) (h, l) = (omega arith, omega arith)
then_counted k n x (refuses too_long) h = h
then_counted k n x (refuses (not_ascii p)) h = h
then_counted k n x (refuses short_buffer) h = h
then_counted k n x (refuses (no_room p)) h = h
then_counted k n x (refuses (named no_variable p name x')) h = h
then_counted k n x (refuses (unknown_operator p l x')) h = h
then_counted k n x (refuses bad_cursor) h = h

single_counted : (k n : ℕ) (place : Part) (x : Single) (o : Outcome (List (Sourced Action))) → Counted (suc k) n o → Counted k (suc n) (single_then k place x o)
single_counted k n place (done x) o h = then_counted k n (sourced x place) o h
single_counted k n place (bad flaw name) o h = (omega arith, omega arith)
single_counted k n place (unknown name) o h = (omega arith, omega arith)

pub from_counted : (k : ℕ) (ps : List Piece) → Counted k (length ps) (actions_from k ps)
unfolding actions_from
from_counted k [] = refl
from_counted k (p ∷ ps) = single_counted k (length ps) p.place (single p.text) (actions_from (suc k) ps) (from_counted (suc k) ps)

-- places do not count
sited_counted : (f : Part → Part) (k n : ℕ) (o : Outcome (List (Sourced Action))) → Counted k n o → Counted k n (sited_outcome f o)
sited_counted f k n (reads xs) h = length-map xs (sited_by f) ∙ h
sited_counted f k n (refuses (named no_action p name x')) h = h
sited_counted f k n (refuses (named (no_argument flaw) p name x')) h = h
sited_counted f k n (refuses too_long) h = h
sited_counted f k n (refuses (not_ascii p)) h = h
sited_counted f k n (refuses short_buffer) h = h
sited_counted f k n (refuses (no_room p)) h = h
sited_counted f k n (refuses (named no_variable p name x')) h = h
sited_counted f k n (refuses (unknown_operator p l x')) h = h
sited_counted f k n (refuses bad_cursor) h = h

pub actions_counted : (s : List ℕ) → Counted 0 (length (pieces (normalised s))) (actions_of s)
unfolding actions_of
actions_counted s = sited_counted (normal_site s) 0 (length (pieces (normalised s))) (listed (normalised s)) (from_counted 0 (pieces (normalised s)))
