-- How many actions a list can have: an action takes two bytes at least, and a comma stands between two of them.
-- So a list of n bytes has at most (n + 1) / 3, and `t:,t:,t:` has that many.
use Rattle.std.specs.Prelude.{Result}
use mathlib.Core.Path.{◌≡◌, ap, subst}
use mathlib.Core.Bool.{Bool, true, false}
use mathlib.Core.List.{List, [], ◌∷◌}
use Prim.Native.Nat.{ℕ, suc, ◌+◌, ◌-◌, ◌*◌, ◌/◌, ◌≤◌}
use native.Mathlib.Omega.{arith}
use lib.ListN.{length, length-map}
use Rattle.ascii.specs.Classes.{white}
use Rattle.ascii.specs.Trim.{trim_ends}
use Rattle.ascii.proofs.TrimLaws.{ends_fit}
use Rattle.lent.specs.Sizes.{action_words, room_for}
use Rattle.lent.specs.Table.{Outcome, refuses, reads, sited_outcome}
use Rattle.lent.specs.Sources.{Part, Sourced, sourced, sited_by}
use Rattle.lent.proofs.SpanLaws.{room_is}
use Rattle.single_action.specs.Actions.{Action, Single, done, bad, unknown, single}
use Rattle.single_action.proofs.WidthLaws.{Wide, wide}
use Rattle.actions.specs.Normal.{normalised}
use Rattle.actions.specs.Pieces.{Nest, outside, nest_after, cuts, cut_by, parts_from, Piece, place_of, keep, pieces_of, pieces_from, pieces}
use Rattle.actions.specs.Lists.{action_then, single_then, actions_from, listed, normal_site, actions_of}
use Rattle.actions.specs.Promises.{answer_given, ParseActions}
use Rattle.actions.specs.declared.Read.{Read}
use Rattle.actions.specs.declared.ActionsError.{ActionsError}
use Rattle.actions.proofs.NormalLaws.{normalised_length}
use Rattle.actions.proofs.PieceLaws.{total, taken}
use Rattle.actions.proofs.NumberLaws.{given_in, given_long, given_read, parse_actions_numbers}

-- ---- the pieces, with the commas between them

cut_spread : (t : Bool) (b : ℕ) (ps : List (List ℕ)) → total (cut_by t b ps) + (length (cut_by t b ps) - 1) ≤ suc (total ps + (length ps - 1))
unfolding total
cut_spread true b ps = omega arith
cut_spread false b [] = omega arith
cut_spread false b (p ∷ ps) = omega arith

parts_spread : (n : Nest) (s : List ℕ) → total (parts_from n s) + (length (parts_from n s) - 1) ≤ length s
unfolding parts_from total
parts_spread n [] = omega arith
parts_spread n (b ∷ r) = omega (arith, cut_spread (cuts n b) b (parts_from (nest_after n b) r), parts_spread (nest_after n b) r)

keep_spread : (t : List ℕ) (x : Part) (ps : List Piece) → taken (keep t x ps) + length (keep t x ps) ≤ suc (length t + (taken ps + length ps))
unfolding taken
keep_spread [] x ps = omega arith
keep_spread (b ∷ r) x ps = omega arith

kept_spread : (k : ℕ) (ps : List (List ℕ)) → taken (pieces_of k ps) + length (pieces_of k ps) ≤ total ps + length ps
unfolding pieces_of total taken
kept_spread k [] = omega arith
kept_spread k (p ∷ ps) =
    omega (arith, keep_spread (trim_ends p) (place_of k p) (pieces_of (k + length p + 1) ps), kept_spread (k + length p + 1) ps, ends_fit white p)

pieces_spread : (s : List ℕ) → taken (pieces s) + length (pieces s) ≤ suc (length s)
unfolding pieces_from
pieces_spread s = omega (arith, kept_spread 0 (parts_from outside s), parts_spread outside s)

-- ---- a list

-- what pieces of so many bytes, counted with one more for each, may come to
abbrev Few : ℕ → Outcome (List (Sourced Action)) → Type 0
Few k (reads xs) = 3 * length xs ≤ k
Few k (refuses f) = Unit {0}

then_few : (k : ℕ) (x : Sourced Action) (o : Outcome (List (Sourced Action))) → Few k o → Few (3 + k) (action_then x o)
then_few k x (reads xs) h = omega arith
then_few k x (refuses f) h = tt

more_few : (j k : ℕ) (o : Outcome (List (Sourced Action))) → j ≤ k → Few j o → Few k o
more_few j k (reads xs) l h = omega arith
more_few j k (refuses f) l h = tt

single_few : (i n k : ℕ) (place : Part) (x : Single) (o : Outcome (List (Sourced Action))) → Wide n x → Few k o → Few (n + suc k) (single_then i place x o)
single_few i n k place (done x) o w h = more_few (3 + k) (n + suc k) (action_then (sourced x place) o) (omega arith) (then_few k (sourced x place) o h)
single_few i n k place (bad flaw name) o w h = tt
single_few i n k place (unknown name) o w h = tt

from_few : (i : ℕ) (ps : List Piece) → Few (taken ps + length ps) (actions_from i ps)
unfolding actions_from taken
from_few i [] = omega arith
from_few i (p ∷ ps) =
    more_few (length p.text + suc (taken ps + length ps)) (length p.text + taken ps + suc (length ps)) (single_then i p.place (single p.text) (actions_from (suc i) ps)) (omega arith)
    (single_few i (length p.text) (taken ps + length ps) p.place (single p.text) (actions_from (suc i) ps) (wide p.text) (from_few (suc i) ps))

-- wherever they stand
sited_few : (f : Part → Part) (k : ℕ) (o : Outcome (List (Sourced Action))) → Few k o → Few k (sited_outcome f o)
sited_few f k (reads xs) h = omega (arith, h, length-map xs (sited_by f))
sited_few f k (refuses r) h = tt

-- The bound: a list of n bytes that is read has at most (n + 1) / 3 actions, wherever they stand.
pub listed_most : (s : List ℕ) (xs : List (Sourced Action)) → listed s ≡ reads xs → 3 * length xs ≤ length s + 1
listed_most s xs e =
    let ps = pieces s in
    let h : 3 * length xs ≤ taken ps + length ps = subst (Few (taken ps + length ps)) e (from_few 0 ps) in
    omega (arith, h, pieces_spread s)

pub actions_most : (s : List ℕ) (xs : List (Sourced Action)) → actions_of s ≡ reads xs → 3 * length xs ≤ length s + 1
unfolding actions_of
actions_most s xs e =
    let ps = pieces (normalised s) in
    let h : 3 * length xs ≤ taken ps + length ps = subst (Few (taken ps + length ps)) e (sited_few (normal_site s) (taken ps + length ps) (actions_from 0 ps) (from_few 0 ps)) in
    omega (arith, h, pieces_spread (normalised s), normalised_length s)

-- With room for so many records, 4 is never given.
pub actions_fit : {s text text' work work' records records' : List ℕ} {r : Result Read ActionsError} → ParseActions s text text' work work' records records' r
    → (length s + 1) / 3 * action_words ≤ length records → (answer_given r).number ≡ 4 → ⊥
unfolding actions_of
actions_fit {s} {records = records} x h e =
    let f = (parse_actions_numbers x).number_4.0 e in
    let ps = pieces (normalised s) in
    let b : 3 * length (given_in s 0 f.1.0) ≤ length s + 1 = actions_most s (given_in s 0 f.1.0) (ap (sited_outcome (normal_site s)) (given_read 0 ps f.1.0)) in
    let c : length ps ≤ room_for action_words (length records) =
    (room_is action_words (length records) (length ps) (omega arith)).1 (omega (arith, b, given_long s 0 f.1.0)) in
    omega (arith, c, f.1.1)
