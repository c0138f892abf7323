-- A loop over the parts of a text: at each turn the part up to the next comma that cuts is a piece or nothing, and the rest starts anew.
-- `so_far xs o` is what a list comes to whose first actions xs are read and whose other pieces come to o.
use mathlib.Core.Path.{◌≡◌, refl, ap, ◌∙◌}
use mathlib.Core.Bool.{Bool, true, false}
use mathlib.Core.List.{List, [], ◌∷◌, ◌++◌}
use Prim.Native.Nat.{ℕ, suc, ◌+◌, ◌≤◌, ◌<◌}
use native.Mathlib.Omega.{arith}
use lib.ListN.{length, take, drop, drop_of_length-le}
use lib.Dec.{eqb}
use lib.Seq.{drop-drop, length-take-le}
use Rattle.ascii.specs.Choice.{or}
use Rattle.ascii.specs.Trim.{trim_ends}
use Rattle.ascii.proofs.ListLaws.{next_byte}
use Rattle.lent.specs.Sources.{Part, Sourced}
use Rattle.lent.specs.Table.{Refusal, Outcome, refuses, reads}
use Rattle.single_action.specs.Actions.{Action, single}
use Rattle.actions.specs.Pieces.{outside, Piece, place_of, keep, pieces_of, pieces_from, part_length, parts_behind}
use Rattle.actions.specs.Having.{has}
use Rattle.actions.specs.Lists.{action_then, single_then, actions_from}
use Rattle.actions.proofs.PieceLaws.{parts_first, part_fits}

-- ---- the next part

-- how many bytes the part that starts at i has
abbrev pub length_at : List ℕ → ℕ → ℕ
length_at s i = part_length outside (drop i s)

module _ (s : List ℕ) (i : ℕ) where
  -- and its bytes
  abbrev part : List ℕ
  part = take (length_at s i) (drop i s)

  part_long : length part ≡ length_at s i
  part_long = length-take-le (length_at s i) (drop i s) (part_fits outside (drop i s))

  first_piece : pieces_from i (drop i s) ≡ keep (trim_ends part) (place_of i part) (pieces_of (i + length_at s i + 1) (parts_behind (drop (i + length_at s i) s)))
  unfolding pieces_from pieces_of
  first_piece =
      ap (pieces_of i) (parts_first outside (drop i s))
      ∙ ap (λ (n : ℕ). keep (trim_ends part) (place_of i part) (pieces_of (i + n + 1) (parts_behind (drop (length_at s i) (drop i s))))) part_long
      ∙ ap (λ (l : List ℕ). keep (trim_ends part) (place_of i part) (pieces_of (i + length_at s i + 1) (parts_behind l))) (drop-drop (length_at s i) i s)

  -- a comma ends it
  pub pieces_more : i + length_at s i < length s
      → pieces_from i (drop i s) ≡ keep (trim_ends part) (place_of i part) (pieces_from (i + length_at s i + 1) (drop (i + length_at s i + 1) s))
  unfolding pieces_from
  pieces_more h = first_piece ∙ ap (λ (l : List ℕ). keep (trim_ends part) (place_of i part) (pieces_of (i + length_at s i + 1) (parts_behind l))) (next_byte s (i + length_at s i) h)

  -- or the text does
  pub pieces_last : length s ≤ i + length_at s i → pieces_from i (drop i s) ≡ keep (trim_ends part) (place_of i part) []
  unfolding pieces_of
  pieces_last h = first_piece ∙ ap (λ (l : List ℕ). keep (trim_ends part) (place_of i part) (pieces_of (i + length_at s i + 1) (parts_behind l))) (drop_of_length-le s h)

-- ---- the actions read so far

unfoldable pub so_far : List (Sourced Action) → Outcome (List (Sourced Action)) → Outcome (List (Sourced Action))
so_far [] o = o
so_far (x ∷ xs) o = action_then x (so_far xs o)

-- a part that is empty is passed over
pub no_piece : (k : ℕ) (t : List ℕ) (x : Part) (ps : List Piece) → length t ≤ 0 → actions_from k (keep t x ps) ≡ actions_from k ps
no_piece k [] x ps h = refl
no_piece k (b ∷ r) x ps h = absurd (omega arith)

-- and another is read
pub one_piece : (k : ℕ) (t : List ℕ) (x : Part) (ps : List Piece) → 0 < length t → actions_from k (keep t x ps) ≡ single_then k x (single t) (actions_from (suc k) ps)
unfolding actions_from
one_piece k [] x ps h = absurd (omega arith)
one_piece k (b ∷ r) x ps h = refl

pub so_far_more : (xs : List (Sourced Action)) (x : Sourced Action) (o : Outcome (List (Sourced Action))) → so_far xs (action_then x o) ≡ so_far (xs ++ (x ∷ [])) o
unfolding so_far
so_far_more [] x o = refl
so_far_more (y ∷ xs) x o = ap (action_then y) (so_far_more xs x o)

pub so_far_refused : (xs : List (Sourced Action)) (f : Refusal) → so_far xs (refuses f) ≡ refuses f
unfolding so_far
so_far_refused [] f = refl
so_far_refused (x ∷ xs) f = rw (so_far_refused xs f)

pub so_far_read : (xs ys : List (Sourced Action)) → so_far xs (reads ys) ≡ reads (xs ++ ys)
unfolding so_far
so_far_read [] ys = refl
so_far_read (x ∷ xs) ys = rw (so_far_read xs ys)

-- ---- whether they have a code

or_false : (a : Bool) → or a false ≡ a
or_false true = refl
or_false false = refl

or_three : (a b c : Bool) → or a (or b c) ≡ or (or a b) c
or_three true b c = refl
or_three false b c = refl

pub has_more : (code : ℕ) (xs : List (Sourced Action)) (x : Sourced Action) → has code (xs ++ (x ∷ [])) ≡ or (has code xs) (eqb x.thing.code code)
unfolding has
has_more code [] x = or_false (eqb x.thing.code code)
has_more code (y ∷ xs) x = ap (or (eqb y.thing.code code)) (has_more code xs x) ∙ or_three (eqb y.thing.code code) (has code xs) (eqb x.thing.code code)
