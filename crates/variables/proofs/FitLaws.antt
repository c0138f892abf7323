-- A list's texts and records are within its own length, by its definition: what is read from a place on never goes further than the list is long.
-- The idea: a piece's text is a part of it, and every piece has a byte.
use Rattle.std.specs.Prelude.{Option, Some, None}
use mathlib.Core.Path.{◌≡◌, refl, sym, subst}
use mathlib.Core.Bool.{Bool, true, false}
use mathlib.Core.List.{List, [], ◌∷◌}
use Prim.Native.Nat.{ℕ, suc, ◌+◌, ◌-◌, ◌≤◌}
use native.Mathlib.Omega.{arith}
use lib.ListN.{length, take, drop, length-append, length-drop, length-take}
use lib.Dec.{eqb}
use Rattle.ascii.specs.Choice.{pick}
use Rattle.ascii.specs.Classes.{white}
use Rattle.ascii.specs.Trim.{trim_ends}
use Rattle.ascii.specs.Splits.{Split, whole, halves}
use Rattle.ascii.proofs.SplitLaws.{spread, split_spread}
use Rattle.ascii.proofs.TrimLaws.{ends_fit}
use Rattle.lent.specs.Sources.{Part}
use Rattle.lent.specs.Buffers.{joined}
use Rattle.lent.specs.Layout.{texts_of}
use Rattle.names.specs.Variables.{variable_code}
use Rattle.variables.specs.Parts.{onto, cut, Piece, piece_texts, place_of, kept, filled_from, pieces_from, pieces}
use Rattle.variables.specs.Variables.{at_colon, front_of, Selection, none, key, regex, is_regex, selection, Single, variable, unknown, named, split_single, single, Targets, targets, refused, with_variable, with_exclusion, if_known, piece, read_all}
use Rattle.variables.specs.Layout.{selection_text, exclusion_text, selection_texts}
use Rattle.variables.specs.Steps.{excluding_of, hanging, targets_of}
use Rattle.variables.specs.declared.singles.Exclusions.{Exclusions}
use Rattle.variables.specs.declared.singles.Exclusions.TheVariants.{AsWritten, LookedUp}

-- ---- the pieces

onto_total : (b : ℕ) (l : List (List ℕ)) → length (joined (onto b l)) ≡ suc (length (joined l))
unfolding joined
onto_total b [] = refl
onto_total b (p ∷ ps) = refl

cut_total : (s : List ℕ) → length (joined (cut s)) ≤ length s
unfolding cut joined
cut_total [] = omega arith
cut_total (b ∷ r) = go (eqb b 124) (cut_total r)
  where
    go : (t : Bool) → length (joined (cut r)) ≤ length r → length (joined (pick t ([] ∷ cut r) (onto b (cut r)))) ≤ suc (length r)
    go true h = omega arith
    go false h = omega (arith, onto_total b (cut r))

-- the bytes of pieces
abbrev pub total : List Piece → ℕ
total ps = length (joined (piece_texts ps))

kept_total : (t : List ℕ) (x : Part) (qs : List Piece) → total (kept t x qs) ≡ length t + total qs
unfolding joined
kept_total [] x qs = omega arith
kept_total (b ∷ t) x qs = length-append (b ∷ t) (joined (piece_texts qs))

kept_count_lem : (t : List ℕ) (x : Part) (qs : List Piece) → length qs ≤ total qs → length (kept t x qs) ≤ total (kept t x qs)
unfolding joined
kept_count_lem [] x qs h = h
kept_count_lem (b ∷ t) x qs h = omega (arith, length-append (b ∷ t) (joined (piece_texts qs)))

filled_total : (k : ℕ) (l : List (List ℕ)) → total (filled_from k l) ≤ length (joined l)
unfolding filled_from joined
filled_total k [] = omega arith
filled_total k (p ∷ ps) =
    let j = k + length p + 1 in
    omega (arith, kept_total (trim_ends p) (place_of k p) (filled_from j ps), filled_total j ps, ends_fit white p, length-append p (joined ps))

filled_count : (k : ℕ) (l : List (List ℕ)) → length (filled_from k l) ≤ total (filled_from k l)
unfolding filled_from joined
filled_count k [] = omega arith
filled_count k (p ∷ ps) = kept_count_lem (trim_ends p) (place_of k p) (filled_from (k + length p + 1) ps) (filled_count (k + length p + 1) ps)

pub pieces_total : (s : List ℕ) → length (joined (piece_texts (pieces s))) ≤ length s
unfolding pieces_from
pieces_total s = omega (arith, filled_total 0 (cut s), cut_total s)

pub pieces_count : (s : List ℕ) → length (pieces s) ≤ length s
unfolding pieces_from
pieces_count s = omega (arith, filled_count 0 (cut s), filled_total 0 (cut s), cut_total s)

-- ---- one piece

-- a variable's text has no more than k bytes
abbrev Small : ℕ → Single → Type 0
Small k (variable v) = length (selection_text v.chosen) ≤ k
Small k (unknown n) = Unit {0}

selection_small : (t : List ℕ) → length (selection_text (selection t)) ≤ length t
unfolding selection
selection_small t = go (is_regex t)
  where
    go : (b : Bool) → length (selection_text (pick b (regex (take (length t - 2) (drop 1 t))) (key t))) ≤ length t
    go true = omega (arith, length-take (length t - 2) (drop 1 t), length-drop 1 t)
    go false = omega arith

named_small : (k : ℕ) (l : Option ℕ) (name : List ℕ) (counts : Bool) (chosen : Selection) → length (selection_text chosen) ≤ k → Small k (named l name counts chosen)
named_small k (Some c) name counts chosen h = h
named_small k None name counts chosen h = tt

split_small : (k : ℕ) (x : Split) (counts : Bool) → spread x ≤ k → Small k (split_single x counts)
split_small k (whole name) counts h = named_small k (variable_code name) name counts none (omega arith)
split_small k (halves name t) counts h = named_small k (variable_code name) name counts (selection t) (omega (arith, selection_small t))

single_small : (p : List ℕ) → Small (length p) (single p)
unfolding single
single_small [] = split_small 0 (at_colon []) false (omega (arith, split_spread 58 []))
single_small (b ∷ r) = go (eqb b 38)
  where
    go : (t : Bool) → Small (suc (length r)) (pick t (split_single (at_colon r) true) (split_single (at_colon (b ∷ r)) false))
    go true = split_small (suc (length r)) (at_colon r) true (omega (arith, split_spread 58 r))
    go false = split_small (suc (length r)) (at_colon (b ∷ r)) false (omega (arith, split_spread 58 (b ∷ r)))

-- ---- a list

-- no more than k bytes of text, and no more than m records
abbrev pub Within : ℕ → ℕ → Targets → Type 0
Within k m (targets vs es) = (length (selection_texts vs) + length (texts_of exclusion_text es) ≤ k) × (length vs + length es ≤ m)
Within k m (refused i name x) = Unit {0}

variable_within : (j k m : ℕ) (x : Part) (y : Single) (ts : Targets) → Small j y → Within k m ts → Within (j + k) (suc m) (with_variable x y ts)
unfolding texts_of
variable_within j k m x (variable v) (targets vs es) h w = (omega (arith, length-append (selection_text v.chosen) (selection_texts vs)), omega arith)
variable_within j k m x (variable v) (refused i n z) h w = tt
variable_within j k m x (unknown n) (targets vs es) h w = tt
variable_within j k m x (unknown n) (refused i q z) h w = tt

exclusion_within : (k m : ℕ) (x : Part) (e : List ℕ) (ts : Targets) → Within k m ts → Within (suc (length e) + k) (suc m) (with_exclusion x e ts)
unfolding texts_of
exclusion_within k m x e (targets vs es) w = (omega (arith, length-append e (texts_of exclusion_text es)), omega arith)
exclusion_within k m x e (refused i n z) w = tt

known_within : (k m : ℕ) (x : Part) (l : Option ℕ) (n : List ℕ) (ts : Targets) → Within k m ts → Within k m (if_known x l n ts)
known_within k m x (Some c) n ts w = w
known_within k m x None n ts w = tt

excluding_within : (n : Exclusions) (k m : ℕ) (x : Part) (e : List ℕ) (ts : Targets) → Within k m ts → Within (suc (length e) + k) (suc m) (excluding_of n x e ts)
excluding_within AsWritten k m x e ts w = exclusion_within k m x e ts w
excluding_within LookedUp k m x e ts w = known_within (suc (length e) + k) (suc m) x (variable_code (front_of (at_colon e))) (front_of (at_colon e)) (with_exclusion x e ts) (exclusion_within k m x e ts w)

piece_within : (n : Exclusions) (k m : ℕ) (x : Part) (p : List ℕ) (ts : Targets) → Within k m ts → Within (length p + k) (suc m) (piece (excluding_of n) x p ts)
piece_within n k m x [] ts w = variable_within 0 k m x (single []) ts (single_small []) w
piece_within n k m x (b ∷ r) ts w = go (eqb b 33)
  where
    go : (t : Bool) → Within (suc (length r) + k) (suc m) (pick t (excluding_of n x r ts) (with_variable x (single (b ∷ r)) ts))
    go true = excluding_within n k m x r ts w
    go false = variable_within (suc (length r)) k m x (single (b ∷ r)) ts (single_small (b ∷ r)) w

read_within : (n : Exclusions) (ps : List Piece) → Within (total ps) (length ps) (read_all (excluding_of n) ps)
unfolding read_all joined texts_of
read_within n [] = (omega arith, omega arith)
read_within n (p ∷ ps) =
    subst (λ (k : ℕ). Within k (suc (length ps)) (piece (excluding_of n) p.place p.text (read_all (excluding_of n) ps))) (sym (length-append p.text (joined (piece_texts ps))))
    (piece_within n (total ps) (length ps) p.place p.text (read_all (excluding_of n) ps) (read_within n ps))

hanging_within : (n : Exclusions) (k m : ℕ) (ts : Targets) → Within k m ts → Within k m (hanging n ts)
unfolding texts_of
hanging_within AsWritten k m (targets [] es) w = (omega arith, omega arith)
hanging_within AsWritten k m (targets (v ∷ vs) es) w = w
hanging_within AsWritten k m (refused i name x) w = w
hanging_within LookedUp k m ts w = w

more_within : (j k m q : ℕ) (ts : Targets) → j ≤ k → m ≤ q → Within j m ts → Within k q ts
more_within j k m q (targets vs es) h g w = (omega arith, omega arith)
more_within j k m q (refused i name x) h g w = tt

-- what a list of that length is read to
pub targets_within : (n : Exclusions) (s : List ℕ) → Within (length s) (length s) (targets_of n s)
unfolding targets_of
targets_within n s =
    hanging_within n (length s) (length s) (read_all (excluding_of n) (pieces s))
    (more_within (total (pieces s)) (length s) (length (pieces s)) (length s) (read_all (excluding_of n) (pieces s)) (pieces_total s) (pieces_count s) (read_within n (pieces s)))
