-- What was read from where: a source is a part of the list, not empty, and its bytes are the piece; sources come in order.
-- The idea: the parts that a list is cut into stand in it one behind another, and a piece stands in its part.
use Rattle.std.specs.Prelude.{Option, Some, None}
use mathlib.Core.Path.{◌≡◌, ◌∙◌, refl, sym, ap, subst}
use mathlib.Core.Bool.{Bool, true, false}
use mathlib.Core.List.{List, [], ◌∷◌}
use Prim.Native.Nat.{ℕ, suc, ◌+◌, ◌-◌, ◌≤◌, ◌<◌}
use native.Mathlib.Omega.{arith}
use lib.ListN.{length, take, drop, length-drop}
use lib.Seq.{drop-drop}
use lib.Dec.{eqb}
use Rattle.ascii.specs.Choice.{pick}
use Rattle.ascii.specs.Classes.{white}
use Rattle.ascii.specs.Trim.{trim_ends, leading_white}
use Rattle.ascii.proofs.TrimLaws.{ends_are, ends_fit}
use Rattle.lent.specs.Sources.{Part, Sourced}
use Rattle.names.specs.Variables.{variable_code}
use Rattle.variables.specs.Parts.{onto, cut, Piece, place_of, kept, filled_from, pieces_from, pieces}
use Rattle.variables.specs.Variables.{at_colon, front_of, Single, variable, unknown, single, Targets, targets, refused, with_variable, with_exclusion, if_known, piece, read_all}
use Rattle.variables.specs.Steps.{excluding_of, hanging, targets_of}
use Rattle.variables.specs.declared.singles.Exclusions.{Exclusions}
use Rattle.variables.specs.declared.singles.Exclusions.TheVariants.{AsWritten, LookedUp}
use Rattle.variables.proofs.PlaceLaws.{inner}

-- ---- of every one

-- not empty, and within n bytes
pub record Inside (n : ℕ) (x : Part) : Type 0 where
  pub some : x.first < x.past
  pub within : x.past ≤ n

-- a fact of every source of a list
pub data Every {A : Type 0} (P : Part → Type 0) : List (Sourced A) → Type 0 where
  nowhere : Every P []
  and_at : {x : Sourced A} {xs : List (Sourced A)} → P x.source → Every P xs → Every P (x ∷ xs)

-- and of every source of what a list is read to, or of the piece that is refused
abbrev pub EachIn : (Part → Type 0) → Targets → Type 0
EachIn P (targets vs es) = Every P vs × Every P es
EachIn P (refused i name x) = P x

-- a fact of every piece
pub data EveryPiece (P : Piece → Type 0) : List Piece → Type 0 where
  no_piece : EveryPiece P []
  and_piece : {p : Piece} {ps : List Piece} → P p → EveryPiece P ps → EveryPiece P (p ∷ ps)

-- ---- from pieces to what is read

module _ (P : Part → Type 0) where
  variable_in : (x : Part) (y : Single) (ts : Targets) → P x → EachIn P ts → EachIn P (with_variable x y ts)
  variable_in x (variable v) (targets vs es) h w = (and_at h w.0, w.1)
  variable_in x (variable v) (refused i n z) h w = w
  variable_in x (unknown n) (targets vs es) h w = h
  variable_in x (unknown n) (refused i m z) h w = h

  exclusion_in : (x : Part) (e : List ℕ) (ts : Targets) → P x → EachIn P ts → EachIn P (with_exclusion x e ts)
  exclusion_in x e (targets vs es) h w = (w.0, and_at h w.1)
  exclusion_in x e (refused i n z) h w = w

  known_in : (x : Part) (l : Option ℕ) (n : List ℕ) (ts : Targets) → P x → EachIn P ts → EachIn P (if_known x l n ts)
  known_in x (Some c) n ts h w = w
  known_in x None n ts h w = h

  excluding_in : (n : Exclusions) (x : Part) (e : List ℕ) (ts : Targets) → P x → EachIn P ts → EachIn P (excluding_of n x e ts)
  excluding_in AsWritten x e ts h w = exclusion_in x e ts h w
  excluding_in LookedUp x e ts h w = known_in x (variable_code (front_of (at_colon e))) (front_of (at_colon e)) (with_exclusion x e ts) h (exclusion_in x e ts h w)

  piece_in : (n : Exclusions) (x : Part) (p : List ℕ) (ts : Targets) → P x → EachIn P ts → EachIn P (piece (excluding_of n) x p ts)
  piece_in n x [] ts h w = variable_in x (single []) ts h w
  piece_in n x (b ∷ r) ts h w = go (eqb b 33)
    where
      go : (t : Bool) → EachIn P (pick t (excluding_of n x r ts) (with_variable x (single (b ∷ r)) ts))
      go true = excluding_in n x r ts h w
      go false = variable_in x (single (b ∷ r)) ts h w

  pub read_in : (n : Exclusions) {ps : List Piece} → EveryPiece (λ p. P p.place) ps → EachIn P (read_all (excluding_of n) ps)
  unfolding read_all
  read_in n no_piece = (nowhere, nowhere)
  read_in n (and_piece {p} {ps} h w) = piece_in n p.place p.text (read_all (excluding_of n) ps) h (read_in n w)

  hanging_in : (n : Exclusions) (ts : Targets) → EachIn P ts → EachIn P (hanging n ts)
  hanging_in AsWritten (targets [] es) w = (nowhere, nowhere)
  hanging_in AsWritten (targets (v ∷ vs) es) w = w
  hanging_in AsWritten (refused i name x) w = w
  hanging_in LookedUp ts w = w

  -- a fact of every piece's place is one of every source
  pub targets_in : (n : Exclusions) (s : List ℕ) → EveryPiece (λ p. P p.place) (pieces s) → EachIn P (targets_of n s)
  unfolding targets_of
  targets_in n s w = hanging_in n (read_all (excluding_of n) (pieces s)) (read_in n w)

-- ---- the pieces of a list

-- a piece's place is within the list, and its bytes stand there
pub record Stands (s : List ℕ) (p : Piece) : Type 0 where
  pub inside : Inside (length s) p.place
  pub bytes : take (p.place.past - p.place.first) (drop p.place.first s) ≡ p.text

-- a part that stands at k
record Row (s : List ℕ) (k : ℕ) (p : List ℕ) : Type 0 where
  pub bytes : take (length p) (drop k s) ≡ p
  pub inside : k + length p ≤ length s

-- parts one behind another, a bar between two
abbrev Rows : List ℕ → ℕ → List (List ℕ) → Type 0
Rows s k [] = Unit {0}
Rows s k (p ∷ ps) = Row s k p × Rows s (k + length p + 1) ps

front : (l : List ℕ) → take 0 l ≡ []
front [] = refl
front (x ∷ l) = refl

module _ (s : List ℕ) where
  onto_rows : (k b : ℕ) (l : List (List ℕ)) → drop k s ≡ b ∷ drop (k + 1) s → k < length s → Rows s (k + 1) l → Rows s k (onto b l)
  onto_rows k b [] e h w = (record { bytes = rw e (ap (λ (t : List ℕ). b ∷ t) (front (drop (k + 1) s))); inside = omega arith }, tt)
  onto_rows k b (p ∷ ps) e h w =
      let z : k + 1 + length p + 1 ≡ k + suc (length p) + 1 = omega arith in (
        record { bytes = rw e (ap (λ (t : List ℕ). b ∷ t) w.0.bytes); inside = omega (arith, w.0.inside) },
        subst (λ (j : ℕ). Rows s j ps) z w.1,
      )

  cut_rows : (k : ℕ) (t : List ℕ) → drop k s ≡ t → k ≤ length s → Rows s k (cut t)
  unfolding cut
  cut_rows k [] e h = (record { bytes = front (drop k s); inside = omega arith }, tt)
  cut_rows k (b ∷ r) e h =
      let l : k < length s = omega (arith, ap length e, length-drop k s) in
      let f : drop (k + 1) s ≡ r = sym (drop-drop 1 k s) ∙ ap (drop 1) e in
      go (eqb b 124) l f (cut_rows (k + 1) r f (omega (arith, l)))
    where
      go : (t : Bool) → k < length s → drop (k + 1) s ≡ r → Rows s (k + 1) (cut r) → Rows s k (pick t ([] ∷ cut r) (onto b (cut r)))
      go true l f w =
          let z : k + 1 ≡ k + 0 + 1 = omega arith in
          (record { bytes = front (drop k s); inside = omega arith }, subst (λ (j : ℕ). Rows s j (cut r)) z w)
      go false l f w = onto_rows k b (cut r) (e ∙ ap (λ (t : List ℕ). b ∷ t) (sym f)) l w

  -- the piece of a part stands there too
  trimmed_stands : (k : ℕ) (p : List ℕ) → Row s k p → 0 < length (trim_ends p) → Stands s (record { text = trim_ends p; place = place_of k p })
  trimmed_stands k p w h =
      let a = leading_white p in
      let l = length (trim_ends p) in
      let i : k + (a + l) - (k + a) ≡ l = omega arith in
      record {
        inside = record { some = omega arith; within = omega (arith, ends_fit white p, w.inside) };
        bytes = rw i (
            ap (take l) (sym (drop-drop a k s))
            ∙ sym (inner a l (length p) (drop k s) (ends_fit white p) (omega (arith, ends_fit white p, w.inside, length-drop k s)))
            ∙ ap (λ (t : List ℕ). take l (drop a t)) w.bytes
            ∙ ends_are white p
            );
      }

  filled_stand : (k : ℕ) (l : List (List ℕ)) → Rows s k l → EveryPiece (Stands s) (filled_from k l)
  unfolding filled_from
  filled_stand k [] w = no_piece
  filled_stand k (p ∷ ps) w = go (trim_ends p) refl (filled_stand (k + length p + 1) ps w.1)
    where
      go : (t : List ℕ) → trim_ends p ≡ t → EveryPiece (Stands s) (filled_from (k + length p + 1) ps)
          → EveryPiece (Stands s) (kept t (place_of k p) (filled_from (k + length p + 1) ps))
      go [] e x = x
      go (b ∷ r) e x = and_piece (subst (λ (t : List ℕ). Stands s (record { text = t; place = place_of k p })) e (trimmed_stands k p w.0 (rw e (omega arith)))) x

  -- The bytes of a list between a piece's places are the piece.
  pub pieces_stand : EveryPiece (Stands s) (pieces s)
  unfolding pieces_from
  pieces_stand = filled_stand 0 (cut s) (cut_rows 0 s refl (omega arith))

every_piece : {P Q : Piece → Type 0} → ((p : Piece) → P p → Q p) → {ps : List Piece} → EveryPiece P ps → EveryPiece Q ps
every_piece f no_piece = no_piece
every_piece f (and_piece {p} h w) = and_piece (f p h) (every_piece f w)

-- Every source is a part of the list that is not empty; so is the piece that is refused.
pub targets_inside : (n : Exclusions) (s : List ℕ) → EachIn (Inside (length s)) (targets_of n s)
targets_inside n s = targets_in (Inside (length s)) n s (every_piece (λ p h. h.inside) (pieces_stand s))

-- ---- in order

-- each begins where the one before it has ended, or further on; the first at k or further on
pub data Rising {A : Type 0} : ℕ → List (Sourced A) → Type 0 where
  no_more : {k : ℕ} → Rising k []
  then_at : {k : ℕ} {x : Sourced A} {xs : List (Sourced A)} → k ≤ x.source.first → Rising x.source.past xs → Rising k (x ∷ xs)

abbrev pub InOrder : ℕ → Targets → Type 0
InOrder k (targets vs es) = Rising k vs × Rising k es
InOrder k (refused i name x) = k ≤ x.first

rising_from : {A : Type 0} {j k : ℕ} {xs : List (Sourced A)} → j ≤ k → Rising k xs → Rising j xs
rising_from h no_more = no_more
rising_from {j = j} h (then_at {k} {x} {xs} l w) = let m : j ≤ x.source.first = omega (arith, h, l) in then_at m w

from_order : (j k : ℕ) (ts : Targets) → j ≤ k → InOrder k ts → InOrder j ts
from_order j k (targets vs es) h w = (rising_from h w.0, rising_from h w.1)
from_order j k (refused i name x) h w = omega (arith, h, w)

-- a piece before others that begin where it ends, or further on
module _ (k : ℕ) (x : Part) (h : k ≤ x.first) (l : x.first ≤ x.past) where
  variable_order : (y : Single) (ts : Targets) → InOrder x.past ts → InOrder k (with_variable x y ts)
  variable_order (variable v) (targets vs es) w = (then_at h w.0, rising_from (omega (arith, h, l)) w.1)
  variable_order (variable v) (refused i n z) w = omega (arith, h, l, w)
  variable_order (unknown n) (targets vs es) w = h
  variable_order (unknown n) (refused i m z) w = h

  exclusion_order : (e : List ℕ) (ts : Targets) → InOrder x.past ts → InOrder k (with_exclusion x e ts)
  exclusion_order e (targets vs es) w = (rising_from (omega (arith, h, l)) w.0, then_at h w.1)
  exclusion_order e (refused i n z) w = omega (arith, h, l, w)

  known_order : (y : Option ℕ) (n : List ℕ) (ts : Targets) → InOrder k ts → InOrder k (if_known x y n ts)
  known_order (Some c) n ts w = w
  known_order None n ts w = h

  excluding_order : (n : Exclusions) (e : List ℕ) (ts : Targets) → InOrder x.past ts → InOrder k (excluding_of n x e ts)
  excluding_order AsWritten e ts w = exclusion_order e ts w
  excluding_order LookedUp e ts w = known_order (variable_code (front_of (at_colon e))) (front_of (at_colon e)) (with_exclusion x e ts) (exclusion_order e ts w)

  piece_order : (n : Exclusions) (p : List ℕ) (ts : Targets) → InOrder x.past ts → InOrder k (piece (excluding_of n) x p ts)
  piece_order n [] ts w = variable_order (single []) ts w
  piece_order n (b ∷ r) ts w = go (eqb b 33)
    where
      go : (t : Bool) → InOrder k (pick t (excluding_of n x r ts) (with_variable x (single (b ∷ r)) ts))
      go true = excluding_order n r ts w
      go false = variable_order (single (b ∷ r)) ts w

filled_order : (n : Exclusions) (k : ℕ) (l : List (List ℕ)) → InOrder k (read_all (excluding_of n) (filled_from k l))
unfolding filled_from read_all
filled_order n k [] = (no_more, no_more)
filled_order n k (p ∷ ps) = go (trim_ends p) (filled_order n (k + length p + 1) ps)
  where
    go : (t : List ℕ) → InOrder (k + length p + 1) (read_all (excluding_of n) (filled_from (k + length p + 1) ps))
        → InOrder k (read_all (excluding_of n) (kept t (place_of k p) (filled_from (k + length p + 1) ps)))
    go [] w = from_order k (k + length p + 1) (read_all (excluding_of n) (filled_from (k + length p + 1) ps)) (omega arith) w
    go (b ∷ r) w =
        let ts = read_all (excluding_of n) (filled_from (k + length p + 1) ps) in
        piece_order k (place_of k p) (omega arith) (omega arith) n (b ∷ r) ts (from_order (place_of k p).past (k + length p + 1) ts (omega (arith, ends_fit white p)) w)

hanging_order : (n : Exclusions) (k : ℕ) (ts : Targets) → InOrder k ts → InOrder k (hanging n ts)
hanging_order AsWritten k (targets [] es) w = (no_more, no_more)
hanging_order AsWritten k (targets (v ∷ vs) es) w = w
hanging_order AsWritten k (refused i name x) w = w
hanging_order LookedUp k ts w = w

-- Variables come in the order of the list, and so do exclusions: one walk over the list finds either.
pub targets_order : (n : Exclusions) (s : List ℕ) → InOrder 0 (targets_of n s)
unfolding targets_of pieces_from
targets_order n s = hanging_order n 0 (read_all (excluding_of n) (pieces s)) (filled_order n 0 (cut s))
