-- Trimming a trimmed text changes nothing, so the second trim of the Rust, at the start of parse_single_action, needs no place in the definitions.
use mathlib.Core.Path.{◌≡◌, refl, ap, ◌∙◌}
use mathlib.Core.Bool.{Bool, true, false}
use mathlib.Core.List.{List, [], ◌∷◌}
use Prim.Native.Nat.{ℕ, ◌+◌}
use lib.ListN.{length}
use Rattle.ascii.specs.Choice.{pick}
use Rattle.ascii.specs.Classes.{white}
use Rattle.ascii.specs.Trim.{strip_start, strip_end, before, trim_start, trim_end, trim_ends}
use Rattle.actions.specs.Pieces.{outside, parts_from, Piece, place_of, keep, pieces_of, pieces_from, pieces}

end_again : (s : List ℕ) → trim_end (trim_end s) ≡ trim_end s
unfolding strip_end
end_again [] = refl
end_again (b ∷ r) = go (trim_end r) (end_again r)
  where
    one : (t : Bool) → white b ≡ t → trim_end (pick t [] (b ∷ [])) ≡ pick t [] (b ∷ [])
    one true e = refl
    one false e = rw e

    go : (l : List ℕ) → trim_end l ≡ l → trim_end (before white b l) ≡ before white b l
    go [] e = one (white b) refl
    go (x ∷ l) e = ap (before white b) e

-- the trimmed text does not start with a blank
start_again : (s : List ℕ) → trim_start (trim_ends s) ≡ trim_ends s
unfolding strip_start strip_end
start_again [] = refl
start_again (b ∷ r) = go (white b) refl (start_again r)
  where
    solid : (l : List ℕ) → white b ≡ false → trim_start (before white b l) ≡ before white b l
    solid [] e = rw e (rw e)
    solid (x ∷ l) e = rw e

    go : (t : Bool) → white b ≡ t → trim_start (trim_ends r) ≡ trim_ends r → trim_start (trim_end (pick t (trim_start r) (b ∷ r))) ≡ trim_end (pick t (trim_start r) (b ∷ r))
    go true e ih = ih
    go false e ih = solid (trim_end r) e

pub ends_again : (s : List ℕ) → trim_ends (trim_ends s) ≡ trim_ends s
ends_again s = ap trim_end (start_again s) ∙ end_again (trim_start s)

-- every piece is trimmed
pub data Trimmed : List Piece → Type 0 where
  none : Trimmed []
  also : {p : Piece} {ps : List Piece} → trim_ends p.text ≡ p.text → Trimmed ps → Trimmed (p ∷ ps)

kept_again : (k : ℕ) (ps : List (List ℕ)) → Trimmed (pieces_of k ps)
unfolding pieces_of
kept_again k [] = none
kept_again k (p ∷ ps) = go (trim_ends p) (ends_again p) (kept_again (k + length p + 1) ps)
  where
    go : (q : List ℕ) → trim_ends q ≡ q → Trimmed (pieces_of (k + length p + 1) ps) → Trimmed (keep q (place_of k p) (pieces_of (k + length p + 1) ps))
    go [] e ih = ih
    go (b ∷ r) e ih = also e ih

pub pieces_trimmed : (s : List ℕ) → Trimmed (pieces s)
unfolding pieces_from
pieces_trimmed s = kept_again 0 (parts_from outside s)
