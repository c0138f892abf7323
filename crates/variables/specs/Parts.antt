-- A list of targets cut at its bars, and where its pieces stand in it.
use Rattle.std.specs.Prelude.{ℕ, ◌+◌, ◌-◌, List, [], ◌∷◌, map, length, take, drop, eqb}
use Rattle.ascii.specs.Choice.{pick}
use Rattle.ascii.specs.Trim.{trim_ends, trimmed_part}
use Rattle.lent.specs.Sources.{Part, part}

-- A byte before the first part.
abbrev pub onto : ℕ → List (List ℕ) → List (List ℕ)
onto b [] = (b ∷ []) ∷ []
onto b (p ∷ ps) = (b ∷ p) ∷ ps

-- The parts between bars: str::split('|').
unfoldable pub cut : List ℕ → List (List ℕ)
cut [] = [] ∷ []
cut (b ∷ r) = pick (eqb b 124) ([] ∷ cut r) (onto b (cut r))

-- A piece: its bytes, and the part of the list that they are.
pub record Piece : Type 0 where
  pub text : List ℕ
  pub place : Part

abbrev pub piece_texts : List Piece → List (List ℕ)
piece_texts = map (λ (p : Piece). p.text)

-- The bytes between two places, as a piece.
abbrev pub piece_at : List ℕ → ℕ → ℕ → Piece
piece_at s first past = record { text = take (past - first) (drop first s); place = part first past }

-- The trimmed text of a part that stands at k.
abbrev pub place_of : ℕ → List ℕ → Part
place_of k p = part (k + (trimmed_part p).first) (k + (trimmed_part p).past)

-- A part before others, where it is not empty.
abbrev pub kept : List ℕ → Part → List Piece → List Piece
kept [] x ps = ps
kept (b ∷ p) x ps = record { text = b ∷ p; place = x } ∷ ps

-- The parts that are not empty once trimmed: the head of the loops of parse_variables and parse_update_targets.
-- The first stands at k, and each other behind the bar that ends the one before it.
unfoldable pub filled_from : ℕ → List (List ℕ) → List Piece
filled_from k [] = []
filled_from k (p ∷ ps) = kept (trim_ends p) (place_of k p) (filled_from (k + length p + 1) ps)

-- The pieces of a list that stands at k, and of one that stands at the front.
unfoldable pub pieces_from : ℕ → List ℕ → List Piece
pieces_from k s = filled_from k (cut s)

abbrev pub pieces : List ℕ → List Piece
pieces s = pieces_from 0 s
