-- Cutting at commas: the loop of parse_actions.
use Rattle.std.specs.Prelude.{ℕ, ◌+◌, ◌-◌, Bool, true, false, List, [], ◌∷◌, length, eqb}
use Rattle.ascii.specs.Choice.{pick, and}
use Rattle.ascii.specs.Trim.{trim_ends, trimmed_part}
use Rattle.lent.specs.Sources.{Part, part}
use Rattle.single_action.specs.Marks.{quotation}

-- The open quotation mark, 0 for none, and the bracket depth: in_quotes with quote_char, and paren_depth.
pub record Nest : Type 0 where
  pub mark : ℕ
  pub depth : ℕ

abbrev pub nest : ℕ → ℕ → Nest
nest m d = record { mark = m; depth = d }

-- Nothing is open.
abbrev pub outside : Nest
outside = nest 0 0

-- Behind a byte with no mark open: the arms of parse_actions with `!in_quotes`. A bracket that closes none does nothing.
unfoldable pub nest_bare : ℕ → ℕ → Nest
nest_bare d b = pick (quotation b) (nest b d) (pick (eqb b 40) (nest 0 (d + 1)) (pick (eqb b 41) (nest 0 (d - 1)) (nest 0 d)))

-- Behind a byte with the mark m open: the arm of parse_actions with `c == quote_char`.
unfoldable pub nest_quoted : ℕ → ℕ → ℕ → Nest
nest_quoted m d b = pick (eqb b m) (nest 0 d) (nest m d)

-- Behind a byte; a backslash protects nothing.
unfoldable pub nest_after : Nest → ℕ → Nest
nest_after n b = pick (eqb n.mark 0) (nest_bare n.depth b) (nest_quoted n.mark n.depth b)

-- A comma outside quotes and round brackets: the arm of parse_actions that ends a part.
unfoldable pub cuts : Nest → ℕ → Bool
cuts n b = and (eqb b 44) (and (eqb n.mark 0) (eqb n.depth 0))

-- The parts from a byte on, with those after it: a comma that cuts ends a part, and another byte stands first in one.
abbrev pub cut_by : Bool → ℕ → List (List ℕ) → List (List ℕ)
cut_by true b ps = [] ∷ ps
cut_by false b [] = (b ∷ []) ∷ []
cut_by false b (p ∷ ps) = (b ∷ p) ∷ ps

-- The parts of the bytes still to be read. A comma that cuts leaves nothing open.
unfoldable pub parts_from : Nest → List ℕ → List (List ℕ)
parts_from n [] = [] ∷ []
parts_from n (b ∷ r) = cut_by (cuts n b) b (parts_from (nest_after n b) r)

-- A piece, and where it stands in the text that was cut.
pub record Piece : Type 0 where
  pub text : List ℕ
  pub place : Part

abbrev pub piece : List ℕ → Part → Piece
piece t x = record { text = t; place = x }

-- The trimmed text of a part that stands at k.
abbrev pub place_of : ℕ → List ℕ → Part
place_of k p = part (k + (trimmed_part p).first) (k + (trimmed_part p).past)

-- A part that is empty is no piece: the `is_empty` tests of parse_actions.
abbrev pub keep : List ℕ → Part → List Piece → List Piece
keep [] x ps = ps
keep (b ∷ r) x ps = piece (b ∷ r) x ∷ ps

-- The parts trimmed, empty ones gone; the first stands at k, and each other behind the comma that ends the one before it.
unfoldable pub pieces_of : ℕ → List (List ℕ) → List Piece
pieces_of k [] = []
pieces_of k (p ∷ ps) = keep (trim_ends p) (place_of k p) (pieces_of (k + length p + 1) ps)

-- The pieces of a normalised text that stands from k on, that parse_actions hands to parse_single_action.
unfoldable pub pieces_from : ℕ → List ℕ → List Piece
pieces_from k s = pieces_of k (parts_from outside s)

abbrev pub pieces : List ℕ → List Piece
pieces s = pieces_from 0 s

-- How many bytes the first part has: up to the first comma that cuts, or to the end.
unfoldable pub part_length : Nest → List ℕ → ℕ
part_length n [] = 0
part_length n (b ∷ r) = pick (cuts n b) 0 (1 + part_length (nest_after n b) r)

-- The parts behind the first one, from the comma that ends it on.
abbrev pub parts_behind : List ℕ → List (List ℕ)
parts_behind [] = []
parts_behind (b ∷ r) = parts_from outside r
