-- A byte of a text that was read, with the part of the input that it came from.
use Rattle.std.specs.Prelude.{ℕ, suc, ◌≤◌, ◌<◌, List, [], ◌∷◌}

-- From `first`, and up to `past` without it.
pub record Cell : Type 0 where
  pub byte : ℕ
  pub first : ℕ
  pub past : ℕ

abbrev pub cell : ℕ → ℕ → ℕ → Cell
cell b f p = record { byte = b; first = f; past = p }

-- The bytes alone.
unfoldable pub bytes_of : List Cell → List ℕ
bytes_of [] = []
bytes_of (c ∷ r) = c.byte ∷ bytes_of r

-- Bytes that stand in the input from the place k on, each at its own.
unfoldable pub standing : ℕ → List ℕ → List Cell
standing k [] = []
standing k (b ∷ r) = cell b k (suc k) ∷ standing (suc k) r

-- Where the first one starts and where the last one ends; d where there is none.
unfoldable pub first_of : ℕ → List Cell → ℕ
first_of d [] = d
first_of d (c ∷ r) = c.first

unfoldable pub past_of : ℕ → List Cell → ℕ
past_of d [] = d
past_of d (c ∷ r) = past_of c.past r

-- They stand one behind another, none empty, from lo on and before hi.
abbrev pub Along : ℕ → List Cell → ℕ → Type 0
Along lo [] hi = lo ≤ hi
Along lo (c ∷ r) hi = (lo ≤ c.first) × (c.first < c.past) × Along c.past r hi
