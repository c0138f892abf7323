-- Document 01's table of numbers in plain words: what is given back, and what is left of a text buffer and a record buffer.
use Rattle.std.specs.Prelude.{◌≡◌, List, [], ◌∷◌, ℕ, ◌*◌, length}
use Rattle.lent.specs.Sizes.{limit}
use Rattle.lent.specs.Buffers.{zeros, padded}
use Rattle.lent.specs.Sources.{Part, part_word}
use Rattle.lent.specs.Table.{Given, given, Naming, naming_number}

-- of a reader with records of so many words
module _ (width : ℕ) (g : Given) (text text' records records' : List ℕ) where
  -- Both buffers are as they were.
  pub record Untouched : Type 0 where
    pub text_kept : text' ≡ text
    pub records_kept : records' ≡ records

  -- The row that a call came to.
  pub data Row : Type 0 where
    -- 0: how many records and bytes of text, and what else the reader gives; as many stand in the buffers, and zeros beyond
    read : (count : ℕ) (more texts words : List ℕ) → g ≡ given 0 (count ∷ length texts ∷ more) → length words ≡ count * width
        → text' ≡ padded (length text) texts → records' ≡ padded (length records) words → Row
    -- 1: the limit, 1,048,576; untouched
    too_long_row : g ≡ given 1 (limit ∷ []) → Untouched → Row
    -- 2: the place of the first byte that is 128 or more; untouched
    not_ascii_row : (place : ℕ) → g ≡ given 2 (place ∷ []) → Untouched → Row
    -- 3: 0; untouched
    short : g ≡ given 3 (0 ∷ []) → Untouched → Row
    -- 4: the records needed; text and records all zero
    no_room_row : (needed : ℕ) → g ≡ given 4 (needed ∷ []) → text' ≡ zeros (length text) → records' ≡ zeros (length records) → Row
    -- 5, 7 and 10 to 12: the piece, the name's length and the span of the piece in the input; the text starts with the name, then zeros, and the records are zero
    named : (why : Naming) (piece : ℕ) (name : List ℕ) (source : Part) → g ≡ given (naming_number why) (piece ∷ length name ∷ part_word source ∷ [])
        → text' ≡ padded (length text) name
        → records' ≡ zeros (length records) → Row
