-- Where in the input a part of a text stands that was read from there.
use Rattle.std.specs.Prelude.{ℕ, ◌+◌, List, take, drop, ltb}
use Rattle.ascii.specs.Choice.{pick}
use Rattle.lent.specs.Sizes.{span_offset, span_length}
use Rattle.lent.specs.Sources.{Part, part, part_word}
use Rattle.places.specs.Cells.{Cell, first_of, past_of}
use Rattle.places.specs.Scans.{plain, scan, spell}
use Rattle.places.specs.Tables.{Rule, act, alone}

-- The cells of what is read from the bytes r that stand from the place k on.
abbrev pub cells_of : Rule → ℕ → List ℕ → List Cell
cells_of rule k r = scan (act rule) plain k r

-- And its bytes.
abbrev pub text_of : Rule → List ℕ → List ℕ
text_of rule r = spell (act rule) plain r

-- A part of the input read by itself.
abbrev pub read_alone : Rule → List ℕ → List ℕ
read_alone rule u = spell (alone rule) plain u

-- Behind the n-th byte of the text; where there is none, at the place k.
abbrev pub behind : ℕ → List Cell → ℕ → ℕ
behind k cs n = past_of k (take n cs)

-- From where the part's first byte came from to where its last one did, over whatever was taken out between.
-- An empty part stands behind the byte before it.
unfoldable pub site_in : ℕ → List Cell → Part → Part
site_in k cs x =
    part (pick (ltb x.first x.past) (first_of (behind k cs x.past) (drop x.first cs)) (behind k cs x.past)) (behind k cs x.past)

abbrev pub site_of : Rule → ℕ → List ℕ → Part → Part
site_of rule k r = site_in k (cells_of rule k r)

-- The same from span word to span word.
abbrev pub word_part : ℕ → Part
word_part w = part (span_offset w) (span_offset w + span_length w)

unfoldable pub site_word : Rule → ℕ → List ℕ → ℕ → ℕ
site_word rule k r w = part_word (site_of rule k r (word_part w))
