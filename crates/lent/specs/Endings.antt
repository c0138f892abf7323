-- Where a reader may start in lent buffers, and the last step of every reader.
use Rattle.std.specs.Prelude.{◌≡◌, Bool, List, ℕ, ◌+◌, ◌*◌, length, take, leb, ltb}
use Rattle.ascii.specs.Choice.{pick, and}
use Rattle.lent.specs.Sizes.{limit, room_for}
use Rattle.lent.specs.Buffers.{zeros, padded}

-- a text of that length may be read with so many bytes of text buffer, from that offset and that count of records on
unfoldable pub starts : ℕ → ℕ → ℕ → ℕ → Bool
starts len room offset count = and (leb len limit) (and (leb offset limit) (and (leb count limit) (leb (offset + len) room)))

-- more records of that width than fit
abbrev pub overfull : ℕ → ℕ → List ℕ → Bool
overfull width count records = ltb (room_for width (length records)) count

-- the last step, when so many bytes and records are written: all zero where they do not fit, else zeros beyond them
pub record Finished (used count width : ℕ) (text text' records records' : List ℕ) (full : Bool) : Type 0 where
  pub told : full ≡ overfull width count records
  pub texts : text' ≡ pick (overfull width count records) (zeros (length text)) (padded (length text) (take used text))
  pub words : records' ≡ pick (overfull width count records) (zeros (length records)) (padded (length records) (take (count * width) records))
