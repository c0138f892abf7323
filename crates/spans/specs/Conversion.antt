-- Span words of document 01, as hosts have stored them, beside those of today: what a word of one form is in the other.
use Rattle.std.specs.Prelude.{ℕ, ◌+◌, ◌*◌, ◌/◌, ◌%◌, ◌<◌, Bool, leb, Result, Ok, Err}
use Rattle.ascii.specs.Choice.{pick, and}
use Rattle.lent.specs.Sizes.{span_word, span_offset, span_length}
pub use Rattle.spans.specs.declared.converting.TooFar.{TooFar}

-- the old form: offset times 65,536 plus length
abbrev pub old_base : ℕ
old_base = 65536

unfoldable pub old_word : ℕ → ℕ → ℕ
old_word offset len = offset * old_base + len

-- the most that offset and length may be
abbrev pub half_most : ℕ
half_most = 65535

unfoldable pub in_both : ℕ → ℕ → Bool
in_both offset len = and (leb offset half_most) (leb len half_most)

-- the refusal, which says no more than that it is one
abbrev pub too_far : TooFar
too_far = record {}

-- an offset and a length made into a word, where neither is more than that
unfoldable pub made : (ℕ → ℕ → ℕ) → ℕ → ℕ → Result ℕ TooFar
made form offset len = pick (in_both offset len) (Ok (form offset len)) (Err too_far)

-- a word of one form in the other
abbrev pub from_old : ℕ → Result ℕ TooFar
from_old w = made span_word (w / old_base) (w % old_base)

abbrev pub to_old : ℕ → Result ℕ TooFar
to_old w = made old_word (span_offset w) (span_length w)

-- document 02's words for a refusal: the offset or the length is above 65,535
pub data Far (offset len : ℕ) : Type 0 where
  far : half_most < offset → Far offset len
  long : half_most < len → Far offset len
