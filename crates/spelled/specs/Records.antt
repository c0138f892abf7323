-- The actions that lent records stand for: each is what a reader writes for an action, its texts one after another.
use Rattle.std.specs.Prelude.{ℕ, zero, suc, ◌+◌, List, [], ◌∷◌, length, take, drop, get_or}
use Rattle.ascii.specs.Choice.{pick}
use Rattle.ascii.specs.Fold.{same}
use Rattle.lent.specs.Sizes.{action_words, span_offset, room_for}
use Rattle.records.specs.Codes.{shape_of, has_a}
use Rattle.records.specs.Actions.{Action, action_text}
use Rattle.records.specs.Layout.{action_record}
use Rattle.records.specs.Decoding.{Decoded, none, shows, decoded}

-- How many whole records are lent.
abbrev pub whole : List ℕ → ℕ
whole words = room_for action_words (length words)

-- Where the texts of so many records start: the first text's offset.
unfoldable pub start : ℕ → List ℕ → ℕ
start zero words = 0
start (suc n) words = pick (has_a (shape_of (get_or words 0 0))) (span_offset (get_or words 2 0)) (start n (drop action_words words))

-- The action that six words show, if they are the words that a reader writes for it, the offset o being reached.
abbrev pub laid_by : ℕ → List ℕ → Decoded → Decoded
laid_by o words none = none
laid_by o words (shows x) = pick (same (take 6 words) (action_record o x)) (shows x) none

-- The record that the words start with; the word of its source is not looked at.
unfoldable pub record_in : List ℕ → ℕ → List ℕ → Decoded
record_in text o words = laid_by o words (decoded text words)

-- The offset behind its texts; behind a record that is none there is nothing to be reached.
abbrev pub offset_past : ℕ → Decoded → ℕ
offset_past o none = 0
offset_past o (shows x) = o + length (action_text x)

-- So many records, the first text at the offset o.
unfoldable pub records_in : List ℕ → ℕ → ℕ → List ℕ → List Decoded
records_in text o zero words = []
records_in text o (suc n) words = record_in text o words ∷ records_in text (offset_past o (record_in text o words)) n (drop action_words words)

-- All whole records.
abbrev pub records_of : List ℕ → List ℕ → List Decoded
records_of words text = records_in text (start (whole words) words) (whole words) words

-- The actions among them.
unfoldable pub shown : List Decoded → List Action
shown [] = []
shown (none ∷ r) = shown r
shown (shows x ∷ r) = x ∷ shown r
