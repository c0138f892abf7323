-- How actions become words and texts in lent memory.
use Rattle.std.specs.Prelude.{ℕ, ◌+◌, List, [], ◌∷◌, length}
use Rattle.lent.specs.Sizes.{span_word}
use Rattle.lent.specs.Layout.{texts_of, records_of, words_of}
use Rattle.lent.specs.Sources.{Sourced, sourced_text, sourced_record}
use Rattle.records.specs.Actions.{Slot, absent, present, Action, slot_text, action_text}

-- The span word of a text, the offset o being reached: an absent one is 0.
abbrev pub slot_word : ℕ → Slot → ℕ
slot_word o absent = 0
slot_word o (present t) = span_word o (length t)

-- The offset behind it.
abbrev pub slot_end : ℕ → Slot → ℕ
slot_end o s = o + length (slot_text s)

-- The words of an action whose texts start at the offset o, but for the last.
unfoldable pub action_record : ℕ → Action → List ℕ
action_record o x =
    x.code ∷ x.number ∷ slot_word o x.a ∷ slot_word (slot_end o x.a) x.b ∷ x.kind ∷
    slot_word (slot_end (slot_end o x.a) x.b) x.c ∷ []

-- All seven words of an action with its source, and its texts.
abbrev pub full_record : ℕ → Sourced Action → List ℕ
full_record = sourced_record action_record

abbrev pub full_text : Sourced Action → List ℕ
full_text = sourced_text action_text

-- The records of all actions, the first text at the offset o.
abbrev pub records_from : ℕ → List (Sourced Action) → List (List ℕ)
records_from = records_of full_record full_text

-- Their words, one record after another; and their texts.
abbrev pub words_from : ℕ → List (Sourced Action) → List ℕ
words_from = words_of full_record full_text

abbrev pub texts : List (Sourced Action) → List ℕ
texts = texts_of full_text
