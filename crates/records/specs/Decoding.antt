-- Records read back through a text buffer into actions.
use Rattle.std.specs.Prelude.{ℕ, zero, suc, Bool, true, false, List, [], ◌∷◌, length, drop, get_or, ltb}
use Rattle.ascii.specs.Choice.{pick, and}
use Rattle.lent.specs.Sizes.{action_words, span_base}
use Rattle.lent.specs.Sources.{Sourced}
use Rattle.records.specs.Actions.{Slot, absent, present, Action, slot_text}
use Rattle.records.specs.Codes.{shape_of, known_by, has_a, has_b, has_c}
use Rattle.records.specs.Marks.{known, spans_of, inside_all, cut}

-- An action, or none: no such code or value kind, or a text outside the buffer.
pub data Decoded : Type 0 where
  none : Decoded
  shows : Action → Decoded

-- A word as a text where it is one.
abbrev pub slot_by : Bool → List ℕ → ℕ → Slot
slot_by true text w = present (cut text w)
slot_by false text w = absent

-- Number and value kind as they stand.
unfoldable pub action_in : List ℕ → ℕ → ℕ → ℕ → ℕ → ℕ → ℕ → Action
action_in text code number a b kind c = record {
  code = code;
  number = number;
  a = slot_by (has_a (shape_of code)) text a;
  b = slot_by (has_b (shape_of code)) text b;
  kind = kind;
  c = slot_by (has_c (shape_of code) kind) text c;
}

-- The record that the words start with.
unfoldable pub decoded : List ℕ → List ℕ → Decoded
decoded text w =
    pick (and (known w) (inside_all (length text) (spans_of w)))
    (shows (action_in text (get_or w 0 0) (get_or w 1 0) (get_or w 2 0) (get_or w 3 0) (get_or w 4 0) (get_or w 5 0)))
    none

-- So many records.
unfoldable pub decoded_all : List ℕ → ℕ → List ℕ → List Decoded
decoded_all text zero words = []
decoded_all text (suc n) words = decoded text words ∷ decoded_all text n (drop action_words words)

-- All of them shown, whatever they were read from.
unfoldable pub all_shown : List (Sourced Action) → List Decoded
all_shown [] = []
all_shown (x ∷ xs) = shows x.thing ∷ all_shown xs

-- ---- the actions that a record can hold

-- A text is there where the code says so, and only there.
abbrev pub stands : Bool → Slot → Bool
stands true absent = false
stands true (present t) = true
stands false absent = true
stands false (present t) = false

-- Its length fits a span word.
abbrev pub short : Slot → Bool
short s = ltb (length (slot_text s)) span_base

unfoldable pub formed : Action → Bool
formed x =
    and (known_by (shape_of x.code) x.kind)
    (and (stands (has_a (shape_of x.code)) x.a)
    (and (stands (has_b (shape_of x.code)) x.b)
    (stands (has_c (shape_of x.code) x.kind) x.c)))

unfoldable pub short_texts : Action → Bool
short_texts x = and (short x.a) (and (short x.b) (short x.c))

-- Of a list: what `encoded` writes is read back.
unfoldable pub encodable : List (Sourced Action) → Bool
encodable [] = true
encodable (x ∷ xs) = and (and (formed x.thing) (short_texts x.thing)) (encodable xs)
