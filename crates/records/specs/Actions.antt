-- An action with its texts: what one record and its part of the text buffer say.
use Rattle.std.specs.Prelude.{ℕ, List, [], ◌++◌}

-- A text that may be absent; a present one may be empty.
pub data Slot : Type 0 where
  absent : Slot
  present : List ℕ → Slot

-- What a record of an action says: code, number, texts a, b and c, value kind.
pub record Action : Type 0 where
  pub code : ℕ
  pub number : ℕ
  pub a : Slot
  pub b : Slot
  pub kind : ℕ
  pub c : Slot

-- The bytes of a text.
abbrev pub slot_text : Slot → List ℕ
slot_text absent = []
slot_text (present t) = t

-- The texts of one action, in the order a, b, c.
unfoldable pub action_text : Action → List ℕ
action_text x = slot_text x.a ++ (slot_text x.b ++ slot_text x.c)
