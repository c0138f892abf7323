-- The action records among lent words, by the two words of each that are read here: whole records only.
use Rattle.std.specs.Prelude.{ℕ, zero, suc, List, [], ◌∷◌, length, drop, get_or, eqb, Option, Some, None}
use Rattle.ascii.specs.Choice.{pick}
use Rattle.lent.specs.Sizes.{action_words, room_for}
-- the codes of document 01 that are read here
pub use Rattle.records.specs.Codes.{id_code, phase_code, severity_code, maturity_code, accuracy_code}

-- an action: its code, and its number word as it stands
pub record Entry : Type 0 where
  pub code : ℕ
  pub number : ℕ

-- the record that the words start with
abbrev pub first : List ℕ → Entry
first words = record { code = get_or words 0 0; number = get_or words 1 0 }

-- so many records, one after another
unfoldable pub entries_of : ℕ → List ℕ → List Entry
entries_of zero words = []
entries_of (suc n) words = first words ∷ entries_of n (drop action_words words)

-- all whole records: SecRule's `actions`
unfoldable pub entries : List ℕ → List Entry
entries words = entries_of (room_for action_words (length words)) words

-- the number of the first action that has a code
unfoldable pub first_of : ℕ → List Entry → Option ℕ
first_of code [] = None
first_of code (e ∷ r) = pick (eqb e.code code) (Some e.number) (first_of code r)
