-- What can be told of records before any writing: the list that they stand for, and that its spelling reads back to it.
-- And what it is for two readings to come to the same list, sources aside.
use Rattle.std.specs.Prelude.{◌≡◌, List, [], ◌∷◌, map, ℕ, zero, suc, length, take, drop, get_or, Result}
use Rattle.lent.specs.Sizes.{action_words}
use Rattle.lent.specs.Sources.{Sourced}
use Rattle.lent.specs.Table.{reads, past_gate}
use Rattle.records.specs.Actions.{Action}
use Rattle.records.specs.Decoding.{shows}
use Rattle.actions.specs.Lists.{actions_of}
use Rattle.actions.specs.Promises.{actions_gate}
use Rattle.actions.specs.Promises as Acting
use Rattle.actions.specs.declared.ActionsError.{ActionsError}
use Rattle.actions.specs.declared.Read.{Read}
use Rattle.listing.specs.Promises as Listing
use Rattle.listing.specs.declared.ListingError.{ListingError}
use Rattle.spelled.specs.Spelling.{spell_all}
use Rattle.spelled.specs.Back.{things}
use Rattle.spelled.specs.Records.{records_of}

-- parse_actions, with texts and scratch as long as the text, reads it as this list, sources aside: past its checks, and by its pieces.
pub record ReadsAs (s : List ℕ) (xs : List Action) : Type 0 where
  pub found : List (Sourced Action)
  pub same : things found ≡ xs
  pub read : past_gate (actions_gate s (length s) (length s)) (actions_of s) ≡ reads found

-- Every whole record is one that a reader writes, and they are these actions.
abbrev pub StandFor : List ℕ → List ℕ → List Action → Type 0
StandFor words text xs = records_of words text ≡ map shows xs

-- They stand for a list whose fixed spelling reads back to it.
pub record Writable (words text : List ℕ) : Type 0 where
  pub actions : List Action
  pub standing : StandFor words text actions
  pub back : ReadsAs (spell_all actions) actions

-- ---- two readings

-- Each record without the word of its source.
unfoldable pub unsourced : ℕ → List ℕ → List (List ℕ)
unsourced zero words = []
unsourced (suc n) words = take 6 words ∷ unsourced n (drop action_words words)

-- The records and the bytes of text that an accepted list has.
abbrev pub count_in : Result Read ActionsError → ℕ
count_in r = get_or (Acting.answer_given r).values 0 0

abbrev pub used_in : Result Read ActionsError → ℕ
used_in r = get_or (Acting.answer_given r).values 1 0

-- The bytes that a list was written with.
abbrev pub bytes_in : Result ℕ ListingError → ℕ
bytes_in r = get_or (Listing.answer_given r).values 0 0

-- Two calls of parse_actions gave the same answer, texts and records, sources aside.
pub record SameList (r again : Result Read ActionsError) (text text' records records' : List ℕ) : Type 0 where
  pub answer : Acting.answer_given again ≡ Acting.answer_given r
  pub texts : take (used_in r) text' ≡ take (used_in r) text
  pub words : unsourced (count_in r) records' ≡ unsourced (count_in r) records
