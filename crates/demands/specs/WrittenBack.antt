-- The demand of M-109, action lists written back. Records are written exactly when they stand for a list whose fixed spelling parse_actions
-- reads back to it; those that a reader wrote stand for the list that it read.
-- A list that is read, written and read again has the same records and texts, the spans of its sources aside.
use Rattle.std.specs.Prelude.{◌≡◌, ◌↔◌, true, List, [], ◌∷◌, ◌++◌, ℕ, ◌+◌, ◌*◌, ◌≤◌, ◌<◌, length, take, Result}
use Rattle.lent.specs.Sizes.{limit, action_words}
use Rattle.lent.specs.Admission.{Low}
use Rattle.lent.specs.Buffers.{zeros, padded}
use Rattle.lent.specs.Sources.{Sourced}
use Rattle.lent.specs.Table.{given, reads}
use Rattle.records.specs.Actions.{Action}
use Rattle.records.specs.Layout.{words_from, texts}
use Rattle.records.specs.Marks.{end_most}
use Rattle.actions.specs.Lists.{actions_of}
use Rattle.actions.specs.Promises as Acting
use Rattle.actions.specs.declared.Read.{Read as ActionsRead}
use Rattle.actions.specs.declared.ActionsError.{ActionsError}
use Rattle.listing.specs.declared.ListingError.{ListingError}
use Rattle.listing.specs.Promises as Listing
use Rattle.spelled.specs.Spelling.{spell_all}
use Rattle.spelled.specs.Condition.{smooth_texts}
use Rattle.spelled.specs.Back.{things}
use Rattle.spelled.specs.Calls.{StandFor, Writable, count_in, bytes_in, SameList}
use Rattle.demands.specs.Calls.{Lent, Left, Wrote, ActionRecords, action_records, parse_actions_promise, write_actions_promise}

abbrev number : Wrote (Result ℕ ListingError) → ℕ
number o = (Listing.answer_given o.answer).number

-- Texts in which nothing can go wrong: ASCII, and no quotation mark, backslash, comma or round bracket.
abbrev pub Plain : List ℕ → List (Sourced Action) → Type 0
Plain s ys = Low s × (smooth_texts (things ys) ≡ true)

pub record WrittenBack : Type 0 where
  -- ---- over the promise of write_actions
  -- 0: the list is written, and nothing else
  pub written : (i : ActionRecords) (o : Wrote (Result ℕ ListingError)) → write_actions_promise i o → number o ≡ 0
      → (w : Writable i.words i.texts) × (Listing.answer_given o.answer ≡ given 0 (length (spell_all w.actions) ∷ [])) × (o.buffer ≡ padded (length i.buffer) (spell_all w.actions))
  -- 19, exactly when: the records are none that a reader makes, or the spelling of their list does not read back to it
  pub not_written_row : (i : ActionRecords) (o : Wrote (Result ℕ ListingError)) → write_actions_promise i o → (number o ≡ 19) ↔ (Writable i.words i.texts → ⊥)
  -- 4, exactly when, with the bytes needed: so 19 comes first
  pub no_room_row : (i : ActionRecords) (o : Wrote (Result ℕ ListingError)) → write_actions_promise i o → (number o ≡ 4) ↔ ((w : Writable i.words i.texts) × (length i.buffer < length (spell_all w.actions)))
  pub needed : (i : ActionRecords) (o : Wrote (Result ℕ ListingError)) → write_actions_promise i o → number o ≡ 4 → (w : Writable i.words i.texts) → Listing.answer_given o.answer ≡ given 4 (length (spell_all w.actions) ∷ [])
  -- a refusal zeroes the buffer
  pub refused : (i : ActionRecords) (o : Wrote (Result ℕ ListingError)) → write_actions_promise i o → (number o ≡ 0 → ⊥) → o.buffer ≡ zeros (length i.buffer)
  -- records stand for one list only
  pub one_list : (words text : List ℕ) (xs ys : List Action) → StandFor words text xs → StandFor words text ys → xs ≡ ys
  -- ---- lists that a reader accepted
  -- their records stand for them, whatever offset o their texts start at, and whatever is left over behind them
  pub standing : (s : List ℕ) (ys : List (Sourced Action)) → actions_of s ≡ reads ys → length s ≤ limit
      → (text front back rest : List ℕ) → text ≡ front ++ (texts ys ++ back) → length front + length (texts ys) ≤ end_most → length rest < action_words
      → StandFor (words_from (length front) ys ++ rest) text (things ys)
  -- with plain texts they are always written, where the spelling is within the limit
  pub plain : (s : List ℕ) (ys : List (Sourced Action)) → actions_of s ≡ reads ys → Plain s ys → length (spell_all (things ys)) ≤ limit
      → (words text : List ℕ) → StandFor words text (things ys) → Writable words text
  -- ---- three calls: read, write, read again
  pub again : (i : Lent × List ℕ) (o : Left (Result ActionsRead ActionsError) × List ℕ) → parse_actions_promise i o → (Acting.answer_given o.0.answer).number ≡ 0
      → (buffer : List ℕ) (w : Wrote (Result ℕ ListingError)) → write_actions_promise (action_records (take (count_in o.0.answer * action_words) o.0.records) o.0.text buffer) w → number w ≡ 0
      → (i₂ : Lent × List ℕ) (o₂ : Left (Result ActionsRead ActionsError) × List ℕ) → parse_actions_promise i₂ o₂ → i₂.0.input ≡ take (bytes_in w.answer) w.buffer
      → bytes_in w.answer ≤ length i₂.0.text → bytes_in w.answer ≤ length i₂.1 → count_in o.0.answer * action_words ≤ length i₂.0.records
      → SameList o.0.answer o₂.0.answer o.0.text o₂.0.text o.0.records o₂.0.records
