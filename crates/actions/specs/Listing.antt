-- What the loop over a normalised text leaves behind, and what the last step makes of it.
use Rattle.std.specs.Prelude.{◌≡◌, Bool, List, ℕ, ◌+◌, ◌*◌, ◌≤◌, ◌<◌, length, Result, Ok, Err}
use Rattle.ascii.specs.Choice.{pick}
use Rattle.lent.specs.Sizes.{action_words}
use Rattle.lent.specs.Buffers.{zeros, padded, stored, stored_each}
use Rattle.lent.specs.declared.refusing.Flaw.{Flaw}
use Rattle.lent.specs.Endings.{Finished}
use Rattle.lent.specs.Sources.{Part, part_word, Sourced}
use Rattle.lent.specs.Table.{Refusal, unknown_action, bad_argument, refuses, reads}
use Rattle.places.specs.declared.Rule.TheVariants.{Joined}
use Rattle.places.specs.Moves.{Resite}
use Rattle.records.specs.Codes.{id_code, chain_code}
use Rattle.single_action.specs.Actions.{Action}
use Rattle.actions.specs.Having.{has}
use Rattle.actions.specs.Lists.{listed}
use Rattle.actions.specs.Layout.{records_from, texts}
use Rattle.actions.specs.declared.Read.{Read}
use Rattle.actions.specs.declared.ActionsError.{ActionsError}
use Rattle.actions.specs.declared.ActionsError.TheVariants.{NoRoom}
use Rattle.actions.specs.declared.Reached.{Reached}
use Rattle.actions.specs.declared.PieceError.{PieceError}
use Rattle.actions.specs.declared.PieceError.TheVariants.{Bad, Unknown, Unfit}

-- The two answers that refuse a piece.
abbrev pub badly : Flaw → ℕ → ℕ → ℕ → PieceError
badly flaw piece name span = Bad flaw piece name span

abbrev pub strangely : ℕ → ℕ → ℕ → PieceError
strangely piece name span = Unknown piece name span

-- Actions written: their texts from an offset on, and their records behind so many others, each where it fits.
pub record Laid (actions : List (Sourced Action)) (offset place : ℕ) (text text' records records' : List ℕ) (count used : ℕ) : Type 0 where
  pub counted : count ≡ length actions
  pub used_is : used ≡ offset + length (texts actions)
  pub written : text' ≡ stored text offset (texts actions)
  pub recorded : records' ≡ stored_each records (place * action_words) (records_from offset actions)

-- All pieces are read and written.
pub record ReadAll (s : List ℕ) (offset place : ℕ) (text text' records records' : List ℕ) (count used : ℕ) (id chain : Bool) : Type 0 where
  pub actions : List (Sourced Action)
  pub all : listed s ≡ reads actions
  pub laid : Laid actions offset place text text' records records' count used
  pub id_is : id ≡ has id_code actions
  pub chain_is : chain ≡ has chain_code actions
  pub fits : used ≤ offset + length s

-- A piece is refused, with its place in the text: the text buffer is its name and zeros, and the records are all zero.
pub record Stopped (refusal : List ℕ → Part → Refusal) (s text text' records records' : List ℕ) (name span : ℕ) : Type 0 where
  pub named : List ℕ
  pub source : Part
  pub first : listed s ≡ refuses (refusal named source)
  pub ordered : source.first ≤ source.past
  pub inside : source.past ≤ length s
  pub underlined : span ≡ part_word source
  pub counted : name ≡ length named
  pub written : text' ≡ padded (length text) named
  pub cleared : records' ≡ zeros (length records)

-- The loop starts where it may, so that it is never unfit.
abbrev pub Listed : List ℕ → ℕ → ℕ → List ℕ → List ℕ → List ℕ → List ℕ → Result Reached PieceError → Type 0
Listed s offset place text text' records records' (Ok r) = ReadAll s offset place text text' records records' r.count r.offset r.id r.chain
Listed s offset place text text' records records' (Err (Bad flaw piece name span)) = Stopped (bad_argument flaw piece) s text text' records records' name span
Listed s offset place text text' records records' (Err (Unknown piece name span)) = Stopped (unknown_action piece) s text text' records records' name span
Listed s offset place text text' records records' (Err Unfit) = ⊥

-- Records of a normalised text of n bytes put into the input.
pub record Settles (s : List ℕ) (n count : ℕ) (records records' : List ℕ) : Type 0 where
  pub moved : n < length s → Resite s 0 Joined count action_words 0 records records'
  pub still : length s ≤ n → records' ≡ records

-- The last step, when so much is written: number 4 where lent's ending says that the records do not fit.
pub record Ended (used count : ℕ) (text text' records records' : List ℕ) (r : Result Read ActionsError) : Type 0 where
  pub full : Bool
  pub finished : Finished used count action_words text text' records records' full
  pub answer : r ≡ pick full (Err (NoRoom count)) (Ok (record { count = count; text = used }))
