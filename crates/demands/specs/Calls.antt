-- What the readers are lent, and what they leave.
use Rattle.std.specs.Prelude.{ℕ, Bool, List, Result, Option}
use Rattle.ascii.specs.Handed.{Standing}
use Rattle.lent.specs.Endings.{Finished}
use Rattle.lexer.specs.declared.Cursor.{Cursor}
use Rattle.lexer.specs.Promises.{StepIn, NextToken, Tokens, EndReading}
use Rattle.lexer.specs.declared.writing.Read.{Read as TokensRead}
use Rattle.lexer.specs.declared.writing.TokensError.{TokensError}
use Rattle.lexer.specs.declared.stepping.Found.{Found}
use Rattle.lexer.specs.declared.stepping.StepError.{StepError}
use Rattle.actions.specs.declared.Read.{Read as ActionsRead}
use Rattle.actions.specs.declared.ActionsError.{ActionsError}
use Rattle.actions.specs.declared.Reached.{Reached as ActionsReached}
use Rattle.actions.specs.declared.PieceError.{PieceError}
use Rattle.variables.specs.declared.Read.{Read as VariablesRead}
use Rattle.variables.specs.declared.VariablesError.{VariablesError}
use Rattle.variables.specs.declared.Reached.{Reached as VariablesReached}
use Rattle.variables.specs.declared.TargetsError.{TargetsError}
use Rattle.operators.specs.declared.Operator.{Operator}
use Rattle.operators.specs.declared.UnknownOperator.{UnknownOperator}
use Rattle.operators.specs.declared.OperatorError.{OperatorError}
use Rattle.directives.specs.declared.Read.{Read as DirectivesRead}
use Rattle.directives.specs.declared.DirectivesError.{DirectivesError}
use Rattle.listing.specs.declared.ListingError.{ListingError}
use Rattle.listing.specs.declared.Stop.{Stop}
use Rattle.lexer.specs.declared.writing.Tally.{Tally}
use Rattle.actions.specs.Promises.{ParseActions, SetvarAlone}
use Rattle.actions.specs.Cores.{Normalise, ReadActions}
use Rattle.variables.specs.Promises.{ParseVariables, ParseUpdateTargets}
use Rattle.variables.specs.Cores.{ReadTargets}
use Rattle.variables.specs.declared.singles.Exclusions.{Exclusions}
use Rattle.places.specs.declared.Rule.{Rule}
use Rattle.places.specs.Moves.{SiteWord, Resite}
use Rattle.operators.specs.Promises.{OperatorIn, ParseOperator, OperatorArgument}
use Rattle.directives.specs.declared.Version.{Version}
use Rattle.directives.specs.Promises as Whole
use Rattle.rules.specs.declared.selecting.RuleIdSelector.{RuleIdSelector}
use Rattle.index.specs.Promises.{Adds, Removes}
use Rattle.index.specs.declared.adding.Added.{Added}
use Rattle.index.specs.declared.adding.AddError.{AddError}
use Rattle.index.specs.declared.removing.Removed.{Removed}
use Rattle.index.specs.declared.removing.Broken.{Broken}
use Rattle.listing.specs.Promises.{WriteListing, WriteRefusal, WriteRefusalLine, ListText}
use Rattle.listing.specs.Steps as Listings
use Rattle.spelled.specs.Promises.{WriteActions}

-- ---- what goes in, and what comes out

-- An input, a text buffer and a record buffer.
pub record Lent : Type 0 where
  pub input : List ℕ
  pub text : List ℕ
  pub records : List ℕ

abbrev pub lent : List ℕ → List ℕ → List ℕ → Lent
lent s t w = record { input = s; text = t; records = w }

-- An answer, and both buffers afterwards.
pub record Left (Answer : Type 0) : Type 0 where
  pub answer : Answer
  pub text : List ℕ
  pub records : List ℕ

abbrev pub left : {Answer : Type 0} → Answer → List ℕ → List ℕ → Left Answer
left r t w = record { answer = r; text = t; records = w }

-- An answer, and the one buffer lent.
pub record Wrote (Answer : Type 0) : Type 0 where
  pub answer : Answer
  pub buffer : List ℕ

abbrev pub wrote : {Answer : Type 0} → Answer → List ℕ → Wrote Answer
wrote r b = record { answer = r; buffer = b }

-- ---- the last step of a reader

-- Both buffers, how many bytes and records are written to them, and the width of these.
pub record Filling : Type 0 where
  pub text : List ℕ
  pub used : ℕ
  pub records : List ℕ
  pub count : ℕ
  pub width : ℕ

abbrev pub finish_promise : Filling → Left Bool → Type 0
finish_promise i o = Finished i.used i.count i.width i.text o.text i.records o.records o.answer

-- ---- spans of a text, put where it was read from

-- site_word: the source, the place that the text was read from on and by which rule, and a span word of the text.
pub record Placing : Type 0 where
  pub source : List ℕ
  pub from : ℕ
  pub rule : Rule
  pub word : ℕ

abbrev pub site_word_promise : Placing → ℕ → Type 0
site_word_promise i r = SiteWord i.source i.from i.rule i.word r

-- resite: instead of one word, so many records of a width from a place on, whose last words are such spans.
pub record Replacing : Type 0 where
  pub source : List ℕ
  pub from : ℕ
  pub rule : Rule
  pub records : List ℕ
  pub at : ℕ
  pub count : ℕ
  pub width : ℕ

abbrev pub resite_promise : Replacing → List ℕ → Type 0
resite_promise i o = Resite i.source i.from i.rule i.count i.width i.at i.records o

-- ---- the readers

-- step_in, next_token, next_of, token_at and first_token: a text, a cursor and a buffer for the token's text.
pub record Place : Type 0 where
  pub input : List ℕ
  pub from : Cursor
  pub buffer : List ℕ

abbrev pub place : List ℕ → Cursor → List ℕ → Place
place s c b = record { input = s; from = c; buffer = b }

abbrev pub step_in_promise : Place → Wrote (Result Found StepError) → Type 0
step_in_promise i o = StepIn i.input i.from i.buffer o.buffer o.answer

abbrev pub next_token_promise : Place → Wrote (Result Found StepError) → Type 0
next_token_promise i o = NextToken i.input i.from i.buffer o.buffer o.answer

abbrev pub tokens_promise : Lent → Left (Result TokensRead TokensError) → Type 0
tokens_promise i o = Tokens i.input i.text o.text i.records o.records o.answer

-- end_reading: both buffers of a lexer, and what it read.
pub record Ending : Type 0 where
  pub read : Tally
  pub text : List ℕ
  pub records : List ℕ

abbrev pub end_reading_promise : Ending → Left (Result TokensRead TokensError) → Type 0
end_reading_promise i o = EndReading i.read i.text o.text i.records o.records o.answer

-- parse_actions has a scratch buffer besides.
abbrev pub parse_actions_promise : Lent × List ℕ → Left (Result ActionsRead ActionsError) × List ℕ → Type 0
parse_actions_promise i o =
    ParseActions i.0.input i.0.text o.0.text i.1 o.1 i.0.records o.0.records o.0.answer

-- normalise: a text, and the buffer that takes it normalised.
abbrev pub normalise_promise : List ℕ × List ℕ → Wrote (Option ℕ) → Type 0
normalise_promise i o = Normalise i.0 i.1 o.buffer o.answer

-- read_actions: a normalised text, and the offset and the count of records that it starts at.
abbrev pub read_actions_promise : Lent × (ℕ × ℕ) → Left (Result ActionsReached PieceError) → Type 0
read_actions_promise i o =
    ReadActions i.0.input i.1.0 i.1.1 i.0.text o.text i.0.records o.records o.answer

abbrev pub parse_setvar_promise : Lent → Left (Result ActionsRead ActionsError) → Type 0
parse_setvar_promise i o = SetvarAlone i.input i.text o.text i.records o.records o.answer

abbrev pub parse_variables_promise : Lent → Left (Result VariablesRead VariablesError) → Type 0
parse_variables_promise i o = ParseVariables i.input i.text o.text i.records o.records o.answer

abbrev pub parse_update_targets_promise : Lent → Left (Result VariablesRead VariablesError) → Type 0
parse_update_targets_promise i o = ParseUpdateTargets i.input i.text o.text i.records o.records o.answer

-- read_targets besides has what it is told of exclusions, and where it starts.
pub record From : Type 0 where
  pub lent : Lent
  pub exclusions : Exclusions
  pub offset : ℕ
  pub place : ℕ

abbrev pub read_targets_promise : From → Left (Result VariablesReached TargetsError) → Type 0
read_targets_promise i o =
    ReadTargets i.exclusions i.lent.input i.offset i.place i.lent.text o.text i.lent.records o.records o.answer

-- Nothing is lent but the input.
abbrev pub operator_in_promise : List ℕ → Result Operator UnknownOperator → Type 0
operator_in_promise = OperatorIn

abbrev pub parse_operator_promise : List ℕ → Result Operator OperatorError → Type 0
parse_operator_promise = ParseOperator

-- the input and the argument, each where it stands in memory
abbrev pub operator_argument_promise : Standing → Standing → Type 0
operator_argument_promise = OperatorArgument

-- A package, the version that it is written for, and lent to its reader two byte buffers and three record buffers.
pub record Package : Type 0 where
  pub input : List ℕ
  pub version : Version
  pub lent : Whole.Lent

abbrev pub package_of : List ℕ → Version → Whole.Lent → Package
package_of s v m = record { input = s; version = v; lent = m }

abbrev pub directives_promise : Package → (Result DirectivesRead DirectivesError) × Whole.Lent → Type 0
directives_promise i o = Whole.Directives i.version i.input i.lent o.1 o.0

-- ---- the index

-- add: the index's words, the records of a rule's actions and its directive's line.
pub record Adding : Type 0 where
  pub index : List ℕ
  pub actions : List ℕ
  pub line : ℕ

abbrev pub add_promise : Adding → Wrote (Result Added AddError) → Type 0
add_promise i o = Adds i.actions i.line i.index o.buffer o.answer

-- remove: the index's words, and what is removed.
pub record Removing : Type 0 where
  pub index : List ℕ
  pub selector : RuleIdSelector

abbrev pub remove_promise : Removing → Wrote (Result Removed Broken) → Type 0
remove_promise i o = Removes i.selector i.index o.buffer o.answer

-- ---- the listings

-- Token records, their texts, where reading stopped, and the buffer for the listing.
pub record Records : Type 0 where
  pub words : List ℕ
  pub texts : List ℕ
  pub stop : Option Stop
  pub buffer : List ℕ

abbrev pub write_listing_promise : Records → Wrote (Result ℕ ListingError) → Type 0
write_listing_promise i o = WriteListing i.words i.texts i.stop i.buffer o.buffer o.answer

-- A refusal's number and place, and the buffer.
pub record Refusal : Type 0 where
  pub number : ℕ
  pub place : ℕ
  pub buffer : List ℕ

abbrev pub write_refusal_promise : Refusal → Wrote (Result ℕ ListingError) → Type 0
write_refusal_promise i o = WriteRefusal i.number i.place i.buffer o.buffer o.answer

abbrev pub write_refusal_line_promise : Refusal → Wrote (Result ℕ ListingError) → Type 0
write_refusal_line_promise i o = WriteRefusalLine i.number i.place i.buffer o.buffer o.answer

-- The reader's buffers, and one for the line.
abbrev pub list_text_promise : Lent × List ℕ → Left (Result ℕ ListingError) × List ℕ → Type 0
list_text_promise i o = ListText i.0.input i.0.text o.0.text i.0.records o.0.records i.1 o.1 o.0.answer

-- finish: the buffer, and the place past what was put.
abbrev pub finish_listing_promise : List ℕ × ℕ → Wrote (Result ℕ ListingError) → Type 0
finish_listing_promise i o = Listings.Finished i.0 o.buffer i.1 o.answer

-- digits_into: a number, and the buffer that takes its last digits, as many as there are or fit, at its end.
abbrev pub digits_into_promise : ℕ × List ℕ → Wrote ℕ → Type 0
digits_into_promise i o = Listings.Digits i.0 i.1 o.buffer o.answer

-- ---- action lists written back

-- Action records, their texts, and the buffer for the spelling.
pub record ActionRecords : Type 0 where
  pub words : List ℕ
  pub texts : List ℕ
  pub buffer : List ℕ

abbrev pub action_records : List ℕ → List ℕ → List ℕ → ActionRecords
action_records w t b = record { words = w; texts = t; buffer = b }

abbrev pub write_actions_promise : ActionRecords → Wrote (Result ℕ ListingError) → Type 0
write_actions_promise i o = WriteActions i.words i.texts i.buffer o.buffer o.answer
