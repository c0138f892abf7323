-- 6 occurs no more (document 02, M-102): whatever is lent, no public call that answers by the table of numbers gives it. The three that
-- stand for it are 10, 11 and 12.
use Rattle.std.specs.Prelude.{◌≡◌, List, ℕ, length, Result}
use Rattle.lent.specs.Table.{flaw_number}
use Rattle.lent.specs.declared.refusing.Flaw.{Flaw}
use Rattle.lexer.specs.Promises as Lexer
use Rattle.lexer.specs.declared.writing.Read.{Read as TokensRead}
use Rattle.lexer.specs.declared.writing.TokensError.{TokensError}
use Rattle.lexer.specs.declared.stepping.Found.{Found}
use Rattle.lexer.specs.declared.stepping.StepError.{StepError}
use Rattle.actions.specs.declared.Read.{Read as ActionsRead}
use Rattle.actions.specs.declared.ActionsError.{ActionsError}
use Rattle.variables.specs.declared.Read.{Read as VariablesRead}
use Rattle.variables.specs.declared.VariablesError.{VariablesError}
use Rattle.operators.specs.declared.Operator.{Operator}
use Rattle.operators.specs.declared.UnknownOperator.{UnknownOperator}
use Rattle.operators.specs.declared.OperatorError.{OperatorError}
use Rattle.directives.specs.declared.Read.{Read as DirectivesRead}
use Rattle.directives.specs.declared.DirectivesError.{DirectivesError}
use Rattle.listing.specs.declared.ListingError.{ListingError}
use Rattle.actions.specs.Promises as Actions
use Rattle.variables.specs.Promises as Variables
use Rattle.operators.specs.Promises as Operators
use Rattle.directives.specs.Promises as Whole
use Rattle.spans.specs.Conversion.{from_old, to_old}
use Rattle.spans.specs.Promises as Spans
use Rattle.index.specs.Promises as Indexing
use Rattle.index.specs.declared.adding.Added.{Added}
use Rattle.index.specs.declared.adding.AddError.{AddError}
use Rattle.index.specs.declared.removing.Removed.{Removed}
use Rattle.index.specs.declared.removing.Broken.{Broken}
use Rattle.listing.specs.Promises as Listing
use Rattle.demands.specs.Calls.{Left, Wrote, step_in_promise, next_token_promise, tokens_promise, parse_actions_promise, parse_setvar_promise, parse_variables_promise, parse_update_targets_promise, operator_in_promise, parse_operator_promise, directives_promise, add_promise, remove_promise, write_listing_promise, write_refusal_promise, write_refusal_line_promise, list_text_promise, finish_listing_promise, write_actions_promise}
use Rattle.demands.specs.Library.{With, fills_promise, fills_actions_promise, fills_directives_promise, steps_promise, operator_promise, converts_promise, adds_promise, removes_promise, lists_promise, records_outcome, refusal_outcome, actions_written, lists_text_promise}

-- A call that keeps this promise never gives 6: of all that may come out, none has it for a number.
abbrev pub Never : {In Out : Type 0} → (In → Out → Type 0) → (Out → ℕ) → Type 0
Never {In} {Out} promise number = (i : In) (o : Out) → promise i o → number o ≡ 6 → ⊥

-- The readers. next_of, token_at and first_token keep the promise of next_token.
pub record OfReaders : Type 0 where
  pub flaw_number_lem : (flaw : Flaw) → flaw_number flaw ≡ 6 → ⊥
  pub step_in : Never step_in_promise (λ (o : Wrote (Result Found StepError)). (Lexer.step_given o.answer).number)
  pub next_token : Never next_token_promise (λ (o : Wrote (Result Found StepError)). (Lexer.step_given o.answer).number)
  pub tokens : Never tokens_promise (λ (o : Left (Result TokensRead TokensError)). (Lexer.answer_given o.answer).number)
  pub parse_actions : Never parse_actions_promise (λ (o : Left (Result ActionsRead ActionsError) × List ℕ). (Actions.answer_given o.0.answer).number)
  pub parse_setvar : Never parse_setvar_promise (λ (o : Left (Result ActionsRead ActionsError)). (Actions.answer_given o.answer).number)
  pub parse_variables : Never parse_variables_promise (λ (o : Left (Result VariablesRead VariablesError)). (Variables.answer_given o.answer).number)
  pub parse_update_targets : Never parse_update_targets_promise (λ (o : Left (Result VariablesRead VariablesError)). (Variables.answer_given o.answer).number)
  pub operator_in : Never operator_in_promise (λ (r : Result Operator UnknownOperator). (Operators.in_given r).number)
  pub parse_operator : Never parse_operator_promise (λ (r : Result Operator OperatorError). (Operators.answer_given r).number)
  pub directives : Never directives_promise (λ (o : (Result DirectivesRead DirectivesError) × Whole.Lent). (Whole.answer_given o.0).number)
  pub write_listing : Never write_listing_promise (λ (o : Wrote (Result ℕ ListingError)). (Listing.answer_given o.answer).number)
  pub write_refusal : Never write_refusal_promise (λ (o : Wrote (Result ℕ ListingError)). (Listing.answer_given o.answer).number)
  pub write_refusal_line : Never write_refusal_line_promise (λ (o : Wrote (Result ℕ ListingError)). (Listing.answer_given o.answer).number)
  pub span_from_old : (w : ℕ) → (Spans.answer_given (from_old w)).number ≡ 6 → ⊥
  pub span_to_old : (w : ℕ) → (Spans.answer_given (to_old w)).number ≡ 6 → ⊥
  pub add : Never add_promise (λ (o : Wrote (Result Added AddError)). (Indexing.added_given o.answer).number)
  pub remove : Never remove_promise (λ (o : Wrote (Result Removed Broken)). (Indexing.removed_given o.answer).number)
  pub list_text_lem : Never list_text_promise (λ (o : Left (Result ℕ ListingError) × List ℕ). (Listing.answer_given o.0.answer).number)
  pub finish : Never finish_listing_promise (λ (o : Wrote (Result ℕ ListingError)). (Listing.answer_given o.answer).number)
  pub write_actions : Never write_actions_promise (λ (o : Wrote (Result ℕ ListingError)). (Listing.answer_given o.answer).number)

-- The C functions: the number is what they return.
pub record OfLibrary : Type 0 where
  pub next_token : Never steps_promise (λ (o : With (Wrote ℕ)). o.0.answer)
  pub tokens : Never (fills_promise (λ i. Lexer.tokens_outcome i.input (length i.text) (length i.records))) (λ (o : With (Left ℕ)). o.0.answer)
  pub parse_actions : Never fills_actions_promise (λ (o : With (Left ℕ × List ℕ)). o.0.0.answer)
  pub parse_setvar : Never (fills_promise (λ i. Actions.setvar_outcome i.input (length i.text) (length i.records))) (λ (o : With (Left ℕ)). o.0.answer)
  pub parse_variables : Never (fills_promise (λ i. Variables.variables_outcome i.input (length i.text) (length i.records))) (λ (o : With (Left ℕ)). o.0.answer)
  pub parse_update_targets : Never (fills_promise (λ i. Variables.update_outcome i.input (length i.text) (length i.records))) (λ (o : With (Left ℕ)). o.0.answer)
  pub parse_operator : Never operator_promise (λ (o : With ℕ). o.0)
  pub directives : Never fills_directives_promise (λ (o : With (ℕ × Whole.Lent)). o.0.0)
  pub span_from_old : Never (converts_promise from_old) (λ (o : With ℕ). o.0)
  pub span_to_old : Never (converts_promise to_old) (λ (o : With ℕ). o.0)
  pub index_add : Never adds_promise (λ (o : With (Wrote ℕ)). o.0.answer)
  pub index_remove : Never removes_promise (λ (o : With (Wrote ℕ)). o.0.answer)
  pub write_listing : Never (lists_promise records_outcome (λ i. i.buffer)) (λ (o : With (Wrote ℕ)). o.0.answer)
  pub write_refusal : Never (lists_promise refusal_outcome (λ i. i.buffer)) (λ (o : With (Wrote ℕ)). o.0.answer)
  pub list_text_lem : Never lists_text_promise (λ (o : With (Left ℕ × List ℕ)). o.0.0.answer)
  pub write_actions : Never (lists_promise actions_written (λ i. i.buffer)) (λ (o : With (Wrote ℕ)). o.0.answer)

pub record NoSix : Type 0 where
  pub of_readers : OfReaders
  pub of_library : OfLibrary
