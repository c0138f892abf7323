-- Demand 1 of the C functions: what each is lent and leaves, of its own contract and its own code.
use Rattle.std.specs.Prelude.{List, ℕ, length, Result}
use Rattle.lent.specs.Table.{Outcome, Filled}
use Rattle.lexer.specs.Cursors.{cursor}
use Rattle.lexer.specs.Promises.{tokens_outcome}
use Rattle.actions.specs.Promises.{setvar_outcome}
use Rattle.variables.specs.Promises.{variables_outcome, update_outcome}
use Rattle.operators.specs.Promises as Operators
use Rattle.xml.specs.Xml.{xml_target}
use Rattle.rules.specs.Entries.{entries}
use Rattle.rules.specs.Phases.{phase_of}
use Rattle.rules.specs.Grades.{grades}
use Rattle.rules.specs.Selectors.{matched}
use Rattle.spans.specs.Conversion.{from_old, to_old}
use Rattle.spans.specs.Promises as Spans
use Rattle.spans.specs.declared.converting.TooFar.{TooFar}
use Rattle.directives.specs.Promises as Whole
use Rattle.listing.specs.Listings.{refusal}
use Rattle.listing.specs.Promises as Listing
use Rattle.spelled.specs.Promises.{written_outcome}
use Rattle.seclang.specs.Told.{Told}
use Rattle.seclang.specs.Readers.{Fills, FillsActions, FillsDirectives, Steps, Lists, ListsText, stop_of}
use Rattle.seclang.specs.Indexing.{AddsTold, RemovesTold}
use Rattle.seclang.specs.Codes.{code_of, lookup_in, test_of, target_of, selector_of, version, version_of}
use Rattle.seclang.specs.contracts.seclang_grade as SeclangGrade
use Rattle.seclang.proofs.seclang_grade.Symbol as SeclangGradeCode
use Rattle.seclang.specs.contracts.seclang_index_add as SeclangIndexAdd
use Rattle.seclang.proofs.seclang_index_add.Symbol as SeclangIndexAddCode
use Rattle.seclang.specs.contracts.seclang_index_remove as SeclangIndexRemove
use Rattle.seclang.proofs.seclang_index_remove.Symbol as SeclangIndexRemoveCode
use Rattle.seclang.specs.contracts.seclang_lookup as SeclangLookup
use Rattle.seclang.proofs.seclang_lookup.Symbol as SeclangLookupCode
use Rattle.seclang.specs.contracts.seclang_matches as SeclangMatches
use Rattle.seclang.proofs.seclang_matches.Symbol as SeclangMatchesCode
use Rattle.seclang.specs.contracts.seclang_phase as SeclangPhase
use Rattle.seclang.proofs.seclang_phase.Symbol as SeclangPhaseCode
use Rattle.seclang.specs.contracts.seclang_test as SeclangTest
use Rattle.seclang.proofs.seclang_test.Symbol as SeclangTestCode
use Rattle.seclang.specs.contracts.seclang_xml_target as SeclangXmlTarget
use Rattle.seclang.proofs.seclang_xml_target.Symbol as SeclangXmlTargetCode
use Rattle.seclang.specs.contracts.seclang_list_text as SeclangListText
use Rattle.seclang.proofs.seclang_list_text.Symbol as SeclangListTextCode
use Rattle.seclang.specs.contracts.seclang_write_actions as SeclangWriteActions
use Rattle.seclang.proofs.seclang_write_actions.Symbol as SeclangWriteActionsCode
use Rattle.seclang.specs.contracts.seclang_write_listing as SeclangWriteListing
use Rattle.seclang.proofs.seclang_write_listing.Symbol as SeclangWriteListingCode
use Rattle.seclang.specs.contracts.seclang_write_refusal as SeclangWriteRefusal
use Rattle.seclang.proofs.seclang_write_refusal.Symbol as SeclangWriteRefusalCode
use Rattle.seclang.specs.contracts.seclang_directives as SeclangDirectives
use Rattle.seclang.proofs.seclang_directives.Symbol as SeclangDirectivesCode
use Rattle.seclang.specs.contracts.seclang_next_token as SeclangNextToken
use Rattle.seclang.proofs.seclang_next_token.Symbol as SeclangNextTokenCode
use Rattle.seclang.specs.contracts.seclang_parse_actions as SeclangParseActions
use Rattle.seclang.proofs.seclang_parse_actions.Symbol as SeclangParseActionsCode
use Rattle.seclang.specs.contracts.seclang_parse_operator as SeclangParseOperator
use Rattle.seclang.proofs.seclang_parse_operator.Symbol as SeclangParseOperatorCode
use Rattle.seclang.specs.contracts.seclang_parse_setvar as SeclangParseSetvar
use Rattle.seclang.proofs.seclang_parse_setvar.Symbol as SeclangParseSetvarCode
use Rattle.seclang.specs.contracts.seclang_parse_update_targets as SeclangParseUpdateTargets
use Rattle.seclang.proofs.seclang_parse_update_targets.Symbol as SeclangParseUpdateTargetsCode
use Rattle.seclang.specs.contracts.seclang_parse_variables as SeclangParseVariables
use Rattle.seclang.proofs.seclang_parse_variables.Symbol as SeclangParseVariablesCode
use Rattle.seclang.specs.contracts.seclang_plain_tokens as SeclangPlainTokens
use Rattle.seclang.proofs.seclang_plain_tokens.Symbol as SeclangPlainTokensCode
use Rattle.seclang.specs.contracts.seclang_span_from_old as SeclangSpanFromOld
use Rattle.seclang.proofs.seclang_span_from_old.Symbol as SeclangSpanFromOldCode
use Rattle.seclang.specs.contracts.seclang_span_to_old as SeclangSpanToOld
use Rattle.seclang.proofs.seclang_span_to_old.Symbol as SeclangSpanToOldCode
use Rattle.seclang.specs.contracts.seclang_tokens as SeclangTokens
use Rattle.seclang.proofs.seclang_tokens.Symbol as SeclangTokensCode
use Rattle.seclang.specs.contracts.seclang_version as SeclangVersion
use Rattle.seclang.proofs.seclang_version.Symbol as SeclangVersionCode
use Rattle.demands.specs.Contracts.{Answers, Keeps}
use Rattle.demands.specs.Calls.{Lent, lent, Left, left, Wrote, wrote, Place, place, Adding, Removing, Records, Refusal, ActionRecords, action_records, Package, package_of}

-- What is lent besides: the words for values. They come second, in and out.
abbrev pub With : Type 0 → Type 0
With A = A × List ℕ

-- a reader of lists, by what it comes to
abbrev pub fills_promise : (Lent → Outcome Filled) → With Lent → With (Left ℕ) → Type 0
fills_promise outcome i o = Fills (outcome i.0) i.0.text o.0.text i.0.records o.0.records i.1 o.1 o.0.answer

abbrev pub fills_actions_promise : With (Lent × List ℕ) → With (Left ℕ × List ℕ) → Type 0
fills_actions_promise i o =
    FillsActions i.0.0.input i.0.0.text o.0.0.text i.0.1 o.0.1 i.0.0.records o.0.0.records i.1 o.1 o.0.0.answer

-- whole directives, with all that is lent for them
abbrev pub fills_directives_promise : With Package → With (ℕ × Whole.Lent) → Type 0
fills_directives_promise i o = FillsDirectives i.0.version i.0.input i.0.lent o.0.1 i.1 o.1 o.0.0

abbrev pub steps_promise : With Place → With (Wrote ℕ) → Type 0
steps_promise i o = Steps i.0.input i.0.from i.0.buffer o.0.buffer i.1 o.1 o.0.answer

-- an operator: its number, and the words for values
abbrev pub operator_promise : With (List ℕ) → With ℕ → Type 0
operator_promise i o = Told (Operators.given_by i.0 (Operators.operator_outcome i.0)) i.1 o.1 o.0

-- a stored span word, by what it is in the other form
abbrev pub converts_promise : (ℕ → Result ℕ TooFar) → With ℕ → With ℕ → Type 0
converts_promise to i o = Told (Spans.answer_given (to i.0)) i.1 o.1 o.0

-- the index, and the words for values
abbrev pub adds_promise : With Adding → With (Wrote ℕ) → Type 0
adds_promise i o = AddsTold i.0.actions i.0.line i.0.index o.0.buffer i.1 o.1 o.0.answer

abbrev pub removes_promise : With Removing → With (Wrote ℕ) → Type 0
removes_promise i o = RemovesTold i.0.selector i.0.index o.0.buffer i.1 o.1 o.0.answer

-- what is written of a listing or of an action list, by what it comes to
abbrev pub lists_promise : {In : Type 0} → (In → Listing.Outcome) → (In → List ℕ) → With In → With (Wrote ℕ) → Type 0
lists_promise outcome buffer i o = Lists (outcome i.0) (buffer i.0) o.0.buffer i.1 o.1 o.0.answer

abbrev pub records_outcome : Records → Listing.Outcome
records_outcome i = Listing.listing_outcome i.words i.texts i.stop (length i.buffer)

abbrev pub refusal_outcome : Refusal → Listing.Outcome
refusal_outcome i = Listing.fitted (length i.buffer) (refusal i.number i.place)

abbrev pub actions_written : ActionRecords → Listing.Outcome
actions_written i = written_outcome i.words i.texts (length i.buffer)

abbrev pub lists_text_promise : With (Lent × List ℕ) → With (Left ℕ × List ℕ) → Type 0
lists_text_promise i o =
    ListsText i.0.0.input i.0.0.text o.0.0.text i.0.0.records o.0.0.records i.0.1 o.0.1 i.1 o.1 o.0.0.answer

pub record OfLibrary : Type 3 where
  pub next_token : Keeps SeclangNextToken.ended (λ M 𝓤 𝓛. SeclangNextToken.spec 𝓛) SeclangNextTokenCode.code SeclangNextTokenCode.name (With Place) (With (Wrote ℕ)) steps_promise
      (λ _ a. (place a.0.now (cursor a.1.0 a.1.1.0 a.1.1.1.0 a.1.1.1.1.0) a.1.1.1.1.1.0.now, a.1.1.1.1.1.1.0.now))
      (λ _ r e. (wrote r e.1.1.1.1.1.0.now, e.1.1.1.1.1.1.0.now))
  pub tokens : Keeps SeclangTokens.ended (λ M 𝓤 𝓛. SeclangTokens.spec 𝓛) SeclangTokensCode.code SeclangTokensCode.name (With Lent) (With (Left ℕ)) (fills_promise (λ i. tokens_outcome i.input (length i.text) (length i.records)))
      (λ _ a. (lent a.0.now a.1.0.now a.1.1.0.now, a.1.1.1.0.now))
      (λ _ r e. (left r e.1.0.now e.1.1.0.now, e.1.1.1.0.now))
  pub plain_tokens : Keeps SeclangPlainTokens.ended (λ M 𝓤 𝓛. SeclangPlainTokens.spec 𝓛) SeclangPlainTokensCode.code SeclangPlainTokensCode.name (With Lent) (With (Left ℕ)) (fills_promise (λ i. tokens_outcome i.input (length i.text) (length i.records)))
      (λ _ a. (lent a.0.now a.1.0.now a.1.1.0.now, a.1.1.1.0.now))
      (λ _ r e. (left r e.1.0.now e.1.1.0.now, e.1.1.1.0.now))
  pub parse_actions : Keeps SeclangParseActions.ended (λ M 𝓤 𝓛. SeclangParseActions.spec 𝓛) SeclangParseActionsCode.code SeclangParseActionsCode.name (With (Lent × List ℕ)) (With (Left ℕ × List ℕ)) fills_actions_promise
      (λ _ a. ((lent a.0.now a.1.0.now a.1.1.1.0.now, a.1.1.0.now), a.1.1.1.1.0.now))
      (λ _ r e. ((left r e.1.0.now e.1.1.1.0.now, e.1.1.0.now), e.1.1.1.1.0.now))
  pub parse_setvar : Keeps SeclangParseSetvar.ended (λ M 𝓤 𝓛. SeclangParseSetvar.spec 𝓛) SeclangParseSetvarCode.code SeclangParseSetvarCode.name (With Lent) (With (Left ℕ)) (fills_promise (λ i. setvar_outcome i.input (length i.text) (length i.records)))
      (λ _ a. (lent a.0.now a.1.0.now a.1.1.0.now, a.1.1.1.0.now))
      (λ _ r e. (left r e.1.0.now e.1.1.0.now, e.1.1.1.0.now))
  pub parse_variables : Keeps SeclangParseVariables.ended (λ M 𝓤 𝓛. SeclangParseVariables.spec 𝓛) SeclangParseVariablesCode.code SeclangParseVariablesCode.name (With Lent) (With (Left ℕ)) (fills_promise (λ i. variables_outcome i.input (length i.text) (length i.records)))
      (λ _ a. (lent a.0.now a.1.0.now a.1.1.0.now, a.1.1.1.0.now))
      (λ _ r e. (left r e.1.0.now e.1.1.0.now, e.1.1.1.0.now))
  pub parse_update_targets : Keeps SeclangParseUpdateTargets.ended (λ M 𝓤 𝓛. SeclangParseUpdateTargets.spec 𝓛) SeclangParseUpdateTargetsCode.code SeclangParseUpdateTargetsCode.name (With Lent) (With (Left ℕ)) (fills_promise (λ i. update_outcome i.input (length i.text) (length i.records)))
      (λ _ a. (lent a.0.now a.1.0.now a.1.1.0.now, a.1.1.1.0.now))
      (λ _ r e. (left r e.1.0.now e.1.1.0.now, e.1.1.1.0.now))
  pub parse_operator : Keeps SeclangParseOperator.ended (λ M 𝓤 𝓛. SeclangParseOperator.spec 𝓛) SeclangParseOperatorCode.code SeclangParseOperatorCode.name (With (List ℕ)) (With ℕ) operator_promise (λ _ a. (a.0.now, a.1.0.now)) (λ _ r e. (r, e.1.0.now))
  pub directives : Keeps SeclangDirectives.ended (λ M 𝓤 𝓛. SeclangDirectives.spec 𝓛) SeclangDirectivesCode.code SeclangDirectivesCode.name (With Package) (With (ℕ × Whole.Lent)) fills_directives_promise
      (λ _ a. (package_of a.0.now (version_of a.1.0) (Whole.lent_of a.1.1.0.now a.1.1.1.0.now a.1.1.1.1.0.now a.1.1.1.1.1.0.now a.1.1.1.1.1.1.0.now), a.1.1.1.1.1.1.1.0.now))
      (λ _ r e. ((r, Whole.lent_of e.1.1.0.now e.1.1.1.0.now e.1.1.1.1.0.now e.1.1.1.1.1.0.now e.1.1.1.1.1.1.0.now), e.1.1.1.1.1.1.1.0.now))
  pub lookup : Answers SeclangLookup.ended (λ M 𝓤 𝓛. SeclangLookup.spec 𝓛) SeclangLookupCode.code SeclangLookupCode.name (λ _ a. code_of (lookup_in a.0 a.1.0.now))
  pub test : Answers SeclangTest.ended (λ M 𝓤 𝓛. SeclangTest.spec 𝓛) SeclangTestCode.code SeclangTestCode.name (λ _ a. test_of a.0 a.1.0)
  pub xml_target_lem : Answers SeclangXmlTarget.ended (λ M 𝓤 𝓛. SeclangXmlTarget.spec 𝓛) SeclangXmlTargetCode.code SeclangXmlTargetCode.name (λ _ a. target_of (xml_target a.0 a.1.0.now))
  pub phase : Answers SeclangPhase.ended (λ M 𝓤 𝓛. SeclangPhase.spec 𝓛) SeclangPhaseCode.code SeclangPhaseCode.name (λ _ a. phase_of (entries a.0.now))
  pub grade : Answers SeclangGrade.ended (λ M 𝓤 𝓛. SeclangGrade.spec 𝓛) SeclangGradeCode.code SeclangGradeCode.name (λ _ a. grades (entries a.0.now))
  pub version : Answers SeclangVersion.ended (λ M 𝓤 𝓛. SeclangVersion.spec 𝓛) SeclangVersionCode.code SeclangVersionCode.name (λ _ a. version)
  pub matches : Answers SeclangMatches.ended (λ M 𝓤 𝓛. SeclangMatches.spec 𝓛) SeclangMatchesCode.code SeclangMatchesCode.name (λ _ a. matched (selector_of a.0 a.1.0 a.1.1.0) a.1.1.1.0)
  pub span_from_old : Keeps SeclangSpanFromOld.ended (λ M 𝓤 𝓛. SeclangSpanFromOld.spec 𝓛) SeclangSpanFromOldCode.code SeclangSpanFromOldCode.name (With ℕ) (With ℕ) (converts_promise from_old)
      (λ _ a. (a.0, a.1.0.now)) (λ _ r e. (r, e.1.0.now))
  pub span_to_old : Keeps SeclangSpanToOld.ended (λ M 𝓤 𝓛. SeclangSpanToOld.spec 𝓛) SeclangSpanToOldCode.code SeclangSpanToOldCode.name (With ℕ) (With ℕ) (converts_promise to_old)
      (λ _ a. (a.0, a.1.0.now)) (λ _ r e. (r, e.1.0.now))
  pub index_add : Keeps SeclangIndexAdd.ended (λ M 𝓤 𝓛. SeclangIndexAdd.spec 𝓛) SeclangIndexAddCode.code SeclangIndexAddCode.name (With Adding) (With (Wrote ℕ)) adds_promise
      (λ _ a. (record { index = a.0.now; actions = a.1.0.now; line = a.1.1.0 }, a.1.1.1.0.now))
      (λ _ r e. (wrote r e.0.now, e.1.1.1.0.now))
  pub index_remove : Keeps SeclangIndexRemove.ended (λ M 𝓤 𝓛. SeclangIndexRemove.spec 𝓛) SeclangIndexRemoveCode.code SeclangIndexRemoveCode.name (With Removing) (With (Wrote ℕ)) removes_promise
      (λ _ a. (record { index = a.0.now; selector = selector_of a.1.0 a.1.1.0 a.1.1.1.0 }, a.1.1.1.1.0.now))
      (λ _ r e. (wrote r e.0.now, e.1.1.1.1.0.now))
  pub write_listing : Keeps SeclangWriteListing.ended (λ M 𝓤 𝓛. SeclangWriteListing.spec 𝓛) SeclangWriteListingCode.code SeclangWriteListingCode.name (With Records) (With (Wrote ℕ)) (lists_promise records_outcome (λ i. i.buffer))
      (λ _ a. (
        record {
          words = a.0.now;
          texts = a.1.0.now;
          stop = stop_of a.1.1.0 a.1.1.1.0 a.1.1.1.1.0;
          buffer = a.1.1.1.1.1.0.now;
        },
        a.1.1.1.1.1.1.0.now,
      ))
      (λ _ r e. (wrote r e.1.1.1.1.1.0.now, e.1.1.1.1.1.1.0.now))
  pub write_refusal : Keeps SeclangWriteRefusal.ended (λ M 𝓤 𝓛. SeclangWriteRefusal.spec 𝓛) SeclangWriteRefusalCode.code SeclangWriteRefusalCode.name (With Refusal) (With (Wrote ℕ)) (lists_promise refusal_outcome (λ i. i.buffer))
      (λ _ a. (record { number = a.0; place = a.1.0; buffer = a.1.1.0.now }, a.1.1.1.0.now))
      (λ _ r e. (wrote r e.1.1.0.now, e.1.1.1.0.now))
  pub list_text_lem : Keeps SeclangListText.ended (λ M 𝓤 𝓛. SeclangListText.spec 𝓛) SeclangListTextCode.code SeclangListTextCode.name (With (Lent × List ℕ)) (With (Left ℕ × List ℕ)) lists_text_promise
      (λ _ a. ((lent a.0.now a.1.0.now a.1.1.0.now, a.1.1.1.0.now), a.1.1.1.1.0.now))
      (λ _ r e. ((left r e.1.0.now e.1.1.0.now, e.1.1.1.0.now), e.1.1.1.1.0.now))
  pub write_actions : Keeps SeclangWriteActions.ended (λ M 𝓤 𝓛. SeclangWriteActions.spec 𝓛) SeclangWriteActionsCode.code SeclangWriteActionsCode.name (With ActionRecords) (With (Wrote ℕ)) (lists_promise actions_written (λ i. i.buffer))
      (λ _ a. (action_records a.0.now a.1.0.now a.1.1.0.now, a.1.1.1.0.now)) (λ _ r e. (wrote r e.1.1.0.now, e.1.1.1.0.now))
