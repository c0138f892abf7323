-- Demand 1. Every public call takes any input and any lent buffers, ends, and relies on nothing that the caller must take care of.
-- It refuses by the numbers in document 01 and leaves the buffers as that table states.
-- Said here of every public function, of its own contract and its own code (`Contracts`): its `requires` asks nothing, its `ensures` is
-- the promise that stands here, its code meets it, and so ends; whatever goes in, something can come out, and only one thing.
use Rattle.std.specs.Prelude.{◌≡◌, Bool, false, List, ℕ, length, drop, get_or, Result, Option}
use Rattle.ascii.specs.Classes.{white, operator_name_end, digit}
use Rattle.ascii.specs.Fold.{lower, upper, same, same_lowered}
use Rattle.ascii.specs.Handed.{Standing, standing}
use Rattle.ascii.specs.Trim.{leading_white, trim_end, trim_start_of, trim_end_of, trim_ends_of, trimmed_part}
use Rattle.ascii.specs.Splits.{first_of}
use Rattle.ascii.specs.Numbers.{digits_by, unsigned_by, signed_word}
use Rattle.lent.specs.Gates.{first_high, gate_of}
use Rattle.lent.specs.Sizes.{span_word, span_offset, span_length, room_for, token_words, action_words, variable_words}
use Rattle.lent.specs.Buffers.{zeros, stored}
use Rattle.lent.specs.Endings.{starts as starts_at}
use Rattle.lent.specs.Table.{flaw_number}
use Rattle.lent.specs.Sources.{part}
use Rattle.places.specs.Sites.{site_of}
use Rattle.names.specs.Variables.{variable_code, is_collection, is_implemented}
use Rattle.names.specs.Operators.{operator_code, requires_argument}
use Rattle.names.specs.Severities.{severity_code}
use Rattle.lexer.specs.Cursors.{fresh}
use Rattle.lexer.specs.Tokens.{directive}
use Rattle.lexer.specs.Promises as Lexer
use Rattle.lexer.specs.declared.writing.Read.{Read as TokensRead}
use Rattle.lexer.specs.declared.writing.TokensError.{TokensError}
use Rattle.lexer.specs.declared.stepping.Found.{Found}
use Rattle.lexer.specs.declared.stepping.StepError.{StepError}
use Rattle.actions.specs.declared.Read.{Read as ActionsRead}
use Rattle.actions.specs.declared.ActionsError.{ActionsError}
use Rattle.actions.specs.declared.Reached.{Reached as ActionsReached}
use Rattle.actions.specs.declared.PieceError.{PieceError}
use Rattle.variables.specs.declared.Read.{Read as VariablesRead}
use Rattle.variables.specs.declared.VariablesError.{VariablesError}
use Rattle.variables.specs.declared.Reached.{Reached as VariablesReached}
use Rattle.variables.specs.declared.TargetsError.{TargetsError}
use Rattle.operators.specs.declared.Operator.{Operator}
use Rattle.operators.specs.declared.UnknownOperator.{UnknownOperator}
use Rattle.operators.specs.declared.OperatorError.{OperatorError}
use Rattle.directives.specs.declared.Read.{Read as DirectivesRead}
use Rattle.directives.specs.declared.DirectivesError.{DirectivesError}
use Rattle.listing.specs.declared.ListingError.{ListingError}
use Rattle.single_action.specs.declared.plans.Plan.{Plan}
use Rattle.single_action.specs.declared.plans.PlanError.{PlanError}
use Rattle.lexer.specs.declared.stepping.Lexeme.{Lexeme}
use Rattle.records.specs.Codes.{set_var_code, shape_of, known_by}
use Rattle.records.specs.Marks.{marks_for}
use Rattle.single_action.specs.Table.{row_at, rule_of}
use Rattle.single_action.specs.Marks.{quotation}
use Rattle.single_action.specs.Setvar.{setvar, has_macro}
use Rattle.single_action.specs.Actions.{single, setvar_action}
use Rattle.single_action.specs.Plans.{plan_action, verdict_single, Planned, Judged}
use Rattle.single_action.specs.declared.plans.Plan.{Plan}
use Rattle.actions.specs.Promises as Actions
use Rattle.directives.specs.Promises as Whole
use Rattle.xml.specs.Xml.{xml_target}
use Rattle.variables.specs.Promises as Variables
use Rattle.rules.specs.Entries.{entries, first_of as first_number_of}
use Rattle.rules.specs.Phases.{phase_of}
use Rattle.rules.specs.Grades.{grades}
use Rattle.rules.specs.Selectors.{matched}
use Rattle.spans.specs.Conversion.{from_old, to_old}
use Rattle.index.specs.declared.adding.Added.{Added}
use Rattle.index.specs.declared.adding.AddError.{AddError}
use Rattle.index.specs.declared.removing.Removed.{Removed}
use Rattle.index.specs.declared.removing.Broken.{Broken}
use Rattle.ascii.specs.contracts.ends_operator_name as EndsOperatorName
use Rattle.ascii.proofs.ends_operator_name.Symbol as EndsOperatorNameCode
use Rattle.ascii.specs.contracts.is_digit as IsDigit
use Rattle.ascii.proofs.is_digit.Symbol as IsDigitCode
use Rattle.ascii.specs.contracts.is_white as IsWhite
use Rattle.ascii.proofs.is_white.Symbol as IsWhiteCode
use Rattle.ascii.specs.contracts.is_same as IsSame
use Rattle.ascii.proofs.is_same.Symbol as IsSameCode
use Rattle.ascii.specs.contracts.same_lowered as SameLowered
use Rattle.ascii.proofs.same_lowered.Symbol as SameLoweredCode
use Rattle.ascii.specs.contracts.to_lower as ToLower
use Rattle.ascii.proofs.to_lower.Symbol as ToLowerCode
use Rattle.ascii.specs.contracts.to_upper as ToUpper
use Rattle.ascii.proofs.to_upper.Symbol as ToUpperCode
use Rattle.ascii.specs.contracts.digits as Digits
use Rattle.ascii.proofs.digits.Symbol as DigitsCode
use Rattle.ascii.specs.contracts.signed as Signed
use Rattle.ascii.proofs.signed.Symbol as SignedCode
use Rattle.ascii.specs.contracts.unsigned as Unsigned
use Rattle.ascii.proofs.unsigned.Symbol as UnsignedCode
use Rattle.ascii.specs.contracts.first_of as FirstOf
use Rattle.ascii.proofs.first_of.Symbol as FirstOfCode
use Rattle.ascii.specs.contracts.leading_white as LeadingWhite
use Rattle.ascii.proofs.leading_white.Symbol as LeadingWhiteCode
use Rattle.ascii.specs.contracts.trim as Trim
use Rattle.ascii.proofs.trim.Symbol as TrimCode
use Rattle.ascii.specs.contracts.trim_end as TrimEnd
use Rattle.ascii.proofs.trim_end.Symbol as TrimEndCode
use Rattle.ascii.specs.contracts.trim_start as TrimStart
use Rattle.ascii.proofs.trim_start.Symbol as TrimStartCode
use Rattle.ascii.specs.contracts.trimmed as Trimmed
use Rattle.ascii.proofs.trimmed.Symbol as TrimmedCode
use Rattle.ascii.specs.contracts.trimmed_len as TrimmedLen
use Rattle.ascii.proofs.trimmed_len.Symbol as TrimmedLenCode
use Rattle.lent.specs.contracts.finish as Finish
use Rattle.lent.proofs.finish.Symbol as FinishCode
use Rattle.lent.specs.contracts.refuse_piece as RefusePiece
use Rattle.lent.proofs.refuse_piece.Symbol as RefusePieceCode
use Rattle.lent.specs.contracts.starts as Starts
use Rattle.lent.proofs.starts.Symbol as StartsCode
use Rattle.lent.specs.contracts.admit as Admit
use Rattle.lent.proofs.admit.Symbol as AdmitCode
use Rattle.lent.specs.contracts.first_high as FirstHigh
use Rattle.lent.proofs.first_high.Symbol as FirstHighCode
use Rattle.lent.specs.contracts.room as Room
use Rattle.lent.proofs.room.Symbol as RoomCode
use Rattle.lent.specs.contracts.span as Span
use Rattle.lent.proofs.span.Symbol as SpanCode
use Rattle.lent.specs.contracts.span_length as SpanLength
use Rattle.lent.proofs.span_length.Symbol as SpanLengthCode
use Rattle.lent.specs.contracts.span_offset as SpanOffset
use Rattle.lent.proofs.span_offset.Symbol as SpanOffsetCode
use Rattle.lent.specs.contracts.refusing.U64FromFlaw.from as FlawNumber
use Rattle.lent.proofs.refusing.U64FromFlaw.from.Symbol as FlawNumberCode
use Rattle.names.specs.contracts.operator_code as OperatorCode
use Rattle.names.proofs.operator_code.Symbol as OperatorCodeCode
use Rattle.names.specs.contracts.requires_argument as RequiresArgument
use Rattle.names.proofs.requires_argument.Symbol as RequiresArgumentCode
use Rattle.names.specs.contracts.severity_code as SeverityCode
use Rattle.names.proofs.severity_code.Symbol as SeverityCodeCode
use Rattle.names.specs.contracts.is_collection as IsCollection
use Rattle.names.proofs.is_collection.Symbol as IsCollectionCode
use Rattle.names.specs.contracts.is_implemented as IsImplemented
use Rattle.names.proofs.is_implemented.Symbol as IsImplementedCode
use Rattle.names.specs.contracts.variable_code as VariableCode
use Rattle.names.proofs.variable_code.Symbol as VariableCodeCode
use Rattle.lexer.specs.contracts.next_token as NextToken
use Rattle.lexer.proofs.next_token.Symbol as NextTokenCode
use Rattle.lexer.specs.contracts.step_in as StepIn
use Rattle.lexer.proofs.step_in.Symbol as StepInCode
use Rattle.lexer.specs.contracts.start as Start
use Rattle.lexer.proofs.start.Symbol as StartCode
use Rattle.lexer.specs.contracts.tokens as TokensOf
use Rattle.lexer.proofs.tokens.Symbol as TokensOfCode
use Rattle.lexer.specs.contracts.is_directive as IsDirective
use Rattle.lexer.proofs.is_directive.Symbol as IsDirectiveCode
use Rattle.lexer.specs.contracts.put_token as PutToken
use Rattle.lexer.proofs.put_token.Symbol as PutTokenCode
use Rattle.lexer.specs.contracts.end_reading as EndReading
use Rattle.lexer.proofs.end_reading.Symbol as EndReadingCode
use Rattle.plain.specs.contracts.plain_tokens as PlainTokens
use Rattle.plain.proofs.plain_tokens.Symbol as PlainTokensCode
use Rattle.places.specs.contracts.site as SiteAt
use Rattle.places.proofs.site.Symbol as SiteAtCode
use Rattle.places.specs.contracts.site_word as SiteWordAt
use Rattle.places.proofs.site_word.Symbol as SiteWordAtCode
use Rattle.places.specs.contracts.resite as ResiteAll
use Rattle.places.proofs.resite.Symbol as ResiteAllCode
use Rattle.reader.specs.contracts.reader_of as ReaderOf
use Rattle.reader.proofs.reader_of.Symbol as ReaderOfCode
use Rattle.reader.specs.contracts.reader_at as ReaderAt
use Rattle.reader.proofs.reader_at.Symbol as ReaderAtCode
use Rattle.reader.specs.contracts.next_of as NextOf
use Rattle.reader.proofs.next_of.Symbol as NextOfCode
use Rattle.reader.specs.contracts.token_at as TokenAt
use Rattle.reader.proofs.token_at.Symbol as TokenAtCode
use Rattle.reader.specs.contracts.first_token as FirstToken
use Rattle.reader.proofs.first_token.Symbol as FirstTokenCode
use Rattle.records.specs.contracts.is_known as IsKnown
use Rattle.records.proofs.is_known.Symbol as IsKnownCode
use Rattle.records.specs.contracts.is_text as IsText
use Rattle.records.proofs.is_text.Symbol as IsTextCode
use Rattle.single_action.specs.contracts.read_single as ReadSingle
use Rattle.single_action.proofs.read_single.Symbol as ReadSingleCode
use Rattle.single_action.specs.contracts.read_setvar as ReadSetvar
use Rattle.single_action.proofs.read_setvar.Symbol as ReadSetvarCode
use Rattle.single_action.specs.contracts.numbered_rule as NumberedRule
use Rattle.single_action.proofs.numbered_rule.Symbol as NumberedRuleCode
use Rattle.single_action.specs.contracts.is_quotation as IsQuotation
use Rattle.single_action.proofs.is_quotation.Symbol as IsQuotationCode
use Rattle.single_action.specs.contracts.has_macro as HasMacro
use Rattle.single_action.proofs.has_macro.Symbol as HasMacroCode
use Rattle.single_action.specs.contracts.put_name as PutName
use Rattle.single_action.proofs.put_name.Symbol as PutNameCode
use Rattle.actions.specs.contracts.normalise as Normalise
use Rattle.actions.proofs.normalise.Symbol as NormaliseCode
use Rattle.actions.specs.contracts.parse_actions as ParseActions
use Rattle.actions.proofs.parse_actions.Symbol as ParseActionsCode
use Rattle.actions.specs.contracts.parse_setvar as ParseSetvar
use Rattle.actions.proofs.parse_setvar.Symbol as ParseSetvarCode
use Rattle.actions.specs.contracts.read_actions as ReadActions
use Rattle.actions.proofs.read_actions.Symbol as ReadActionsCode
use Rattle.variables.specs.contracts.parse_update_targets as ParseUpdateTargets
use Rattle.variables.proofs.parse_update_targets.Symbol as ParseUpdateTargetsCode
use Rattle.variables.specs.contracts.parse_variables as ParseVariables
use Rattle.variables.proofs.parse_variables.Symbol as ParseVariablesCode
use Rattle.variables.specs.contracts.read_targets as ReadTargets
use Rattle.variables.proofs.read_targets.Symbol as ReadTargetsCode
use Rattle.xml.specs.contracts.xml_target as XmlTarget
use Rattle.xml.proofs.xml_target.Symbol as XmlTargetCode
use Rattle.operators.specs.contracts.operator_argument as OperatorArgument
use Rattle.operators.proofs.operator_argument.Symbol as OperatorArgumentCode
use Rattle.operators.specs.contracts.operator_in as OperatorIn
use Rattle.operators.proofs.operator_in.Symbol as OperatorInCode
use Rattle.operators.specs.contracts.parse_operator as ParseOperator
use Rattle.operators.proofs.parse_operator.Symbol as ParseOperatorCode
use Rattle.directives.specs.contracts.directives as DirectivesOf
use Rattle.directives.proofs.directives.Symbol as DirectivesOfCode
use Rattle.rules.specs.contracts.first_number as FirstNumber
use Rattle.rules.proofs.first_number.Symbol as FirstNumberCode
use Rattle.rules.specs.contracts.grade as Grade
use Rattle.rules.proofs.grade.Symbol as GradeCode
use Rattle.rules.specs.contracts.phase as Phase
use Rattle.rules.proofs.phase.Symbol as PhaseCode
use Rattle.rules.specs.contracts.selecting.RuleIdSelector.matches as Matches
use Rattle.rules.proofs.selecting.RuleIdSelector.matches.Symbol as MatchesCode
use Rattle.spans.specs.contracts.span_from_old as SpanFromOld
use Rattle.spans.proofs.span_from_old.Symbol as SpanFromOldCode
use Rattle.spans.specs.contracts.span_to_old as SpanToOld
use Rattle.spans.proofs.span_to_old.Symbol as SpanToOldCode
use Rattle.index.specs.contracts.add as Add
use Rattle.index.proofs.add.Symbol as AddCode
use Rattle.index.specs.contracts.remove as Remove
use Rattle.index.proofs.remove.Symbol as RemoveCode
use Rattle.listing.specs.contracts.digits_into as DigitsInto
use Rattle.listing.proofs.digits_into.Symbol as DigitsIntoCode
use Rattle.listing.specs.contracts.finish as FinishListing
use Rattle.listing.proofs.finish.Symbol as FinishListingCode
use Rattle.listing.specs.contracts.list_text as ListText
use Rattle.listing.proofs.list_text.Symbol as ListTextCode
use Rattle.listing.specs.contracts.write_listing as WriteListing
use Rattle.listing.proofs.write_listing.Symbol as WriteListingCode
use Rattle.listing.specs.contracts.write_refusal as WriteRefusal
use Rattle.listing.proofs.write_refusal.Symbol as WriteRefusalCode
use Rattle.listing.specs.contracts.write_refusal_line as WriteRefusalLine
use Rattle.listing.proofs.write_refusal_line.Symbol as WriteRefusalLineCode
use Rattle.spelled.specs.contracts.write_actions as WriteActions
use Rattle.spelled.proofs.write_actions.Symbol as WriteActionsCode
use Rattle.demands.specs.Contracts.{Promises, Decides, Answers, Keeps}
use Rattle.demands.specs.EachType.{LeadingEach, KeptLenEach, StoreEach}
use Rattle.demands.specs.Conversions.{OfConversions}
use Rattle.demands.specs.Calls.{Lent, lent, Left, left, Wrote, wrote, Filling, finish_promise, Placing, site_word_promise, Replacing, resite_promise, Place, place, Records, Refusal, step_in_promise, next_token_promise, tokens_promise, Ending, end_reading_promise, parse_actions_promise, normalise_promise, read_actions_promise, parse_setvar_promise, parse_variables_promise, parse_update_targets_promise, From, read_targets_promise, operator_in_promise, parse_operator_promise, operator_argument_promise, Package, package_of, directives_promise, Adding, add_promise, Removing, remove_promise, write_listing_promise, write_refusal_promise, write_refusal_line_promise, list_text_promise, finish_listing_promise, digits_into_promise, ActionRecords, action_records, write_actions_promise}
use Rattle.demands.specs.Rows.{Row}
use Rattle.demands.specs.DirectiveRows as Directive
use Rattle.demands.specs.Library.{OfLibrary}

-- Of what is passed, `a`, the first is `a.0`, the second `a.1.0`, the third `a.1.1.0`; so too of `e`, the same at exit.

-- ---- functions that lend nothing to be written

-- Bytes: classes and letter case.
pub record OfBytes : Type 3 where
  pub is_white : Answers IsWhite.ended (λ M 𝓤 𝓛. IsWhite.spec 𝓛) IsWhiteCode.code IsWhiteCode.name (λ _ a. white a.0)
  pub ends_operator_name : Answers EndsOperatorName.ended (λ M 𝓤 𝓛. EndsOperatorName.spec 𝓛) EndsOperatorNameCode.code EndsOperatorNameCode.name (λ _ a. operator_name_end a.0)
  pub is_digit : Answers IsDigit.ended (λ M 𝓤 𝓛. IsDigit.spec 𝓛) IsDigitCode.code IsDigitCode.name (λ _ a. digit a.0)
  pub to_lower : Answers ToLower.ended (λ M 𝓤 𝓛. ToLower.spec 𝓛) ToLowerCode.code ToLowerCode.name (λ _ a. lower a.0)
  pub to_upper : Answers ToUpper.ended (λ M 𝓤 𝓛. ToUpper.spec 𝓛) ToUpperCode.code ToUpperCode.name (λ _ a. upper a.0)

-- Texts; a part handed back is a part of the caller's text, where it stands there.
pub record OfTexts : Type 3 where
  pub is_same : Answers IsSame.ended (λ M 𝓤 𝓛. IsSame.spec 𝓛) IsSameCode.code IsSameCode.name (λ _ a. same a.0.now a.1.0.now)
  pub same_lowered_lem : Answers SameLowered.ended (λ M 𝓤 𝓛. SameLowered.spec 𝓛) SameLoweredCode.code SameLoweredCode.name (λ _ a. same_lowered a.0.now a.1.0.now)
  pub leading : LeadingEach
  pub kept_len : KeptLenEach
  pub leading_white_lem : Answers LeadingWhite.ended (λ M 𝓤 𝓛. LeadingWhite.spec 𝓛) LeadingWhiteCode.code LeadingWhiteCode.name (λ _ a. leading_white a.0.now)
  pub trimmed_len : Answers TrimmedLen.ended (λ M 𝓤 𝓛. TrimmedLen.spec 𝓛) TrimmedLenCode.code TrimmedLenCode.name (λ _ a. length (trim_end a.0.now))
  pub trim_start : Keeps TrimStart.ended (λ M 𝓤 𝓛. TrimStart.spec 𝓛) TrimStartCode.code TrimStartCode.name Standing Standing (λ s r. r ≡ trim_start_of s) (λ _ a. standing a.0) (λ _ r e. standing r)
  pub trim_end : Keeps TrimEnd.ended (λ M 𝓤 𝓛. TrimEnd.spec 𝓛) TrimEndCode.code TrimEndCode.name Standing Standing (λ s r. r ≡ trim_end_of s) (λ _ a. standing a.0) (λ _ r e. standing r)
  pub trim : Keeps Trim.ended (λ M 𝓤 𝓛. Trim.spec 𝓛) TrimCode.code TrimCode.name Standing Standing (λ s r. r ≡ trim_ends_of s) (λ _ a. standing a.0) (λ _ r e. standing r)
  pub trimmed : Answers Trimmed.ended (λ M 𝓤 𝓛. Trimmed.spec 𝓛) TrimmedCode.code TrimmedCode.name (λ _ a. trimmed_part a.0.now)
  pub first_of_lem : Answers FirstOf.ended (λ M 𝓤 𝓛. FirstOf.spec 𝓛) FirstOfCode.code FirstOfCode.name (λ _ a. first_of a.1.0 a.0.now)

-- Numbers, over any width.
pub record OfNumbers : Type 3 where
  pub digits : Answers Digits.ended (λ M 𝓤 𝓛. Digits.spec 𝓛) DigitsCode.code DigitsCode.name (λ _ a. digits_by a.1.0 a.0.now)
  pub unsigned : Answers Unsigned.ended (λ M 𝓤 𝓛. Unsigned.spec 𝓛) UnsignedCode.code UnsignedCode.name (λ _ a. unsigned_by a.1.0 a.0.now)
  pub signed : Answers Signed.ended (λ M 𝓤 𝓛. Signed.spec 𝓛) SignedCode.code SignedCode.name (λ _ a. signed_word a.0.now)

-- The gate, sizes and spans; what a buffer holds afterwards, bytes and words alike.
pub record OfLent : Type 3 where
  pub admit : Answers Admit.ended (λ M 𝓤 𝓛. Admit.spec 𝓛) AdmitCode.code AdmitCode.name (λ _ a. gate_of a.0.now a.1.0 a.1.1.0)
  pub first_high_lem : Answers FirstHigh.ended (λ M 𝓤 𝓛. FirstHigh.spec 𝓛) FirstHighCode.code FirstHighCode.name (λ _ a. first_high a.0.now)
  pub span : Answers Span.ended (λ M 𝓤 𝓛. Span.spec 𝓛) SpanCode.code SpanCode.name (λ _ a. span_word a.0 a.1.0)
  pub span_offset_lem : Answers SpanOffset.ended (λ M 𝓤 𝓛. SpanOffset.spec 𝓛) SpanOffsetCode.code SpanOffsetCode.name (λ _ a. span_offset a.0)
  pub span_length_lem : Answers SpanLength.ended (λ M 𝓤 𝓛. SpanLength.spec 𝓛) SpanLengthCode.code SpanLengthCode.name (λ _ a. span_length a.0)
  pub room : Answers Room.ended (λ M 𝓤 𝓛. Room.spec 𝓛) RoomCode.code RoomCode.name (λ _ a. room_for a.1.0 a.0)
  -- a text, or a record's words, stored at a place: one function for both
  pub store : StoreEach
  -- where a reader may start, how it ends, and what a refusal by name leaves of both buffers
  pub starts : Answers Starts.ended (λ M 𝓤 𝓛. Starts.spec 𝓛) StartsCode.code StartsCode.name (λ _ a. starts_at a.0 a.1.0 a.1.1.0 a.1.1.1.0)
  pub finish : Keeps Finish.ended (λ M 𝓤 𝓛. Finish.spec 𝓛) FinishCode.code FinishCode.name Filling (Left Bool) finish_promise
      (λ _ a. record { text = a.0.now; used = a.1.0; records = a.1.1.0.now; count = a.1.1.1.0; width = a.1.1.1.1.0 })
      (λ _ r e. left r e.0.now e.1.1.0.now)
  pub refuse_piece : Keeps RefusePiece.ended (λ M 𝓤 𝓛. RefusePiece.spec 𝓛) RefusePieceCode.code RefusePieceCode.name Lent (List ℕ × List ℕ)
      (λ i o. (o.0 ≡ stored (zeros (length i.text)) 0 i.input) × (o.1 ≡ zeros (length i.records)))
      (λ _ a. lent a.1.1.0.now a.0.now a.1.0.now) (λ _ r e. (e.0.now, e.1.0.now))
  -- the number of a refused argument
  pub flaw_number_lem : Answers FlawNumber.ended (λ M 𝓤 𝓛. FlawNumber.spec 𝓛) FlawNumberCode.code FlawNumberCode.name (λ _ a. flaw_number a.0)

-- Lookups, and tests on a code, a selection, an id, records or a word of one: they answer on anything, and never by the table.
pub record OfNames : Type 3 where
  pub variable_code_lem : Answers VariableCode.ended (λ M 𝓤 𝓛. VariableCode.spec 𝓛) VariableCodeCode.code VariableCodeCode.name (λ _ a. variable_code a.0.now)
  pub operator_code_lem : Answers OperatorCode.ended (λ M 𝓤 𝓛. OperatorCode.spec 𝓛) OperatorCodeCode.code OperatorCodeCode.name (λ _ a. operator_code a.0.now)
  pub severity_code_lem : Answers SeverityCode.ended (λ M 𝓤 𝓛. SeverityCode.spec 𝓛) SeverityCodeCode.code SeverityCodeCode.name (λ _ a. severity_code a.0.now)
  pub is_collection_lem : Answers IsCollection.ended (λ M 𝓤 𝓛. IsCollection.spec 𝓛) IsCollectionCode.code IsCollectionCode.name (λ _ a. is_collection a.0)
  pub is_implemented_lem : Answers IsImplemented.ended (λ M 𝓤 𝓛. IsImplemented.spec 𝓛) IsImplementedCode.code IsImplementedCode.name (λ _ a. is_implemented a.0)
  pub requires_argument_lem : Answers RequiresArgument.ended (λ M 𝓤 𝓛. RequiresArgument.spec 𝓛) RequiresArgumentCode.code RequiresArgumentCode.name (λ _ a. requires_argument a.0)
  pub xml_target_lem : Answers XmlTarget.ended (λ M 𝓤 𝓛. XmlTarget.spec 𝓛) XmlTargetCode.code XmlTargetCode.name (λ _ a. xml_target a.0 a.1.0.now)
  pub matches : Answers Matches.ended (λ M 𝓤 𝓛. Matches.spec 𝓛) MatchesCode.code MatchesCode.name (λ _ a. matched a.0 a.1.0)
  pub first_number : Answers FirstNumber.ended (λ M 𝓤 𝓛. FirstNumber.spec 𝓛) FirstNumberCode.code FirstNumberCode.name (λ _ a. first_number_of a.1.0 (entries a.0.now))
  pub phase : Answers Phase.ended (λ M 𝓤 𝓛. Phase.spec 𝓛) PhaseCode.code PhaseCode.name (λ _ a. phase_of (entries a.0.now))
  pub grade : Answers Grade.ended (λ M 𝓤 𝓛. Grade.spec 𝓛) GradeCode.code GradeCode.name (λ _ a. grades (entries a.0.now))
  pub is_text : Answers IsText.ended (λ M 𝓤 𝓛. IsText.spec 𝓛) IsTextCode.code IsTextCode.name (λ _ a. get_or (marks_for a.0 a.1.0) a.1.1.0 false)

-- Stored span words.
pub record OfSpans : Type 3 where
  pub span_from_old : Answers SpanFromOld.ended (λ M 𝓤 𝓛. SpanFromOld.spec 𝓛) SpanFromOldCode.code SpanFromOldCode.name (λ _ a. from_old a.0)
  pub span_to_old : Answers SpanToOld.ended (λ M 𝓤 𝓛. SpanToOld.spec 𝓛) SpanToOldCode.code SpanToOldCode.name (λ _ a. to_old a.0)

-- ---- the readers

-- Both lexers, what they begin and end with, and the reader that holds a reference to its text, of whatever kind.
pub record OfLexer : Type 3 where
  pub start : Answers Start.ended (λ M 𝓤 𝓛. Start.spec 𝓛) StartCode.code StartCode.name (λ _ a. fresh)
  pub step_in : Keeps StepIn.ended (λ M 𝓤 𝓛. StepIn.spec 𝓛) StepInCode.code StepInCode.name Place (Wrote (Result Found StepError)) step_in_promise (λ _ a. place a.0.now a.1.0 a.1.1.0.now) (λ _ r e. wrote r e.1.1.0.now)
  pub next_token : Keeps NextToken.ended (λ M 𝓤 𝓛. NextToken.spec 𝓛) NextTokenCode.code NextTokenCode.name Place (Wrote (Result Found StepError)) next_token_promise
      (λ _ a. place a.0.now a.1.0 a.1.1.0.now) (λ _ r e. wrote r e.1.1.0.now)
  pub tokens : Keeps TokensOf.ended (λ M 𝓤 𝓛. TokensOf.spec 𝓛) TokensOfCode.code TokensOfCode.name Lent (Left (Result TokensRead TokensError)) tokens_promise
      (λ _ a. lent a.0.now a.1.0.now a.1.1.0.now) (λ _ r e. left r e.1.0.now e.1.1.0.now)
  pub plain_tokens : Keeps PlainTokens.ended (λ M 𝓤 𝓛. PlainTokens.spec 𝓛) PlainTokensCode.code PlainTokensCode.name Lent (Left (Result TokensRead TokensError)) tokens_promise
      (λ _ a. lent a.0.now a.1.0.now a.1.1.0.now) (λ _ r e. left r e.1.0.now e.1.1.0.now)
  pub is_directive : Answers IsDirective.ended (λ M 𝓤 𝓛. IsDirective.spec 𝓛) IsDirectiveCode.code IsDirectiveCode.name (λ _ a. directive a.0.now)
  pub put_token : Keeps PutToken.ended (λ M 𝓤 𝓛. PutToken.spec 𝓛) PutTokenCode.code PutTokenCode.name (List ℕ × ℕ × ℕ × Lexeme) (List ℕ) (λ i o. o ≡ Lexer.token_stored i.0 i.1 i.2 i.3)
      (λ _ a. (a.0.now, a.1.0, a.1.1.0, a.1.1.1.0)) (λ _ r e. e.0.now)
  pub end_reading : Keeps EndReading.ended (λ M 𝓤 𝓛. EndReading.spec 𝓛) EndReadingCode.code EndReadingCode.name Ending (Left (Result TokensRead TokensError)) end_reading_promise
      (λ _ a. record { read = a.0; text = a.1.0.now; records = a.1.1.0.now }) (λ _ r e. left r e.1.0.now e.1.1.0.now)
  pub reader_of : Decides ReaderOf.ended (λ M 𝓤 𝓛. ReaderOf.spec 𝓛) ReaderOfCode.code ReaderOfCode.name (λ _ a r. (r.text ≡ a.0) × (r.cursor ≡ fresh))
  pub reader_at : Decides ReaderAt.ended (λ M 𝓤 𝓛. ReaderAt.spec 𝓛) ReaderAtCode.code ReaderAtCode.name (λ _ a r. (r.text ≡ a.0.text) × (r.cursor ≡ a.1.0))
  pub next_of : Keeps NextOf.ended (λ M 𝓤 𝓛. NextOf.spec 𝓛) NextOfCode.code NextOfCode.name Place (Wrote (Result Found StepError)) next_token_promise
      (λ _ a. place a.0.text.now a.0.cursor a.1.0.now) (λ _ r e. wrote r e.1.0.now)
  pub token_at_lem : Keeps TokenAt.ended (λ M 𝓤 𝓛. TokenAt.spec 𝓛) TokenAtCode.code TokenAtCode.name Place (Wrote (Result Found StepError)) next_token_promise
      (λ _ a. place a.0.now a.1.0 a.1.1.0.now) (λ _ r e. wrote r e.1.1.0.now)
  pub first_token : Keeps FirstToken.ended (λ M 𝓤 𝓛. FirstToken.spec 𝓛) FirstTokenCode.code FirstTokenCode.name Place (Wrote (Result Found StepError)) next_token_promise
      (λ _ a. place a.0.now fresh a.1.0.now) (λ _ r e. wrote r e.1.0.now)

-- Where the bytes of a text came from: a part of it, one span word, and the last words of records.
pub record OfPlaces : Type 3 where
  pub site : Answers SiteAt.ended (λ M 𝓤 𝓛. SiteAt.spec 𝓛) SiteAtCode.code SiteAtCode.name
      (λ _ a. site_of a.1.1.0 a.1.0 (drop a.1.0 a.0.now) (part a.1.1.1.0 a.1.1.1.1.0))
  pub site_word_lem : Keeps SiteWordAt.ended (λ M 𝓤 𝓛. SiteWordAt.spec 𝓛) SiteWordAtCode.code SiteWordAtCode.name Placing ℕ site_word_promise
      (λ _ a. record { source = a.0.now; from = a.1.0; rule = a.1.1.0; word = a.1.1.1.0 }) (λ _ r e. r)
  pub resite : Keeps ResiteAll.ended (λ M 𝓤 𝓛. ResiteAll.spec 𝓛) ResiteAllCode.code ResiteAllCode.name Replacing (List ℕ) resite_promise
      (λ _ a.
      record {
        source = a.0.now;
        from = a.1.0;
        rule = a.1.1.0;
        records = a.1.1.1.0.now;
        at = a.1.1.1.1.0;
        count = a.1.1.1.1.1.0;
        width = a.1.1.1.1.1.1.0;
      })
      (λ _ r e. e.1.1.1.0.now)

-- One action, by places in its piece. What is read is fixed, and not the places: equal bytes may stand at two of them.
-- So these two are the exception: their promise says what a verdict means, and any two verdicts that meet it mean the same.
pub record OfSingles : Type 3 where
  pub read_single : Promises ReadSingle.ended (λ M 𝓤 𝓛. ReadSingle.spec 𝓛) ReadSingleCode.code ReadSingleCode.name (λ _ a r e. Judged a.0.now r (single a.0.now))
  pub single_once : (s : List ℕ) (v w : Result Plan PlanError) → Judged s v (single s) → Judged s w (single s) → verdict_single s v ≡ verdict_single s w
  pub read_setvar : Promises ReadSetvar.ended (λ M 𝓤 𝓛. ReadSetvar.spec 𝓛) ReadSetvarCode.code ReadSetvarCode.name (λ _ a r e. Planned a.0.now r (setvar_action set_var_code (setvar a.0.now)))
  pub setvar_once : (s : List ℕ) (p q : Plan) → Planned s p (setvar_action set_var_code (setvar s)) → Planned s q (setvar_action set_var_code (setvar s)) → plan_action s p ≡ plan_action s q
  pub put_name : Keeps PutName.ended (λ M 𝓤 𝓛. PutName.spec 𝓛) PutNameCode.code PutNameCode.name (ℕ × List ℕ) (List ℕ × ℕ)
      (λ i o. (o.0 ≡ stored i.1 0 (row_at i.0).name) × (o.1 ≡ length (row_at i.0).name))
      (λ _ a. (a.0, a.1.0.now)) (λ _ r e. (e.1.0.now, r))

pub record OfParsers : Type 3 where
  pub parse_actions : Keeps ParseActions.ended (λ M 𝓤 𝓛. ParseActions.spec 𝓛) ParseActionsCode.code ParseActionsCode.name (Lent × List ℕ) (Left (Result ActionsRead ActionsError) × List ℕ) parse_actions_promise
      (λ _ a. (lent a.0.now a.1.0.now a.1.1.1.0.now, a.1.1.0.now))
      (λ _ r e. (left r e.1.0.now e.1.1.1.0.now, e.1.1.0.now))
  pub normalise : Keeps Normalise.ended (λ M 𝓤 𝓛. Normalise.spec 𝓛) NormaliseCode.code NormaliseCode.name (List ℕ × List ℕ) (Wrote (Option ℕ)) normalise_promise (λ _ a. (a.0.now, a.1.0.now)) (λ _ r e. wrote r e.1.0.now)
  pub read_actions : Keeps ReadActions.ended (λ M 𝓤 𝓛. ReadActions.spec 𝓛) ReadActionsCode.code ReadActionsCode.name (Lent × (ℕ × ℕ)) (Left (Result ActionsReached PieceError)) read_actions_promise
      (λ _ a. (lent a.0.now a.1.0.now a.1.1.1.0.now, (a.1.1.0, a.1.1.1.1.0)))
      (λ _ r e. left r e.1.0.now e.1.1.1.0.now)
  pub parse_setvar : Keeps ParseSetvar.ended (λ M 𝓤 𝓛. ParseSetvar.spec 𝓛) ParseSetvarCode.code ParseSetvarCode.name Lent (Left (Result ActionsRead ActionsError)) parse_setvar_promise
      (λ _ a. lent a.0.now a.1.0.now a.1.1.0.now) (λ _ r e. left r e.1.0.now e.1.1.0.now)
  pub parse_variables : Keeps ParseVariables.ended (λ M 𝓤 𝓛. ParseVariables.spec 𝓛) ParseVariablesCode.code ParseVariablesCode.name Lent (Left (Result VariablesRead VariablesError)) parse_variables_promise
      (λ _ a. lent a.0.now a.1.0.now a.1.1.0.now) (λ _ r e. left r e.1.0.now e.1.1.0.now)
  pub parse_update_targets : Keeps ParseUpdateTargets.ended (λ M 𝓤 𝓛. ParseUpdateTargets.spec 𝓛) ParseUpdateTargetsCode.code ParseUpdateTargetsCode.name Lent (Left (Result VariablesRead VariablesError)) parse_update_targets_promise
      (λ _ a. lent a.0.now a.1.0.now a.1.1.0.now) (λ _ r e. left r e.1.0.now e.1.1.0.now)
  pub read_targets : Keeps ReadTargets.ended (λ M 𝓤 𝓛. ReadTargets.spec 𝓛) ReadTargetsCode.code ReadTargetsCode.name From (Left (Result VariablesReached TargetsError)) read_targets_promise
      (λ _ a.
      record {
        lent = lent a.0.now a.1.1.0.now a.1.1.1.1.0.now;
        exclusions = a.1.0;
        offset = a.1.1.1.0;
        place = a.1.1.1.1.1.0;
      })
      (λ _ r e. left r e.1.1.0.now e.1.1.1.1.0.now)
  pub operator_in : Keeps OperatorIn.ended (λ M 𝓤 𝓛. OperatorIn.spec 𝓛) OperatorInCode.code OperatorInCode.name (List ℕ) (Result Operator UnknownOperator) operator_in_promise (λ _ a. a.0.now) (λ _ r e. r)
  pub parse_operator : Keeps ParseOperator.ended (λ M 𝓤 𝓛. ParseOperator.spec 𝓛) ParseOperatorCode.code ParseOperatorCode.name (List ℕ) (Result Operator OperatorError) parse_operator_promise (λ _ a. a.0.now) (λ _ r e. r)
  pub operator_argument : Keeps OperatorArgument.ended (λ M 𝓤 𝓛. OperatorArgument.spec 𝓛) OperatorArgumentCode.code OperatorArgumentCode.name Standing Standing operator_argument_promise (λ _ a. standing a.0) (λ _ r e. standing r)

-- Whole directives.
pub record OfDirectives : Type 3 where
  pub directives : Keeps DirectivesOf.ended (λ M 𝓤 𝓛. DirectivesOf.spec 𝓛) DirectivesOfCode.code DirectivesOfCode.name Package ((Result DirectivesRead DirectivesError) × Whole.Lent) directives_promise
      (λ _ a. package_of a.0.now a.1.0 (Whole.lent_of a.1.1.0.now a.1.1.1.0.now a.1.1.1.1.0.now a.1.1.1.1.1.0.now a.1.1.1.1.1.1.0.now))
      (λ _ r e. (r, Whole.lent_of e.1.1.0.now e.1.1.1.0.now e.1.1.1.1.0.now e.1.1.1.1.1.0.now e.1.1.1.1.1.1.0.now))

-- The index of ids.
pub record OfIndex : Type 3 where
  pub add : Keeps Add.ended (λ M 𝓤 𝓛. Add.spec 𝓛) AddCode.code AddCode.name Adding (Wrote (Result Added AddError)) add_promise
      (λ _ a. record { index = a.0.now; actions = a.1.0.now; line = a.1.1.0 }) (λ _ r e. wrote r e.0.now)
  pub remove : Keeps Remove.ended (λ M 𝓤 𝓛. Remove.spec 𝓛) RemoveCode.code RemoveCode.name Removing (Wrote (Result Removed Broken)) remove_promise
      (λ _ a. record { index = a.0.now; selector = a.1.0 }) (λ _ r e. wrote r e.0.now)

pub record OfListing : Type 3 where
  pub write_listing : Keeps WriteListing.ended (λ M 𝓤 𝓛. WriteListing.spec 𝓛) WriteListingCode.code WriteListingCode.name Records (Wrote (Result ℕ ListingError)) write_listing_promise
      (λ _ a. record { words = a.0.now; texts = a.1.0.now; stop = a.1.1.0; buffer = a.1.1.1.0.now }) (λ _ r e. wrote r e.1.1.1.0.now)
  pub write_refusal : Keeps WriteRefusal.ended (λ M 𝓤 𝓛. WriteRefusal.spec 𝓛) WriteRefusalCode.code WriteRefusalCode.name Refusal (Wrote (Result ℕ ListingError)) write_refusal_promise
      (λ _ a. record { number = a.0; place = a.1.0; buffer = a.1.1.0.now }) (λ _ r e. wrote r e.1.1.0.now)
  pub write_refusal_line : Keeps WriteRefusalLine.ended (λ M 𝓤 𝓛. WriteRefusalLine.spec 𝓛) WriteRefusalLineCode.code WriteRefusalLineCode.name Refusal (Wrote (Result ℕ ListingError)) write_refusal_line_promise
      (λ _ a. record { number = a.0; place = a.1.0; buffer = a.1.1.0.now }) (λ _ r e. wrote r e.1.1.0.now)
  pub list_text_lem : Keeps ListText.ended (λ M 𝓤 𝓛. ListText.spec 𝓛) ListTextCode.code ListTextCode.name (Lent × List ℕ) (Left (Result ℕ ListingError) × List ℕ) list_text_promise
      (λ _ a. (lent a.0.now a.1.0.now a.1.1.0.now, a.1.1.1.0.now))
      (λ _ r e. (left r e.1.0.now e.1.1.0.now, e.1.1.1.0.now))
  pub finish : Keeps FinishListing.ended (λ M 𝓤 𝓛. FinishListing.spec 𝓛) FinishListingCode.code FinishListingCode.name (List ℕ × ℕ) (Wrote (Result ℕ ListingError)) finish_listing_promise
      (λ _ a. (a.0.now, a.1.0)) (λ _ r e. wrote r e.0.now)

-- action records, and the rules of their table
pub record OfRecords : Type 3 where
  pub is_known : Answers IsKnown.ended (λ M 𝓤 𝓛. IsKnown.spec 𝓛) IsKnownCode.code IsKnownCode.name (λ _ a. known_by (shape_of a.0) a.1.0)
  pub numbered_rule : Answers NumberedRule.ended (λ M 𝓤 𝓛. NumberedRule.spec 𝓛) NumberedRuleCode.code NumberedRuleCode.name (λ _ a. rule_of a.0)
  pub is_quotation : Answers IsQuotation.ended (λ M 𝓤 𝓛. IsQuotation.spec 𝓛) IsQuotationCode.code IsQuotationCode.name (λ _ a. quotation a.0)
  pub has_macro_lem : Answers HasMacro.ended (λ M 𝓤 𝓛. HasMacro.spec 𝓛) HasMacroCode.code HasMacroCode.name (λ _ a. has_macro a.0.now)

-- Action lists written back.
pub record OfSpelled : Type 3 where
  pub write_actions : Keeps WriteActions.ended (λ M 𝓤 𝓛. WriteActions.spec 𝓛) WriteActionsCode.code WriteActionsCode.name ActionRecords (Wrote (Result ℕ ListingError)) write_actions_promise
      (λ _ a. action_records a.0.now a.1.0.now a.1.1.0.now) (λ _ r e. wrote r e.1.1.0.now)
  -- the digits of a number, which the listing writes too
  pub digits_into : Keeps DigitsInto.ended (λ M 𝓤 𝓛. DigitsInto.spec 𝓛) DigitsIntoCode.code DigitsIntoCode.name (ℕ × List ℕ) (Wrote ℕ) digits_into_promise
      (λ _ a. (a.0, a.1.0.now)) (λ _ r e. wrote r e.1.0.now)

-- ---- the table

-- Each reader that fills two buffers comes to a row of document 01's table, whatever is lent; that of whole directives to one of document 02's.
pub record ByTable : Type 0 where
  pub tokens : (i : Lent) (o : Left (Result TokensRead TokensError)) → tokens_promise i o
      → Row token_words (Lexer.answer_given o.answer) i.text o.text i.records o.records
  pub parse_actions : (i : Lent × List ℕ) (o : Left (Result ActionsRead ActionsError) × List ℕ) → parse_actions_promise i o
      → Row action_words (Actions.answer_given o.0.answer) i.0.text o.0.text i.0.records o.0.records
  pub parse_setvar : (i : Lent) (o : Left (Result ActionsRead ActionsError)) → parse_setvar_promise i o
      → Row action_words (Actions.answer_given o.answer) i.text o.text i.records o.records
  pub parse_variables : (i : Lent) (o : Left (Result VariablesRead VariablesError)) → parse_variables_promise i o
      → Row variable_words (Variables.answer_given o.answer) i.text o.text i.records o.records
  pub parse_update_targets : (i : Lent) (o : Left (Result VariablesRead VariablesError)) → parse_update_targets_promise i o
      → Row variable_words (Variables.answer_given o.answer) i.text o.text i.records o.records
  pub directives : (i : Package) (o : (Result DirectivesRead DirectivesError) × Whole.Lent) → directives_promise i o
      → Directive.Row (Whole.answer_given o.0) i.lent o.1

pub record Demand1 : Type 3 where
  pub of_bytes : OfBytes
  pub of_texts : OfTexts
  pub of_numbers : OfNumbers
  pub of_lent : OfLent
  pub of_names : OfNames
  pub of_spans : OfSpans
  pub of_lexer : OfLexer
  pub of_places : OfPlaces
  pub of_singles : OfSingles
  pub of_parsers : OfParsers
  pub of_directives : OfDirectives
  pub of_index : OfIndex
  pub of_listing : OfListing
  pub of_records : OfRecords
  pub of_spelled : OfSpelled
  pub of_conversions : OfConversions
  pub of_library : OfLibrary
  pub by_table : ByTable
