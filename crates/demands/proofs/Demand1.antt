-- Demand 1. Every public call takes any input and any lent buffers, ends, and relies on nothing that the caller must take care of.
-- It refuses by the numbers in document 01 and leaves the buffers as that table states.
-- The idea: a contract is its clauses, so that it is tied to what the demand says of it by computing alone; that the code meets it is the prover's theorem.
use mathlib.Core.Path.{refl}
use Rattle.lexer.specs.Cursors.{fresh}
use Rattle.single_action.proofs.SaidLaws.{verdict_said, plan_said}
use Rattle.ascii.proofs.ends_operator_name as EndsOperatorName
use Rattle.ascii.proofs.is_digit as IsDigit
use Rattle.ascii.proofs.is_white as IsWhite
use Rattle.ascii.proofs.is_same as IsSame
use Rattle.ascii.proofs.same_lowered as SameLowered
use Rattle.ascii.proofs.to_lower as ToLower
use Rattle.ascii.proofs.to_upper as ToUpper
use Rattle.ascii.proofs.digits as Digits
use Rattle.ascii.proofs.signed as Signed
use Rattle.ascii.proofs.unsigned as Unsigned
use Rattle.ascii.proofs.first_of as FirstOf
use Rattle.ascii.proofs.leading as Leading
use Rattle.ascii.proofs.kept_len as KeptLen
use Rattle.ascii.proofs.leading_white as LeadingWhite
use Rattle.ascii.proofs.trim as Trim
use Rattle.ascii.proofs.trim_end as TrimEnd
use Rattle.ascii.proofs.trim_start as TrimStart
use Rattle.ascii.proofs.trimmed as Trimmed
use Rattle.ascii.proofs.trimmed_len as TrimmedLen
use Rattle.lent.proofs.finish as Finish
use Rattle.lent.proofs.refuse_piece as RefusePiece
use Rattle.lent.proofs.starts as Starts
use Rattle.lent.proofs.store as Store
use Rattle.lent.proofs.admit as Admit
use Rattle.lent.proofs.first_high as FirstHigh
use Rattle.lent.proofs.room as Room
use Rattle.lent.proofs.span as Span
use Rattle.lent.proofs.span_length as SpanLength
use Rattle.lent.proofs.span_offset as SpanOffset
use Rattle.lent.proofs.refusing.U64FromFlaw.from as FlawNumber
use Rattle.names.proofs.operator_code as OperatorCode
use Rattle.names.proofs.requires_argument as RequiresArgument
use Rattle.names.proofs.severity_code as SeverityCode
use Rattle.names.proofs.is_collection as IsCollection
use Rattle.names.proofs.is_implemented as IsImplemented
use Rattle.names.proofs.variable_code as VariableCode
use Rattle.lexer.proofs.next_token as NextToken
use Rattle.lexer.proofs.step_in as StepIn
use Rattle.lexer.proofs.start as Start
use Rattle.lexer.proofs.tokens as TokensOf
use Rattle.lexer.proofs.is_directive as IsDirective
use Rattle.lexer.proofs.put_token as PutToken
use Rattle.lexer.proofs.end_reading as EndReading
use Rattle.plain.proofs.plain_tokens as PlainTokens
use Rattle.places.proofs.site as SiteAt
use Rattle.places.proofs.site_word as SiteWordAt
use Rattle.places.proofs.resite as ResiteAll
use Rattle.reader.proofs.reader_of as ReaderOf
use Rattle.reader.proofs.reader_at as ReaderAt
use Rattle.reader.proofs.next_of as NextOf
use Rattle.reader.proofs.token_at as TokenAt
use Rattle.reader.proofs.first_token as FirstToken
use Rattle.records.proofs.is_known as IsKnown
use Rattle.records.proofs.is_text as IsText
use Rattle.single_action.proofs.read_single as ReadSingle
use Rattle.single_action.proofs.read_setvar as ReadSetvar
use Rattle.single_action.proofs.numbered_rule as NumberedRule
use Rattle.single_action.proofs.is_quotation as IsQuotation
use Rattle.single_action.proofs.has_macro as HasMacro
use Rattle.single_action.proofs.put_name as PutName
use Rattle.actions.proofs.normalise as Normalise
use Rattle.actions.proofs.parse_actions as ParseActions
use Rattle.actions.proofs.parse_setvar as ParseSetvar
use Rattle.actions.proofs.read_actions as ReadActions
use Rattle.variables.proofs.parse_update_targets as ParseUpdateTargets
use Rattle.variables.proofs.parse_variables as ParseVariables
use Rattle.variables.proofs.read_targets as ReadTargets
use Rattle.xml.proofs.xml_target as XmlTarget
use Rattle.operators.proofs.operator_argument as OperatorArgument
use Rattle.operators.proofs.operator_in as OperatorIn
use Rattle.operators.proofs.parse_operator as ParseOperator
use Rattle.directives.proofs.directives as DirectivesOf
use Rattle.rules.proofs.first_number as FirstNumber
use Rattle.rules.proofs.grade as Grade
use Rattle.rules.proofs.phase as Phase
use Rattle.rules.proofs.selecting.RuleIdSelector.matches as Matches
use Rattle.spans.proofs.span_from_old as SpanFromOld
use Rattle.spans.proofs.span_to_old as SpanToOld
use Rattle.index.proofs.add as Add
use Rattle.index.proofs.remove as Remove
use Rattle.listing.proofs.digits_into as DigitsInto
use Rattle.listing.proofs.finish as FinishListing
use Rattle.listing.proofs.list_text as ListText
use Rattle.listing.proofs.write_listing as WriteListing
use Rattle.listing.proofs.write_refusal as WriteRefusal
use Rattle.listing.proofs.write_refusal_line as WriteRefusalLine
use Rattle.spelled.proofs.write_actions as WriteActions
use Rattle.demands.specs.Demand1.{OfBytes, OfTexts, OfNumbers, OfLent, OfNames, OfSpans, OfLexer, OfPlaces, OfSingles, OfParsers, OfDirectives, OfIndex, OfListing, OfRecords, OfSpelled, Demand1}
use Rattle.demands.proofs.Conversions.{of_conversions}
use Rattle.demands.proofs.FixedLaws.{gives, both_given, finish_fixed, site_word_fixed, resite_fixed, end_reading_fixed, reader_fixed}
use Rattle.demands.proofs.TokenCalls.{step_in_fixed, next_token_fixed, tokens_fixed, tokens_row}
use Rattle.demands.proofs.ActionCalls.{parse_actions_fixed, normalise_fixed, read_actions_fixed, parse_setvar_fixed, parse_actions_row, parse_setvar_row}
use Rattle.demands.proofs.VariableCalls.{read_targets_fixed, parse_variables_fixed, parse_update_targets_fixed, parse_variables_row, parse_update_targets_row}
use Rattle.demands.proofs.OperatorCalls.{operator_in_fixed, parse_operator_fixed, operator_argument_fixed}
use Rattle.demands.proofs.DirectiveCalls.{directives_fixed, directives_row}
use Rattle.demands.proofs.IndexCalls.{add_fixed, remove_fixed}
use Rattle.demands.proofs.Library.{of_library}
use Rattle.demands.proofs.ListingCalls.{write_listing_fixed, write_refusal_fixed, write_refusal_line_fixed, list_text_fixed, finish_listing_fixed, digits_into_fixed, write_actions_fixed}

of_bytes : OfBytes
of_bytes = record {
  is_white = record { promises = record { tied = λ M 𝓤 𝓛 mem run. refl; met = λ M 𝓤. IsWhite.Met.met 𝓤 }; fixed = λ κs. gives _ };
  ends_operator_name = record { promises = record { tied = λ M 𝓤 𝓛 mem run. refl; met = λ M 𝓤. EndsOperatorName.Met.met 𝓤 }; fixed = λ κs. gives _ };
  is_digit = record { promises = record { tied = λ M 𝓤 𝓛 mem run. refl; met = λ M 𝓤. IsDigit.Met.met 𝓤 }; fixed = λ κs. gives _ };
  to_lower = record { promises = record { tied = λ M 𝓤 𝓛 mem run. refl; met = λ M 𝓤. ToLower.Met.met 𝓤 }; fixed = λ κs. gives _ };
  to_upper = record { promises = record { tied = λ M 𝓤 𝓛 mem run. refl; met = λ M 𝓤. ToUpper.Met.met 𝓤 }; fixed = λ κs. gives _ };
}

of_texts : OfTexts
of_texts = record {
  is_same = record { promises = record { tied = λ M 𝓤 𝓛 mem run. refl; met = λ M 𝓤. IsSame.Met.met 𝓤 }; fixed = λ κs. gives _ };
  same_lowered_lem = record { promises = record { tied = λ M 𝓤 𝓛 mem run. refl; met = λ M 𝓤. SameLowered.Met.met 𝓤 }; fixed = λ κs. gives _ };
  leading = record { tied = λ T G d M 𝓤 𝓛 mem run. refl; met = λ M. Leading.Met.met; fixed = λ test. gives _ };
  kept_len = record { tied = λ T G d M 𝓤 𝓛 mem run. refl; met = λ M. KeptLen.Met.met; fixed = λ test. gives _ };
  leading_white_lem = record { promises = record { tied = λ M 𝓤 𝓛 mem run. refl; met = λ M 𝓤. LeadingWhite.Met.met 𝓤 }; fixed = λ κs. gives _ };
  trimmed_len = record { promises = record { tied = λ M 𝓤 𝓛 mem run. refl; met = λ M 𝓤. TrimmedLen.Met.met 𝓤 }; fixed = λ κs. gives _ };
  trim_start = record { promises = record { tied = λ M 𝓤 𝓛 mem run. refl; met = λ M 𝓤. TrimStart.Met.met 𝓤 }; fixed = gives _ };
  trim_end = record { promises = record { tied = λ M 𝓤 𝓛 mem run. refl; met = λ M 𝓤. TrimEnd.Met.met 𝓤 }; fixed = gives _ };
  trim = record { promises = record { tied = λ M 𝓤 𝓛 mem run. refl; met = λ M 𝓤. Trim.Met.met 𝓤 }; fixed = gives _ };
  trimmed = record { promises = record { tied = λ M 𝓤 𝓛 mem run. refl; met = λ M 𝓤. Trimmed.Met.met 𝓤 }; fixed = λ κs. gives _ };
  first_of_lem = record { promises = record { tied = λ M 𝓤 𝓛 mem run. refl; met = λ M 𝓤. FirstOf.Met.met 𝓤 }; fixed = λ κs. gives _ };
}

of_numbers : OfNumbers
of_numbers = record {
  digits = record { promises = record { tied = λ M 𝓤 𝓛 mem run. refl; met = λ M 𝓤. Digits.Met.met 𝓤 }; fixed = λ κs. gives _ };
  unsigned = record { promises = record { tied = λ M 𝓤 𝓛 mem run. refl; met = λ M 𝓤. Unsigned.Met.met 𝓤 }; fixed = λ κs. gives _ };
  signed = record { promises = record { tied = λ M 𝓤 𝓛 mem run. refl; met = λ M 𝓤. Signed.Met.met 𝓤 }; fixed = λ κs. gives _ };
}

of_lent : OfLent
of_lent = record {
  admit = record { promises = record { tied = λ M 𝓤 𝓛 mem run. refl; met = λ M 𝓤. Admit.Met.met 𝓤 }; fixed = λ κs. gives _ };
  first_high_lem = record { promises = record { tied = λ M 𝓤 𝓛 mem run. refl; met = λ M 𝓤. FirstHigh.Met.met 𝓤 }; fixed = λ κs. gives _ };
  span = record { promises = record { tied = λ M 𝓤 𝓛 mem run. refl; met = λ M 𝓤. Span.Met.met 𝓤 }; fixed = λ κs. gives _ };
  span_offset_lem = record { promises = record { tied = λ M 𝓤 𝓛 mem run. refl; met = λ M 𝓤. SpanOffset.Met.met 𝓤 }; fixed = λ κs. gives _ };
  span_length_lem = record { promises = record { tied = λ M 𝓤 𝓛 mem run. refl; met = λ M 𝓤. SpanLength.Met.met 𝓤 }; fixed = λ κs. gives _ };
  room = record { promises = record { tied = λ M 𝓤 𝓛 mem run. refl; met = λ M 𝓤. Room.Met.met 𝓤 }; fixed = λ κs. gives _ };
  store = record { tied = λ T G d M 𝓤 𝓛 mem run. refl; met = λ M. Store.Met.met; fixed = λ A. gives _ };
  starts = record { promises = record { tied = λ M 𝓤 𝓛 mem run. refl; met = λ M 𝓤. Starts.Met.met 𝓤 }; fixed = λ κs. gives _ };
  finish = record { promises = record { tied = λ M 𝓤 𝓛 mem run. refl; met = λ M 𝓤. Finish.Met.met 𝓤 }; fixed = finish_fixed };
  refuse_piece = record { promises = record { tied = λ M 𝓤 𝓛 mem run. refl; met = λ M 𝓤. RefusePiece.Met.met 𝓤 }; fixed = both_given _ _ };
  flaw_number_lem = record { promises = record { tied = λ M 𝓤 𝓛 mem run. refl; met = λ M 𝓤. FlawNumber.Met.met 𝓤 }; fixed = λ κs. gives _ };
}

of_names : OfNames
of_names = record {
  variable_code_lem = record { promises = record { tied = λ M 𝓤 𝓛 mem run. refl; met = λ M 𝓤. VariableCode.Met.met 𝓤 }; fixed = λ κs. gives _ };
  operator_code_lem = record { promises = record { tied = λ M 𝓤 𝓛 mem run. refl; met = λ M 𝓤. OperatorCode.Met.met 𝓤 }; fixed = λ κs. gives _ };
  severity_code_lem = record { promises = record { tied = λ M 𝓤 𝓛 mem run. refl; met = λ M 𝓤. SeverityCode.Met.met 𝓤 }; fixed = λ κs. gives _ };
  is_collection_lem = record { promises = record { tied = λ M 𝓤 𝓛 mem run. refl; met = λ M 𝓤. IsCollection.Met.met 𝓤 }; fixed = λ κs. gives _ };
  is_implemented_lem = record { promises = record { tied = λ M 𝓤 𝓛 mem run. refl; met = λ M 𝓤. IsImplemented.Met.met 𝓤 }; fixed = λ κs. gives _ };
  requires_argument_lem = record { promises = record { tied = λ M 𝓤 𝓛 mem run. refl; met = λ M 𝓤. RequiresArgument.Met.met 𝓤 }; fixed = λ κs. gives _ };
  xml_target_lem = record { promises = record { tied = λ M 𝓤 𝓛 mem run. refl; met = λ M 𝓤. XmlTarget.Met.met 𝓤 }; fixed = λ κs. gives _ };
  matches = record { promises = record { tied = λ M 𝓤 𝓛 mem run. refl; met = λ M 𝓤. Matches.Met.met 𝓤 }; fixed = λ κs. gives _ };
  first_number = record { promises = record { tied = λ M 𝓤 𝓛 mem run. refl; met = λ M 𝓤. FirstNumber.Met.met 𝓤 }; fixed = λ κs. gives _ };
  phase = record { promises = record { tied = λ M 𝓤 𝓛 mem run. refl; met = λ M 𝓤. Phase.Met.met 𝓤 }; fixed = λ κs. gives _ };
  grade = record { promises = record { tied = λ M 𝓤 𝓛 mem run. refl; met = λ M 𝓤. Grade.Met.met 𝓤 }; fixed = λ κs. gives _ };
  is_text = record { promises = record { tied = λ M 𝓤 𝓛 mem run. refl; met = λ M 𝓤. IsText.Met.met 𝓤 }; fixed = λ κs. gives _ };
}

of_spans : OfSpans
of_spans = record {
  span_from_old = record { promises = record { tied = λ M 𝓤 𝓛 mem run. refl; met = λ M 𝓤. SpanFromOld.Met.met 𝓤 }; fixed = λ κs. gives _ };
  span_to_old = record { promises = record { tied = λ M 𝓤 𝓛 mem run. refl; met = λ M 𝓤. SpanToOld.Met.met 𝓤 }; fixed = λ κs. gives _ };
}

of_lexer : OfLexer
of_lexer = record {
  start = record { promises = record { tied = λ M 𝓤 𝓛 mem run. refl; met = λ M 𝓤. Start.Met.met 𝓤 }; fixed = λ κs. gives _ };
  step_in = record { promises = record { tied = λ M 𝓤 𝓛 mem run. refl; met = λ M 𝓤. StepIn.Met.met 𝓤 }; fixed = step_in_fixed };
  next_token = record { promises = record { tied = λ M 𝓤 𝓛 mem run. refl; met = λ M 𝓤. NextToken.Met.met 𝓤 }; fixed = next_token_fixed };
  tokens = record { promises = record { tied = λ M 𝓤 𝓛 mem run. refl; met = λ M 𝓤. TokensOf.Met.met 𝓤 }; fixed = tokens_fixed };
  plain_tokens = record { promises = record { tied = λ M 𝓤 𝓛 mem run. refl; met = λ M 𝓤. PlainTokens.Met.met 𝓤 }; fixed = tokens_fixed };
  is_directive = record { promises = record { tied = λ M 𝓤 𝓛 mem run. refl; met = λ M 𝓤. IsDirective.Met.met 𝓤 }; fixed = λ κs. gives _ };
  put_token = record { promises = record { tied = λ M 𝓤 𝓛 mem run. refl; met = λ M 𝓤. PutToken.Met.met 𝓤 }; fixed = gives _ };
  end_reading = record { promises = record { tied = λ M 𝓤 𝓛 mem run. refl; met = λ M 𝓤. EndReading.Met.met 𝓤 }; fixed = end_reading_fixed };
  reader_of = record { promises = record { tied = λ M 𝓤 𝓛 mem run. refl; met = λ M 𝓤. ReaderOf.Met.met 𝓤 }; fixed = λ κs. reader_fixed (λ a. a.0) (λ a. fresh) };
  reader_at = record { promises = record { tied = λ M 𝓤 𝓛 mem run. refl; met = λ M 𝓤. ReaderAt.Met.met 𝓤 }; fixed = λ κs. reader_fixed (λ a. a.0.text) (λ a. a.1.0) };
  next_of = record { promises = record { tied = λ M 𝓤 𝓛 mem run. refl; met = λ M 𝓤. NextOf.Met.met 𝓤 }; fixed = next_token_fixed };
  token_at_lem = record { promises = record { tied = λ M 𝓤 𝓛 mem run. refl; met = λ M 𝓤. TokenAt.Met.met 𝓤 }; fixed = next_token_fixed };
  first_token = record { promises = record { tied = λ M 𝓤 𝓛 mem run. refl; met = λ M 𝓤. FirstToken.Met.met 𝓤 }; fixed = next_token_fixed };
}

of_places : OfPlaces
of_places = record {
  site = record { promises = record { tied = λ M 𝓤 𝓛 mem run. refl; met = λ M 𝓤. SiteAt.Met.met 𝓤 }; fixed = λ κs. gives _ };
  site_word_lem = record { promises = record { tied = λ M 𝓤 𝓛 mem run. refl; met = λ M 𝓤. SiteWordAt.Met.met 𝓤 }; fixed = site_word_fixed };
  resite = record { promises = record { tied = λ M 𝓤 𝓛 mem run. refl; met = λ M 𝓤. ResiteAll.Met.met 𝓤 }; fixed = resite_fixed };
}

of_singles : OfSingles
of_singles = record {
  read_single = record { tied = λ M 𝓤 𝓛 mem run. refl; met = λ M 𝓤. ReadSingle.Met.met 𝓤 };
  single_once = λ s v w. verdict_said;
  read_setvar = record { tied = λ M 𝓤 𝓛 mem run. refl; met = λ M 𝓤. ReadSetvar.Met.met 𝓤 };
  setvar_once = λ s p q. plan_said;
  put_name = record { promises = record { tied = λ M 𝓤 𝓛 mem run. refl; met = λ M 𝓤. PutName.Met.met 𝓤 }; fixed = both_given _ _ };
}

of_parsers : OfParsers
of_parsers = record {
  parse_actions = record { promises = record { tied = λ M 𝓤 𝓛 mem run. refl; met = λ M 𝓤. ParseActions.Met.met 𝓤 }; fixed = parse_actions_fixed };
  normalise = record { promises = record { tied = λ M 𝓤 𝓛 mem run. refl; met = λ M 𝓤. Normalise.Met.met 𝓤 }; fixed = normalise_fixed };
  read_actions = record { promises = record { tied = λ M 𝓤 𝓛 mem run. refl; met = λ M 𝓤. ReadActions.Met.met 𝓤 }; fixed = read_actions_fixed };
  parse_setvar = record { promises = record { tied = λ M 𝓤 𝓛 mem run. refl; met = λ M 𝓤. ParseSetvar.Met.met 𝓤 }; fixed = parse_setvar_fixed };
  parse_variables = record { promises = record { tied = λ M 𝓤 𝓛 mem run. refl; met = λ M 𝓤. ParseVariables.Met.met 𝓤 }; fixed = parse_variables_fixed };
  parse_update_targets = record { promises = record { tied = λ M 𝓤 𝓛 mem run. refl; met = λ M 𝓤. ParseUpdateTargets.Met.met 𝓤 }; fixed = parse_update_targets_fixed };
  read_targets = record { promises = record { tied = λ M 𝓤 𝓛 mem run. refl; met = λ M 𝓤. ReadTargets.Met.met 𝓤 }; fixed = read_targets_fixed };
  operator_in = record { promises = record { tied = λ M 𝓤 𝓛 mem run. refl; met = λ M 𝓤. OperatorIn.Met.met 𝓤 }; fixed = operator_in_fixed };
  parse_operator = record { promises = record { tied = λ M 𝓤 𝓛 mem run. refl; met = λ M 𝓤. ParseOperator.Met.met 𝓤 }; fixed = parse_operator_fixed };
  operator_argument = record { promises = record { tied = λ M 𝓤 𝓛 mem run. refl; met = λ M 𝓤. OperatorArgument.Met.met 𝓤 }; fixed = operator_argument_fixed };
}

of_directives : OfDirectives
of_directives = record { directives = record { promises = record { tied = λ M 𝓤 𝓛 mem run. refl; met = λ M 𝓤. DirectivesOf.Met.met 𝓤 }; fixed = directives_fixed } }

of_index : OfIndex
of_index = record {
  add = record { promises = record { tied = λ M 𝓤 𝓛 mem run. refl; met = λ M 𝓤. Add.Met.met 𝓤 }; fixed = add_fixed };
  remove = record { promises = record { tied = λ M 𝓤 𝓛 mem run. refl; met = λ M 𝓤. Remove.Met.met 𝓤 }; fixed = remove_fixed };
}

of_listing : OfListing
of_listing = record {
  write_listing = record { promises = record { tied = λ M 𝓤 𝓛 mem run. refl; met = λ M 𝓤. WriteListing.Met.met 𝓤 }; fixed = write_listing_fixed };
  write_refusal = record { promises = record { tied = λ M 𝓤 𝓛 mem run. refl; met = λ M 𝓤. WriteRefusal.Met.met 𝓤 }; fixed = write_refusal_fixed };
  write_refusal_line = record { promises = record { tied = λ M 𝓤 𝓛 mem run. refl; met = λ M 𝓤. WriteRefusalLine.Met.met 𝓤 }; fixed = write_refusal_line_fixed };
  list_text_lem = record { promises = record { tied = λ M 𝓤 𝓛 mem run. refl; met = λ M 𝓤. ListText.Met.met 𝓤 }; fixed = list_text_fixed };
  finish = record { promises = record { tied = λ M 𝓤 𝓛 mem run. refl; met = λ M 𝓤. FinishListing.Met.met 𝓤 }; fixed = finish_listing_fixed };
}

of_records : OfRecords
of_records = record {
  is_known = record { promises = record { tied = λ M 𝓤 𝓛 mem run. refl; met = λ M 𝓤. IsKnown.Met.met 𝓤 }; fixed = λ κs. gives _ };
  numbered_rule = record { promises = record { tied = λ M 𝓤 𝓛 mem run. refl; met = λ M 𝓤. NumberedRule.Met.met 𝓤 }; fixed = λ κs. gives _ };
  is_quotation = record { promises = record { tied = λ M 𝓤 𝓛 mem run. refl; met = λ M 𝓤. IsQuotation.Met.met 𝓤 }; fixed = λ κs. gives _ };
  has_macro_lem = record { promises = record { tied = λ M 𝓤 𝓛 mem run. refl; met = λ M 𝓤. HasMacro.Met.met 𝓤 }; fixed = λ κs. gives _ };
}

of_spelled : OfSpelled
of_spelled = record {
  write_actions = record { promises = record { tied = λ M 𝓤 𝓛 mem run. refl; met = λ M 𝓤. WriteActions.Met.met 𝓤 }; fixed = write_actions_fixed };
  digits_into = record { promises = record { tied = λ M 𝓤 𝓛 mem run. refl; met = λ M 𝓤. DigitsInto.Met.met 𝓤 }; fixed = digits_into_fixed };
}

pub demand1 : Demand1
demand1 = record {
  of_bytes = of_bytes;
  of_texts = of_texts;
  of_numbers = of_numbers;
  of_lent = of_lent;
  of_names = of_names;
  of_spans = of_spans;
  of_lexer = of_lexer;
  of_places = of_places;
  of_singles = of_singles;
  of_parsers = of_parsers;
  of_directives = of_directives;
  of_index = of_index;
  of_listing = of_listing;
  of_records = of_records;
  of_spelled = of_spelled;
  of_conversions = of_conversions;
  of_library = of_library;
  by_table = record {
    tokens = tokens_row;
    parse_actions = parse_actions_row;
    parse_setvar = parse_setvar_row;
    parse_variables = parse_variables_row;
    parse_update_targets = parse_update_targets_row;
    directives = directives_row;
  };
}
