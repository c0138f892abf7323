-- 6 occurs no more: no row of the table has it, so that no outcome of any reader does.
use Rattle.std.specs.Prelude.{Result, Ok, Err}
use mathlib.Core.Path.{◌≡◌, ◌∙◌, sym, ap}
use mathlib.Core.List.{List, [], ◌∷◌, ◌++◌}
use Prim.Native.Nat.{ℕ}
use native.Mathlib.Omega.{arith}
use lib.ListN.{length}
use Rattle.lent.specs.Table.{Given, flaw_number, Outcome, refuses, reads, Filled, given_by}
use Rattle.lent.specs.declared.refusing.Flaw.{Flaw}
use Rattle.lent.proofs.TableLaws.{not_six}
use Rattle.lexer.specs.Tokens.{Step}
use Rattle.lexer.specs.Promises as Lexer
use Rattle.actions.specs.Promises as Actions
use Rattle.variables.specs.Promises as Variables
use Rattle.operators.specs.Operators.{Spec, operator}
use Rattle.operators.specs.Promises as Operators
use Rattle.directives.specs.Directives.{wrong_count, untaken, stopped, id_missing, within}
use Rattle.directives.specs.Table as Directing
use Rattle.directives.specs.Promises as Whole
use Rattle.listing.specs.Listings.{refusal, line_of}
use Rattle.listing.specs.Promises as Listing
use Rattle.listing.specs.declared.ListingError.{ListingError}
use Rattle.spans.specs.declared.converting.TooFar.{TooFar}
use Rattle.spans.specs.Conversion.{from_old, to_old}
use Rattle.spans.specs.Promises as Spans
use Rattle.index.specs.Promises as Indexing
use Rattle.index.specs.declared.adding.Added.{Added}
use Rattle.index.specs.declared.adding.AddError.{AddError}
use Rattle.index.specs.declared.removing.Removed.{Removed}
use Rattle.index.specs.declared.removing.Broken.{Broken}
use Rattle.demands.specs.Calls.{Lent}
use Rattle.demands.specs.Library.{records_outcome, refusal_outcome, actions_written}
use Rattle.demands.specs.NoSix.{OfReaders, OfLibrary, NoSix}

-- an answer with the number of a row that is not 6
given_not : {g h : Given} → g ≡ h → (h.number ≡ 6 → ⊥) → g.number ≡ 6 → ⊥
given_not e n six = n (sym (ap (λ (x : Given). x.number) e) ∙ six)

filled_not : (o : Outcome Filled) → (given_by o).number ≡ 6 → ⊥
filled_not (refuses f) e = not_six f e
filled_not (reads x) e = omega arith

step_not : (o : Outcome Step) → (Lexer.next_given_by o).number ≡ 6 → ⊥
step_not (refuses f) e = not_six f e
step_not (reads x) e = omega arith

operator_not : (s : List ℕ) (o : Outcome Spec) → (Operators.given_by s o).number ≡ 6 → ⊥
operator_not s (refuses f) e = not_six f e
operator_not s (reads x) e = omega arith

directives_not : (o : Directing.Outcome) → (Directing.given_by o).number ≡ 6 → ⊥
directives_not (Directing.shut f) e = not_six f e
directives_not (Directing.faulty (wrong_count l)) e = omega arith
directives_not (Directing.faulty (untaken l)) e = omega arith
directives_not (Directing.faulty (stopped l)) e = omega arith
directives_not (Directing.faulty (id_missing l)) e = omega arith
directives_not (Directing.faulty (within l f)) e = not_six f e
directives_not (Directing.overfull d v a) e = omega arith
directives_not (Directing.filled x) e = omega arith

listing_not : (o : Listing.Outcome) → (Listing.given_by o).number ≡ 6 → ⊥
listing_not (Listing.writes xs) e = omega arith
listing_not (Listing.no_room needed) e = omega arith
listing_not (Listing.no_token place) e = omega arith

listed_not : (r : Result ℕ ListingError) → (Listing.answer_given r).number ≡ 6 → ⊥
listed_not (Ok n) e = omega arith
listed_not (Err (ListingError.NoRoom needed)) e = omega arith
listed_not (Err (ListingError.NoToken place)) e = omega arith

span_not : (r : Result ℕ TooFar) → (Spans.answer_given r).number ≡ 6 → ⊥
span_not (Ok w) e = omega arith
span_not (Err f) e = omega arith

added_not : (r : Result Added AddError) → (Indexing.added_given r).number ≡ 6 → ⊥
added_not (Ok (Added.Entered count)) e = omega arith
added_not (Ok (Added.Passed count)) e = omega arith
added_not (Err (AddError.Taken line)) e = omega arith
added_not (Err (AddError.Full places)) e = omega arith
added_not (Err AddError.Broken) e = omega arith

removed_not : (r : Result Removed Broken) → (Indexing.removed_given r).number ≡ 6 → ⊥
removed_not (Ok r) e = omega arith
removed_not (Err b) e = omega arith

flaw_not : (flaw : Flaw) → flaw_number flaw ≡ 6 → ⊥
flaw_not Flaw.Absent e = omega arith
flaw_not Flaw.Unreadable e = omega arith
flaw_not Flaw.TooLarge e = omega arith

-- the line of a text, in what is lent for it
abbrev line_outcome : Lent × List ℕ → Listing.Outcome
line_outcome i = Listing.fitted (length i.1) (line_of i.0.input (given_by (Lexer.tokens_outcome i.0.input (length i.0.text) (length i.0.records))))

of_readers : OfReaders
of_readers = record {
  flaw_number_lem = flaw_not;
  step_in = λ i o x. given_not x.answer (step_not (Lexer.step_outcome i.input i.from (length i.buffer)));
  next_token = λ i o x. given_not x.answer (step_not (Lexer.next_outcome i.input i.from (length i.buffer)));
  tokens = λ i o x. given_not x.answer (filled_not (Lexer.tokens_outcome i.input (length i.text) (length i.records)));
  parse_actions = λ i o x. given_not x.answer (filled_not (Actions.actions_outcome i.0.input (length i.0.text) (length i.1) (length i.0.records)));
  parse_setvar = λ i o x. given_not x.answer (filled_not (Actions.setvar_outcome i.input (length i.text) (length i.records)));
  parse_variables = λ i o x. given_not x.answer (filled_not (Variables.variables_outcome i.input (length i.text) (length i.records)));
  parse_update_targets = λ i o x. given_not x.answer (filled_not (Variables.update_outcome i.input (length i.text) (length i.records)));
  operator_in = λ s r x. given_not x.answer (operator_not s (Operators.outcome_of s (operator s)));
  parse_operator = λ s r x. given_not x.answer (operator_not s (Operators.operator_outcome s));
  directives = λ i o x. given_not x.answer (directives_not (Whole.outcome_on i.version i.input i.lent));
  write_listing = λ i o x. given_not x.answer (listing_not (records_outcome i));
  write_refusal = λ i o x. given_not x.answer (listing_not (refusal_outcome i));
  write_refusal_line = λ i o x. given_not x.answer (listing_not (Listing.fitted (length i.buffer) (refusal i.number i.place ++ (10 ∷ []))));
  span_from_old = λ w. span_not (from_old w);
  span_to_old = λ w. span_not (to_old w);
  add = λ i o x. added_not o.answer;
  remove = λ i o x. removed_not o.answer;
  list_text_lem = λ i o x. given_not x.line.answer (listing_not (line_outcome i));
  finish = λ i o x. listed_not o.answer;
  write_actions = λ i o x. given_not x.answer (listing_not (actions_written i));
}

of_library : OfLibrary
of_library = record {
  next_token = λ i o x e. step_not (Lexer.next_outcome i.0.input i.0.from (length i.0.buffer)) (sym x.told.number ∙ e);
  tokens = λ i o x e. filled_not (Lexer.tokens_outcome i.0.input (length i.0.text) (length i.0.records)) (sym x.told.number ∙ e);
  parse_actions = λ i o x e. filled_not (Actions.actions_outcome i.0.0.input (length i.0.0.text) (length i.0.1) (length i.0.0.records)) (sym x.fills.told.number ∙ e);
  parse_setvar = λ i o x e. filled_not (Actions.setvar_outcome i.0.input (length i.0.text) (length i.0.records)) (sym x.told.number ∙ e);
  parse_variables = λ i o x e. filled_not (Variables.variables_outcome i.0.input (length i.0.text) (length i.0.records)) (sym x.told.number ∙ e);
  parse_update_targets = λ i o x e. filled_not (Variables.update_outcome i.0.input (length i.0.text) (length i.0.records)) (sym x.told.number ∙ e);
  parse_operator = λ i o x e. operator_not i.0 (Operators.operator_outcome i.0) (sym x.number ∙ e);
  directives = λ i o x e. directives_not (Whole.outcome_on i.0.version i.0.input i.0.lent) (sym x.told.number ∙ e);
  span_from_old = λ i o x e. span_not (from_old i.0) (sym x.number ∙ e);
  span_to_old = λ i o x e. span_not (to_old i.0) (sym x.number ∙ e);
  index_add = λ i o x e. added_not (Indexing.add_answer i.0.index i.0.actions i.0.line) (sym x.told.number ∙ e);
  index_remove = λ i o x e. removed_not (Indexing.remove_answer i.0.index i.0.selector) (sym x.told.number ∙ e);
  write_listing = λ i o x e. listing_not (records_outcome i.0) (sym x.told.number ∙ e);
  write_refusal = λ i o x e. listing_not (refusal_outcome i.0) (sym x.told.number ∙ e);
  list_text_lem = λ i o x e. listing_not (line_outcome i.0) (sym x.lists.told.number ∙ e);
  write_actions = λ i o x e. listing_not (actions_written i.0) (sym x.told.number ∙ e);
}

pub no_six : NoSix
no_six = record { of_readers = of_readers; of_library = of_library }
