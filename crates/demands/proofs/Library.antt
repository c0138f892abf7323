-- The C functions' promises are total, and have no second answer: every field of theirs is an equation with a definition.
use Rattle.std.specs.Prelude.{Result}
use mathlib.Core.Path.{◌≡◌, refl, ap₂}
use mathlib.Core.List.{List}
use Prim.Native.Nat.{ℕ}
use lib.ListN.{length}
use Rattle.ascii.proofs.OneAnswer.{one_answer}
use Rattle.lent.specs.Buffers.{stored}
use Rattle.lent.specs.Table.{Given, Outcome, Filled, given_by, text_by, records_by}
use Rattle.lexer.specs.Promises.{next_outcome, next_given_by, next_text_by, tokens_outcome}
use Rattle.actions.specs.Promises.{actions_gate, actions_outcome, scratch_by}
use Rattle.operators.specs.Promises as Operators
use Rattle.spans.specs.Conversion.{from_old, to_old}
use Rattle.spans.specs.Promises as Spans
use Rattle.spans.specs.declared.converting.TooFar.{TooFar}
use Rattle.index.specs.Promises as Indexing
use Rattle.directives.specs.Table as Directing
use Rattle.directives.specs.Promises as Whole
use Rattle.listing.specs.Listings.{line_of}
use Rattle.listing.specs.Promises as Listing
use Rattle.seclang.specs.Readers.{Fills}
use Rattle.seclang.proofs.seclang_grade as SeclangGrade
use Rattle.seclang.proofs.seclang_index_add as SeclangIndexAdd
use Rattle.seclang.proofs.seclang_index_remove as SeclangIndexRemove
use Rattle.seclang.proofs.seclang_lookup as SeclangLookup
use Rattle.seclang.proofs.seclang_matches as SeclangMatches
use Rattle.seclang.proofs.seclang_phase as SeclangPhase
use Rattle.seclang.proofs.seclang_test as SeclangTest
use Rattle.seclang.proofs.seclang_xml_target as SeclangXmlTarget
use Rattle.seclang.proofs.seclang_list_text as SeclangListText
use Rattle.seclang.proofs.seclang_write_actions as SeclangWriteActions
use Rattle.seclang.proofs.seclang_write_listing as SeclangWriteListing
use Rattle.seclang.proofs.seclang_write_refusal as SeclangWriteRefusal
use Rattle.seclang.proofs.seclang_directives as SeclangDirectives
use Rattle.seclang.proofs.seclang_next_token as SeclangNextToken
use Rattle.seclang.proofs.seclang_parse_actions as SeclangParseActions
use Rattle.seclang.proofs.seclang_parse_operator as SeclangParseOperator
use Rattle.seclang.proofs.seclang_parse_setvar as SeclangParseSetvar
use Rattle.seclang.proofs.seclang_parse_update_targets as SeclangParseUpdateTargets
use Rattle.seclang.proofs.seclang_parse_variables as SeclangParseVariables
use Rattle.seclang.proofs.seclang_plain_tokens as SeclangPlainTokens
use Rattle.seclang.proofs.seclang_span_from_old as SeclangSpanFromOld
use Rattle.seclang.proofs.seclang_span_to_old as SeclangSpanToOld
use Rattle.seclang.proofs.seclang_tokens as SeclangTokens
use Rattle.seclang.proofs.seclang_version as SeclangVersion
use Rattle.demands.specs.Fixed.{Fixed}
use Rattle.demands.specs.Calls.{Lent, Left, left, Wrote, wrote, Place, Adding, Removing, Package}
use Rattle.demands.specs.Library.{With, fills_promise, fills_actions_promise, fills_directives_promise, steps_promise, operator_promise, converts_promise, adds_promise, removes_promise, lists_promise, records_outcome, refusal_outcome, actions_written, lists_text_promise, OfLibrary}
use Rattle.demands.proofs.FixedLaws.{gives, left_same, wrote_same}
use Rattle.demands.proofs.DirectiveCalls.{all_left}

-- two pairs with equal parts are equal
pair : {A B : Type 0} {a c : A} {b d : B} → a ≡ c → b ≡ d → ◌≡◌ {A = A × B} (a, b) (c, d)
pair {A} {B} p q = ap₂ (λ (x : A) (y : B). (x, y)) p q

-- what is told of a given number, in words that held `old`
abbrev told : Given → List ℕ → List ℕ
told g old = stored old 0 g.values

-- ---- the readers

abbrev filled : Outcome Filled → Lent → Left ℕ
filled x i = left (given_by x).number (text_by x i.text) (records_by x i.records)

fills_same : {x : Outcome Filled} {text records old : List ℕ} {o p : Left ℕ} {new new' : List ℕ}
    → Fills x text o.text records o.records old new o.answer → Fills x text p.text records p.records old new' p.answer
    → (o ≡ p) × (new ≡ new')
fills_same {o = o} {p} a b = (
  left_same o p (one_answer a.told.number b.told.number, one_answer a.texts b.texts, one_answer a.words b.words),
  one_answer a.told.values b.told.values,
)

fills_fixed : (outcome : Lent → Outcome Filled) → Fixed (With Lent) (With (Left ℕ)) (fills_promise outcome)
fills_fixed outcome = record {
  total = λ i.
      let x = outcome i.0 in
      ((filled x i.0, told (given_by x) i.1), record { told = record { number = refl; values = refl }; texts = refl; words = refl });
  once = λ i o p a b. let e = fills_same a b in pair e.0 e.1;
}

fills_actions_fixed : Fixed (With (Lent × List ℕ)) (With (Left ℕ × List ℕ)) fills_actions_promise
fills_actions_fixed = record {
  total = λ i.
      let s = i.0.0.input in
      let n = length i.0.0.text in
      let k = length i.0.1 in
      let x = actions_outcome s n k (length i.0.0.records) in (
        ((filled x i.0.0, scratch_by (actions_gate s n k) s i.0.1), told (given_by x) i.1),
        record { fills = record { told = record { number = refl; values = refl }; texts = refl; words = refl }; scratch = refl },
      );
  once = λ i o p a b. let e = fills_same a.fills b.fills in pair (pair e.0 (one_answer a.scratch b.scratch)) e.1;
}

pub fills_directives_left : (i : With Package) (o : With (ℕ × Whole.Lent)) → fills_directives_promise i o
    → o.0.1 ≡ Whole.left_by (Whole.outcome_on i.0.version i.0.input i.0.lent) i.0.lent
fills_directives_left i o x = all_left (Whole.outcome_on i.0.version i.0.input i.0.lent) i.0.lent o.0.1 x.text x.scratch x.directives x.variables x.actions

pub fills_directives_fixed : Fixed (With Package) (With (ℕ × Whole.Lent)) fills_directives_promise
fills_directives_fixed = record {
  total = λ i.
      let x = Whole.outcome_on i.0.version i.0.input i.0.lent in
      let g = Directing.given_by x in (
        ((g.number, Whole.left_by x i.0.lent), told g i.1),
        record { told = record { number = refl; values = refl }; text = refl; scratch = refl; directives = refl; variables = refl; actions = refl },
      );
  once = λ i o p a b.
      pair (pair (one_answer a.told.number b.told.number) (one_answer (fills_directives_left i o a) (fills_directives_left i p b)))
      (one_answer a.told.values b.told.values);
}

steps_fixed : Fixed (With Place) (With (Wrote ℕ)) steps_promise
steps_fixed = record {
  total = λ i.
      let x = next_outcome i.0.input i.0.from (length i.0.buffer) in (
        (wrote (next_given_by x).number (next_text_by x i.0.buffer), told (next_given_by x) i.1),
        record { told = record { number = refl; values = refl }; texts = refl },
      );
  once = λ i o p a b.
      pair (wrote_same o.0 p.0 (one_answer a.told.number b.told.number, one_answer a.texts b.texts)) (one_answer a.told.values b.told.values);
}

operator_fixed : Fixed (With (List ℕ)) (With ℕ) operator_promise
operator_fixed = record {
  total = λ i. let g = Operators.given_by i.0 (Operators.operator_outcome i.0) in ((g.number, told g i.1), record { number = refl; values = refl });
  once = λ i o p a b. pair (one_answer a.number b.number) (one_answer a.values b.values);
}

converts_fixed : (to : ℕ → Result ℕ TooFar) → Fixed (With ℕ) (With ℕ) (converts_promise to)
converts_fixed to = record {
  total = λ i. let g = Spans.answer_given (to i.0) in ((g.number, told g i.1), record { number = refl; values = refl });
  once = λ i o p a b. pair (one_answer a.number b.number) (one_answer a.values b.values);
}

-- ---- the index

adds_fixed : Fixed (With Adding) (With (Wrote ℕ)) adds_promise
adds_fixed = record {
  total = λ i.
      let g = Indexing.added_given (Indexing.add_answer i.0.index i.0.actions i.0.line) in
      ((wrote g.number _, told g i.1), record { told = record { number = refl; values = refl }; left = refl });
  once = λ i o p a b.
      pair (wrote_same o.0 p.0 (one_answer a.told.number b.told.number, one_answer a.left b.left)) (one_answer a.told.values b.told.values);
}

removes_fixed : Fixed (With Removing) (With (Wrote ℕ)) removes_promise
removes_fixed = record {
  total = λ i.
      let g = Indexing.removed_given (Indexing.remove_answer i.0.index i.0.selector) in
      ((wrote g.number _, told g i.1), record { told = record { number = refl; values = refl }; left = refl });
  once = λ i o p a b.
      pair (wrote_same o.0 p.0 (one_answer a.told.number b.told.number, one_answer a.left b.left)) (one_answer a.told.values b.told.values);
}

-- ---- the listings

lists_fixed : {In : Type 0} (outcome : In → Listing.Outcome) (buffer : In → List ℕ) → Fixed (With In) (With (Wrote ℕ)) (lists_promise outcome buffer)
lists_fixed outcome buffer = record {
  total = λ i.
      let x = outcome i.0 in (
        (wrote (Listing.given_by x).number (Listing.buffer_by x (length (buffer i.0))), told (Listing.given_by x) i.1),
        record { told = record { number = refl; values = refl }; line = refl },
      );
  once = λ i o p a b.
      pair (wrote_same o.0 p.0 (one_answer a.told.number b.told.number, one_answer a.line b.line)) (one_answer a.told.values b.told.values);
}

lists_text_fixed : Fixed (With (Lent × List ℕ)) (With (Left ℕ × List ℕ)) lists_text_promise
lists_text_fixed = record {
  total = λ i.
      let s = i.0.0.input in
      let t = tokens_outcome s (length i.0.0.text) (length i.0.0.records) in
      let x = Listing.fitted (length i.0.1) (line_of s (given_by t)) in (
        ((left (Listing.given_by x).number (text_by t i.0.0.text) (records_by t i.0.0.records), Listing.buffer_by x (length i.0.1)), told (Listing.given_by x) i.1),
        record { texts = refl; words = refl; lists = record { told = record { number = refl; values = refl }; line = refl } },
      );
  once = λ i o p a b.
      let e = left_same o.0.0 p.0.0 (one_answer a.lists.told.number b.lists.told.number, one_answer a.texts b.texts, one_answer a.words b.words) in
      pair (pair e (one_answer a.lists.line b.lists.line)) (one_answer a.lists.told.values b.lists.told.values);
}

pub of_library : OfLibrary
of_library = record {
  next_token = record { promises = record { tied = λ M 𝓤 𝓛 mem run. refl; met = λ M 𝓤. SeclangNextToken.Met.met 𝓤 }; fixed = steps_fixed };
  tokens = record { promises = record { tied = λ M 𝓤 𝓛 mem run. refl; met = λ M 𝓤. SeclangTokens.Met.met 𝓤 }; fixed = fills_fixed _ };
  plain_tokens = record { promises = record { tied = λ M 𝓤 𝓛 mem run. refl; met = λ M 𝓤. SeclangPlainTokens.Met.met 𝓤 }; fixed = fills_fixed _ };
  parse_actions = record { promises = record { tied = λ M 𝓤 𝓛 mem run. refl; met = λ M 𝓤. SeclangParseActions.Met.met 𝓤 }; fixed = fills_actions_fixed };
  parse_setvar = record { promises = record { tied = λ M 𝓤 𝓛 mem run. refl; met = λ M 𝓤. SeclangParseSetvar.Met.met 𝓤 }; fixed = fills_fixed _ };
  parse_variables = record { promises = record { tied = λ M 𝓤 𝓛 mem run. refl; met = λ M 𝓤. SeclangParseVariables.Met.met 𝓤 }; fixed = fills_fixed _ };
  parse_update_targets = record { promises = record { tied = λ M 𝓤 𝓛 mem run. refl; met = λ M 𝓤. SeclangParseUpdateTargets.Met.met 𝓤 }; fixed = fills_fixed _ };
  parse_operator = record { promises = record { tied = λ M 𝓤 𝓛 mem run. refl; met = λ M 𝓤. SeclangParseOperator.Met.met 𝓤 }; fixed = operator_fixed };
  directives = record { promises = record { tied = λ M 𝓤 𝓛 mem run. refl; met = λ M 𝓤. SeclangDirectives.Met.met 𝓤 }; fixed = fills_directives_fixed };
  lookup = record { promises = record { tied = λ M 𝓤 𝓛 mem run. refl; met = λ M 𝓤. SeclangLookup.Met.met 𝓤 }; fixed = λ κs. gives _ };
  test = record { promises = record { tied = λ M 𝓤 𝓛 mem run. refl; met = λ M 𝓤. SeclangTest.Met.met 𝓤 }; fixed = λ κs. gives _ };
  xml_target_lem = record { promises = record { tied = λ M 𝓤 𝓛 mem run. refl; met = λ M 𝓤. SeclangXmlTarget.Met.met 𝓤 }; fixed = λ κs. gives _ };
  phase = record { promises = record { tied = λ M 𝓤 𝓛 mem run. refl; met = λ M 𝓤. SeclangPhase.Met.met 𝓤 }; fixed = λ κs. gives _ };
  grade = record { promises = record { tied = λ M 𝓤 𝓛 mem run. refl; met = λ M 𝓤. SeclangGrade.Met.met 𝓤 }; fixed = λ κs. gives _ };
  version = record { promises = record { tied = λ M 𝓤 𝓛 mem run. refl; met = λ M 𝓤. SeclangVersion.Met.met 𝓤 }; fixed = λ κs. gives _ };
  matches = record { promises = record { tied = λ M 𝓤 𝓛 mem run. refl; met = λ M 𝓤. SeclangMatches.Met.met 𝓤 }; fixed = λ κs. gives _ };
  span_from_old = record { promises = record { tied = λ M 𝓤 𝓛 mem run. refl; met = λ M 𝓤. SeclangSpanFromOld.Met.met 𝓤 }; fixed = converts_fixed from_old };
  span_to_old = record { promises = record { tied = λ M 𝓤 𝓛 mem run. refl; met = λ M 𝓤. SeclangSpanToOld.Met.met 𝓤 }; fixed = converts_fixed to_old };
  index_add = record { promises = record { tied = λ M 𝓤 𝓛 mem run. refl; met = λ M 𝓤. SeclangIndexAdd.Met.met 𝓤 }; fixed = adds_fixed };
  index_remove = record { promises = record { tied = λ M 𝓤 𝓛 mem run. refl; met = λ M 𝓤. SeclangIndexRemove.Met.met 𝓤 }; fixed = removes_fixed };
  write_listing = record { promises = record { tied = λ M 𝓤 𝓛 mem run. refl; met = λ M 𝓤. SeclangWriteListing.Met.met 𝓤 }; fixed = lists_fixed records_outcome (λ i. i.buffer) };
  write_refusal = record { promises = record { tied = λ M 𝓤 𝓛 mem run. refl; met = λ M 𝓤. SeclangWriteRefusal.Met.met 𝓤 }; fixed = lists_fixed refusal_outcome (λ i. i.buffer) };
  list_text_lem = record { promises = record { tied = λ M 𝓤 𝓛 mem run. refl; met = λ M 𝓤. SeclangListText.Met.met 𝓤 }; fixed = lists_text_fixed };
  write_actions = record { promises = record { tied = λ M 𝓤 𝓛 mem run. refl; met = λ M 𝓤. SeclangWriteActions.Met.met 𝓤 }; fixed = lists_fixed actions_written (λ i. i.buffer) };
}
