-- The promise of directives is total, has no second answer, and keeps to document 02's table.
-- The idea: the crate's laws have an answer for each outcome, and tell by what a call comes to it; a row says the same in plain words.
use Rattle.std.specs.Prelude.{Result}
use mathlib.Core.Path.{◌≡◌, ◌∙◌, ap₂}
use mathlib.Core.List.{[]}
use lib.ListN.{length}
use Rattle.ascii.proofs.OneAnswer.{one_answer}
use Rattle.lent.specs.Table.{Given, too_long, not_ascii, short_buffer, no_room, named as naming, unknown_operator, bad_cursor}
use Rattle.lent.proofs.BufferLaws.{padded_none}
use Rattle.directives.specs.Directives as Of
use Rattle.directives.specs.Directives.{Fault, within}
use Rattle.directives.specs.Layout.{reached, texts, listed_counts, action_counts, directives_from, variables_from, actions_from}
use Rattle.directives.specs.Table.{Outcome, shut, faulty, overfull, filled, fault_given, text_by, records_by, scratch_by}
use Rattle.directives.specs.Promises.{Lent, outcome_on, left_by, answer_given}
use Rattle.directives.specs.declared.Read.{Read as DirectivesRead}
use Rattle.directives.specs.declared.DirectivesError.{DirectivesError}
use Rattle.directives.proofs.NumberLaws.{KnownFault, known_for}
use Rattle.directives.proofs.LayoutLaws.{directives_long, variables_long, actions_long}
use Rattle.directives.proofs.AskedLaws.{text_faulty}
use Rattle.directives.proofs.FateLaws.{Fate, long, high, short as shortened, fault, crowded, roomy, fate}
use Rattle.directives.proofs.GivenLaws.{directives_once, directives_total}
use Rattle.directives.proofs.PromiseLaws.{told_by}
use Rattle.demands.specs.Fixed.{Fixed}
use Rattle.demands.specs.Calls.{Package, directives_promise}
use Rattle.demands.specs.DirectiveRows.{zero_but, all_zero, Row, read, too_long_row, not_ascii_row, short, no_room_row, named, no_operator, wrong_count_lem, untaken, stopped, id_missing_lem}

-- lent memory, each part of which is as an outcome leaves it
pub all_left : (o : Outcome) (m m' : Lent) → m'.text ≡ text_by o m.text → m'.scratch ≡ scratch_by o m.scratch
    → m'.directives ≡ records_by (λ x. x.directives) o m.directives → m'.variables ≡ records_by (λ x. x.variables) o m.variables
    → m'.actions ≡ records_by (λ x. x.actions) o m.actions → m' ≡ left_by o m
all_left o m m' t k d v a = rw (t, k, d, v, a)

pub directives_left : (i : Package) (o : (Result DirectivesRead DirectivesError) × Lent) → directives_promise i o → o.1 ≡ left_by (outcome_on i.version i.input i.lent) i.lent
directives_left i o x = all_left (outcome_on i.version i.input i.lent) i.lent o.1 x.text x.scratch x.directives x.variables x.actions

pub directives_fixed : Fixed Package ((Result DirectivesRead DirectivesError) × Lent) directives_promise
directives_fixed = record {
  total = λ i. ((_, left_by (outcome_on i.version i.input i.lent) i.lent), directives_total i.version i.input i.lent);
  once = λ i o p x y.
      ap₂ (λ (r : Result DirectivesRead DirectivesError) (m : Lent). (r, m)) (directives_once x y).answer (one_answer (directives_left i o x) (directives_left i p y));
}

-- ---- the table

-- no name leaves no byte
pub none_left : (m : Lent) → zero_but [] m ≡ all_zero m
none_left m = rw (padded_none (length m.text))

module _ (g : Given) (m m' : Lent) where
  fault_row : (f : Fault) → KnownFault f → g ≡ fault_given f → m' ≡ left_by (faulty f) m → Row g m m'
  fault_row (Of.wrong_count l) k e t = wrong_count_lem l e (t ∙ none_left m)
  fault_row (Of.untaken l) k e t = untaken l e (t ∙ none_left m)
  fault_row (Of.stopped l) k e t = stopped l e (t ∙ none_left m)
  fault_row (Of.id_missing l) k e t = id_missing_lem l e (t ∙ none_left m)
  fault_row (within l (naming why p name x)) k e t = named why l p name x e t
  fault_row (within l (unknown_operator p n x)) k e t = no_operator l p n x e (t ∙ none_left m)
  fault_row (within l too_long) k e t = absurd k
  fault_row (within l (not_ascii p)) k e t = absurd k
  fault_row (within l short_buffer) k e t = absurd k
  fault_row (within l (no_room n)) k e t = absurd k
  fault_row (within l bad_cursor) k e t = absurd k

pub directives_row : (i : Package) (o : (Result DirectivesRead DirectivesError) × Lent) → directives_promise i o → Row (answer_given o.0) i.lent o.1
directives_row i o x = go (outcome_on i.version i.input i.lent) (fate i.version i.input i.lent)
  where
    go : (u : Outcome) → Fate i.version i.input i.lent u → Row (answer_given o.0) i.lent o.1
    go (shut _) (long h) = let t = told_by x _ (long h) in too_long_row t.0 t.1
    go (shut _) (high p h k) = let t = told_by x _ (high p h k) in not_ascii_row p t.0 t.1
    go (shut _) (shortened h) = let t = told_by x _ (shortened h) in short t.0 t.1
    go (faulty _) (fault f h k) =
        let t = told_by x _ (fault f h k) in
        fault_row (answer_given o.0) i.lent o.1 f (known_for i.version i.input f ((text_faulty i.input i.version f).1 k)) t.0 t.1
    go (overfull _ _ _) (crowded ds r e) = let t = told_by x _ (crowded ds r e) in no_room_row (length ds) (listed_counts ds) (action_counts ds) t.0 t.1
    go (filled _) (roomy ds r e) =
        let t = told_by x _ (roomy ds r e) in
        read (length ds) (listed_counts ds) (action_counts ds) (texts ds) (directives_from (reached 0 0 0) ds) (variables_from 0 ds) (actions_from 0 ds) t.0
        (directives_long (reached 0 0 0) ds) (variables_long 0 ds) (actions_long 0 ds) t.1
