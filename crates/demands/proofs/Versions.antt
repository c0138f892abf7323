-- The demand of M-108, packages before and after 2.7.
-- The idea: what a package comes to for a version is what it comes to for 2.6, or that an id is missing; and an outcome fixes a whole call.
use Rattle.lent.specs.declared.gating.GateError.TheVariants.{TooLong, Short, NotAscii}
use Rattle.lent.specs.declared.gating.GateError.{GateError}
use Rattle.std.specs.Prelude.{Result, Ok, Err}
use mathlib.Core.Path.{◌≡◌, refl, sym, ap, ◌∙◌}
use mathlib.Core.Logic.{◌⊎◌, inl, inr, ⊎_elim}
use mathlib.Core.List.{List}
use Prim.Native.Nat.{ℕ, min}
use native.Mathlib.Omega.{arith}
use lib.ListN.{length}
use Rattle.lent.specs.Table.{Given}
use Rattle.lent.specs.Gates.{gate_of}
use Rattle.directives.specs.Directives.{Fault, wrong_count, untaken, stopped, id_missing, within, directives}
use Rattle.directives.specs.declared.Version.{Version}
use Rattle.directives.specs.declared.Version.TheVariants.{TwoSix, TwoSeven}
use Rattle.directives.specs.Versions.{directives_for}
use Rattle.directives.specs.Table.{Outcome, faulty, past_gate, given_by, text_by, scratch_by, records_by}
use Rattle.directives.specs.Promises.{Lent, rooms_of, roomed, directives_outcome, outcome_on, answer_given}
use Rattle.directives.specs.Calls.{Faulty, in_item, missing, at_end, items_of}
use Rattle.directives.specs.declared.Read.{Read as DirectivesRead}
use Rattle.directives.specs.declared.DirectivesError.{DirectivesError}
use Rattle.directives.proofs.OrderLaws.{end_bad}
use Rattle.directives.proofs.ItemLaws.{of_item}
use Rattle.directives.proofs.VersionLaws.{for_holds, for_good}
use Rattle.directives.proofs.AskedLaws.{text_faulty}
use Rattle.directives.proofs.FateLaws.{end_in, fault}
use Rattle.directives.proofs.PromiseLaws.{directives_numbers, told_by}
use Rattle.demands.specs.Calls.{package_of, directives_promise}
use Rattle.demands.specs.Library.{With, fills_directives_promise}
use Rattle.demands.specs.Versions.{MissingAt, Versions}
use Rattle.demands.proofs.DirectiveCalls.{directives_fixed, none_left}
use Rattle.demands.proofs.Library.{fills_directives_fixed}

-- ---- over the definitions

older : (s : List ℕ) → directives_for TwoSix s ≡ directives s
unfolding directives_for
older s = refl

unless_missing : (v : Version) (s : List ℕ) → ((l : ℕ) × (directives_for v s ≡ Err (id_missing l))) ⊎ (directives_for v s ≡ directives_for TwoSix s)
unless_missing v s = for_holds (λ r. ((l : ℕ) × (r ≡ Err (id_missing l))) ⊎ (r ≡ directives_for TwoSix s)) (λ l. inl (l, refl)) v s (inr (sym (older s)))

-- a missing id is no item's own fault, nor the end's
abbrev line_in_lem : Fault → ℕ
line_in_lem (wrong_count l) = 0
line_in_lem (untaken l) = 0
line_in_lem (stopped l) = 0
line_in_lem (id_missing l) = l
line_in_lem (within l f) = 0

abbrev missing_in : Fault → ℕ
missing_in (wrong_count l) = 0
missing_in (untaken l) = 0
missing_in (stopped l) = 0
missing_in (id_missing l) = 1
missing_in (within l f) = 0

at_missing : (s : List ℕ) (l : ℕ) → Faulty TwoSeven s (end_in s) (items_of s) (id_missing l) → MissingAt s l
at_missing s l (in_item x) = absurd (of_item s x.this (id_missing l) x.fault)
at_missing s l (missing k h m e) =
    record {
      passed = m.passed;
      this = m.this;
      after = m.after;
      entries = m.entries;
      entry = m.entry;
      list = m.list;
      good_before = m.good_before;
      identified_before = m.identified_before;
      read = m.read;
      unidentified = m.unidentified;
      line = m.line ∙ sym (ap line_in_lem e);
    }
at_missing s l (at_end ds a h e) = absurd (omega (arith, ap missing_in ((end_bad (length s) _ (id_missing l)).0 e).1))

-- ---- over the promise

outcome_unless : (v : Version) (s : List ℕ) (m : Lent) → ((l : ℕ) × (outcome_on v s m ≡ faulty (id_missing l))) ⊎ (outcome_on v s m ≡ outcome_on TwoSix s m)
unfolding directives_outcome
outcome_unless v s m = go (gate_of s (min (length m.text) (length m.scratch)) (length s)) (unless_missing v s)
  where
    go : (g : Result Unit GateError) → ((l : ℕ) × (directives_for v s ≡ Err (id_missing l))) ⊎ (directives_for v s ≡ directives_for TwoSix s)
        → ((l : ℕ) × (past_gate g (roomed (rooms_of m) (directives_for v s)) ≡ faulty (id_missing l)))
        ⊎ (past_gate g (roomed (rooms_of m) (directives_for v s)) ≡ past_gate g (roomed (rooms_of m) (directives_for TwoSix s)))
    go (Ok tt) (inl h) = inl (h.0, ap (roomed (rooms_of m)) h.1)
    go (Ok tt) (inr e) = inr (ap (roomed (rooms_of m)) e)
    go (Err TooLong) h = inr refl
    go (Err (NotAscii p)) h = inr refl
    go (Err Short) h = inr refl

-- a number that is not 18 is that of 2.6's outcome
not_missing : (s : List ℕ) (m : Lent) (n : ℕ) → n ≡ (given_by (outcome_on TwoSeven s m)).number → (n ≡ 18 → ⊥) → outcome_on TwoSeven s m ≡ outcome_on TwoSix s m
not_missing s m n e h = ⊎_elim (λ k. absurd (h (e ∙ ap (λ (o : Outcome). (given_by o).number) k.1))) (λ q. q) (outcome_unless TwoSeven s m)

module _ (s : List ℕ) (m : Lent) where
  same : (old new : (Result DirectivesRead DirectivesError) × Lent) → directives_promise (package_of s TwoSix m) old → directives_promise (package_of s TwoSeven m) new → ((answer_given new.0).number ≡ 18 → ⊥) → old ≡ new
  same old new x y h =
      let e = not_missing s m (answer_given new.0).number (ap (λ (g : Given). g.number) y.answer) h in
      directives_fixed.once (package_of s TwoSix m) old new x
      (record {
        answer = y.answer ∙ ap given_by e;
        text = y.text ∙ ap (λ (o : Outcome). text_by o m.text) e;
        scratch = y.scratch ∙ ap (λ (o : Outcome). scratch_by o m.scratch) e;
        directives = y.directives ∙ ap (λ (o : Outcome). records_by (λ x. x.directives) o m.directives) e;
        variables = y.variables ∙ ap (λ (o : Outcome). records_by (λ x. x.variables) o m.variables) e;
        actions = y.actions ∙ ap (λ (o : Outcome). records_by (λ x. x.actions) o m.actions) e;
      })

  same_in_c : (values : List ℕ) (old new : With (ℕ × Lent)) → fills_directives_promise (package_of s TwoSix m, values) old → fills_directives_promise (package_of s TwoSeven m, values) new
      → (new.0.0 ≡ 18 → ⊥) → old ≡ new
  same_in_c values old new x y h =
      let e = not_missing s m new.0.0 y.told.number h in
      fills_directives_fixed.once (package_of s TwoSix m, values) old new x
      (record {
        told = rw (← e) y.told;
        text = y.text ∙ ap (λ (o : Outcome). text_by o m.text) e;
        scratch = y.scratch ∙ ap (λ (o : Outcome). scratch_by o m.scratch) e;
        directives = y.directives ∙ ap (λ (o : Outcome). records_by (λ x. x.directives) o m.directives) e;
        variables = y.variables ∙ ap (λ (o : Outcome). records_by (λ x. x.variables) o m.variables) e;
        actions = y.actions ∙ ap (λ (o : Outcome). records_by (λ x. x.actions) o m.actions) e;
      })

pub versions : Versions
versions = record {
  older = older;
  unless_missing = unless_missing;
  accepted = λ s ds e. older s ∙ for_good TwoSeven s ds e;
  exactly = λ s l. (λ e. at_missing s l ((text_faulty s TwoSeven (id_missing l)).0 e), λ x. (text_faulty s TwoSeven (id_missing l)).1 (missing l tt x refl));
  same = same;
  accepted_same = λ s m old new x y e. same s m old new x y (λ k. absurd (omega (arith, e, k)));
  missing = λ s m new y. let n = (directives_numbers y).number_18 in (λ e. let h = n.0 e in (h.0, h.1.1), λ h. n.1 (h.0, (tt, h.1)));
  told = λ s m new y h l x. let t = told_by y (faulty (id_missing l)) (fault (id_missing l) h (missing l tt x refl)) in (t.0, t.1 ∙ none_left m);
  never = λ s m old x e. ((directives_numbers x).number_18.0 e).1.0;
  same_in_c = same_in_c;
}
