-- Each kind has its arm.
use mathlib.Core.Path.{◌∙◌, sym}
use Rattle.ascii.specs.Text.{bytes}
use borrow.Author.Tests.{eq-eqb, ne_eqb}
use Rattle.spelled.specs.Steps.{value_kept}
use Rattle.spelled.proofs.FitLaws.{off, on, either, neither}
use Rattle.spelled.proofs.fitting.value_fits.Goals as goal

pub returns-then-is_same : goal.returns-then-is_same
unfolding value_kept bytes
returns-then-is_same c =
    rw c.in-1.is (on (eq-eqb c.args.number 0 c.if-number-eq0.true) (c.if-is_same.true ∙ either _ (sym c.is_same.ensures ∙ c.if-is_same.true)))

pub returns-else-is_same : goal.returns-else-is_same
unfolding value_kept bytes
returns-else-is_same c =
    rw c.in-1.is
    (on (eq-eqb c.args.number 0 c.if-number-eq0.true) (neither (sym c.is_same.ensures ∙ c.if-is_same.false) c.is_textual.ensures))

pub returns-else-number-eq0 : goal.returns-else-number-eq0
unfolding value_kept
returns-else-number-eq0 c = let n = ne_eqb c.args.number 0 c.if-number-eq0.false in rw c.in-1.is (n ∙ off _ n)

pub returns-in-2 : goal.returns-in-2
unfolding value_kept
returns-in-2 c = rw c.in-2.is

pub returns-in-5 : goal.returns-in-5
unfolding value_kept
returns-in-5 c = rw c.in-5.is

pub returns-then-number-eq0-2 : goal.returns-then-number-eq0-2
unfolding value_kept
returns-then-number-eq0-2 c = rw c.in-6.is (on (eq-eqb c.args.number 0 c.if-number-eq0-2.true) c.has_macro.ensures)

pub returns-else-number-eq0-2 : goal.returns-else-number-eq0-2
unfolding value_kept
returns-else-number-eq0-2 c = let n = ne_eqb c.args.number 0 c.if-number-eq0-2.false in rw c.in-6.is (n ∙ off _ n)

pub returns-in_default : goal.returns-in_default
unfolding value_kept
returns-in_default c =
    let k = c.args.kind in
    let r = c.in_default.in_default-own.rest in
    simp (ne_eqb k 1 r.0.0.0.1, ne_eqb k 2 r.0.0.1, ne_eqb k 5 r.0.1, ne_eqb k 6 r.1)
