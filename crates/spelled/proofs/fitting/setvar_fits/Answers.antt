-- Each way out is the test that it stands for.
use mathlib.Core.Path.{◌≡◌, ◌∙◌, sym}
use mathlib.Core.Bool.{true}
use lib.Dec.{eqb}
use borrow.Author.Tests.{eq-eqb, ne_eqb}
use Rattle.ascii.specs.Choice.{or}
use Rattle.single_action.specs.Plans.{cut}
use Rattle.spelled.specs.Condition.{name_fits}
use Rattle.spelled.proofs.FitLaws.{isnt_true, isnt_false, off, on, either, neither, setting_is}
use Rattle.spelled.proofs.fitting.setvar_fits.Goals as goal
use Rattle.spelled.proofs.fitting.setvar_fits.Goals.{Joined-else-e-ne-DELETE_KIND, else-e-ne-DELETE_KIND-via-then-e-ne-DELETE_KIND+else-not-name_fits, else-e-ne-DELETE_KIND-via-else-e-ne-DELETE_KIND}

-- deleted, or with a name that fits
abbrev Named : Joined-else-e-ne-DELETE_KIND → Type 0
Named c =
    let s = c.args in
    let e = s.e in
    let t = s.text.now in
    or (eqb e.kind 5) (name_fits (cut t e.first e.second) (cut t e.second e.third)) ≡ true

named : (c : Joined-else-e-ne-DELETE_KIND) → Named c
named c =
    let k = c.args.e.kind in
    elim c.else-e-ne-DELETE_KIND.branch [
      | else-e-ne-DELETE_KIND-via-then-e-ne-DELETE_KIND+else-not-name_fits w ↦ sym (neither (ne_eqb k 5 w.if-e-ne-DELETE_KIND.true) (sym (sym w.name_fits.ensures ∙ w.if-not-name_fits.false)))
      | else-e-ne-DELETE_KIND-via-else-e-ne-DELETE_KIND w ↦ sym (either _ (eq-eqb k 5 w.if-e-ne-DELETE_KIND.false))
    ]

pub returns-then-has_byte : goal.returns-then-has_byte
returns-then-has_byte c =
    let s = c in
    off _ (isnt_true (sym c.has_byte.ensures ∙ c.if-has_byte.true)) ∙ sym (setting_is s.args.text.now s.args.e s.requires)

pub returns-then-not-same_lowered : goal.returns-then-not-same_lowered
returns-then-not-same_lowered c =
    let s = c in
    on (isnt_false (sym c.has_byte.ensures ∙ c.if-has_byte.false)) (off _ (sym c.same_lowered.ensures ∙ c.if-not-same_lowered.true))
    ∙ sym (setting_is s.args.text.now s.args.e s.requires)

pub returns-then-not-name_fits : goal.returns-then-not-name_fits
returns-then-not-name_fits c =
    let s = c in
    on (isnt_false (sym c.has_byte.ensures ∙ c.if-has_byte.false))
    (on (sym c.same_lowered.ensures ∙ c.if-not-same_lowered.false)
    (off _ (sym (neither (ne_eqb s.args.e.kind 5 c.if-e-ne-DELETE_KIND.true) (sym (sym c.name_fits.ensures ∙ c.if-not-name_fits.true))))))
    ∙ sym (setting_is s.args.text.now s.args.e s.requires)

pub returns : goal.returns
returns c =
    let s = c in
    on (isnt_false (sym c.has_byte.ensures ∙ c.if-has_byte.false))
    (on (sym c.same_lowered.ensures ∙ c.if-not-same_lowered.false) (on (named (goal.at.returns c).Joined-else-e-ne-DELETE_KIND) c.value_fits.ensures))
    ∙ sym (setting_is s.args.text.now s.args.e s.requires)
