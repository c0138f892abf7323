-- Each rule has its arm.
use mathlib.Core.Path.{◌∙◌, sym, ap}
use mathlib.Core.Bool.{Bool}
use Rattle.ascii.specs.Choice.{and}
use Rattle.spelled.specs.Condition.{isnt}
use Rattle.spelled.specs.Steps.{entry_action, bare, kept}
use Rattle.spelled.proofs.FitLaws.{wanted_is, unmarked_is, equation_is, expiry_is}
use Rattle.spelled.proofs.fitting.fits.Goals as goal

pub returns-in-Plain : goal.returns-in-Plain
unfolding kept entry_action
returns-in-Plain c = rw c.in-Plain.is c.is_bare.ensures

pub returns-in-Wanted : goal.returns-in-Wanted
returns-in-Wanted c =
    let s = c in
    rw c.in-Wanted.is
    (c.is_flawless.ensures ∙ ap (λ (t : Bool). and (bare s.args.e.number s.args.e.kind) (isnt t)) c.ends_white.ensures ∙ sym (wanted_is s.args.text.now s.args.e s.requires))

pub returns-in-Unmarked : goal.returns-in-Unmarked
returns-in-Unmarked c =
    let s = c in
    rw c.in-Unmarked.is
    (c.is_flawless-in-Unmarked.ensures ∙ ap (λ (t : Bool). and (bare s.args.e.number s.args.e.kind) (isnt t)) c.marks_an_end.ensures ∙ sym (unmarked_is s.args.text.now s.args.e s.requires))

pub returns-in-UpTo : goal.returns-in-UpTo
unfolding kept entry_action
returns-in-UpTo c = rw c.in-UpTo.is c.is_number.ensures

pub returns-in-Severity : goal.returns-in-Severity
unfolding kept entry_action
returns-in-Severity c = rw c.in-Severity.is c.is_number-in-Severity.ensures

pub returns-in-Equation : goal.returns-in-Equation
returns-in-Equation c =
    rw c.in-Equation.is
    (c.is_equation.ensures ∙ sym (equation_is c.args.text.now c.args.e c.requires))

pub returns-in-Expiry : goal.returns-in-Expiry
returns-in-Expiry c =
    let s = c in
    rw c.in-Expiry.is (c.is_expiry.ensures ∙ sym (expiry_is s.args.text.now s.args.e s.requires))

pub returns-in-Setting : goal.returns-in-Setting
unfolding kept
returns-in-Setting c = rw c.in-Setting.is c.setvar_fits.ensures
