-- A sign first, else a number or the text.
use mathlib.Core.Path.{◌≡◌, ◌∙◌, sym}
use mathlib.Core.Logic.{⊎_elim}
use native.Mathlib.Omega.{arith}
use lib.ListN.{get_or}
use borrow.Author.Tests.{ne_eqb}
use Rattle.ascii.specs.Numbers.{signed_word}
use Rattle.single_action.specs.Setvar.{number_or, plain_value}
use Rattle.single_action.specs.Plans.{cut}
use Rattle.single_action.proofs.CutLaws.{leads_cut, leads_none}
use Rattle.single_action.proofs.SettingLaws.{value_plus, value_minus, unsigned_value, value_number, value_text}
use Rattle.single_action.proofs.settings.plain_value.Goals as goal
use Rattle.single_action.proofs.settings.plain_value.Goals.{Joined-first-past}

pub returns-in-43 : goal.returns-in-43
returns-in-43 c =
    let s = c in
    rw (c.step.ensures, c.signed.ensures)
    (value_plus s.args.s.now s.args.first s.args.past s.requires.first_le_past s.requires.past_in_bounds c.if-first-past.true c.in-43.is)

pub returns-in-45 : goal.returns-in-45
returns-in-45 c =
    let s = c in
    rw (c.step-in-45.ensures, c.signed-in-45.ensures)
    (value_minus s.args.s.now s.args.first s.args.past s.requires.first_le_past s.requires.past_in_bounds c.if-first-past.true c.in-45.is)

-- neither sign stands first
no_sign : (c : Joined-first-past) → let s = c.args in plain_value (cut s.s.now s.first s.past) ≡ number_or (cut s.s.now s.first s.past) (signed_word (cut s.s.now s.first s.past))
no_sign c =
    let s = c in
    let t = s.args.s.now in
    let f = s.args.first in
    let p = s.args.past in
    ⊎_elim
    (λ w. unsigned_value t f p s.requires.first_le_past s.requires.past_in_bounds
    (leads_cut t f p s.requires.past_in_bounds 43 w.if-first-past.true ∙ ne_eqb (get_or t f 0) 43 (omega arith))
    (leads_cut t f p s.requires.past_in_bounds 45 w.if-first-past.true ∙ ne_eqb (get_or t f 0) 45 (omega arith)))
    (λ w. unsigned_value t f p s.requires.first_le_past s.requires.past_in_bounds (leads_none t 43 f p w.if-first-past.false) (leads_none t 45 f p w.if-first-past.false))
    c.if-first-past.branch-raw

pub returns-in-Ok : goal.returns-in-Ok
returns-in-Ok c =
    let s = c in
    value_number s.args.s.now s.args.first s.args.past s.requires.first_le_past s.requires.past_in_bounds (no_sign (goal.at.returns-in-Ok c).Joined-first-past)
    c.in-Ok.number (sym c.signed-2.ensures ∙ c.in-Ok.is)

pub returns-in-Err : goal.returns-in-Err
returns-in-Err c =
    let s = c in
    value_text s.args.s.now s.args.first s.args.past s.requires.first_le_past s.requires.past_in_bounds (no_sign (goal.at.returns-in-Err c).Joined-first-past)
    (sym c.signed-2.ensures ∙ c.in-Err.is)
