-- A `!` first, else the first `=` splits it.
use mathlib.Core.Path.{◌≡◌, ◌∙◌}
use mathlib.Core.Bool.{false}
use native.Mathlib.Omega.{arith}
use lib.ListN.{get_or}
use borrow.Author.Tests.{ne_eqb}
use Rattle.ascii.specs.Splits.{leads}
use Rattle.single_action.specs.Plans.{cut}
use Rattle.single_action.proofs.CutLaws.{leads_cut, leads_none, found_within}
use Rattle.single_action.proofs.SettingLaws.{bare_delete, bare_one, bare_both, setvar_planned, deleted, one}
use Rattle.single_action.proofs.settings.bare_plan.Goals as goal
use Rattle.single_action.proofs.settings.bare_plan.Goals.{Joined-else-first-past, else-first-past-via-then-first-past+else-s-first-eq33, else-first-past-via-else-first-past}

pub returns-then-s-first-eq33 : goal.returns-then-s-first-eq33
returns-then-s-first-eq33 c =
    let s = c in
    rw (c.setvar_of.ensures, bare_delete s.args.s.now s.args.first s.args.past s.requires.first_le_past s.requires.past_in_bounds c.if-first-past.true c.if-s-first-eq33.true)
    (setvar_planned s.args.s.now s.args.code c.name_plan.ensures (deleted s.args.s.now))

pub overflow_add-equals : goal.overflow_add-equals
overflow_add-equals c =
    let s = c in
    let h = found_within s.args.s.now s.args.first s.args.past s.requires.past_in_bounds 61 c.first_of.result c.first_of.ensures s.requires.first_le_past in
    omega (arith, h)

-- no `!` stands first
no_bang : (c : Joined-else-first-past) → let s = c.args in leads 33 (cut s.s.now s.first s.past) ≡ false
no_bang c =
    let s = c in
    let t = s.args.s.now in
    let f = s.args.first in
    let p = s.args.past in
    elim c.else-first-past.branch [
      | else-first-past-via-then-first-past+else-s-first-eq33 w ↦ leads_cut t f p s.requires.past_in_bounds 33 w.if-first-past.true ∙ ne_eqb (get_or t f 0) 33 w.if-s-first-eq33.false
      | else-first-past-via-else-first-past w ↦ leads_none t 33 f p w.if-first-past.false
    ]

pub returns-then-past-equals : goal.returns-then-past-equals
returns-then-past-equals c =
    let s = c in
    let f = c.first_of in
    rw (c.setvar_of-then-past-equals.ensures, bare_one s.args.s.now s.args.first s.args.past s.requires.first_le_past s.requires.past_in_bounds f.result f.ensures (no_bang (goal.at.returns-then-past-equals c).Joined-else-first-past) c.if-past-equals.true)
    (setvar_planned s.args.s.now s.args.code c.name_plan-then-past-equals.ensures (one s.args.s.now))

pub returns : goal.returns
returns c =
    let s = c in
    let f = c.first_of in
    rw (c.setvar_of-2.ensures, bare_both s.args.s.now s.args.first s.args.past s.requires.first_le_past s.requires.past_in_bounds f.result f.ensures (no_bang (goal.at.returns c).Joined-else-first-past) c.if-past-equals.false)
    (setvar_planned s.args.s.now s.args.code c.name_plan-2.ensures c.value_plan.ensures)
