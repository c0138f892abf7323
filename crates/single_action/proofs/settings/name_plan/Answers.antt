-- The first dot splits the name.
use native.Mathlib.Omega.{arith}
use Rattle.single_action.proofs.CutLaws.{found_within}
use Rattle.single_action.proofs.SettingLaws.{name_whole, name_halves}
use Rattle.single_action.proofs.settings.name_plan.Goals as goal

pub overflow_add-dot : goal.overflow_add-dot
overflow_add-dot c =
    let s = c in
    let h = found_within s.args.s.now s.args.first s.args.past s.requires.past_in_bounds 46 c.first_of.result c.first_of.ensures s.requires.first_le_past in
    omega (arith, h)

pub returns-then-past-dot : goal.returns-then-past-dot
returns-then-past-dot c =
    let s = c in
    name_whole s.args.s.now s.args.first s.args.past s.requires.first_le_past s.requires.past_in_bounds c.first_of.result c.first_of.ensures c.if-past-dot.true

pub returns : goal.returns
returns c =
    let s = c in
    name_halves s.args.s.now s.args.first s.args.past s.requires.first_le_past s.requires.past_in_bounds c.first_of.result c.first_of.ensures c.if-past-dot.false
