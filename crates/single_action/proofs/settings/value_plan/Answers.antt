-- A macro decides first.
use mathlib.Core.Path.{◌∙◌, sym}
use Rattle.single_action.proofs.SettingLaws.{value_macro, value_plain}
use Rattle.single_action.proofs.settings.value_plan.Goals as goal

pub returns-then-has_macro : goal.returns-then-has_macro
returns-then-has_macro c =
    let s = c in
    value_macro s.args.s.now s.args.first s.args.past s.requires.first_le_past s.requires.past_in_bounds (sym c.has_macro.ensures ∙ c.if-has_macro.true)

pub returns : goal.returns
returns c =
    let s = c in
    rw (value_plain s.args.s.now s.args.first s.args.past s.requires.first_le_past s.requires.past_in_bounds (sym c.has_macro.ensures ∙ c.if-has_macro.false)) c.plain_value.ensures
