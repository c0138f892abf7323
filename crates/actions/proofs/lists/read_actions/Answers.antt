-- By where it may place: the loop's answer, or nothing is touched.
use mathlib.Core.Path.{sym, ◌∙◌}
use Rattle.actions.proofs.CoreLaws.{core_met, core_unfit}
use Rattle.actions.proofs.lists.read_actions.Goals as goal

pub write_actions-requires : goal.write_actions-requires
write_actions-requires c = sym c.starts.ensures ∙ c.if-starts.true

pub returns-then-starts : goal.returns-then-starts
returns-then-starts c =
    let a = c.args in
    core_met a.s.now a.offset a.place a.text.now a.records.now (sym c.starts.ensures ∙ c.if-starts.true) _ c.write_actions.ensures

pub returns : goal.returns
returns c =
    let a = c.args in
    core_unfit a.s.now a.offset a.place a.text.now a.records.now (sym c.starts.ensures ∙ c.if-starts.false)
