-- The first byte or the last one decides, where there is one.
use mathlib.Core.Path.{◌∙◌, sym}
use mathlib.Core.Bool.{false}
use Rattle.single_action.specs.Marks.{quotation}
use Rattle.spelled.proofs.FitLaws.{filled, emptied, marks_none, either, neither, first_is, last_is}
use Rattle.spelled.proofs.fitting.marks_an_end.Goals as goal

pub returns-then-is_quotation : goal.returns-then-is_quotation
returns-then-is_quotation c =
    let t = c.args.t.now in
    c.if-is_quotation.true ∙ either _ (first_is quotation t (filled _ c.is_empty.ensures c.if-not-is_empty.true) ∙ sym c.is_quotation.ensures ∙ c.if-is_quotation.true)

pub returns-else-is_quotation : goal.returns-else-is_quotation
returns-else-is_quotation c =
    let t = c.args.t.now in
    let h = filled _ c.is_empty.ensures c.if-not-is_empty.true in
    neither (first_is quotation t h ∙ sym c.is_quotation.ensures ∙ c.if-is_quotation.false)
    (c.is_quotation-else-is_quotation.ensures ∙ sym (last_is quotation false t h))

pub returns-else-not-is_empty : goal.returns-else-not-is_empty
returns-else-not-is_empty c = rw c.if-not-is_empty.false (marks_none c.args.t.now (emptied _ c.is_empty.ensures c.if-not-is_empty.false))
