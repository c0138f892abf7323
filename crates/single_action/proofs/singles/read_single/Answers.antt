-- The name stands before the first colon, and its row decides.
use mathlib.Core.Path.{◌∙◌, sym}
use lib.Seq.{length-take-le}
use Rattle.single_action.proofs.JudgedLaws.{Parted, transform_done, colon_within, single_unknown, single_text, single_none}
use Rattle.single_action.proofs.singles.read_single.Goals as goal
use Rattle.single_action.proofs.singles.read_single.Goals.{After-first_of-colon}

pub returns-then-is_transform : goal.returns-then-is_transform
returns-then-is_transform c = rw c.text_plan.ensures (transform_done c.args.s.now (sym c.is_transform.ensures ∙ c.if-is_transform.true))

parted : (c : After-first_of-colon) → Parted c.args.s.now c.first_of-colon.result
parted c = record { at = c.first_of-colon.ensures; other = sym c.is_transform.ensures ∙ c.if-is_transform.false }

pub slice_bounds-row_of-end : goal.slice_bounds-row_of-end
slice_bounds-row_of-end c =
    let s = c.args.s.now in
    let n = c.first_of-colon.result in
    sym (length-take-le n s (colon_within s n (parted (goal.at.slice_bounds-row_of-end c).After-first_of-colon)))

pub returns-in_default : goal.returns-in_default
returns-in_default c = single_unknown c.args.s.now c.first_of-colon.result (parted (goal.at.returns-in_default c).After-first_of-colon) c.in_default.ensures

pub returns-then-colon-past : goal.returns-then-colon-past
returns-then-colon-past c =
    let s = c.args.s.now in
    rw (single_text s c.first_of-colon.result (parted (goal.at.returns-then-colon-past c).After-first_of-colon) c.in-Some.row c.in-Some.ensures c.if-colon-past.true)
    c.with_text.ensures

pub returns-else-colon-past : goal.returns-else-colon-past
returns-else-colon-past c =
    let s = c.args.s.now in
    rw (single_none s c.first_of-colon.result (parted (goal.at.returns-else-colon-past c).After-first_of-colon) c.in-Some.row c.in-Some.ensures c.if-colon-past.false)
    (c.with_none.ensures s)
