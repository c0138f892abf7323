-- Either way all four buffers are cleared, whole or beyond what was written.
use native.Mathlib.Omega.{arith}
use lib.ListN.{length}
use Rattle.directives.proofs.EndingLaws.{Inside, ends_full, ends_fit, ends_left}
use Rattle.directives.proofs.writing.finish.Goals as goal
use Rattle.directives.proofs.writing.finish.Goals.{Else-lacks_room}

-- where there is room, the records are inside
fit : (c : Else-lacks_room) → Inside (length c.args.records.now) (length c.args.variables.now) (length c.args.actions.now) c.args.t
fit c =
    let a = c.args in
    ends_fit a.t a.text.now a.records.now a.variables.now a.actions.now c.lacks_room.ensures c.if-lacks_room.false

pub returns-then-lacks_room : goal.returns-then-lacks_room
returns-then-lacks_room c =
    let a = c.args in
    ends_full a.t a.text.now a.records.now a.variables.now a.actions.now c.lacks_room.ensures c.if-lacks_room.true (c.fill.ensures.after (λ y e. e)) (c.fill-then-lacks_room.ensures.after (λ y e. e)) (c.fill-then-lacks_room-2.ensures.after (λ y e. e)) (c.fill-then-lacks_room-3.ensures.after (λ y e. e))

pub overflow_mul-words : goal.overflow_mul-words
overflow_mul-words c = omega (arith, fit (goal.at.overflow_mul-words c).Else-lacks_room, c.well_formed)

pub offset_bounds-records-words : goal.offset_bounds-records-words
offset_bounds-records-words c = omega (arith, fit (goal.at.offset_bounds-records-words c).Else-lacks_room, c.well_formed)

pub slice_bounds-fill-count : goal.slice_bounds-fill-count
slice_bounds-fill-count c = (fit (goal.at.slice_bounds-fill-count c).Else-lacks_room).0

pub slice_bounds-fill-start : goal.slice_bounds-fill-start
slice_bounds-fill-start c = (fit (goal.at.slice_bounds-fill-start c).Else-lacks_room).0

pub overflow_mul-listed : goal.overflow_mul-listed
overflow_mul-listed c = omega (arith, fit (goal.at.overflow_mul-listed c).Else-lacks_room, c.well_formed)

pub offset_bounds-variables-listed : goal.offset_bounds-variables-listed
offset_bounds-variables-listed c = omega (arith, fit (goal.at.offset_bounds-variables-listed c).Else-lacks_room, c.well_formed)

pub slice_bounds-fill-count-2 : goal.slice_bounds-fill-count-2
slice_bounds-fill-count-2 c = (fit (goal.at.slice_bounds-fill-count-2 c).Else-lacks_room).1.0

pub slice_bounds-fill-start-2 : goal.slice_bounds-fill-start-2
slice_bounds-fill-start-2 c = (fit (goal.at.slice_bounds-fill-start-2 c).Else-lacks_room).1.0

pub overflow_mul-acted : goal.overflow_mul-acted
overflow_mul-acted c = omega (arith, fit (goal.at.overflow_mul-acted c).Else-lacks_room, c.well_formed)

pub offset_bounds-actions-acted : goal.offset_bounds-actions-acted
offset_bounds-actions-acted c = omega (arith, fit (goal.at.offset_bounds-actions-acted c).Else-lacks_room, c.well_formed)

pub slice_bounds-fill-count-3 : goal.slice_bounds-fill-count-3
slice_bounds-fill-count-3 c = (fit (goal.at.slice_bounds-fill-count-3 c).Else-lacks_room).1.1

pub slice_bounds-fill-start-3 : goal.slice_bounds-fill-start-3
slice_bounds-fill-start-3 c = (fit (goal.at.slice_bounds-fill-start-3 c).Else-lacks_room).1.1

pub returns : goal.returns
returns c =
    let a = c.args in
    ends_left a.t a.text.now a.records.now a.variables.now a.actions.now c.lacks_room.ensures c.if-lacks_room.false c.clear_beyond.ensures (c.fill-2.ensures.after (λ y e. e)) (c.fill-3.ensures.after (λ y e. e)) (c.fill-4.ensures.after (λ y e. e))
