-- Either way the buffers are cleared, whole or beyond what is written; a text that is full keeps as it is.
use borrow.Author.Rules.{rules}
use native.Mathlib.Omega.{arith}
use Prim.Native.Nat.{◌*◌, ◌≤◌}
use lib.ListN.{length}
use Rattle.lent.proofs.EndLaws.{beyond_cleared, none_beyond, finish_full, finish_fits, finish_left}
use Rattle.lent.proofs.ending.finish.Goals as goal
use Rattle.lent.proofs.ending.finish.Goals.{Else-room-count}

pub returns-then-room-count : goal.returns-then-room-count
returns-then-room-count c =
    let a = c.args in
    finish_full a.used a.count a.width a.text.now a.records.now c.room.ensures c.if-room-count.true (search rules) (search rules)

-- where the records fit
records_fit : (c : Else-room-count) → c.args.count * c.args.width ≤ length c.args.records.now
records_fit c =
    let a = c.args in
    finish_fits a.used a.count a.width a.text.now a.records.now c.room.ensures c.if-room-count.false

pub overflow_mul-words : goal.overflow_mul-words
overflow_mul-words c = omega (arith, records_fit (goal.at.overflow_mul-words c).Else-room-count, c.well_formed)

pub offset_bounds-records-words : goal.offset_bounds-records-words
offset_bounds-records-words c = omega (arith, records_fit (goal.at.offset_bounds-records-words c).Else-room-count, c.well_formed)

pub slice_bounds-fill-count : goal.slice_bounds-fill-count
slice_bounds-fill-count c = records_fit (goal.at.slice_bounds-fill-count c).Else-room-count

pub slice_bounds-fill-start : goal.slice_bounds-fill-start
slice_bounds-fill-start c = records_fit (goal.at.slice_bounds-fill-start c).Else-room-count

pub returns-then-used-text : goal.returns-then-used-text
returns-then-used-text c =
    let a = c.args in
    finish_left a.used a.count a.width a.text.now a.records.now c.room.ensures c.if-room-count.false (beyond_cleared a.text.now a.used (search rules) (search rules)) (search rules)

pub returns-else-used-text : goal.returns-else-used-text
returns-else-used-text c =
    let a = c.args in
    finish_left a.used a.count a.width a.text.now a.records.now c.room.ensures c.if-room-count.false (none_beyond a.text.now a.used c.if-used-text.false) (search rules)
