use mathlib.Core.Path.{refl}
use native.Mathlib.Omega.{arith}
use lib.ListN.{length}
use Rattle.lent.proofs.StartLaws.{Started, starts_is}
use Rattle.actions.proofs.GoingLaws.{behind, Going, begun, end_inside, part_inside, part_narrow, passed, room_for, acted, row_fits, stopped_bad, name_fits_lem, stopped_unknown, onward, ended}
use Rattle.actions.proofs.lists.write_actions.Goals as goal
use Rattle.actions.proofs.lists.write_actions.Goals.{Joined-first-past, Start, then-first-past+in-Ok, else-first-past}

-- the loop starts where it may
started : (c : Start) → Started (length c.args.s.now) (length c.args.text.now) c.args.offset c.args.place
started c = (starts_is (length c.args.s.now) (length c.args.text.now) c.args.offset c.args.place).0 c.requires

pub overflow_mul-at : goal.overflow_mul-at
overflow_mul-at c = omega (arith, started (goal.at.overflow_mul-at c).Start)

pub loop-piece-init : goal.loop-piece-init
loop-piece-init c = begun c.args.s.now _ _ c.args.offset c.args.place

pub slice_bounds-trimmed-end : goal.slice_bounds-trimmed-end
slice_bounds-trimmed-end c = (end_inside c.args.s.now c.loop-piece.from c.part_end-end.result c.loop-piece.invariant.inside c.part_end-end.ensures).1

pub overflow_add-first : goal.overflow_add-first
overflow_add-first c = omega (arith, part_inside c.loop-piece.invariant c.requires c.part_end-end.result c.part_end-end.ensures c.trimmed-part.result c.trimmed-part.ensures, end_inside c.args.s.now c.loop-piece.from c.part_end-end.result c.loop-piece.invariant.inside c.part_end-end.ensures, started (goal.at.overflow_add-first c).Start)

pub overflow_add-past : goal.overflow_add-past
overflow_add-past c = omega (arith, part_inside c.loop-piece.invariant c.requires c.part_end-end.result c.part_end-end.ensures c.trimmed-part.result c.trimmed-part.ensures, end_inside c.args.s.now c.loop-piece.from c.part_end-end.result c.loop-piece.invariant.inside c.part_end-end.ensures, started (goal.at.overflow_add-past c).Start)

pub slice_bounds-piece-end : goal.slice_bounds-piece-end
slice_bounds-piece-end c = omega (arith, part_inside c.loop-piece.invariant c.requires c.part_end-end.result c.part_end-end.ensures c.trimmed-part.result c.trimmed-part.ensures, end_inside c.args.s.now c.loop-piece.from c.part_end-end.result c.loop-piece.invariant.inside c.part_end-end.ensures)

pub span_of-span-requires : goal.span_of-span-requires
span_of-span-requires c = part_narrow c.loop-piece.invariant c.requires c.part_end-end.result c.part_end-end.ensures c.trimmed-part.result c.trimmed-part.ensures

pub put_plan-used-requires : goal.put_plan-used-requires
put_plan-used-requires c =
    let j = c.in-Ok.ensures in
    let room = room_for c.loop-piece.invariant c.requires c.part_end-end.result c.part_end-end.ensures c.trimmed-part.result c.trimmed-part.ensures c.if-first-past.true c.in-Ok.plan j in
    record { inside = j.sound; plan_in_bounds = room.0; plan_bound = room.1 }

pub overflow_add-at : goal.overflow_add-at
overflow_add-at c = let x = c.loop-piece.invariant in omega (arith, x.at_is, x.count_low, x.inside, started (goal.at.overflow_add-at c).Start)

pub refuse_row-requires : goal.refuse_row-requires
refuse_row-requires c =
    let j = rw c.in-Err-Bad.field-0-is at c.in-Err-Bad.ensures in
    row_fits c.loop-piece.invariant c.requires c.part_end-end.result c.part_end-end.ensures c.trimmed-part.result c.trimmed-part.ensures c.if-first-past.true c.in-Err-Bad.flaw c.in-Err-Bad.row j

pub returns-in-Err-Bad : goal.returns-in-Err-Bad
returns-in-Err-Bad c =
    let j = rw c.in-Err-Bad.field-0-is at c.in-Err-Bad.ensures in
    let e = c.refuse_row.ensures in
    rw (e.value, c.span_of-span.ensures) (stopped_bad c.loop-piece.invariant c.requires c.part_end-end.result c.part_end-end.ensures c.trimmed-part.result c.trimmed-part.ensures c.if-first-past.true c.in-Err-Bad.flaw c.in-Err-Bad.row j e.text_after e.records_after refl)

pub refuse_name-requires : goal.refuse_name-requires
refuse_name-requires c =
    let j = rw c.in-Err-Unknown.field-0-is at c.in-Err-Unknown.ensures in
    name_fits_lem c.loop-piece.invariant c.requires c.part_end-end.result c.part_end-end.ensures c.trimmed-part.result c.trimmed-part.ensures c.if-first-past.true c.in-Err-Unknown.name j

pub returns-in-Err-Unknown : goal.returns-in-Err-Unknown
returns-in-Err-Unknown c =
    let j = rw c.in-Err-Unknown.field-0-is at c.in-Err-Unknown.ensures in
    let e = c.refuse_name.ensures in
    rw (e.value, c.span_of-span.ensures) (stopped_unknown c.loop-piece.invariant c.requires c.part_end-end.result c.part_end-end.ensures c.trimmed-part.result c.trimmed-part.ensures c.if-first-past.true c.in-Err-Unknown.name j e.text_after e.records_after)

-- behind a part, whether it was a piece or not
behind_part : (c : Joined-first-past) → Going c.args.s.now c.args.offset c.args.place c.args.text.now c.args.records.now c.if-first-past.text c.if-first-past.records (behind c.args.s.now c.part_end-end.result) c.part_end-end.result c.if-first-past.used c.if-first-past.count c.if-first-past.at c.if-first-past.id c.if-first-past.chain
behind_part c =
    elim c.if-first-past.branch [
      | then-first-past+in-Ok w ↦
          rw (w.text-is, w.records-is, w.used-is, w.count-is, w.id-is, w.chain-is, w.at-is) (acted c.loop-piece.invariant c.requires c.part_end-end.result c.part_end-end.ensures c.trimmed-part.result c.trimmed-part.ensures w.if-first-past.true w.in-Ok.plan w.in-Ok.ensures (rw w.span_of-span.ensures at w.put_plan-used.ensures))
      | else-first-past w ↦
          rw (w.text-is, w.records-is, w.used-is, w.count-is, w.id-is, w.chain-is, w.at-is) (passed c.loop-piece.invariant c.requires c.part_end-end.result c.part_end-end.ensures c.trimmed-part.result c.trimmed-part.ensures w.if-first-past.false)
    ]

pub returns-then-s-end : goal.returns-then-s-end
returns-then-s-end c = ended (behind_part (goal.at.returns-then-s-end c).Joined-first-past) c.if-s-end.true

pub loop-piece-preserved : goal.loop-piece-preserved
loop-piece-preserved c = onward (behind_part (goal.at.loop-piece-preserved c).Joined-first-past) c.if-s-end.false
