-- By the gate's answer, and then by what the normalised text comes to; each way is one law of PromiseLaws.
use mathlib.Core.Path.{sym}
use Rattle.std.proofs.lemmas.Result.{err_from_is_err_and}
use Prim.Native.Nat.{◌≤◌}
use lib.ListN.{length}
use lib.Seq.{length-take-le}
use Rattle.lent.specs.Sizes.{limit}
use Rattle.actions.proofs.ScratchLaws.{part_fits, part_is}
use Rattle.actions.proofs.SitingLaws.{span_sited, records_settled}
use Rattle.actions.proofs.PromiseLaws.{open_rooms, open_starts, actions_refused, actions_read_lem, actions_bad, actions_unknown}
use Rattle.actions.proofs.lists.parse_actions.Goals as goal
use Rattle.actions.proofs.lists.parse_actions.Goals.{In_ok-admit}

pub returns-in_err-admit : goal.returns-in_err-admit
returns-in_err-admit c =
    let p = err_from_is_err_and c.from_residual.result c.from_residual.ensures.1 in
    rw (p.1, p.2) (actions_refused c.args.input.now c.args.text.now c.args.scratch.now c.args.records.now c.min-least.ensures c.admit.ensures _ c.in_err-admit.was)

pub fill_scratch-n-requires : goal.fill_scratch-n-requires
fill_scratch-n-requires c = (open_rooms c.args.input.now c.args.text.now c.args.scratch.now c.args.records.now c.min-least.ensures c.admit.ensures c.in_ok-admit.was).2

-- past the gate every buffer has room for the input
opened : (c : In_ok-admit) → let a = c.args in (length a.input.now ≤ limit) × (length a.input.now ≤ length a.text.now) × (length a.input.now ≤ length a.scratch.now)
opened c = open_rooms c.args.input.now c.args.text.now c.args.scratch.now c.args.records.now c.min-least.ensures c.admit.ensures c.in_ok-admit.was

pub slice_bounds-write_actions-end : goal.slice_bounds-write_actions-end
slice_bounds-write_actions-end c = part_fits c.args.input.now c.args.scratch.now c.fill_scratch-n.ensures.scratch_after c.fill_scratch-n.ensures.value (opened (goal.at.slice_bounds-write_actions-end c).In_ok-admit).2

pub slice_bounds-write_actions-end-2 : goal.slice_bounds-write_actions-end-2
slice_bounds-write_actions-end-2 c = sym (length-take-le c.fill_scratch-n.result _ (part_fits c.args.input.now c.args.scratch.now c.fill_scratch-n.ensures.scratch_after c.fill_scratch-n.ensures.value (opened (goal.at.slice_bounds-write_actions-end-2 c).In_ok-admit).2))

pub write_actions-requires : goal.write_actions-requires
write_actions-requires c = open_starts c.args.input.now c.args.text.now c.args.scratch.now c.args.records.now c.min-least.ensures c.admit.ensures c.in_ok-admit.was (part_is c.args.input.now c.args.scratch.now c.fill_scratch-n.ensures.scratch_after c.fill_scratch-n.ensures.value (opened (goal.at.write_actions-requires c).In_ok-admit).2)

pub returns-in-Err-Bad : goal.returns-in-Err-Bad
returns-in-Err-Bad c =
    let x = rw (part_is c.args.input.now c.args.scratch.now c.fill_scratch-n.ensures.scratch_after c.fill_scratch-n.ensures.value (opened (goal.at.returns-in-Err-Bad c).In_ok-admit).2) at (rw c.in-Err-Bad.field-0-is at c.in-Err-Bad.ensures) in
    actions_bad c.args.input.now c.args.text.now c.args.scratch.now c.args.records.now c.min-least.ensures c.admit.ensures c.in_ok-admit.was c.fill_scratch-n.ensures.scratch_after _ _ x
    (span_sited c.args.input.now (opened (goal.at.returns-in-Err-Bad c).In_ok-admit).0 x.source x.ordered x.inside x.underlined c.site_word.ensures)

pub returns-in-Err-Unknown : goal.returns-in-Err-Unknown
returns-in-Err-Unknown c =
    let x = rw (part_is c.args.input.now c.args.scratch.now c.fill_scratch-n.ensures.scratch_after c.fill_scratch-n.ensures.value (opened (goal.at.returns-in-Err-Unknown c).In_ok-admit).2) at (rw c.in-Err-Unknown.field-0-is at c.in-Err-Unknown.ensures) in
    actions_unknown c.args.input.now c.args.text.now c.args.scratch.now c.args.records.now c.min-least.ensures c.admit.ensures c.in_ok-admit.was c.fill_scratch-n.ensures.scratch_after _ x
    (span_sited c.args.input.now (opened (goal.at.returns-in-Err-Unknown c).In_ok-admit).0 x.source x.ordered x.inside x.underlined c.site_word-in-Err-Unknown.ensures)

pub returns-in-Ok : goal.returns-in-Ok
returns-in-Ok c =
    let x = rw (part_is c.args.input.now c.args.scratch.now c.fill_scratch-n.ensures.scratch_after c.fill_scratch-n.ensures.value (opened (goal.at.returns-in-Ok c).In_ok-admit).2) at c.in-Ok.ensures in
    actions_read_lem c.args.input.now c.args.text.now c.args.scratch.now c.args.records.now c.min-least.ensures c.admit.ensures c.in_ok-admit.was c.fill_scratch-n.ensures.scratch_after x
    (records_settled c.args.input.now (opened (goal.at.returns-in-Ok c).In_ok-admit).0 x c.fill_scratch-n.ensures.value c.settle.ensures) c.finish.ensures

pub returns-in-Err-Unfit : goal.returns-in-Err-Unfit
returns-in-Err-Unfit c = absurd (rw c.in-Err-Unfit.field-0-is at c.in-Err-Unfit.ensures)
