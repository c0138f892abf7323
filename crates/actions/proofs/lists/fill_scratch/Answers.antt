-- The rest of the buffer is cleared behind the normalised text.
use Rattle.actions.proofs.ScratchLaws.{scratch_fits, scratch_filled}
use Rattle.actions.proofs.lists.fill_scratch.Goals as goal

pub slice_bounds-fill-count : goal.slice_bounds-fill-count
slice_bounds-fill-count c = scratch_fits c.args.input.now c.args.scratch.now _ c.put_normal-n.ensures c.put_normal-n.auto.out

pub slice_bounds-fill-start : goal.slice_bounds-fill-start
slice_bounds-fill-start c = scratch_fits c.args.input.now c.args.scratch.now _ c.put_normal-n.ensures c.put_normal-n.auto.out

pub returns : goal.returns
returns c = record { scratch_after = scratch_filled c.args.input.now c.args.scratch.now _ c.put_normal-n.ensures c.put_normal-n.auto.out (c.fill.ensures.after (λ y e. e)); value = c.put_normal-n.ensures.count }
