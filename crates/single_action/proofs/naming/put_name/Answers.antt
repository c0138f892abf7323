-- The row's part of the shelves is its name; a row past the table has none.
use mathlib.Core.Path.{◌∙◌, ap}
use mathlib.Core.List.{List}
use Prim.Native.Nat.{ℕ}
use Rattle.ascii.specs.Text.{bytes}
use Rattle.lent.specs.Buffers.{stored}
use Rattle.single_action.specs.Table.{rows}
use Rattle.single_action.proofs.NamingLaws.{shelves, length_at, length_fits, end_fits, end_inside, part_name, past_stored}
use Rattle.single_action.proofs.naming.put_name.Goals as goal

pub returns-then-row-ge41 : goal.returns-then-row-ge41
returns-then-row-ge41 c = past_stored c.args.row c.if-row-ge41.true c.args.out.now

pub overflow_cast-n : goal.overflow_cast-n
unfolding rows bytes
overflow_cast-n c = length_fits c.args.row c.if-row-ge41.false

pub overflow_add-at : goal.overflow_add-at
unfolding rows bytes
overflow_add-at c = end_fits c.args.row c.if-row-ge41.false

pub slice_bounds-store-end : goal.slice_bounds-store-end
unfolding shelves rows bytes
slice_bounds-store-end c = end_inside c.args.row c.if-row-ge41.false

pub returns : goal.returns
unfolding shelves rows bytes
returns c =
    let d = c in
    let s = d in
    (c.store.ensures ∙ ap (λ (t : List ℕ). stored s.args.out.now 0 t) (part_name s.args.row d.if-row-ge41.false), length_at s.args.row d.if-row-ge41.false)
