-- The list as it stands in scratch is what is normalised and read: ListLaws.
use Rattle.std.proofs.lemmas.Result.{err_from_is_err_and}
use native.Mathlib.Omega.{arith}
use Rattle.lent.proofs.StartLaws.{starts_is}
use Rattle.directives.proofs.ListLaws.{set_inside, count_fits, normal_count, normal_is, list_read}
use Rattle.directives.proofs.parts.read_list.Goals as goal

pub overflow_add-end : goal.overflow_add-end
overflow_add-end c = let b = (starts_is _ _ _ _).0 c.requires.place_value in omega (arith, b.room, b.within, b.offset_low)

pub slice_bounds-normalise-end : goal.slice_bounds-normalise-end
slice_bounds-normalise-end c = let a = c.args in set_inside a.scratch.now a.first a.past a.used a.place a.text.now c.requires.first_le_past.1 c.requires.place_value c.store.ensures

pub overflow_sub-shrunk-2 : goal.overflow_sub-shrunk-2
overflow_sub-shrunk-2 c = let a = c.args in count_fits a.scratch.now a.first a.past a.used a.place a.text.now c.requires.first_le_past.1 c.requires.place_value c.store.ensures _ _ c.normalise.ensures c.unwrap-n.ensures

pub returns-in_err-reached : goal.returns-in_err-reached
returns-in_err-reached c =
    let a = c.args in
    let l = list_read a.scratch.now a.first a.past a.used a.place a.text.now c.requires.first_le_past.1 c.requires.place_value c.store.ensures
    (rw (normal_is a.scratch.now a.first a.past a.used a.place a.text.now c.requires.first_le_past.1 c.requires.place_value c.store.ensures _ _ c.normalise.ensures c.unwrap-n.ensures) at c.read_actions.ensures)
    (normal_count a.scratch.now a.first a.past a.used a.place a.text.now c.requires.first_le_past.1 c.requires.place_value c.store.ensures _ _ c.normalise.ensures c.unwrap-n.ensures) in
    let p = err_from_is_err_and c.from_residual.result c.from_residual.ensures.1 in
    rw (p.1, p.2) (rw c.in_err-reached.was at l)

pub returns : goal.returns
returns c =
    let a = c.args in
    let l = list_read a.scratch.now a.first a.past a.used a.place a.text.now c.requires.first_le_past.1 c.requires.place_value c.store.ensures
    (rw (normal_is a.scratch.now a.first a.past a.used a.place a.text.now c.requires.first_le_past.1 c.requires.place_value c.store.ensures _ _ c.normalise.ensures c.unwrap-n.ensures) at c.read_actions.ensures)
    (normal_count a.scratch.now a.first a.past a.used a.place a.text.now c.requires.first_le_past.1 c.requires.place_value c.store.ensures _ _ c.normalise.ensures c.unwrap-n.ensures) in
    rw c.in_ok-reached.was at l
