-- A record that was read is written where it is kept and ends within the limit; each way is one law of RecordLaws.
use mathlib.Core.Path.{◌∙◌, refl, sym, ap}
use native.Mathlib.Omega.{arith}
use lib.ListN.{length}
use Rattle.listing.proofs.ElementLaws.{comma_length}
use Rattle.spelled.specs.Steps.{mark_for}
use Rattle.spelled.proofs.RecordLaws.{texts_cut, code_low, entry_holds, placed_there, past_there, shown_there, row_unwritten, row_long, row_put}
use Rattle.spelled.proofs.writing.put_record.Goals as goal

pub rule_for-rule-requires : goal.rule_for-rule-requires
rule_for-rule-requires c = code_low (placed_there c.read_entry.ensures c.in_ok-e.was)

pub slice_bounds-mark_for-count : goal.slice_bounds-mark_for-count
slice_bounds-mark_for-count c = let x = placed_there c.read_entry.ensures c.in_ok-e.was in omega (arith, x.ascends)

pub slice_bounds-mark_for-start : goal.slice_bounds-mark_for-start
slice_bounds-mark_for-start c = let x = placed_there c.read_entry.ensures c.in_ok-e.was in omega (arith, x.ascends, x.inside)

pub slice_bounds-mark_for-end : goal.slice_bounds-mark_for-end
slice_bounds-mark_for-end c = let x = placed_there c.read_entry.ensures c.in_ok-e.was in omega (arith, x.ascends, x.inside)

pub is_kept-requires : goal.is_kept-requires
is_kept-requires c = placed_there c.read_entry.ensures c.in_ok-e.was

pub returns-then-not-is_kept : goal.returns-then-not-is_kept
returns-then-not-is_kept c =
    let x = placed_there c.read_entry.ensures c.in_ok-e.was in
    row_unwritten (length c.args.text.now) c.args.offset _ _ _ _ c.args.out.now c.args.out.now (shown_there c.read_entry.ensures c.in_ok-e.was) (entry_holds x _ c.rule_for-rule.ensures c.mark_for-mark.ensures ∙ sym c.is_kept.ensures ∙ c.if-not-is_kept.true) refl

pub put_entry-end-requires : goal.put_entry-end-requires
put_entry-end-requires c =
    let x = placed_there c.read_entry.ensures c.in_ok-e.was in
    record {
      placed = x;
      code_bound = (code_low x, c.rule_for-rule.ensures);
      mark_value = c.mark_for-mark.ensures ∙ ap (mark_for c.rule_for-rule.result) (sym (texts_cut x));
      at_bound = omega (arith, c.put_comma-next.ensures.next_is, comma_length c.args.count, c.requires);
    }

pub returns-then-end-gt-LIMIT : goal.returns-then-end-gt-LIMIT
returns-then-end-gt-LIMIT c = row_long (length c.args.text.now) c.args.offset _ _ _ _ _ _ (shown_there c.read_entry.ensures c.in_ok-e.was) c.put_comma-next.ensures c.put_entry-end.ensures c.if-end-gt-LIMIT.true

pub returns : goal.returns
returns c =
    let x = placed_there c.read_entry.ensures c.in_ok-e.was in
    row_put (length c.args.text.now) c.args.offset _ _ _ _ _ _ (shown_there c.read_entry.ensures c.in_ok-e.was) c.put_comma-next.ensures c.put_entry-end.ensures
    (entry_holds x _ c.rule_for-rule.ensures c.mark_for-mark.ensures ∙ sym c.is_kept.ensures ∙ c.if-not-is_kept.false)
    c.if-end-gt-LIMIT.false
    (past_there c.read_entry.ensures c.in_ok-e.was)
    x.inside
    x.near
