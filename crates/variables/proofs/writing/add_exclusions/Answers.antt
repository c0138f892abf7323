use mathlib.Core.Path.{◌≡◌}
use native.Mathlib.Omega.{arith}
use Rattle.variables.proofs.ScanLaws.{add_begun, add_ended_kept, add_done, add_passed, add_lies, add_turned, piece_long}
use Rattle.variables.proofs.writing.add_exclusions.Goals as goal

pub loop-count-init : goal.loop-count-init
loop-count-init c =
    let a = c.args in
    (add_begun a.s.now a.text.now a.records.now a.offset a.place, omega arith)

pub returns-in_default : goal.returns-in_default
returns-in_default c =
    let kept = c.args.kept in
    add_ended_kept c.loop-count.invariant.0 kept
    (λ (z : kept ≡ 0). omega (arith, c.loop-count-test.true))
    (rw c.in_default.is at c.next_piece.ensures)

pub put-used-requires : goal.put-used-requires
put-used-requires c =
    let p = c.in-Some.ensures in
    record {
      lies = add_lies c.loop-count.invariant.0 _ _ _ p;
      used_bound = (omega (arith, c.loop-count.invariant.0.used_low, p.begun, p.some, p.before, p.inside, c.requires.s_len_bound, c.requires.offset_bound), omega (arith, c.loop-count.invariant.0.count_low, p.begun, p.some, p.before, p.inside, c.requires.s_len_bound, c.requires.offset_bound));
      at_le_limit = (omega (arith, c.requires.s_len_bound, p.begun, p.some, p.before, p.inside), omega (arith, c.requires.s_len_bound, piece_long c.loop-count.invariant.0 _ _ _ p, p.before, p.inside));
    }

pub loop-count-preserved-then-s-first-eq33 : goal.loop-count-preserved-then-s-first-eq33
loop-count-preserved-then-s-first-eq33 c = (
  add_turned c.loop-count.invariant.0 _ _ _ c.in-Some.ensures c.if-s-first-eq33.true _ _ c.put-used.ensures.text_after c.put-used.ensures.records_after c.put-used.ensures.value,
  omega (arith, c.before.loop-count-test.true),
)

pub loop-count-preserved : goal.loop-count-preserved
loop-count-preserved c =
    let l = c.loop-count in
    (add_passed l.invariant.0 _ _ _ c.in-Some.ensures c.if-s-first-eq33.false, l.invariant.1)

pub returns : goal.returns
returns c =
    let l = c.loop-count in
    add_done l.invariant.0 _ c.requires.all_or_none (omega (arith, c.loop-count-test.false, l.invariant.1, l.invariant.0.wrote.count_is))
