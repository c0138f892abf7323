use mathlib.Core.Path.{◌≡◌, ◌∙◌, ap}
use Prim.Native.Nat.{◌+◌, ◌≤◌}
use native.Mathlib.Omega.{arith}
use lib.ListN.{length, drop, get_or}
use Rattle.ascii.specs.Splits.{first_of}
use Rattle.ascii.proofs.ListLaws.{rest_is}
use Rattle.actions.proofs.QuoteLaws.{Cutting, cutting_none, cutting_end, cutting_stop, cutting_opened, cutting_shut, cutting_deep, cutting_other, cutting_open, cutting_closed, run_fits, mark_is}
use Rattle.actions.proofs.cutting.part_end.Goals as goal
use Rattle.actions.proofs.cutting.part_end.Goals.{After-first_of, Joined-b, in-34+else-s-at, in-40, in-41, in-44+else-depth-eq0, in_default-1}

-- the bytes up to the next mark
run_is : (c : After-first_of) → let s = c.args.s.now in let at = c.loop-at.at in c.first_of.result ≡ first_of (get_or s at 0) (drop (at + 1) s)
run_is c =
    let s = c.args.s.now in
    let at = c.loop-at.at in
    c.first_of.ensures ∙ ap (first_of (get_or s at 0)) (rest_is s (at + 1))

pub loop-at-init : goal.loop-at-init
loop-at-init c = cutting_none _ _ c.requires

pub bounds-s-at : goal.bounds-s-at
bounds-s-at c = omega arith

pub slice_bounds-first_of-count : goal.slice_bounds-first_of-count
slice_bounds-first_of-count c = omega arith

run_ends : (c : After-first_of) → c.loop-at.at + (1 + c.first_of.result) ≤ length c.args.s.now
run_ends c = run_fits c.loop-at.invariant c.loop-at-test.true (mark_is _ c.in-34.is) _ (run_is c)

pub overflow_add-at-in-34 : goal.overflow_add-at-in-34
overflow_add-at-in-34 c = omega (arith, run_ends (goal.at.overflow_add-at-in-34 c).After-first_of)

pub overflow_add-at-in-34-2 : goal.overflow_add-at-in-34-2
overflow_add-at-in-34-2 c = omega (arith, run_ends (goal.at.overflow_add-at-in-34-2 c).After-first_of)

pub returns-then-s-at : goal.returns-then-s-at
returns-then-s-at c =
    cutting_open c.loop-at.invariant c.loop-at-test.true (mark_is _ c.in-34.is) _ (run_is (goal.at.returns-then-s-at c).After-first_of) c.if-s-at.true

pub overflow_add-depth : goal.overflow_add-depth
overflow_add-depth c = omega (arith, c.loop-at.invariant.shallow)

pub returns-in-44 : goal.returns-in-44
returns-in-44 c = cutting_stop c.loop-at.invariant c.loop-at-test.true c.in-44.is c.if-depth-eq0.true

-- by the arm that the byte took
turned : (c : Joined-b) → let a = c.args in (c.loop-at.at ≤ c.match-b.at) × Cutting a.s.now a.from (c.match-b.at + 1) c.match-b.depth
turned c =
    let x = c.loop-at.invariant in
    let h = c.loop-at-test.true in
    let s = c.args.s.now in
    let at = c.loop-at.at in
    elim c.match-b.branch [
      | in-34+else-s-at w ↦
          rw (w.at-is, w.depth-is) (omega arith, cutting_closed x h (mark_is _ w.in-34.is) _ (w.first_of.ensures ∙ ap (first_of (get_or s at 0)) (rest_is s (at + 1))) w.if-s-at.false)
      | in-40 w ↦ rw (w.at-is, w.depth-is) (omega arith, cutting_opened x h w.in-40.is)
      | in-41 w ↦ rw (w.at-is, w.depth-is, w.saturating_sub-depth.ensures) (omega arith, cutting_shut x h w.in-41.is)
      | in-44+else-depth-eq0 w ↦ rw (w.at-is, w.depth-is) (omega arith, cutting_deep x h w.in-44.is w.if-depth-eq0.false)
      | in_default-1 w ↦ rw (w.at-is, w.depth-is) (omega arith, cutting_other x h (grind arith) (grind arith) (omega arith) (omega arith) (omega arith))
    ]

pub overflow_add-at-in-loop-at : goal.overflow_add-at-in-loop-at
overflow_add-at-in-loop-at c = omega (arith, (turned (goal.at.overflow_add-at-in-loop-at c).Joined-b).1.inside)

pub loop-at-smaller : goal.loop-at-smaller
loop-at-smaller c = omega (arith, (turned (goal.at.loop-at-smaller c).Joined-b).0, c.loop-at-test.true)

pub loop-at-preserved : goal.loop-at-preserved
loop-at-preserved c = (turned (goal.at.loop-at-preserved c).Joined-b).1

pub returns : goal.returns
returns c = cutting_end c.loop-at.invariant c.loop-at-test.false
