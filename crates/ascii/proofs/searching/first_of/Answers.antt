use native.Mathlib.Omega.{arith}
use lib.ListN.{get_or}
use Rattle.ascii.proofs.TrimLaws.{leading_more, leading_stop, leading_end}
use Rattle.ascii.specs.Splits.{other}
use Rattle.ascii.proofs.SplitLaws.{passes, stops}
use Rattle.ascii.proofs.searching.first_of.Goals as goal

pub loop-i-init : goal.loop-i-init
loop-i-init c = omega (arith, c.passed-fours.ensures.s_value, c.passed-eights.ensures.s_value)

pub returns-then-s-i : goal.returns-then-s-i
returns-then-s-i c =
    let s = c.args.s.now in
    let m = c.args.m in
    let i = c.loop-i.i in
    omega (arith, leading_stop (other m) s i c.loop-i-test.true (stops m (get_or s i 0) c.if-s-i.true))

pub loop-i-preserved : goal.loop-i-preserved
loop-i-preserved c =
    let s = c.args.s.now in
    let m = c.args.m in
    let i = c.loop-i.i in
    omega (arith, leading_more (other m) s i c.loop-i-test.true (passes m (get_or s i 0) c.if-s-i.false))

pub returns : goal.returns
returns c = omega (arith, leading_end (other c.args.m) c.args.s.now c.loop-i.i c.loop-i-test.false)
