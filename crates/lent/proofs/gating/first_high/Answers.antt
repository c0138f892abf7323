use mathlib.Core.Path.{sym}
use native.Mathlib.Omega.{arith}
use borrow.Author.Tests.{ltb-true, ltb-false}
use Rattle.lent.proofs.HighLaws.{high_here, high_later, high_end}
use Rattle.lent.proofs.gating.first_high.Goals as goal

pub returns-then-not-is_ascii : goal.returns-then-not-is_ascii
returns-then-not-is_ascii c =
    omega (arith, high_here c.args.s.now c.loop-i.i c.loop-i-test.true (ltb-false _ 128 (sym c.if-not-is_ascii.ensures)), c.loop-i.invariant)

pub loop-i-preserved : goal.loop-i-preserved
loop-i-preserved c =
    omega (arith, high_later c.args.s.now c.loop-i.i c.loop-i-test.true (ltb-true _ 128 (sym c.if-not-is_ascii.ensures)), c.loop-i.invariant)

pub returns : goal.returns
returns c = omega (arith, high_end c.args.s.now c.loop-i.i c.loop-i-test.false)
