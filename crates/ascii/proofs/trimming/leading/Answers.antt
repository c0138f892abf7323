use mathlib.Core.Path.{◌∙◌, sym}
use native.Mathlib.Omega.{arith}
use Rattle.ascii.proofs.TrimLaws.{leading_more, leading_stop, leading_end}
use Rattle.ascii.proofs.trimming.leading.Goals as goal

pub returns-then-not-passes : goal.returns-then-not-passes
returns-then-not-passes g c =
    let s = c.args.s.now in
    let i = c.loop-i.i in
    let w = sym c.passes.ensures ∙ c.if-not-passes.true in
    omega (arith, leading_stop g.T.ByteTest.test s i c.loop-i-test.true w, c.loop-i.invariant)

pub loop-i-preserved : goal.loop-i-preserved
loop-i-preserved g c =
    let s = c.args.s.now in
    let i = c.loop-i.i in
    let w = sym c.passes.ensures ∙ c.if-not-passes.false in
    omega (arith, leading_more g.T.ByteTest.test s i c.loop-i-test.true w, c.loop-i.invariant)

pub returns : goal.returns
returns g c = omega (arith, leading_end g.T.ByteTest.test c.args.s.now c.loop-i.i c.loop-i-test.false, c.loop-i.invariant)
