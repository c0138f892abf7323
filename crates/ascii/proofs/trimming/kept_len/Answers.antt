use mathlib.Core.Path.{◌∙◌, sym}
use native.Mathlib.Omega.{arith}
use Rattle.ascii.proofs.TrimLaws.{end_passing, end_other, end_none, end_found}
use Rattle.ascii.proofs.trimming.kept_len.Goals as goal

pub returns-then-not-passes : goal.returns-then-not-passes
returns-then-not-passes g c =
    let s = c.args.s.now in
    let n = c.loop-last.last in
    let w = sym c.passes.ensures ∙ c.if-not-passes.true in
    omega (arith, end_found g.T.ByteTest.test s n (omega arith) (end_other g.T.ByteTest.test s n (omega arith) (omega arith) w) c.loop-last.invariant)

pub loop-last-preserved : goal.loop-last-preserved
loop-last-preserved g c =
    let s = c.args.s.now in
    let n = c.loop-last.last in
    let w = sym c.passes.ensures ∙ c.if-not-passes.false in
    sym (end_passing g.T.ByteTest.test s n (omega arith) (omega arith) w) ∙ c.loop-last.invariant

pub returns : goal.returns
returns g c =
    let s = c.args.s.now in
    let n = c.loop-last.last in
    omega (arith, end_found g.T.ByteTest.test s n (omega arith) (end_none g.T.ByteTest.test s n (omega arith)) c.loop-last.invariant)
