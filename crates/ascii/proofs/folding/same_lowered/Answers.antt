use mathlib.Core.Path.{◌∙◌, sym}
use native.Mathlib.Omega.{arith}
use Rattle.ascii.proofs.FoldLaws.{lengths_differ, bytes_differ, bytes_equal, both_end}
use Rattle.ascii.proofs.folding.same_lowered.Goals as goal

pub returns-then-a-b : goal.returns-then-a-b
returns-then-a-b c = sym (lengths_differ c.args.a.now c.args.b.now c.if-a-b.true)

pub returns-then-to_lower-b : goal.returns-then-to_lower-b
returns-then-to_lower-b c =
    let s = c.args in
    let l = c.loop-i in
    sym (bytes_differ s.a.now s.b.now l.i c.loop-i-test.true (omega arith) (λ e. c.if-to_lower-b.true (c.to_lower.ensures ∙ e)))
    ∙ l.invariant.1

pub loop-i-preserved : goal.loop-i-preserved
loop-i-preserved c =
    let s = c.args in
    let l = c.loop-i in
    let e = sym c.to_lower.ensures ∙ c.if-to_lower-b.false in
    (l.invariant.0, sym (bytes_equal s.a.now s.b.now l.i c.loop-i-test.true (omega arith) e) ∙ l.invariant.1)

pub returns : goal.returns
returns c =
    let s = c.args in
    let l = c.loop-i in
    sym (both_end s.a.now s.b.now l.i c.loop-i-test.false (omega arith)) ∙ l.invariant.1
