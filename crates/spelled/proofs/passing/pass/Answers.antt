use mathlib.Core.Path.{◌∙◌, sym, refl}
use native.Mathlib.Omega.{arith}
use Rattle.actions.specs.Pieces.{nest}
use Rattle.spelled.proofs.WalkLaws.{walk_lost, walk_on, passed_end}
use Rattle.spelled.proofs.passing.pass.Goals as goal

pub loop-at-init : goal.loop-at-init
loop-at-init c = (omega arith, (omega arith, refl))

pub step-requires : goal.step-requires
step-requires c = record { at_in_bounds = c.loop-at-test.true; depth_bound = omega (arith, c.loop-at.invariant.0, c.loop-at.invariant.1.0, c.requires, c.loop-at-test.true) }

pub returns-in_err-reached : goal.returns-in_err-reached
returns-in_err-reached c =
    let a = c.args in
    let l = c.loop-at in
    c.from_residual.ensures ∙ walk_lost a.from.mark a.from.depth a.t.now l.reached.mark l.reached.depth l.at l.invariant c.step.result c.step.ensures c.loop-at-test.true c.in_err-reached.was

pub loop-at-preserved : goal.loop-at-preserved
loop-at-preserved c =
    let a = c.args in
    let l = c.loop-at in
    walk_on a.from.mark a.from.depth a.t.now l.reached.mark l.reached.depth l.at l.invariant c.step.result c.step.ensures c.loop-at-test.true c.in_ok-reached.reached c.in_ok-reached.was

pub returns : goal.returns
returns c =
    let l = c.loop-at in
    sym (passed_end (nest l.reached.mark l.reached.depth) c.args.t.now l.at c.loop-at-test.false) ∙ l.invariant.1.1
