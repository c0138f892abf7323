use mathlib.Core.Path.{◌≡◌}
use Prim.Native.Nat.{◌+◌, ◌-◌}
use native.Mathlib.Omega.{arith}
use lib.ListN.{drop, length-drop}
use lib.Seq.{drop-drop}
use Rattle.ascii.proofs.LackLaws.{past}
use Rattle.ascii.proofs.searching.passed.Goals as goal

pub loop-at-preserved : goal.loop-at-preserved
loop-at-preserved c =
    let x = c.args in
    let at = c.loop-at.at in
    let n : at + x.n - at ≡ x.n = omega arith in
    let p = past x.m (drop at x.s.now) x.n (rw length-drop (omega arith)) (rw n at (c.lacks.ensures c.if-lacks.true)) in
    (omega arith, omega (arith, rw drop-drop at p))
