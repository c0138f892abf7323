use native.Mathlib.Omega.{arith}
use Rattle.ascii.specs.Splits.{other}
use Rattle.ascii.proofs.TrimLaws.{leading_end}
use Rattle.ascii.proofs.LackLaws.{lacked, met}
use Rattle.ascii.proofs.searching.lacks.Goals as goal
use Rattle.ascii.proofs.searching.lacks.Goals.{then-b-m, else-b-m}

pub loop-b-preserved : goal.loop-b-preserved
loop-b-preserved c =
    let x = c.args in
    let l = c.loop-b in
    elim c.if-b-m.branch [
      | then-b-m w ↦ rw w.none-is (met x.m x.part.now l.b-index)
      | else-b-m w ↦ rw w.none-is (lacked x.m x.part.now l.b-index l.none c.loop-b-test.true w.if-b-m.false l.invariant)
    ]

pub returns : goal.returns
returns c = λ e. omega (arith, c.loop-b.invariant e, leading_end (other c.args.m) c.args.part.now c.loop-b.b-index c.loop-b-test.false)
