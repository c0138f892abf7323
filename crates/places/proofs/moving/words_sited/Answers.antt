use mathlib.Core.Path.{refl}
use native.Mathlib.Omega.{arith}
use Rattle.places.proofs.WalkLaws.{start_stands}
use Rattle.places.proofs.MoveLaws.{resiting_none, resited_on, resited_short, resited_all}
use Rattle.places.proofs.moving.words_sited.Goals as goal
use Rattle.places.proofs.moving.words_sited.Goals.{then-records-i-via-then-records-i, then-records-i-via-else-records-i+then-records-i-2}

pub loop-init : goal.loop-init
loop-init c = let x = start_stands c.args.rule c.args.s.now c.args.k c.start-w.ensures in resiting_none x.0 x.1

pub returns-then-records-i : goal.returns-then-records-i
returns-then-records-i c =
    resited_short c.loop.invariant
    (elim c.then-records-i.branch [ then-records-i-via-then-records-i w ↦ omega arith | then-records-i-via-else-records-i+then-records-i-2 w ↦ omega arith ])

pub loop-preserved : goal.loop-preserved
loop-preserved c = resited_on c.loop.invariant _ refl c.loop-test.true c.requires.2 (omega (arith, c.if-records-i-2.false, c.if-records-i.false)) c.word_site.ensures

pub returns : goal.returns
returns c = resited_all c.loop.invariant c.loop-test.false
