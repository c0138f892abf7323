-- Each arm of the match is the test that it stands for.
use mathlib.Core.Path.{refl}
use native.Mathlib.Omega.{arith}
use borrow.Author.Tests.{ne_eqb}
use Rattle.actions.specs.Normal.{text_given, mode_after}
use Rattle.actions.proofs.normalising.held_act.Goals as goal

pub returns-in-10 : goal.returns-in-10
unfolding text_given mode_after
returns-in-10 c = rw c.in-10.is (refl, refl)

pub returns-in-13 : goal.returns-in-13
unfolding text_given mode_after
returns-in-13 c = rw c.in-13.is (refl, refl)

pub returns-in-92 : goal.returns-in-92
unfolding text_given mode_after
returns-in-92 c = rw c.in-92.is (refl, refl)

pub returns-in_default : goal.returns-in_default
unfolding text_given mode_after
returns-in_default c =
    let b = c.args.b in
    simp (ne_eqb b 10 (omega arith), ne_eqb b 13 (omega arith), ne_eqb b 92 (omega arith)) (refl, refl)
