-- By the mode: each arm is the row of the definitions for it.
use mathlib.Core.Path.{refl}
use borrow.Author.Tests.{ne_eqb}
use Rattle.actions.specs.Normal.{text_given, mode_after}
use Rattle.actions.proofs.normalising.act_of.Goals as goal

pub returns-then-b-eq10 : goal.returns-then-b-eq10
unfolding text_given mode_after
returns-then-b-eq10 c = rw c.in-AfterCr.is (rw c.if-b-eq10.true (refl, refl))

pub returns-in-Plain : goal.returns-in-Plain
unfolding text_given mode_after
returns-in-Plain c = rw c.in-Plain.is c.plain_act.ensures

pub returns-in-Held : goal.returns-in-Held
unfolding text_given mode_after
returns-in-Held c = rw c.in-Held.is c.held_act.ensures

pub returns-else-b-eq10 : goal.returns-else-b-eq10
unfolding text_given mode_after
returns-else-b-eq10 c =
    let b = c.args.b in
    let n = ne_eqb b 10 c.if-b-eq10.false in
    rw c.in-AfterCr.is (simp n (simp n at c.margin_act.ensures))

pub returns-in-Margin : goal.returns-in-Margin
unfolding text_given mode_after
returns-in-Margin c = rw c.in-Margin.is c.margin_act-in-Margin.ensures
