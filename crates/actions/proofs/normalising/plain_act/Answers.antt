-- Each way out is the test that it stands for.
use mathlib.Core.Path.{refl}
use borrow.Author.Tests.{ne_eqb}
use Rattle.actions.specs.Normal.{text_given, mode_after}
use Rattle.actions.proofs.normalising.plain_act.Goals as goal

pub returns-then-b-eq92 : goal.returns-then-b-eq92
unfolding text_given mode_after
returns-then-b-eq92 c = rw c.if-b-eq92.true (refl, refl)

pub returns-else-b-eq92 : goal.returns-else-b-eq92
unfolding text_given mode_after
returns-else-b-eq92 c = simp (ne_eqb c.args.b 92 c.if-b-eq92.false) (refl, refl)
