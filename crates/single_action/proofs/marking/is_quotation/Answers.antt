-- The first test decides, or else the second.
use borrow.Author.Tests.{ne_eqb}
use Rattle.single_action.specs.Marks.{quotation}
use Rattle.single_action.proofs.marking.is_quotation.Goals as goal

pub returns-then-b-eq34 : goal.returns-then-b-eq34
unfolding quotation
returns-then-b-eq34 c = rw c.if-b-eq34.true

pub returns-else-b-eq34 : goal.returns-else-b-eq34
unfolding quotation
returns-else-b-eq34 c = simp (ne_eqb c.args.b 34 c.if-b-eq34.false)
