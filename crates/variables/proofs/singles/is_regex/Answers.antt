-- Each way out is one law.
use mathlib.Core.Path.{◌∙◌}
use borrow.Author.Tests.{ne_eqb}
use Rattle.variables.proofs.SingleLaws.{short_no_regex, slash_first, other_first}
use Rattle.variables.proofs.singles.is_regex.Goals as goal

pub returns-then-t-le2 : goal.returns-then-t-le2
returns-then-t-le2 c = short_no_regex c.args.t.now c.if-t-le2.true

pub returns-then-t-eq47 : goal.returns-then-t-eq47
returns-then-t-eq47 c = slash_first c.args.t.now c.if-t-le2.false c.if-t-eq47.true

pub returns-else-t-eq47 : goal.returns-else-t-eq47
returns-else-t-eq47 c = ne_eqb _ 47 c.if-t-eq47.false ∙ other_first c.args.t.now c.if-t-eq47.false
