-- By what is done with exclusions, then by whether there is a variable.
use borrow.Author.Tests.{eq-eqb, ne_eqb}
use Rattle.variables.proofs.parsing.kept.Goals as goal

pub returns-in-AsWritten : goal.returns-in-AsWritten
returns-in-AsWritten c = rw (c.in-AsWritten.is, eq-eqb _ 0 c.if-variables-eq0.true)

pub returns-in_default : goal.returns-in_default
returns-in_default c = rw (c.in-AsWritten.is, ne_eqb _ 0 c.if-variables-eq0.false)

pub returns-in_default-2 : goal.returns-in_default-2
returns-in_default-2 c = rw c.in_default.is
