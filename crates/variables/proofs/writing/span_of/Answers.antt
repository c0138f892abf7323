-- With no text it is 0.
use Rattle.variables.proofs.writing.span_of.Goals as goal

pub returns-in-Some : goal.returns-in-Some
returns-in-Some c = rw c.in-Some.is c.span.ensures
