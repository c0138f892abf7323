-- A byte past the blank is in none of the class's ranges.
use mathlib.Core.Path.{◌∙◌, sym}
use borrow.Author.Tests.{lt-leb}
use Rattle.operators.proofs.NameLaws.{past_blank}
use Rattle.operators.proofs.finding.stops_name.Goals as goal

pub returns-else-b-le32 : goal.returns-else-b-le32
returns-else-b-le32 c = lt-leb _ _ c.if-b-le32.false ∙ sym (past_blank c.args.b c.if-b-le32.false)
