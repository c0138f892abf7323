-- Over the program's limit its own refusal, else the library's line.
use Rattle.listing.proofs.PrintLaws.{over_prints}
use Rattle.list.proofs.printing.list_any.Goals as goal

pub returns-then-input-gt-LIST_LIMIT : goal.returns-then-input-gt-LIST_LIMIT
returns-then-input-gt-LIST_LIMIT c = over_prints _ c.write_refusal_line.ensures c.if-input-gt-LIST_LIMIT.true
