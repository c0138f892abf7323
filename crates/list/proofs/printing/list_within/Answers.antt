-- The library's line of a text within the program's limit, with room for all that it holds.
use native.Mathlib.Omega.{arith}
use Rattle.listing.proofs.PrintLaws.{within_prints}
use Rattle.list.proofs.printing.list_within.Goals as goal

pub returns : goal.returns
returns c = within_prints c.list_text.ensures c.requires (omega arith) (omega arith)
