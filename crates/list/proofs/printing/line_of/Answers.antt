-- With room for the longest line, it is written.
use Rattle.listing.proofs.PrintLaws.{printed_written, printed_ok}
use Rattle.list.proofs.printing.line_of.Goals as goal

pub unwrap-requires : goal.unwrap-requires
unwrap-requires c = rw (printed_ok _ c.requires c.list_any.ensures).1

pub returns : goal.returns
returns c = let k = printed_written _ c.requires c.list_any.ensures _ c.unwrap.ensures in record { inside = k.0; line = k.1 }
