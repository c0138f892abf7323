-- None before the first.
use borrow.Author.Tests.{eq-eqb, ne_eqb}
use Rattle.listing.proofs.PutLaws.{put_none}
use Rattle.spelled.proofs.writing.put_comma.Goals as goal

pub returns-then-count-eq0 : goal.returns-then-count-eq0
returns-then-count-eq0 c = rw (eq-eqb _ 0 c.if-count-eq0.true) (put_none _ _)

pub returns : goal.returns
returns c = rw (ne_eqb _ 0 c.if-count-eq0.false) c.put_byte.ensures
