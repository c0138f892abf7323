-- Both sides of the test.
use borrow.Author.Tests.{lt-ltb, le-ltb}
use Rattle.listing.specs.Listings.{stop_at}
use Rattle.listing.proofs.writing.stop_at.Goals as goal

pub returns-then-place-len : goal.returns-then-place-len
unfolding stop_at
returns-then-place-len c = rw (lt-ltb _ _ c.if-place-len.true)

pub returns : goal.returns
unfolding stop_at
returns c = rw (le-ltb _ _ c.if-place-len.false)
