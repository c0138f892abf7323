-- By whether every record is one that a reader could have made; each way is one law of EndLaws.
use native.Mathlib.Omega.{arith}
use Rattle.listing.proofs.EndLaws.{listing_strange, listing_put}
use Rattle.listing.proofs.writing.write_listing.Goals as goal

pub returns-then-count-room : goal.returns-then-count-room
returns-then-count-room c = listing_strange c.put_listing-rows.ensures (omega (arith, c.room.ensures, c.if-count-room.true)) (c.fill.ensures.after (λ y e. e))

pub returns : goal.returns
returns c = listing_put c.put_listing-rows.ensures (omega (arith, c.room.ensures, c.if-count-room.false)) c.finish.ensures
