-- What store_bytes promises, with the count.
use Rattle.listing.proofs.PutLaws.{put_stored}
use Rattle.listing.proofs.putting.put_bytes.Goals as goal

pub returns : goal.returns
returns c = put_stored _ _ _ _ c.store.ensures
