-- What was put, and the end.
use Rattle.listing.proofs.EndLaws.{finished}
use Rattle.listing.proofs.writing.write_refusal.Goals as goal

pub returns : goal.returns
returns c = finished c.put_refusal-end.ensures c.finish.ensures
