-- Behind it stands nothing.
use Rattle.spelled.proofs.putting.put_byte.Goals as goal

pub returns : goal.returns
returns c = c.put_after.ensures
