-- The fixed text stands first.
use mathlib.Core.Path.{◌∙◌}
use lib.ListN.{take}
use Rattle.ascii.specs.Text.{bytes}
use Rattle.single_action.proofs.JudgedLaws.{starts_same}
use Rattle.single_action.proofs.singles.is_transform.Goals as goal

pub returns : goal.returns
unfolding bytes
returns c = c.starts_with.ensures.value ∙ starts_same _ (take 2 c.args.s.now)
