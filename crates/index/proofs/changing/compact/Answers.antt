use Rattle.index.proofs.TakenLaws.{compact_end}
use Rattle.index.proofs.changing.compact.Goals as goal

pub returns : goal.returns
returns c = compact_end c.args.selector c.requires (rw c.least.ensures at c.smaller-low.ensures) c.past_taken-high.ensures c.close.ensures
