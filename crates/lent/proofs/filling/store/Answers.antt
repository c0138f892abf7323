use borrow.Author.Rules.{rules}
use Rattle.lent.proofs.LoopLaws.{storing_read}
use Rattle.lent.proofs.filling.store.Goals as goal

pub loop-i-preserved : goal.loop-i-preserved
loop-i-preserved g c = search (rules, storing_read)
