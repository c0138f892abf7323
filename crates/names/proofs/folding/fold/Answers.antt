-- Each arm is the fold that its flag names.
use Rattle.names.proofs.FoldLaws.{capitals_fold, small_fold}
use Rattle.names.proofs.folding.fold.Goals as goal

pub returns-then-capitals : goal.returns-then-capitals
returns-then-capitals c = rw (c.if-capitals.true, c.turn.ensures) (capitals_fold c.args.word)

pub returns-else-capitals : goal.returns-else-capitals
returns-else-capitals c = rw (c.if-capitals.false, c.turn-else-capitals.ensures) (small_fold c.args.word)
