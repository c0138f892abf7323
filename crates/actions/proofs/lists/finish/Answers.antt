-- The answer is by what lent's ending tells.
use Rattle.actions.proofs.lists.finish.Goals as goal

pub returns-then-finish : goal.returns-then-finish
returns-then-finish c = record { full = c.finish.result; finished = c.finish.ensures; answer = rw c.if-finish.true }

pub returns : goal.returns
returns c = record { full = c.finish.result; finished = c.finish.ensures; answer = rw c.if-finish.false }
