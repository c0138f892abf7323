-- The loop keeps that the run goes on where it stands, and that no line feed was passed.
use Rattle.lexer.specs.Rules.{comment}
use Rattle.lexer.proofs.LoopLaws.{Counted, Going}
use Rattle.lexer.proofs.comments.skip_comment.Given as goal

abbrev pub invariant-loop-at : goal.invariant-loop-at
invariant-loop-at l = Counted l.s l.from l.at 0 l.from × Going comment 0 l.s l.from 0 l.at
