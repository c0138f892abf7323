-- The loop keeps that only blanks are passed.
use Rattle.lexer.specs.Spans.{Every, BlankByte}
use Rattle.lexer.proofs.quotes.margin_end.Given as goal

abbrev pub invariant-loop-at : goal.invariant-loop-at
invariant-loop-at l = Every BlankByte l.s l.from l.at
