-- The loop keeps `Copying`: only plain bytes are passed, and they stand in the buffer.
use Rattle.lexer.proofs.QuoteSpanLaws.{Copying}
use Rattle.lexer.proofs.quotes.copy_plain.Given as goal

abbrev pub invariant-loop-at : goal.invariant-loop-at
invariant-loop-at l = Copying l.q l.s l.from l.n l.initial.text l.at l.text
