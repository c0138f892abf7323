use native.Mathlib.Omega.{arith}
use lib.ListN.{get_or}
use Rattle.lexer.specs.Spans.{PlainByte}
use Rattle.lexer.proofs.QuoteSpanLaws.{copying_one}
use Rattle.lexer.proofs.quotes.copy_plain.Goals as goal
use Rattle.lexer.proofs.quotes.copy_plain.Goals.{Else-b-eq92, else-b-top-via-then-b-top+else-b-eq10, else-b-top-via-else-b-top}

-- a byte that passed the tests
plain : (c : Else-b-eq92) → PlainByte c.args.q (get_or c.args.s.now c.loop-at.at 0)
plain c =
    elim c.else-b-top.branch [
      | else-b-top-via-then-b-top+else-b-eq10 w ↦ record { no_mark = w.if-b-eq10.false.0; no_slash = c.if-b-eq92.false; no_feed = w.if-b-eq10.false.1 }
      | else-b-top-via-else-b-top w ↦ record { no_mark = λ e. omega (arith, w.if-b-top, c.max-top.ensures); no_slash = c.if-b-eq92.false; no_feed = λ e. omega (arith, w.if-b-top, c.max-top.ensures) }
    ]

pub loop-at-preserved : goal.loop-at-preserved
loop-at-preserved c = copying_one c.loop-at.invariant c.loop-at-test.true (plain (goal.at.loop-at-preserved c).Else-b-eq92)
