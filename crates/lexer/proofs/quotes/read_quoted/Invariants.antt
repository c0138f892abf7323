-- The loop keeps `Quoting`: bytes passed and counted, text written, and room for what is still to come.
-- `quoting_span` says that a span keeps it, and `acted_on` and `acted_end` where the act of the byte behind it leads.
use Prim.Native.Nat.{◌-◌}
use lib.ListN.{length}
use Rattle.lexer.proofs.QuoteLaws.{Quoting}
use Rattle.lexer.proofs.quotes.read_quoted.Given as goal

abbrev pub invariant-loop-at : goal.invariant-loop-at
invariant-loop-at l = Quoting l.q l.s l.from l.initial.text l.reach.at l.reach.len l.feeds l.last l.reach.mode l.text

abbrev pub decreases-loop-at : goal.decreases-loop-at
decreases-loop-at l = length l.s - l.reach.at
