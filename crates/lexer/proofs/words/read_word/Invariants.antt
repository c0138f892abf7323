-- The loop keeps what the laws of a run keep: the line feeds, the run to come and the text so far. A backslash with its line end
-- is passed byte by byte, the line end's bytes being owed.
use Prim.Native.Nat.{◌-◌}
use lib.ListN.{length}
use Rattle.lexer.proofs.WordLaws.{Inv}
use Rattle.lexer.proofs.words.read_word.Given as goal

abbrev pub invariant-loop-at : goal.invariant-loop-at
invariant-loop-at l = Inv l.s l.from l.initial.text l.text l.at l.n l.feeds l.last

abbrev pub decreases-loop-at : goal.decreases-loop-at
decreases-loop-at l = length l.s - l.at
