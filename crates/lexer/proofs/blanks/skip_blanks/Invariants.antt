-- The loop keeps a cursor from which the same run ends at the same spot.
use Prim.Native.Nat.{◌-◌}
use lib.ListN.{length}
use Rattle.lexer.specs.Cursors.{cursor}
use Rattle.lexer.proofs.BlankLaws.{Skipping}
use Rattle.lexer.proofs.blanks.skip_blanks.Given as goal

abbrev pub invariant-loop-place : goal.invariant-loop-place
invariant-loop-place l = Skipping l.s (cursor l.initial.place l.initial.line.0 l.initial.column.0 l.initial.mark) 0 (cursor l.place l.line.0 l.column.0 l.mark)

abbrev pub decreases-loop-place : goal.decreases-loop-place
decreases-loop-place l = length l.s - l.place
