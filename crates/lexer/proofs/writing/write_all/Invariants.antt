-- The loop keeps that the tokens found so far are in the buffers; each need is one law of WholeLaws.
use Prim.Native.Nat.{◌-◌}
use lib.ListN.{length}
use Rattle.lexer.proofs.WholeLaws.{Sofar}
use Rattle.lexer.proofs.writing.write_all.Given as goal

abbrev pub invariant-loop-stop : goal.invariant-loop-stop
invariant-loop-stop l = Sofar l.s l.initial.text l.initial.records l.text l.records l.here l.used l.count l.at

abbrev pub decreases-loop-stop : goal.decreases-loop-stop
decreases-loop-stop l = length l.s - l.here.place
