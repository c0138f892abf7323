-- The loop keeps what ArgumentLaws calls `Going`; each way through it is one law there.
use Prim.Native.Nat.{◌-◌}
use lib.ListN.{length}
use Rattle.directives.proofs.ArgumentLaws.{Going}
use Rattle.directives.proofs.arguments.take_arguments.Given as goal

abbrev pub invariant-loop-next : goal.invariant-loop-next
invariant-loop-next l = Going l.s l.initial.here l.past l.held l.initial.scratch l.scratch l.here l.arguments

abbrev pub decreases-loop-next : goal.decreases-loop-next
decreases-loop-next l = length l.s - l.here.place
