-- The loop keeps `Normalising`: what is read, written and still held back.
-- `passed_on` says that a plain span keeps it, and the laws of `NormalActLaws` where the act of the byte behind it leads.
use Prim.Native.Nat.{◌-◌}
use lib.ListN.{length}
use Rattle.actions.proofs.NormalLoop.{Normalising}
use Rattle.actions.proofs.normalising.put_normal.Given as goal

abbrev pub invariant-loop-mode : goal.invariant-loop-mode
invariant-loop-mode l = Normalising l.s l.initial.out l.out l.mode l.i l.n

abbrev pub decreases-loop-mode : goal.decreases-loop-mode
decreases-loop-mode l = length l.s - l.i
