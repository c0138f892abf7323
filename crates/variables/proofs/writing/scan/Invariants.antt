-- The loop keeps that what was read is written and decides the rest; each need is one law of ScanLaws.
use Prim.Native.Nat.{◌+◌, ◌-◌}
use lib.ListN.{length}
use Rattle.variables.proofs.ScanLaws.{Sofar}
use Rattle.variables.proofs.writing.scan.Given as goal

abbrev pub invariant-loop-first : goal.invariant-loop-first
invariant-loop-first l =
    Sofar l.exclusions l.s l.offset l.place l.initial.text l.initial.records l.text l.records l.at l.variables l.excluded l.used

abbrev pub decreases-loop-first : goal.decreases-loop-first
decreases-loop-first l =
    length l.s + 1 - l.at
