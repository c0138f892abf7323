-- The loop keeps that the exclusions passed are written, and are no more than are kept; each need is one law of ScanLaws.
use Prim.Native.Nat.{◌+◌, ◌-◌, ◌≤◌}
use lib.ListN.{length}
use Rattle.variables.proofs.ScanLaws.{Adding}
use Rattle.variables.proofs.writing.add_exclusions.Given as goal

abbrev pub invariant-loop-count : goal.invariant-loop-count
invariant-loop-count l = Adding l.s l.offset l.place l.initial.text l.initial.records l.text l.records l.at l.used l.count × (l.count ≤ l.place + l.kept)

abbrev pub decreases-loop-count : goal.decreases-loop-count
decreases-loop-count l = length l.s + 1 - l.at
