-- The loop keeps the pieces still to come; each turn is one law of PlaceLaws.
use mathlib.Core.Path.{◌≡◌}
use Prim.Native.Nat.{◌≤◌, ◌-◌}
use lib.ListN.{length, drop}
use Rattle.variables.specs.Parts.{pieces_from}
use Rattle.variables.proofs.finding.next_piece.Given as goal

abbrev pub invariant-loop-at : goal.invariant-loop-at
invariant-loop-at l = (l.from ≤ l.at) × (pieces_from l.at (drop l.at l.s) ≡ pieces_from l.from (drop l.from l.s))

abbrev pub decreases-loop-at : goal.decreases-loop-at
decreases-loop-at l = length l.s - l.at
