-- The loop keeps that the actions read so far are in the buffers; each need is one law of GoingLaws.
use Prim.Native.Nat.{◌+◌, ◌-◌}
use lib.ListN.{length, drop}
use Rattle.actions.specs.Pieces.{pieces_from}
use Rattle.actions.proofs.GoingLaws.{Going}
use Rattle.actions.proofs.lists.write_actions.Given as goal

abbrev pub invariant-loop-piece : goal.invariant-loop-piece
invariant-loop-piece l = Going l.s l.offset l.place l.initial.text l.initial.records l.text l.records (pieces_from l.from (drop l.from l.s)) l.from l.used l.count l.at l.id l.chain

abbrev pub decreases-loop-piece : goal.decreases-loop-piece
decreases-loop-piece l = length l.s + 1 - l.from
