-- The word of the bytes passed, from the last one back.
use Prim.Native.Nat.{◌+◌, ◌-◌, ◌≤◌}
use lib.ListN.{take, drop}
use Rattle.names.specs.Words.{Packed}
use Rattle.names.proofs.wording.up_to_eight.Given as goal

abbrev pub invariant-loop-k : goal.invariant-loop-k
invariant-loop-k l = (l.k ≤ l.n) × Packed (take (l.n - l.k) (drop (l.at + l.k) l.s)) l.word
