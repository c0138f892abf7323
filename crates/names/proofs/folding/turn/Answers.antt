-- No sum goes past its byte, so none goes past the word.
use native.Mathlib.Omega.{arith}
use lib.Bits.{and_le_r}
use Rattle.names.proofs.folding.turn.Goals as goal

pub overflow_add-among : goal.overflow_add-among
overflow_add-among c = omega (arith, and_le_r c.args.word 9187201950435737471)

pub overflow_add-among-2 : goal.overflow_add-among-2
overflow_add-among-2 c = omega (arith, and_le_r c.args.word 9187201950435737471)
