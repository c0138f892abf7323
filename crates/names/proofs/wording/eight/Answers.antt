-- Two halves, each within its width.
use Prim.Native.Nat.{◌+◌}
use native.Mathlib.Omega.{arith}
use Rattle.names.proofs.WordLaws.{part_bound, part_halves}
use Rattle.names.proofs.wording.eight.Goals as goal

pub overflow_mul-result : goal.overflow_mul-result
overflow_mul-result c =
    let s = c.args in
    omega (arith, part_bound s.s.now (s.at + 4) 4 (omega arith) c.four-2.ensures)

pub overflow_add-result : goal.overflow_add-result
overflow_add-result c =
    let s = c.args in
    omega (
      arith,
      part_bound s.s.now s.at 4 (omega arith) c.four.ensures,
      part_bound s.s.now (s.at + 4) 4 (omega arith) c.four-2.ensures,
    )

pub returns : goal.returns
returns c =
    let s = c.args in
    part_halves s.s.now s.at 4 4 (omega arith) c.four.ensures c.four-2.ensures
