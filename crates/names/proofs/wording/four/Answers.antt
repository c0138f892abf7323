-- Each byte is below 256, so that no sum goes past its width.
use native.Mathlib.Omega.{arith}
use Rattle.names.proofs.WordLaws.{part_four}
use Rattle.names.proofs.wording.four.Goals as goal

pub returns : goal.returns
returns c =
    let s = c.args in
    rw (c.from.ensures, c.from-2.ensures, c.from-3.ensures, c.from-4.ensures) (part_four s.s.now s.at (omega arith) (λ k. (c.type_inv.s k).fits))
