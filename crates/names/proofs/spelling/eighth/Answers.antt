-- Eight bytes folded are eight bytes of the folded name.
use native.Mathlib.Omega.{arith}
use Rattle.names.proofs.SpellLaws.{eighth_folded, eighth_none}
use Rattle.names.proofs.spelling.eighth.Goals as goal

pub returns-then-at-n : goal.returns-then-at-n
returns-then-at-n c =
    let s = c.args in
    eighth_folded s.capitals s.name.now s.at (omega arith) c.eight.ensures c.fold.ensures

pub returns-else-at-n : goal.returns-else-at-n
returns-else-at-n c =
    let s = c.args in
    eighth_none s.capitals s.name.now s.at (omega arith)
