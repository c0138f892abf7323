-- The last word, and the three before it.
use native.Mathlib.Omega.{arith}
use Rattle.names.proofs.SpellLaws.{worded}
use Rattle.names.proofs.spelling.in_words.Goals as goal

pub returns : goal.returns
returns c =
    let s = c.args in
    worded s.capitals s.name.now s.n (omega arith) (omega arith) c.up_to_eight.ensures c.fold-last.ensures
    c.eighth-first.ensures c.eighth-second.ensures c.eighth-third.ensures
