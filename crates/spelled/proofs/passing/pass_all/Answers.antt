-- Behind each text the next one goes on.
use mathlib.Core.Path.{◌∙◌, sym}
use native.Mathlib.Omega.{arith}
use Rattle.actions.specs.Pieces.{nest}
use Rattle.spelled.proofs.WalkLaws.{passed_deep}
use Rattle.spelled.proofs.passing.pass_all.Goals as goal

pub pass-requires-2 : goal.pass-requires-2
pass-requires-2 c = omega (arith, c.requires, passed_deep (nest c.args.mark 0) c.args.a.now c.in_ok-first.first (sym c.pass.ensures ∙ c.in_ok-first.was))

pub pass-requires-3 : goal.pass-requires-3
pass-requires-3 c =
    let f = c.in_ok-first.first in
    omega
    (arith, c.requires, passed_deep (nest c.args.mark 0) c.args.a.now f (sym c.pass.ensures ∙ c.in_ok-first.was), passed_deep (nest f.mark f.depth) c.args.b.now c.in_ok-second.second (sym c.pass-2.ensures ∙ c.in_ok-second.was))
