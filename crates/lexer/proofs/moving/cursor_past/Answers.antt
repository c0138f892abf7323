-- By whether the run counted a line feed.
use mathlib.Core.Path.{◌∙◌, sym}
use Prim.Native.Nat.{◌<◌}
use native.Mathlib.Omega.{arith}
use Rattle.lexer.specs.Steps.{part}
use Rattle.lexer.proofs.LoopLaws.{feeds_few}
use Rattle.lexer.proofs.WithinLaws.{part_length}
use Rattle.lexer.proofs.PastLaws.{past_flat, past_fed}
use Rattle.lexer.proofs.moving.cursor_past.Goals as goal

pub returns-then-run-eq0 : goal.returns-then-run-eq0
returns-then-run-eq0 c =
    let p = c.requires.passes in
    sym (past_flat c.args.s.now c.args.c _ p.some p.inside p.solid (sym p.feeds_are ∙ c.if-run-eq0.true))

pub overflow_add-result-2 : goal.overflow_add-result-2
overflow_add-result-2 c =
    let p = c.requires.passes in
    let z = c.args.c in
    omega (arith, feeds_few (part c.args.s.now z.place c.args.run.past), part_length c.args.s.now z.place c.args.run.past (omega (arith, p.some)) p.inside, p.feeds_are, c.requires.within)

pub returns : goal.returns
returns c =
    let p = c.requires.passes in
    let f : 0 < c.args.run.feeds = omega (arith, c.if-run-eq0) in
    rw p.feeds_are
    (sym (past_fed c.args.s.now c.args.c _ p.some p.inside _ (rw p.feeds_are at f) (p.last_is f) _ c.blank_between.ensures))
