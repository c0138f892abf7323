-- The loop keeps that only whitespace was passed.
use mathlib.Core.Bool.{true}
use Rattle.lexer.specs.Steps.{Blank}
use Rattle.lexer.proofs.moving.blank_between.Given as goal

abbrev pub invariant-loop-at : goal.invariant-loop-at
invariant-loop-at l = Blank l.s l.from l.at true
