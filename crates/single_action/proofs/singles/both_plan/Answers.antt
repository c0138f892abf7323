-- The first `=` splits it.
use native.Mathlib.Omega.{arith}
use Rattle.single_action.proofs.JudgedLaws.{equals_within, both_halves, both_whole}
use Rattle.single_action.proofs.singles.both_plan.Goals as goal

pub overflow_add-equals : goal.overflow_add-equals
overflow_add-equals c = let s = c in omega (arith, equals_within s.args.s.now s.args.from s.args.code s.requires c.first_of.result c.first_of.ensures)

pub returns-then-equals-past : goal.returns-then-equals-past
returns-then-equals-past c = let s = c in both_halves s.args.s.now s.args.from s.args.code s.requires c.first_of.result c.first_of.ensures c.if-equals-past.true

pub returns-else-equals-past : goal.returns-else-equals-past
returns-else-equals-past c = let s = c in both_whole s.args.s.now s.args.from s.args.code s.requires c.first_of.result c.first_of.ensures c.if-equals-past.false
