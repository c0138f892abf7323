-- The first `=` splits it, and the second half is the seconds.
use mathlib.Core.Path.{◌∙◌, sym, ap}
use native.Mathlib.Omega.{arith}
use Rattle.single_action.specs.Actions.{seconds}
use Rattle.single_action.proofs.JudgedLaws.{equals_within, expiry_whole, expiry_halves, seconds_or}
use Rattle.single_action.proofs.singles.expiry_plan.Goals as goal

pub overflow_add-equals : goal.overflow_add-equals
overflow_add-equals c = let s = c in omega (arith, equals_within s.args.s.now s.args.from s.args.code s.requires c.first_of.result c.first_of.ensures)

pub returns-then-s-equals : goal.returns-then-s-equals
returns-then-s-equals c =
    let s = c in
    rw c.text_plan.ensures (expiry_whole s.args.s.now s.args.from s.args.code s.requires c.first_of.result c.first_of.ensures c.if-s-equals.true)

pub returns : goal.returns
returns c =
    let s = c in
    rw c.text_plan-2.ensures
    (expiry_halves s.args.s.now s.args.from s.args.code s.requires c.first_of.result c.first_of.ensures c.if-s-equals.false c.unwrap_or-seconds.result
    (ap seconds (sym c.unsigned.ensures) ∙ seconds_or c.unsigned.result ∙ sym c.unwrap_or-seconds.ensures))
