-- Each number's arm is the definition's; any other is below or above them all.
use native.Mathlib.Omega.{arith}
use borrow.Author.Tests.{ne_eqb}
use Rattle.single_action.specs.Table.{rule_of}
use Rattle.single_action.proofs.naming.numbered_rule.Goals as goal

pub returns-in-1 : goal.returns-in-1
unfolding rule_of
returns-in-1 c = rw c.in-1.is

pub returns-in-2 : goal.returns-in-2
unfolding rule_of
returns-in-2 c = rw c.in-2.is

pub returns-in-3 : goal.returns-in-3
unfolding rule_of
returns-in-3 c = rw c.in-3.is

pub returns-in-4 : goal.returns-in-4
unfolding rule_of
returns-in-4 c = rw c.in-4.is

pub returns-in-5 : goal.returns-in-5
unfolding rule_of
returns-in-5 c = rw c.in-5.is

pub returns-in-6 : goal.returns-in-6
unfolding rule_of
returns-in-6 c = rw c.in-6.is

pub returns-in-7 : goal.returns-in-7
unfolding rule_of
returns-in-7 c = rw c.in-7.is

pub returns-in-8 : goal.returns-in-8
unfolding rule_of
returns-in-8 c = rw c.in-8.is

pub returns-in-9 : goal.returns-in-9
unfolding rule_of
returns-in-9 c = rw c.in-9.is

pub returns-in-10 : goal.returns-in-10
unfolding rule_of
returns-in-10 c = rw c.in-10.is

pub returns-in_default : goal.returns-in_default
unfolding rule_of
returns-in_default c =
    let n = c.args.number in
    simp
    (ne_eqb n 1 (omega arith), ne_eqb n 2 (omega arith), ne_eqb n 3 (omega arith), ne_eqb n 4 (omega arith), ne_eqb n 5 (omega arith), ne_eqb n 6 (omega arith), ne_eqb n 7 (omega arith), ne_eqb n 8 (omega arith), ne_eqb n 9 (omega arith), ne_eqb n 10 (omega arith))
