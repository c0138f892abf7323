-- Its three parts in turn; each way out is one law of BodyLaws.
use Rattle.std.proofs.lemmas.Result.{err_from_is_err_and}
use Rattle.lexer.specs.Steps.{part}
use Rattle.directives.proofs.BodyLaws.{rule_variables, rule_operator, rule_done}
use Rattle.directives.proofs.ShapeLaws.{first_starts, second_fits, third_starts}
use Rattle.directives.proofs.bodies.read_rule.Goals as goal

pub add_variables-requires : goal.add_variables-requires
add_variables-requires c = rw c.empty_entry-empty.ensures (first_starts c.requires)

pub add_operator-requires : goal.add_operator-requires
add_operator-requires c = second_fits c.requires c.args.line _ _ _ c.in_ok-targeted.targeted c.add_variables.auto.text (rw (c.empty_entry-empty.ensures, c.in_ok-targeted.was) at c.add_variables.ensures)

pub add_actions-requires-clause-place_value : goal.add_actions-requires-clause-place_value
add_actions-requires-clause-place_value c = third_starts c.requires c.args.line _ _ _ c.in_ok-targeted.targeted c.add_variables.auto.text (rw (c.empty_entry-empty.ensures, c.in_ok-targeted.was) at c.add_variables.ensures) _ c.in_ok-e.e c.add_operator.auto.text (rw c.in_ok-e.was at c.add_operator.ensures)

pub returns-in_err-targeted : goal.returns-in_err-targeted
returns-in_err-targeted c =
    let a = c.args in
    let p = err_from_is_err_and c.from_residual.result c.from_residual.ensures.1 in
    rw (p.1, p.2) (rule_variables a.line (part a.scratch.now a.name a.a.one) (part a.scratch.now a.a.one a.a.two) (part a.scratch.now a.a.two a.a.three) a.t a.text.now a.variables.now a.actions.now _ _ _ (rw (c.empty_entry-empty.ensures, c.in_err-targeted.was) at c.add_variables.ensures))

pub returns-in_err-e : goal.returns-in_err-e
returns-in_err-e c =
    let a = c.args in
    let r = c.from_residual-in_err-e in
    let p = err_from_is_err_and r.result r.ensures.1 in
    rw (p.1, p.2) (rule_operator a.line (part a.scratch.now a.name a.a.one) (part a.scratch.now a.a.one a.a.two) (part a.scratch.now a.a.two a.a.three) a.t a.text.now a.variables.now a.actions.now _ _ _ (rw (c.empty_entry-empty.ensures, c.in_ok-targeted.was) at c.add_variables.ensures) _ _ (rw c.in_err-e.was at c.add_operator.ensures))

pub returns : goal.returns
returns c = let a = c.args in rule_done a.line (part a.scratch.now a.name a.a.one) (part a.scratch.now a.a.one a.a.two) (part a.scratch.now a.a.two a.a.three) a.t a.text.now a.variables.now a.actions.now _ _ _ (rw (c.empty_entry-empty.ensures, c.in_ok-targeted.was) at c.add_variables.ensures) _ _ (rw c.in_ok-e.was at c.add_operator.ensures) _ _ _ c.add_actions.ensures
