-- By the gate's answer; each way is one law of AnswerLaws.
use Rattle.std.proofs.lemmas.Result.{err_from_is_err_and}
use Rattle.operators.proofs.AnswerLaws.{answer_refused, answer_unknown_lem, answer_open}
use Rattle.operators.proofs.reading.parse_operator.Goals as goal

pub returns-in_err-admit : goal.returns-in_err-admit
returns-in_err-admit c =
    let p = err_from_is_err_and c.from_residual.result c.from_residual.ensures.1 in
    rw (p.1, p.2) (answer_refused c.args.input.now _ c.admit.ensures _ c.in_err-admit.was)

pub returns-in_err-operator_in : goal.returns-in_err-operator_in
returns-in_err-operator_in c =
    let r = c.from_residual-in_err-operator_in in
    let p = err_from_is_err_and r.result r.ensures.1 in
    rw (p.1, p.2) (answer_unknown_lem c.args.input.now _ c.admit.ensures c.in_ok-admit.was _ c.in_err-operator_in.ensures)

pub returns : goal.returns
returns c = answer_open c.args.input.now _ c.admit.ensures c.in_ok-admit.was _ c.in_ok-operator_in.ensures
