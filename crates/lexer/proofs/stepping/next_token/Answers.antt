-- By the gate's answer; past it the step's own promise is the call's.
use Rattle.std.proofs.lemmas.Result.{err_from_is_err_and}
use Rattle.lexer.proofs.AnswerLaws.{answer_refused, answer_step}
use Rattle.lexer.proofs.stepping.next_token.Goals as goal

pub returns : goal.returns
returns c = answer_step c.args.input.now c.args.from c.args.text.now _ c.admit.ensures c.in_ok-admit.was _ _ c.step_in.ensures

pub returns-in_err-admit : goal.returns-in_err-admit
returns-in_err-admit c =
    let p = err_from_is_err_and c.from_residual.result c.from_residual.ensures.1 in
    rw (p.1, p.2) (answer_refused c.args.input.now c.args.from c.args.text.now _ c.admit.ensures _ c.in_err-admit.was)
