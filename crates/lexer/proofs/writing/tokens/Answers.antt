-- By the gate's answer, then what was written and what the last step left; each way is one law of AllLaws.
use Rattle.std.proofs.lemmas.Result.{err_from_is_err_and}
use Rattle.lexer.proofs.AllLaws.{all_refused, all_open, all_ended}
use Rattle.lexer.proofs.writing.tokens.Goals as goal

pub write_all-read-requires : goal.write_all-read-requires
write_all-read-requires c = let whole = all_open c.args.input.now c.args.text.now c.args.records.now c.admit.ensures c.in_ok-admit.was in record { s_len_bound = whole.0; s_in_bounds = whole.1 }

pub returns-in_err-admit : goal.returns-in_err-admit
returns-in_err-admit c =
    let p = err_from_is_err_and c.from_residual.result c.from_residual.ensures.1 in
    rw (p.1, p.2) (all_refused c.args.input.now c.args.text.now c.args.records.now c.admit.ensures _ c.in_err-admit.was)

pub returns : goal.returns
returns c = all_ended c.args.input.now c.args.text.now c.args.records.now c.admit.ensures c.in_ok-admit.was c.write_all-read.ensures c.write_all-read.auto.text c.end_reading.ensures
