-- By the gate's answer, then by what the list was read to, then by whether the records fit; each way out is one law of AnswerLaws.
use native.Mathlib.Omega.{arith}
use mathlib.Core.Path.{◌∙◌, ap}
use Rattle.std.specs.Prelude.{Err}
use Rattle.std.proofs.lemmas.Result.{err_from_is_err_and}
use Rattle.variables.proofs.AnswerLaws.{never_unfit, refused_narrow, parsed_unknown, parsed_read, gate_refused, gate_opened, gate_open}
use Rattle.variables.proofs.parsing.parse.Goals as goal

pub returns-in_err-admit : goal.returns-in_err-admit
returns-in_err-admit c =
    let a = c.args in
    let p = err_from_is_err_and c.from_residual.result c.from_residual.ensures.1 in
    rw (p.1, p.2) (gate_refused a.exclusions a.input.now a.text.now a.records.now _ c.admit.ensures _ c.in_err-admit.was)

pub returns-then-finish : goal.returns-then-finish
returns-then-finish c =
    let a = c.args in
    gate_open a.exclusions a.input.now a.text.now a.records.now _ c.admit.ensures c.in_ok-admit.was
    (parsed_read a.exclusions a.input.now a.text.now a.records.now c.read_targets.ensures (gate_opened a.exclusions a.input.now a.text.now a.records.now _ c.admit.ensures c.in_ok-admit.was) _ _ c.in-Ok.is c.finish.ensures _ (rw c.if-finish.true))

pub returns-in-Err-Unfit : goal.returns-in-Err-Unfit
returns-in-Err-Unfit c =
    let a = c.args in
    absurd (never_unfit a.exclusions a.input.now a.text.now a.records.now c.read_targets.ensures (gate_opened a.exclusions a.input.now a.text.now a.records.now _ c.admit.ensures c.in_ok-admit.was) (c.in-Err-Unfit.is ∙ ap Err c.in-Err-Unfit.field-0-is))

pub overflow_cast-first : goal.overflow_cast-first
overflow_cast-first c =
    let a = c.args in
    omega (arith, refused_narrow a.exclusions a.input.now a.text.now a.records.now c.read_targets.ensures (gate_opened a.exclusions a.input.now a.text.now a.records.now _ c.admit.ensures c.in_ok-admit.was) _ _ _ _ (c.in-Err-Unknown.is ∙ ap Err c.in-Err-Unknown.field-0-is))

pub overflow_sub-past : goal.overflow_sub-past
overflow_sub-past c =
    let a = c.args in
    (refused_narrow a.exclusions a.input.now a.text.now a.records.now c.read_targets.ensures (gate_opened a.exclusions a.input.now a.text.now a.records.now _ c.admit.ensures c.in_ok-admit.was) _ _ _ _ (c.in-Err-Unknown.is ∙ ap Err c.in-Err-Unknown.field-0-is)).0

pub overflow_cast-past : goal.overflow_cast-past
overflow_cast-past c =
    let a = c.args in
    omega (arith, refused_narrow a.exclusions a.input.now a.text.now a.records.now c.read_targets.ensures (gate_opened a.exclusions a.input.now a.text.now a.records.now _ c.admit.ensures c.in_ok-admit.was) _ _ _ _ (c.in-Err-Unknown.is ∙ ap Err c.in-Err-Unknown.field-0-is))

pub returns-in-Err-Unknown : goal.returns-in-Err-Unknown
returns-in-Err-Unknown c =
    let a = c.args in
    gate_open a.exclusions a.input.now a.text.now a.records.now _ c.admit.ensures c.in_ok-admit.was
    (parsed_unknown a.exclusions a.input.now a.text.now a.records.now c.read_targets.ensures (gate_opened a.exclusions a.input.now a.text.now a.records.now _ c.admit.ensures c.in_ok-admit.was) _ _ _ _ _ (c.in-Err-Unknown.is ∙ ap Err c.in-Err-Unknown.field-0-is) c.span.ensures)

pub returns-else-finish : goal.returns-else-finish
returns-else-finish c =
    let a = c.args in
    gate_open a.exclusions a.input.now a.text.now a.records.now _ c.admit.ensures c.in_ok-admit.was
    (parsed_read a.exclusions a.input.now a.text.now a.records.now c.read_targets.ensures (gate_opened a.exclusions a.input.now a.text.now a.records.now _ c.admit.ensures c.in_ok-admit.was) _ _ c.in-Ok.is c.finish.ensures _ (rw c.if-finish.false))
