-- By the gate's answer, and then by how reading ends; each way is one law of EndingLaws.
use mathlib.Core.Path.{◌∙◌, ap}
use Rattle.std.proofs.lemmas.Result.{err_from_is_err_and}
use Rattle.lent.specs.Buffers.{zeros}
use Rattle.directives.proofs.EndingLaws.{open_rooms, gated, refused, finished}
use Rattle.directives.proofs.reading.directives.Goals as goal

pub returns-in_err-admit : goal.returns-in_err-admit
returns-in_err-admit c =
    let a = c.args in
    let p = err_from_is_err_and c.from_residual.result c.from_residual.ensures.1 in
    rw (p.1, p.2) (gated a.version a.input.now a.text.now a.scratch.now a.records.now a.variables.now a.actions.now c.min.ensures c.admit.ensures _ c.in_err-admit.was)

pub read_all-ended-requires : goal.read_all-ended-requires
read_all-ended-requires c =
    let a = c.args in
    open_rooms a.version a.input.now a.text.now a.scratch.now a.records.now a.variables.now a.actions.now c.min.ensures c.admit.ensures c.in_ok-admit.was

pub returns-in-Err : goal.returns-in-Err
returns-in-Err c =
    let a = c.args in
    let k = c.read_all-ended.auto in
    refused a.version a.input.now a.text.now a.scratch.now a.records.now a.variables.now a.actions.now c.min.ensures c.admit.ensures c.in_ok-admit.was (c.fill.ensures.after (λ y e. e) ∙ ap zeros k.scratch) (rw c.in-Err.is at c.read_all-ended.ensures) k.text k.records k.variables k.actions c.refuse.ensures

pub returns-in-Ok : goal.returns-in-Ok
returns-in-Ok c =
    let a = c.args in
    finished a.version a.input.now a.text.now a.scratch.now a.records.now a.variables.now a.actions.now c.min.ensures c.admit.ensures c.in_ok-admit.was (c.fill.ensures.after (λ y e. e) ∙ ap zeros c.read_all-ended.auto.scratch) (rw c.in-Ok.is at c.read_all-ended.ensures) c.finish.ensures
