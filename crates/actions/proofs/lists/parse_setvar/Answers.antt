-- By the gate's answer; the one action is planned, written with the trimmed input's span, and finished.
use mathlib.Core.Path.{◌∙◌, ap}
use Rattle.std.proofs.lemmas.Result.{err_from_is_err_and}
use native.Mathlib.Omega.{arith}
use Rattle.lent.specs.Sources.{Part, part_word}
use Rattle.actions.proofs.PromiseLaws.{alone_refused, alone_narrow, alone_room, alone_read}
use Rattle.actions.proofs.lists.parse_setvar.Goals as goal

pub returns-in_err-admit : goal.returns-in_err-admit
returns-in_err-admit c =
    let p = err_from_is_err_and c.from_residual.result c.from_residual.ensures.1 in
    rw (p.1, p.2) (alone_refused c.args.input.now c.args.text.now c.args.records.now c.admit.ensures _ c.in_err-admit.was)

pub span_of-span-requires : goal.span_of-span-requires
span_of-span-requires c = rw c.trimmed-part.ensures (alone_narrow c.args.input.now c.args.text.now c.args.records.now c.admit.ensures c.in_ok-admit.was)

pub put_plan-used-requires : goal.put_plan-used-requires
put_plan-used-requires c =
    let p = c.read_setvar-plan.ensures in
    let r = alone_room c.args.input.now c.args.text.now c.args.records.now c.admit.ensures c.in_ok-admit.was _ p in
    record { inside = p.inside; plan_in_bounds = omega (arith, r); plan_bound = omega (arith, r) }

pub returns : goal.returns
returns c =
    let span = c.span_of-span.ensures ∙ ap (λ (x : Part). part_word x) c.trimmed-part.ensures in
    alone_read c.args.input.now c.args.text.now c.args.records.now c.admit.ensures c.in_ok-admit.was _ c.read_setvar-plan.ensures (rw span at c.put_plan-used.ensures) c.finish.ensures
