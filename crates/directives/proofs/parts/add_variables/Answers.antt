-- Each answer of the core is one law of PartLaws.
use native.Mathlib.Omega.{arith}
use Rattle.lent.proofs.StartLaws.{starts_is}
use Rattle.directives.proofs.PartLaws.{variables_unfit, variables_read_lem, unknown_inside, variables_unknown}
use Rattle.directives.proofs.parts.add_variables.Goals as goal

pub overflow_cast-first : goal.overflow_cast-first
overflow_cast-first c =
    let a = c.args in
    let u = unknown_inside a.e a.line a.place a.s.now a.text.now _ a.records.now _ _ c.requires c.read_targets.ensures _ _ _ _ (rw c.in-Err-Unknown.field-0-is at c.in-Err-Unknown.is) in
    omega (arith, u, ((starts_is _ _ _ _).0 c.requires).within)

pub overflow_sub-past : goal.overflow_sub-past
overflow_sub-past c =
    let a = c.args in
    rw c.in-Err-Unknown.field-0-is (unknown_inside a.e a.line a.place a.s.now a.text.now _ a.records.now _ _ c.requires c.read_targets.ensures _ _ _ _ (rw c.in-Err-Unknown.field-0-is at c.in-Err-Unknown.is)).0

pub overflow_cast-past : goal.overflow_cast-past
overflow_cast-past c =
    let a = c.args in
    let u = unknown_inside a.e a.line a.place a.s.now a.text.now _ a.records.now _ _ c.requires c.read_targets.ensures _ _ _ _ (rw c.in-Err-Unknown.field-0-is at c.in-Err-Unknown.is) in
    omega (arith, u, ((starts_is _ _ _ _).0 c.requires).within)

pub unreachable-requires : goal.unreachable-requires
unreachable-requires c = let a = c.args in variables_unfit a.e a.line a.place a.s.now a.text.now _ a.records.now _ _ c.requires c.read_targets.ensures (rw c.in-Err-Unfit.field-0-is at c.in-Err-Unfit.is)

pub returns-in-Err-Unknown : goal.returns-in-Err-Unknown
returns-in-Err-Unknown c =
    let a = c.args in
    rw c.in-Err-Unknown.field-0-is (variables_unknown a.e a.line a.place a.s.now a.text.now _ a.records.now _ _ c.requires c.read_targets.ensures _ _ _ _ (rw c.in-Err-Unknown.field-0-is at c.in-Err-Unknown.is) _ (rw c.in-Err-Unknown.field-0-is at c.span-span.ensures))

pub returns-in-Ok : goal.returns-in-Ok
returns-in-Ok c = let a = c.args in variables_read_lem a.e a.line a.place a.s.now a.text.now _ a.records.now _ _ c.requires c.read_targets.ensures _ c.in-Ok.is
