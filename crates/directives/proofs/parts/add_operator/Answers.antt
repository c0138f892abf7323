-- Each answer of the core is one law of PartLaws.
use native.Mathlib.Omega.{arith}
use mathlib.Core.Path.{refl, ◌∙◌}
use Rattle.directives.proofs.PartLaws.{operator_in_text, operator_read_lem, name_inside, operator_unknown, bit_of}
use Rattle.directives.proofs.parts.add_operator.Goals as goal

pub overflow_add-end : goal.overflow_add-end
overflow_add-end c = let a = c.args in omega (arith, operator_in_text a.e a.line a.s.now a.text.now _ c.operator_in.ensures _ c.in-Ok.is)

pub slice_bounds-store-end : goal.slice_bounds-store-end
slice_bounds-store-end c = let a = c.args in operator_in_text a.e a.line a.s.now a.text.now _ c.operator_in.ensures _ c.in-Ok.is

pub overflow_cast-unknown : goal.overflow_cast-unknown
overflow_cast-unknown c = let a = c.args in omega (arith, name_inside a.e a.line a.s.now a.text.now _ c.operator_in.ensures _ c.in-Err.is, c.requires)

pub overflow_cast-unknown-in-Err : goal.overflow_cast-unknown-in-Err
overflow_cast-unknown-in-Err c = let a = c.args in omega (arith, name_inside a.e a.line a.s.now a.text.now _ c.operator_in.ensures _ c.in-Err.is, c.requires)

pub returns-in-Ok : goal.returns-in-Ok
returns-in-Ok c = let a = c.args in operator_read_lem a.e a.line a.s.now a.text.now _ c.operator_in.ensures _ c.in-Ok.is _ _ _ (c.from.ensures ∙ bit_of c.in-Ok.operator.negated) c.span.ensures refl c.requires.0 c.store.ensures

pub returns-in-Err : goal.returns-in-Err
returns-in-Err c = let a = c.args in operator_unknown a.e a.line a.s.now a.text.now _ c.operator_in.ensures _ c.in-Err.is _ c.span-span.ensures
