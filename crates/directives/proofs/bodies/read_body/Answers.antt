-- The count first, then by shape; each way out is one law of BodyLaws.
use mathlib.Core.Path.{◌∙◌, sym}
use mathlib.Core.Logic.{⊎_elim}
use lib.ListN.{take}
use Rattle.lexer.specs.Steps.{part}
use Rattle.directives.proofs.BodyLaws.{action_done, defaults_done, marker_done, unknown_done, only_list, third_list}
use Rattle.directives.proofs.ShapeLaws.{as_body, wrong_fell, wrong_shape, rule_shape, action_shape, defaults_shape, marker_shape, other_shape, third_none, alone_starts, marker_fits, other_fits}
use Rattle.directives.proofs.bodies.read_body.Goals as goal

pub returns-then-not-takes : goal.returns-then-not-takes
returns-then-not-takes c = let a = c.args in as_body _ a.t a.text.now _ a.variables.now _ a.actions.now _ _ (wrong_shape c.shape_of-shape.result a.line a.scratch.now a.name a.a c.shape_of-shape.ensures (sym c.takes.ensures ∙ c.if-not-takes.true)) (wrong_fell a.line a.text.now)

pub add_actions-requires-clause-place_value : goal.add_actions-requires-clause-place_value
add_actions-requires-clause-place_value c = rw c.empty_entry-empty.ensures (alone_starts c.requires)

pub returns-in-Rule : goal.returns-in-Rule
returns-in-Rule c = let a = c.args in rw (third_list a.scratch.now a.name a.a c.shape_of-shape.result c.in-Rule.is (sym c.takes.ensures ∙ c.if-not-takes.false)) (as_body _ a.t a.text.now _ a.variables.now _ a.actions.now _ _ (rule_shape c.shape_of-shape.result a.line a.scratch.now a.name a.a c.shape_of-shape.ensures c.in-Rule.is (sym c.takes.ensures ∙ c.if-not-takes.false) (third_none c.requires)) c.read_rule.ensures)

pub returns-in-Action : goal.returns-in-Action
returns-in-Action c =
    let a = c.args in
    let k = sym c.takes.ensures ∙ c.if-not-takes.false in
    rw (only_list a.scratch.now a.name a.a c.shape_of-shape.result c.in-Action.is k)
    (⊎_elim
    (λ e. as_body _ a.t a.text.now _ a.variables.now _ a.actions.now _ _ (action_shape c.shape_of-shape.result a.line a.scratch.now a.name a.a c.shape_of-shape.ensures e k) (action_done a.line (part a.scratch.now a.name a.a.one) a.t a.text.now _ a.variables.now a.actions.now _ _ (rw (c.empty_entry-empty.ensures, e) at c.add_actions.ensures)))
    (λ e. as_body _ a.t a.text.now _ a.variables.now _ a.actions.now _ _ (defaults_shape c.shape_of-shape.result a.line a.scratch.now a.name a.a c.shape_of-shape.ensures e k) (defaults_done a.line (part a.scratch.now a.name a.a.one) a.t a.text.now _ a.variables.now a.actions.now _ _ (rw (c.empty_entry-empty.ensures, e) at c.add_actions.ensures)))
    c.in-Action.is)

pub returns-in-Marker : goal.returns-in-Marker
returns-in-Marker c = let a = c.args in let y = rw (c.empty_entry-empty.ensures, c.in-Marker.is) at c.add_name.ensures in as_body _ a.t a.text.now _ a.variables.now _ a.actions.now _ _ (marker_shape c.shape_of-shape.result a.line a.scratch.now a.name a.a c.shape_of-shape.ensures c.in-Marker.is (sym c.takes.ensures ∙ c.if-not-takes.false)) (rw (y.0, y.1) (marker_done (part a.scratch.now a.name a.a.one) a.t a.text.now a.variables.now a.actions.now (marker_fits c.requires).0 _))

pub returns-in-Other : goal.returns-in-Other
returns-in-Other c = let a = c.args in let y = rw (c.empty_entry-empty.ensures, c.in-Other.is) at c.add_name-in-Other.ensures in as_body _ a.t a.text.now _ a.variables.now _ a.actions.now _ _ (other_shape c.shape_of-shape.result a.line a.scratch.now a.name a.a c.shape_of-shape.ensures c.in-Other.is) (rw (y.0, y.1) (unknown_done (take a.name a.scratch.now) a.t a.text.now a.variables.now a.actions.now (other_fits c.requires).0 _))
