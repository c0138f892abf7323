-- What the list came to is one law of ListLaws for every answer.
use mathlib.Core.Path.{refl}
use Rattle.lexer.specs.Steps.{part}
use Rattle.directives.proofs.ListLaws.{actions_fitted, actions_judged}
use Rattle.directives.proofs.parts.add_actions.Goals as goal

pub unreachable-requires : goal.unreachable-requires
unreachable-requires c = let a = c.args in actions_fitted a.e a.line a.place (part a.scratch.now a.first a.past) a.text.now _ a.records.now _ _ (rw c.in-Err-Unfit.field-0-is at c.in-Err-Unfit.ensures) refl

pub returns-in-Ok : goal.returns-in-Ok
returns-in-Ok c = let a = c.args in actions_judged a.e a.line a.place (part a.scratch.now a.first a.past) a.text.now _ a.records.now _ _ c.in-Ok.ensures

pub returns-in-Err-Unknown : goal.returns-in-Err-Unknown
returns-in-Err-Unknown c = let a = c.args in rw c.in-Err-Unknown.field-0-is (actions_judged a.e a.line a.place (part a.scratch.now a.first a.past) a.text.now _ a.records.now _ _ (rw c.in-Err-Unknown.field-0-is at c.in-Err-Unknown.ensures))

pub returns-in-Err-Bad : goal.returns-in-Err-Bad
returns-in-Err-Bad c = let a = c.args in rw c.in-Err-Bad.field-0-is (actions_judged a.e a.line a.place (part a.scratch.now a.first a.past) a.text.now _ a.records.now _ _ (rw c.in-Err-Bad.field-0-is at c.in-Err-Bad.ensures))
