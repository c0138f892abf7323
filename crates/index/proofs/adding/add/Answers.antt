-- Each way out is a law of PromiseLaws.
use mathlib.Core.Path.{◌∙◌, sym}
use Rattle.index.proofs.PromiseLaws.{add_broken, add_passed, add_named}
use Rattle.index.proofs.adding.add.Goals as goal

pub returns-then-not-is_index : goal.returns-then-not-is_index
returns-then-not-is_index c = add_broken c.args.index.now c.args.actions.now _ (sym c.is_index.ensures ∙ c.if-not-is_index.true)

pub returns-in-Some : goal.returns-in-Some
returns-in-Some c = add_named c.args.index.now c.args.actions.now _ (sym c.is_index.ensures ∙ c.if-not-is_index.false) _ (sym c.first_number.ensures ∙ c.in-Some.is) c.add_named.ensures

pub returns-in-None : goal.returns-in-None
returns-in-None c = add_passed c.args.index.now c.args.actions.now _ (sym c.is_index.ensures ∙ c.if-not-is_index.false) (sym c.first_number.ensures ∙ c.in-None.is)
