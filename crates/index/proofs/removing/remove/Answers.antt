-- Each way out is a law of PromiseLaws.
use mathlib.Core.Path.{◌∙◌, sym}
use Rattle.index.proofs.PromiseLaws.{remove_broken, remove_done}
use Rattle.index.proofs.removing.remove.Goals as goal

pub returns-then-not-is_index : goal.returns-then-not-is_index
returns-then-not-is_index c = remove_broken c.args.index.now _ (sym c.is_index.ensures ∙ c.if-not-is_index.true)

pub returns : goal.returns
returns c = remove_done c.args.index.now _ (sym c.is_index.ensures ∙ c.if-not-is_index.false) c.compact-kept.ensures (c.fill.ensures.after (λ y h. h))
