-- Each way out is a law of PromiseLaws.
use mathlib.Core.Path.{◌∙◌, sym}
use native.Mathlib.Omega.{arith}
use Rattle.index.proofs.PromiseLaws.{named_taken, named_full, named_entered}
use Rattle.index.proofs.adding.add_named.Goals as goal

pub returns-then-most-n : goal.returns-then-most-n
returns-then-most-n c = named_full c.args.index.now c.requires _ _ _ (sym c.in-Err.is ∙ c.seek.ensures) _ c.places-most.ensures c.if-most-n.true

pub returns-in-Ok : goal.returns-in-Ok
returns-in-Ok c = named_taken c.args.index.now c.requires _ _ _ (sym c.in-Ok.is ∙ c.seek.ensures)

pub returns-else-most-n : goal.returns-else-most-n
returns-else-most-n c = named_entered c.args.index.now c.requires _ _ _ (sym c.in-Err.is ∙ c.seek.ensures) (omega (arith, c.places-most.ensures, c.if-most-n.false)) c.enter.ensures
