-- The last byte decides, where there is one.
use mathlib.Core.Path.{◌∙◌, sym}
use mathlib.Core.Bool.{false}
use Rattle.ascii.specs.Classes.{white}
use Rattle.spelled.proofs.FitLaws.{filled, emptied, last_none, last_is}
use Rattle.spelled.proofs.fitting.ends_white.Goals as goal

pub returns-then-not-is_empty : goal.returns-then-not-is_empty
returns-then-not-is_empty c = c.is_white.ensures ∙ sym (last_is white false c.args.t.now (filled _ c.is_empty.ensures c.if-not-is_empty.true))

pub returns-else-not-is_empty : goal.returns-else-not-is_empty
returns-else-not-is_empty c = rw c.if-not-is_empty.false (sym (last_none white false c.args.t.now (emptied _ c.is_empty.ensures c.if-not-is_empty.false)))
