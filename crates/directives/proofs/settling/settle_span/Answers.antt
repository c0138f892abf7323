-- The list is taken into scratch once more, and its spans go through the normaliser and then through the token.
use mathlib.Core.Path.{ap, ◌∙◌}
use Rattle.directives.specs.Settling.{token_word}
use Rattle.directives.proofs.SettleLaws.{listed_at, list_span}
use Rattle.directives.proofs.settling.settle_span.Goals as goal

pub slice_bounds-text-count : goal.slice_bounds-text-count
slice_bounds-text-count c = (listed_at c.requires.0 c.requires.1 c.take_arguments.ensures).order

pub slice_bounds-text-start : goal.slice_bounds-text-start
slice_bounds-text-start c = (listed_at c.requires.0 c.requires.1 c.take_arguments.ensures).order

pub slice_bounds-text-end : goal.slice_bounds-text-end
slice_bounds-text-end c = (listed_at c.requires.0 c.requires.1 c.take_arguments.ensures).inside

pub returns : goal.returns
returns c = c.site_span.ensures ∙ ap (token_word c.args.s.now c.args.list.token) (list_span c.requires.0 c.requires.1 c.take_arguments.ensures c.site_word-inner.ensures)
