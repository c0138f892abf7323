-- By the byte that the token starts with.
use mathlib.Core.Path.{sym, ◌∙◌}
use Rattle.directives.proofs.SettleLaws.{mark_is, span_quoted, span_word_lem}
use Rattle.directives.proofs.sites.site_span.Goals as goal

pub returns-then-is_quotation : goal.returns-then-is_quotation
returns-then-is_quotation c = span_quoted c.requires (mark_is _ ∙ sym c.is_quotation.ensures ∙ c.if-is_quotation.true) c.site_word.ensures

pub returns : goal.returns
returns c = span_word_lem c.requires (mark_is _ ∙ sym c.is_quotation.ensures ∙ c.if-is_quotation.false) c.site_word-2.ensures
