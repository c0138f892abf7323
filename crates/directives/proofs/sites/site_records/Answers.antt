-- By the byte that the token starts with.
use mathlib.Core.Path.{sym, ◌∙◌}
use Rattle.directives.proofs.SettleLaws.{mark_is, records_quoted, records_word}
use Rattle.directives.proofs.sites.site_records.Goals as goal

pub returns-then-is_quotation : goal.returns-then-is_quotation
returns-then-is_quotation c = records_quoted c.requires.0 c.requires.1 (mark_is _ ∙ sym c.is_quotation.ensures ∙ c.if-is_quotation.true) c.resite.ensures

pub returns : goal.returns
returns c = records_word c.requires.0 c.requires.1 (mark_is _ ∙ sym c.is_quotation.ensures ∙ c.if-is_quotation.false) c.resite-2.ensures
