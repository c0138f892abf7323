-- The tests one after another, each as the definition has it.
use mathlib.Core.Path.{◌∙◌, sym}
use borrow.Author.Tests.{ne_eqb}
use Rattle.spelled.proofs.RecordLaws.{unkept, kept_lost, kept_last, kept_open, kept_closed}
use Rattle.spelled.proofs.writing.is_kept.Goals as goal

pub returns-then-not-fits : goal.returns-then-not-fits
returns-then-not-fits c = unkept c.requires _ _ _ (sym c.fits.ensures ∙ c.if-not-fits.true)

pub returns-in-None : goal.returns-in-None
returns-in-None c = kept_lost c.requires _ _ _ (sym c.fits.ensures ∙ c.if-not-fits.false) c.pass_all.ensures c.in-None.is

pub returns-then-last : goal.returns-then-last
returns-then-last c = c.if-last.true ∙ kept_last c.requires _ _ _ (sym c.fits.ensures ∙ c.if-not-fits.false) c.pass_all.ensures c.in-Some.is c.if-last.true

pub returns-then-open-mark : goal.returns-then-open-mark
returns-then-open-mark c = kept_closed c.requires _ _ _ (sym c.fits.ensures ∙ c.if-not-fits.false) c.pass_all.ensures c.in-Some.is c.if-last.false c.if-open-mark.true

pub returns-else-open-mark : goal.returns-else-open-mark
returns-else-open-mark c = ne_eqb _ _ c.if-open-mark.false ∙ kept_open c.requires _ _ _ (sym c.fits.ensures ∙ c.if-not-fits.false) c.pass_all.ensures c.in-Some.is c.if-last.false c.if-open-mark.false
