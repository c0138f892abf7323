-- Both ways out are laws of the word's halves.
use mathlib.Core.Path.{◌∙◌, sym, ap}
use native.Mathlib.Omega.{arith}
use Rattle.lent.specs.Sizes.{span_word}
use Rattle.std.specs.Prelude.{Ok}
use Rattle.spans.proofs.ConversionLaws.{both_low, made_far, made_near}
use Rattle.spans.proofs.converting.span_from_old.Goals as goal

pub returns-then-not-fits_both : goal.returns-then-not-fits_both
returns-then-not-fits_both c = sym (made_far _ _ span_word (sym c.fits_both.ensures ∙ c.if-not-fits_both.true))

pub overflow_cast-offset : goal.overflow_cast-offset
overflow_cast-offset c = omega (arith, both_low _ _ (sym c.fits_both.ensures ∙ c.if-not-fits_both.false))

pub returns : goal.returns
returns c = ap Ok c.span.ensures ∙ sym (made_near _ _ span_word (sym c.fits_both.ensures ∙ c.if-not-fits_both.false))
