-- Both ways out are laws of the word's halves.
use mathlib.Core.Path.{◌∙◌, sym}
use native.Mathlib.Omega.{arith}
use Rattle.spans.specs.Conversion.{old_word}
use Rattle.spans.proofs.ConversionLaws.{both_low, made_far, made_near}
use Rattle.spans.proofs.converting.span_to_old.Goals as goal

pub returns-then-not-fits_both : goal.returns-then-not-fits_both
returns-then-not-fits_both c = rw (← c.span_offset-offset.ensures, ← c.span_length-len.ensures) (sym (made_far _ _ old_word (sym c.fits_both.ensures ∙ c.if-not-fits_both.true)))

pub overflow_mul-result : goal.overflow_mul-result
overflow_mul-result c = omega (arith, both_low _ _ (sym c.fits_both.ensures ∙ c.if-not-fits_both.false))

pub overflow_add-result : goal.overflow_add-result
overflow_add-result c = omega (arith, both_low _ _ (sym c.fits_both.ensures ∙ c.if-not-fits_both.false))

pub returns : goal.returns
unfolding old_word
returns c = rw (← c.span_offset-offset.ensures, ← c.span_length-len.ensures) (sym (made_near _ _ old_word (sym c.fits_both.ensures ∙ c.if-not-fits_both.false)))
