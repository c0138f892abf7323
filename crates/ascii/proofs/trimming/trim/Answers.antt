-- One after the other.
use mathlib.Core.Path.{◌∙◌, refl, sym, ap}
use Rattle.ascii.specs.Handed.{standing}
use Rattle.ascii.specs.Trim.{trim_start_of, trim_end_of}
use Rattle.ascii.proofs.HandedLaws.{front_is}
use Rattle.ascii.proofs.trimming.trim.Goals as goal

pub returns : goal.returns
returns c = c.trim_end.ensures ∙ ap trim_end_of c.trim_start.ensures ∙ sym (front_is (trim_start_of (standing c.args.s)) refl)
