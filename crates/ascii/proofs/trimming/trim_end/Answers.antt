-- The part up to the last byte that is not white.
use mathlib.Core.Path.{◌∙◌, sym, ap}
use native.Mathlib.Omega.{arith}
use lib.ListN.{take}
use lib.Seq.{length-take-le}
use Rattle.ascii.specs.Classes.{white}
use Rattle.ascii.specs.Handed.{standing}
use Rattle.ascii.proofs.HandedLaws.{front_is}
use Rattle.ascii.proofs.TrimLaws.{end_fits, end_is}
use Rattle.ascii.proofs.trimming.trim_end.Goals as goal

pub slice_bounds-result-end : goal.slice_bounds-result-end
slice_bounds-result-end c =
    let s = c.args.s.now in sym (length-take-le c.trimmed_len-past.result s (omega (arith, end_fits white s)))

pub returns : goal.returns
returns c =
    let s = c.args.s.now in
    front_is (standing c.args.s) (ap (λ n. take n s) c.trimmed_len-past.ensures ∙ end_is white s)
