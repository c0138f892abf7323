-- The part from the first byte that is not white.
use mathlib.Core.Path.{◌∙◌, sym, ap}
use native.Mathlib.Omega.{arith}
use lib.ListN.{drop}
use Rattle.ascii.specs.Handed.{standing}
use Rattle.ascii.proofs.HandedLaws.{part_is}
use Rattle.ascii.proofs.ListLaws.{rest_is}
use Rattle.ascii.specs.Classes.{white}
use Rattle.ascii.proofs.TrimLaws.{leading_fits, start_is}
use Rattle.ascii.proofs.trimming.trim_start.Goals as goal

pub slice_bounds-result-count : goal.slice_bounds-result-count
slice_bounds-result-count c = omega (arith, leading_fits white c.args.s.now)

pub slice_bounds-result-start : goal.slice_bounds-result-start
slice_bounds-result-start c = omega (arith, leading_fits white c.args.s.now)

pub returns : goal.returns
returns c =
    let s = c.args.s.now in
    let l = c.leading_white-first in
    part_is (standing c.args.s) l.ensures (rest_is s l.result ∙ ap (λ n. drop n s) l.ensures ∙ sym (start_is white s))
