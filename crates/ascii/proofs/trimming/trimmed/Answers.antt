-- The same by numbers: the second is counted from the first.
use mathlib.Core.Path.{◌≡◌, ◌∙◌, sym, ap}
use native.Mathlib.Omega.{arith}
use lib.ListN.{drop, length}
use Rattle.ascii.specs.Trim.{trim_end, trim_ends}
use Rattle.ascii.proofs.ListLaws.{rest_is}
use Rattle.ascii.specs.Classes.{white}
use Rattle.ascii.proofs.TrimLaws.{leading_fits, start_is, ends_fit}
use Rattle.ascii.proofs.trimming.trimmed.Goals as goal
use Rattle.ascii.proofs.trimming.trimmed.Goals.{After-trimmed_len-len}

pub slice_bounds-trimmed_len-count : goal.slice_bounds-trimmed_len-count
slice_bounds-trimmed_len-count c = omega (arith, leading_fits white c.args.s.now)

pub slice_bounds-trimmed_len-start : goal.slice_bounds-trimmed_len-start
slice_bounds-trimmed_len-start c = omega (arith, leading_fits white c.args.s.now)

-- the length of the trimmed text
length_is : (c : After-trimmed_len-len) → c.trimmed_len-len.result ≡ length (trim_ends c.args.s.now)
length_is c =
    let s = c.args.s.now in
    let l = c.leading_white-first in
    c.trimmed_len-len.ensures
    ∙ ap (λ t. length (trim_end t)) (rest_is s l.result ∙ ap (λ n. drop n s) l.ensures ∙ sym (start_is white s))

pub overflow_add-result : goal.overflow_add-result
overflow_add-result c = omega (arith, length_is (goal.at.overflow_add-result c).After-trimmed_len-len, ends_fit white c.args.s.now)

pub returns : goal.returns
returns c = rw (length_is (goal.at.returns c).After-trimmed_len-len, c.leading_white-first.ensures)
