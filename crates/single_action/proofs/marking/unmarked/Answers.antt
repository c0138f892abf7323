-- The marks before it are passed, and those behind it are left out: `marks-off`.
use mathlib.Core.Path.{◌≡◌, ◌∙◌, ap}
use Prim.Native.Nat.{ℕ, ◌+◌, ◌≤◌}
use mathlib.Core.List.{List}
use native.Mathlib.Omega.{arith}
use lib.ListN.{length, drop}
use Rattle.ascii.specs.Trim.{leading, strip_end}
use Rattle.ascii.proofs.ListLaws.{rest_is}
use Rattle.single_action.specs.Marks.{quotation, stripped}
use Rattle.single_action.proofs.MarkPlaceLaws.{first_fits, end_is, past_fits, marks_off}
use Rattle.single_action.proofs.marking.unmarked.Goals as goal
use Rattle.single_action.proofs.marking.unmarked.Goals.{After-leading, After-kept_len-len}

-- the first byte that is no mark
first_is : (c : After-leading) → let a = c.args in a.from + c.leading.result ≡ a.from + leading quotation (drop a.from a.s.now)
first_is c =
    let a = c.args in
    ap (λ (n : ℕ). a.from + n) (c.leading.ensures ∙ ap (leading quotation) (rest_is a.s.now a.from))

fits : (c : After-leading) → let a = c.args in a.from + c.leading.result ≤ length a.s.now
fits c = let a = c.args in first_fits a.s.now a.from c.requires _ (first_is c)

pub overflow_add-first : goal.overflow_add-first
overflow_add-first c = omega (arith, fits (goal.at.overflow_add-first c).After-leading)

pub slice_bounds-kept_len-count : goal.slice_bounds-kept_len-count
slice_bounds-kept_len-count c = omega (arith, fits (goal.at.slice_bounds-kept_len-count c).After-leading)

pub slice_bounds-kept_len-start : goal.slice_bounds-kept_len-start
slice_bounds-kept_len-start c = omega (arith, fits (goal.at.slice_bounds-kept_len-start c).After-leading)

-- the length of what is left
len_is : (c : After-kept_len-len) → let a = c.args in c.kept_len-len.result ≡ length (stripped (drop a.from a.s.now))
len_is c =
    let d = c in
    let a = d.args in
    c.kept_len-len.ensures ∙ ap (λ (t : List ℕ). length (strip_end quotation t)) (rest_is a.s.now (a.from + d.leading.result))
    ∙ ap length (end_is a.s.now a.from d.requires _ (ap (λ (n : ℕ). a.from + n) (d.leading.ensures ∙ ap (leading quotation) (rest_is a.s.now a.from))))

pub overflow_add-result : goal.overflow_add-result
overflow_add-result c =
    let d = c in
    let a = d.args in
    omega (arith, past_fits a.s.now a.from d.requires _ (first_is (goal.at.overflow_add-result c).After-leading) _ (len_is (goal.at.overflow_add-result c).After-kept_len-len))

pub returns : goal.returns
returns c =
    let d = c in
    let a = d.args in
    marks_off a.s.now a.from d.requires _ (first_is (goal.at.returns c).After-leading) _ (len_is (goal.at.returns c).After-kept_len-len)
