-- By the tests on the word, each as the definition has it.
use native.Mathlib.Omega.{arith}
use mathlib.Core.Path.{◌∙◌, sym}
use mathlib.Core.Bool.{true, false}
use borrow.Author.Tests.{eq-eqb, ne_eqb}
use Rattle.records.specs.Marks.{span_end}
use Rattle.spelled.proofs.EntryLaws.{absent_end, elsewhere_end, far_end, long_end, present_end, halves_low}
use Rattle.spelled.proofs.entries.text_end.Goals as goal

pub returns-then-word-eq0 : goal.returns-then-word-eq0
returns-then-word-eq0 c = let t = c.if-not-text.true in rw t (sym (absent_end _ _ _ true (eq-eqb _ 0 c.if-word-eq0.true)))

pub returns-else-word-eq0 : goal.returns-else-word-eq0
returns-else-word-eq0 c = let t = c.if-not-text.true in rw t (sym (absent_end _ _ _ false (ne_eqb _ 0 c.if-word-eq0.false)))

pub overflow_add-end : goal.overflow_add-end
overflow_add-end c = omega (arith, c.span_offset.ensures, c.span_length.ensures, halves_low c.args.word c.ranges.word.fits)

pub returns-then-span_offset-at : goal.returns-then-span_offset-at
returns-then-span_offset-at c = let t = c.if-not-text.false in rw t (sym (elsewhere_end _ _ _ (λ q. c.if-span_offset-at.true (c.span_offset-2.ensures ∙ q))))

pub returns-then-end : goal.returns-then-end
unfolding span_end
returns-then-end c = let t = c.if-not-text.false in rw t (sym (far_end _ _ _ (omega (arith, c.if-end.true, c.span_offset.ensures, c.span_length.ensures))))

pub returns-then-n-end : goal.returns-then-n-end
unfolding span_end
returns-then-n-end c = let t = c.if-not-text.false in rw t (sym (long_end _ _ _ (omega (arith, c.if-n-end.true, c.span_offset.ensures, c.span_length.ensures))))

pub returns : goal.returns
unfolding span_end
returns c =
    let t = c.if-not-text.false in
    let o = c.span_offset.ensures in
    let l = c.span_length.ensures in
    rw t (omega (arith, o, l, present_end c.args.word c.args.at c.args.n (sym c.span_offset-2.ensures ∙ c.if-span_offset-at.false) (omega (arith, c.if-n-end.false, o, l)) (omega (arith, c.if-end.false, o, l))))
