-- The tests are the definition's.
use mathlib.Core.Path.{◌≡◌, ◌∙◌, sym}
use mathlib.Core.Bool.{true, false}
use borrow.Author.Tests.{lt-leb, le-leb}
use lib.ListN.{length}
use Rattle.single_action.specs.Marks.{paired}
use Rattle.single_action.proofs.marking.is_paired.Goals as goal
use Rattle.single_action.proofs.marking.is_paired.Goals.{then-n-ge2, else-n-ge2}

pub returns-then-is_quotation : goal.returns-then-is_quotation
unfolding paired
returns-then-is_quotation c =
    elim c.if-n-ge2.branch [
      | then-n-ge2 w ↦ simp (le-leb 2 (length c.args.s.now) w.if-n-ge2.true, sym w.is_quotation.ensures ∙ sym w.value-is ∙ c.if-is_quotation.true)
      | else-n-ge2 w ↦ let q : false ≡ true = sym (lt-leb 2 (length c.args.s.now) w.if-n-ge2.false) ∙ sym w.value-is ∙ c.if-is_quotation.true in cc
    ]

pub returns-else-is_quotation : goal.returns-else-is_quotation
unfolding paired
returns-else-is_quotation c =
    elim c.if-n-ge2.branch [
      | then-n-ge2 w ↦ simp (le-leb 2 (length c.args.s.now) w.if-n-ge2.true, sym w.is_quotation.ensures ∙ sym w.value-is ∙ c.if-is_quotation.false, c.if-is_quotation.false)
      | else-n-ge2 w ↦ simp (lt-leb 2 (length c.args.s.now) w.if-n-ge2.false, c.if-is_quotation.false)
    ]
