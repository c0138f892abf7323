-- By whether anything follows the name; its first byte is white.
use mathlib.Core.Path.{◌≡◌, ◌∙◌, sym, ap}
use borrow.Author.Tests.{eqb-true, eqb-false}
use native.Mathlib.Omega.{arith}
use lib.ListN.{drop, length-drop}
use Rattle.ascii.specs.Classes.{white}
use Rattle.ascii.specs.Trim.{leading_white}
use Rattle.ascii.proofs.ListLaws.{rest_is}
use Rattle.ascii.proofs.TrimLaws.{leading_fits}
use Rattle.operators.proofs.NameLaws.{gap_more}
use Rattle.operators.proofs.finding.gap_width.Goals as goal
use Rattle.operators.proofs.finding.gap_width.Goals.{After-leading_white}

pub returns-then-is_empty : goal.returns-then-is_empty
returns-then-is_empty c = omega (arith, leading_fits white c.args.s.now, eqb-true _ _ (sym c.is_empty.ensures ∙ c.if-is_empty.true))

-- the white bytes after it
white_is : (c : After-leading_white) → c.leading_white.result ≡ leading_white (drop 1 c.args.s.now)
white_is c = c.leading_white.ensures ∙ ap leading_white (rest_is c.args.s.now 1)

pub overflow_add-result : goal.overflow_add-result
overflow_add-result c =
    let s = c.args.s.now in
    omega (arith, white_is (goal.at.overflow_add-result c).After-leading_white, leading_fits white (drop 1 s), length-drop 1 s)

pub returns : goal.returns
returns c =
    let s = c.args.s.now in
    omega (arith, white_is (goal.at.returns c).After-leading_white, gap_more s c.requires (eqb-false _ _ (sym c.is_empty.ensures ∙ c.if-is_empty.false)))
