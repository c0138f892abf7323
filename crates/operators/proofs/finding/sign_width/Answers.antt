-- By whether a `!` stands first.
use mathlib.Core.Path.{◌≡◌, ◌∙◌, sym, ap}
use mathlib.Core.Bool.{true}
use native.Mathlib.Omega.{arith}
use lib.ListN.{drop, length-drop}
use Rattle.ascii.specs.Classes.{white}
use Rattle.ascii.specs.Trim.{leading_white}
use Rattle.ascii.proofs.ListLaws.{rest_is}
use Rattle.ascii.proofs.TrimLaws.{leading_fits}
use Rattle.operators.specs.Operators.{starts}
use Rattle.operators.proofs.NameLaws.{starts_some}
use Rattle.operators.proofs.finding.sign_width.Goals as goal
use Rattle.operators.proofs.finding.sign_width.Goals.{After-leading_white, Else-not-starts_with}

-- a `!` stands first
signed : (c : Else-not-starts_with) → starts 33 c.args.s.now ≡ true
signed c = sym c.starts_with.ensures ∙ c.if-not-starts_with.false

-- the white bytes after it
white_is : (c : After-leading_white) → c.leading_white.result ≡ leading_white (drop 1 c.args.s.now)
white_is c = c.leading_white.ensures ∙ ap leading_white (rest_is c.args.s.now 1)

pub overflow_add-result : goal.overflow_add-result
overflow_add-result c =
    let s = c.args.s.now in
    omega (arith, white_is (goal.at.overflow_add-result c).After-leading_white, leading_fits white (drop 1 s), length-drop 1 s, starts_some 33 s (signed (goal.at.overflow_add-result c).Else-not-starts_with))
