-- Each way out is the test that it stands for.
use mathlib.Core.Path.{◌≡◌, ◌∙◌, sym}
use mathlib.Core.Bool.{false}
use Prim.Native.Nat.{◌+◌}
use lib.ListN.{drop, get_or}
use lib.Dec.{eqb}
use borrow.Author.Tests.{eq-eqb, ne_eqb}
use Rattle.ascii.specs.Choice.{and}
use Rattle.spelled.specs.Steps.{line_end}
use Rattle.spelled.proofs.FitLaws.{off, on}
use Rattle.spelled.proofs.WalkLaws.{step_closing, step_going}
use Rattle.spelled.proofs.passing.step.Goals as goal
use Rattle.spelled.proofs.passing.step.Goals.{Joined-else-b-eq92, else-b-eq92-via-then-b-eq92+else-is_line_end, else-b-eq92-via-else-b-eq92}

-- no backslash before a line end
firm : (c : Joined-else-b-eq92) → let s = c.args in and (eqb (get_or s.t.now s.at 0) 92) (line_end (drop (s.at + 1) s.t.now)) ≡ false
firm c =
    let s = c.args in
    let b = get_or s.t.now s.at 0 in
    elim c.else-b-eq92.branch [
      | else-b-eq92-via-then-b-eq92+else-is_line_end w ↦ sym (on (eq-eqb b 92 w.if-b-eq92.true) (sym (sym w.is_line_end.ensures ∙ w.if-is_line_end.false)))
      | else-b-eq92-via-else-b-eq92 w ↦ sym (off _ (ne_eqb b 92 w.if-b-eq92.false))
    ]

pub returns-then-b-from : goal.returns-then-b-from
returns-then-b-from c =
    let s = c.args in
    step_closing s.from.mark s.from.depth s.t.now s.at c.requires.at_in_bounds c.if-b-ge128.false (firm (goal.at.returns-then-b-from c).Joined-else-b-eq92) c.if-from-eq0.false c.if-b-from.true

pub returns-else-b-from : goal.returns-else-b-from
returns-else-b-from c =
    let s = c.args in
    step_going s.from.mark s.from.depth s.t.now s.at c.requires.at_in_bounds c.if-b-ge128.false (firm (goal.at.returns-else-b-from c).Joined-else-b-eq92) c.if-from-eq0.false c.if-b-from.false
