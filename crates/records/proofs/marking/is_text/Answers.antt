-- The marks of a record by their places.
use mathlib.Core.Path.{sym}
use native.Mathlib.Omega.{arith}
use Rattle.records.specs.Marks.{marks_for}
use Rattle.records.proofs.ShapeLaws.{at_other}
use Rattle.records.proofs.marking.is_text.Goals as goal

pub returns-in-2 : goal.returns-in-2
unfolding marks_for
returns-in-2 c = rw (c.in-2.is, c.has_a.ensures, c.shape_of.ensures)

pub returns-in-3 : goal.returns-in-3
unfolding marks_for
returns-in-3 c = rw (c.in-3.is, c.has_b.ensures, c.shape_of-in-3.ensures)

pub returns-in-5 : goal.returns-in-5
unfolding marks_for
returns-in-5 c = rw (c.in-5.is, c.has_c.ensures, c.shape_of-in-5.ensures)

pub returns-in_default : goal.returns-in_default
returns-in_default c = sym (at_other _ _ _ (omega arith) (omega arith) (omega arith))
