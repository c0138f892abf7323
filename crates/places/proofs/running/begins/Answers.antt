-- By the mode.
use native.Mathlib.Omega.{arith}
use Rattle.places.proofs.WalkLaws.{plain_keeps, margin_keeps}
use Rattle.places.proofs.running.begins.Goals as goal

pub returns-in-Plain : goal.returns-in-Plain
returns-in-Plain c = λ e rule t n. rw c.in-Plain.is (plain_keeps rule _ t n)

pub returns-in-Margin : goal.returns-in-Margin
returns-in-Margin c = λ e rule t n. rw c.in-Margin.is (margin_keeps rule _ t (grind arith) n)
