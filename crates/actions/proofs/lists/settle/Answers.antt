-- By whether the normalised text is shorter.
use mathlib.Core.Path.{refl}
use native.Mathlib.Omega.{arith}
use Rattle.actions.proofs.lists.settle.Goals as goal

pub returns-then-input-n : goal.returns-then-input-n
returns-then-input-n c = record { moved = λ h. absurd (omega (arith, h, c.if-input-n.true)); still = λ h. refl }

pub returns : goal.returns
returns c = record { moved = λ h. c.resite.ensures; still = λ h. absurd (omega (arith, h, c.if-input-n.false)) }
