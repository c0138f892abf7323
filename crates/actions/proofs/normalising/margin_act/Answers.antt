-- Whitespace other than a line feed vanishes, and any other byte is as in plain text.
use mathlib.Core.Path.{refl}
use mathlib.Core.Logic.{◌⊎◌, inl, inr}
use Prim.Native.Nat.{◌<◌}
use native.Mathlib.Omega.{arith}
use Rattle.ascii.specs.Classes.{white}
use Rattle.places.proofs.ActLaws.{skipped_range, skipped_not}
use Rattle.actions.specs.Normal.{text_given, mode_after}
use Rattle.actions.proofs.normalising.margin_act.Goals as goal
use Rattle.actions.proofs.normalising.margin_act.Goals.{in_default-via-then-b-lt11, in_default-via-else-b-lt11+else-b-lt14}

pub returns-in-9 : goal.returns-in-9
unfolding text_given mode_after white
returns-in-9 c = rw c.in-9.is (refl, refl)

pub returns-in-32 : goal.returns-in-32
unfolding text_given mode_after white
returns-in-32 c = rw c.in-32.is (refl, refl)

pub returns-in-11-to-13 : goal.returns-in-11-to-13
unfolding text_given mode_after
returns-in-11-to-13 c = rw (skipped_range c.args.b (omega arith) (omega arith)) (refl, refl)

pub returns-in_default : goal.returns-in_default
unfolding text_given mode_after
returns-in_default c =
    let b = c.args.b in
    let o : (b < 11) ⊎ (13 < b) = elim c.in_default.branch [ in_default-via-then-b-lt11 w ↦ inl (omega arith) | in_default-via-else-b-lt11+else-b-lt14 w ↦ inr (omega arith) ] in
    rw (skipped_not b (omega arith) o (omega arith)) c.plain_act.ensures
