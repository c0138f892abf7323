-- The loop keeps that the bytes from the one before `i` on decide.
use mathlib.Core.Path.{◌≡◌}
use Prim.Native.Nat.{◌-◌}
use lib.ListN.{drop}
use Rattle.single_action.specs.Setvar.{has_macro}
use Rattle.single_action.proofs.searching.has_macro.Given as goal

abbrev pub invariant-loop-i : goal.invariant-loop-i
invariant-loop-i l = has_macro (drop (l.i - 1) l.s) ≡ has_macro l.s
