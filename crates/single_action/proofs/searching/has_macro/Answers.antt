use mathlib.Core.Path.{◌≡◌, ◌∙◌, sym, ap}
use Prim.Native.Nat.{ℕ, ◌+◌, ◌-◌}
use native.Mathlib.Omega.{arith}
use lib.ListN.{drop}
use Rattle.single_action.specs.Setvar.{has_macro}
use Rattle.single_action.proofs.MacroLaws.{macro_here, macro_other, macro_alone, macro_last}
use Rattle.single_action.proofs.searching.has_macro.Goals as goal
use Rattle.single_action.proofs.searching.has_macro.Goals.{else-s-i-eq123-via-then-s-i-eq123+else-s-i-eq37, else-s-i-eq123-via-else-s-i-eq123}

pub returns-then-s-i-eq37 : goal.returns-then-s-i-eq37
returns-then-s-i-eq37 c =
    let l = c.loop-i in
    sym (macro_here c.args.s.now l.i l.auto.i c.loop-i-test.true c.if-s-i-eq37.true c.if-s-i-eq123.true) ∙ l.invariant

pub loop-i-preserved : goal.loop-i-preserved
loop-i-preserved c =
    let s = c.args.s.now in
    let l = c.loop-i in
    let k = c.loop-i-test.true in
    let e : l.i + 1 - 1 ≡ l.i = omega arith in
    let on : has_macro (drop (l.i - 1) s) ≡ has_macro (drop l.i s) =
    elim c.else-s-i-eq123.branch [
      | else-s-i-eq123-via-then-s-i-eq123+else-s-i-eq37 w ↦ macro_alone s l.i l.auto.i k w.if-s-i-eq37.false
      | else-s-i-eq123-via-else-s-i-eq123 w ↦ macro_other s l.i l.auto.i k w.if-s-i-eq123.false
    ] in
    ap (λ (n : ℕ). has_macro (drop n s)) e ∙ sym on ∙ l.invariant

pub returns : goal.returns
returns c = sym (macro_last c.args.s.now c.loop-i.i c.loop-i-test.false) ∙ c.loop-i.invariant
