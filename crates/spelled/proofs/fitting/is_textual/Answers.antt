-- Each way out is the test that it stands for.
use mathlib.Core.Path.{◌≡◌, ◌∙◌, sym, ap}
use Prim.Native.Nat.{ℕ, ◌<◌}
use lib.ListN.{length}
use native.Mathlib.Omega.{arith}
use borrow.Author.Tests.{eq-eqb, ne_eqb}
use Rattle.spelled.specs.Condition.{unread, textual}
use Rattle.spelled.proofs.FitLaws.{filled, emptied, unread_err, isnt_true, isnt_false, off, on, leads_is, textual_none}
use Rattle.spelled.proofs.fitting.is_textual.Goals as goal

other : {n : ℕ} → n ≡ 45 → n ≡ 43 → ⊥
other e f = omega arith

pub returns-then-has_macro : goal.returns-then-has_macro
unfolding textual
returns-then-has_macro c = off _ (isnt_true (sym c.has_macro.ensures ∙ c.if-has_macro.true))

pub returns-then-is_empty : goal.returns-then-is_empty
returns-then-is_empty c = textual_none c.args.t.now (emptied _ c.is_empty.ensures c.if-is_empty.true)

pub returns-in-43 : goal.returns-in-43
unfolding textual
returns-in-43 c =
    let t = c.args.t.now in
    let l : 0 < length t = filled _ c.is_empty.ensures c.if-is_empty.false in
    on (isnt_false (sym c.has_macro.ensures ∙ c.if-has_macro.false)) (off _ (isnt_true (leads_is 43 t l ∙ eq-eqb _ 43 c.in-43.is)))

pub returns-in-45 : goal.returns-in-45
unfolding textual
returns-in-45 c =
    let t = c.args.t.now in
    let l : 0 < length t = filled _ c.is_empty.ensures c.if-is_empty.false in
    on (isnt_false (sym c.has_macro.ensures ∙ c.if-has_macro.false)) (on (isnt_false (leads_is 43 t l ∙ ne_eqb _ 43 (other c.in-45.is)))
    (off _ (isnt_true (leads_is 45 t l ∙ eq-eqb _ 45 c.in-45.is))))

pub returns : goal.returns
unfolding textual
returns c =
    let t = c.args.t.now in
    let l : 0 < length t = filled _ c.is_empty.ensures c.if-is_empty.false in
    let r = c.in_default.in_default-own.rest in
    on (isnt_false (sym c.has_macro.ensures ∙ c.if-has_macro.false))
    (on (isnt_false (leads_is 43 t l ∙ ne_eqb _ 43 r.0.1))
    (on (isnt_false (leads_is 45 t l ∙ ne_eqb _ 45 r.1)) (c.is_err.ensures.value ∙ unread_err c.signed.result ∙ ap unread c.signed.ensures)))
