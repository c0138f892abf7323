-- Each way out is the test that it stands for.
use mathlib.Core.Path.{◌≡◌, ◌∙◌, sym}
use native.Mathlib.Omega.{arith}
use mathlib.Core.Bool.{false}
use borrow.Author.Tests.{eq-eqb, ne_eqb}
use Rattle.ascii.specs.Splits.{leads}
use Rattle.spelled.specs.Condition.{name_fits}
use Rattle.spelled.proofs.FitLaws.{filled, emptied, isnt_of, isnt_true, isnt_false, off, on, leads_is, leads_nothing}
use Rattle.spelled.proofs.fitting.name_fits.Goals as goal
use Rattle.spelled.proofs.fitting.name_fits.Goals.{Joined-else-not-is_empty, else-not-is_empty-via-then-not-is_empty+else-collection-eq-DELETING, else-not-is_empty-via-else-not-is_empty}

-- `!` does not stand first
no_bang : (c : Joined-else-not-is_empty) → leads 33 c.args.collection.now ≡ false
no_bang c =
    let t = c.args.collection.now in
    elim c.else-not-is_empty.branch [
      | else-not-is_empty-via-then-not-is_empty+else-collection-eq-DELETING w ↦ leads_is 33 t (filled _ c.is_empty.ensures w.if-not-is_empty.true) ∙ ne_eqb _ 33 w.if-collection-eq-DELETING.false
      | else-not-is_empty-via-else-not-is_empty w ↦ leads_nothing 33 t (omega (arith, emptied _ c.is_empty.ensures w.if-not-is_empty.false))
    ]

pub returns-then-collection-eq-DELETING : goal.returns-then-collection-eq-DELETING
unfolding name_fits
returns-then-collection-eq-DELETING c =
    let t = c.args.collection.now in
    off _ (isnt_true (leads_is 33 t (filled _ c.is_empty.ensures c.if-not-is_empty.true) ∙ eq-eqb _ 33 c.if-collection-eq-DELETING.true))

pub returns-then-not-has_byte : goal.returns-then-not-has_byte
unfolding name_fits
returns-then-not-has_byte c =
    on (isnt_false (no_bang (goal.at.returns-then-not-has_byte c).Joined-else-not-is_empty))
    (on (isnt_false (sym c.has_byte.ensures ∙ c.if-not-has_byte.true)) (isnt_of c.has_byte-then-not-has_byte.ensures))

pub returns-else-not-has_byte : goal.returns-else-not-has_byte
unfolding name_fits
returns-else-not-has_byte c =
    rw c.if-not-has_byte.false
    (on (isnt_false (no_bang (goal.at.returns-else-not-has_byte c).Joined-else-not-is_empty)) (off _ (isnt_true (sym c.has_byte.ensures ∙ c.if-not-has_byte.false))))
