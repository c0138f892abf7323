-- Neither text has a letter, so the comparison that folds is the definition's.
use mathlib.Core.Path.{◌≡◌, ◌∙◌, sym}
use mathlib.Core.Bool.{true, false}
use mathlib.Core.List.{List}
use Prim.Native.Nat.{ℕ}
use native.Mathlib.Omega.{arith}
use Rattle.ascii.specs.Text.{bytes}
use Rattle.ascii.specs.Fold.{same, same_lowered}
use Rattle.ascii.proofs.FoldLaws.{same_below}
use Rattle.std.specs.Prelude.{Some, None}
use Rattle.xml.specs.Xml.{key_target, Elements, Attributes}
use Rattle.xml.proofs.key_target.Goals as goal

elements : (t : List ℕ) → same_lowered t (bytes "/*") ≡ same t (bytes "/*")
unfolding bytes
elements t = same_below t _ (omega arith, (omega arith, tt))

attributes : (t : List ℕ) → same_lowered t (bytes "//@*") ≡ same t (bytes "//@*")
unfolding bytes
attributes t = same_below t _ (omega arith, (omega arith, (omega arith, (omega arith, tt))))

module _ (t : List ℕ) where
  is_elements : same_lowered t (bytes "/*") ≡ true → key_target t ≡ Some Elements
  unfolding key_target
  is_elements e = rw (← elements t, e)

  is_attributes : same_lowered t (bytes "/*") ≡ false → same_lowered t (bytes "//@*") ≡ true → key_target t ≡ Some Attributes
  unfolding key_target
  is_attributes e f = rw (← elements t, e, ← attributes t, f)

  is_neither : same_lowered t (bytes "/*") ≡ false → same_lowered t (bytes "//@*") ≡ false → key_target t ≡ None
  unfolding key_target
  is_neither e f = rw (← elements t, e, ← attributes t, f)

pub returns-then-same_lowered : goal.returns-then-same_lowered
unfolding bytes
returns-then-same_lowered c = sym (is_elements _ (sym c.same_lowered.ensures ∙ c.if-same_lowered.true))

pub returns-then-same_lowered-2 : goal.returns-then-same_lowered-2
unfolding bytes
returns-then-same_lowered-2 c = sym (is_attributes _ (sym c.same_lowered.ensures ∙ c.if-same_lowered.false) (sym c.same_lowered-2.ensures ∙ c.if-same_lowered-2.true))

pub returns : goal.returns
unfolding bytes
returns c = sym (is_neither _ (sym c.same_lowered.ensures ∙ c.if-same_lowered.false) (sym c.same_lowered-2.ensures ∙ c.if-same_lowered-2.false))
