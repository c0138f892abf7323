-- The four tests in turn: each return has the outcomes of those before it.
use mathlib.Core.Path.{◌≡◌, ◌∙◌, sym}
use mathlib.Core.Bool.{true, false}
use mathlib.Core.List.{List}
use Prim.Native.Nat.{ℕ}
use Rattle.ascii.specs.Text.{bytes}
use Rattle.ascii.specs.Fold.{same_lowered}
use Rattle.directives.specs.Directives.{of_rule, of_action, of_marker, of_defaults, of_other, shape_of}
use Rattle.directives.proofs.shapes.shape_of.Goals as goal

module _ (t : List ℕ) where
  is_rule : same_lowered t (bytes "secrule") ≡ true → shape_of t ≡ of_rule
  unfolding shape_of
  is_rule a = rw a

  is_action : same_lowered t (bytes "secrule") ≡ false → same_lowered t (bytes "secaction") ≡ true → shape_of t ≡ of_action
  unfolding shape_of
  is_action a b = rw (a, b)

  is_marker : same_lowered t (bytes "secrule") ≡ false → same_lowered t (bytes "secaction") ≡ false → same_lowered t (bytes "secmarker") ≡ true → shape_of t ≡ of_marker
  unfolding shape_of
  is_marker a b c = rw (a, b, c)

  is_defaults : same_lowered t (bytes "secrule") ≡ false → same_lowered t (bytes "secaction") ≡ false → same_lowered t (bytes "secmarker") ≡ false → same_lowered t (bytes "secdefaultaction") ≡ true → shape_of t ≡ of_defaults
  unfolding shape_of
  is_defaults a b c d = rw (a, b, c, d)

  is_other : same_lowered t (bytes "secrule") ≡ false → same_lowered t (bytes "secaction") ≡ false → same_lowered t (bytes "secmarker") ≡ false → same_lowered t (bytes "secdefaultaction") ≡ false → shape_of t ≡ of_other
  unfolding shape_of
  is_other a b c d = rw (a, b, c, d)

pub returns-then-same_lowered : goal.returns-then-same_lowered
unfolding bytes
returns-then-same_lowered c = sym (is_rule _ (sym c.same_lowered.ensures ∙ c.if-same_lowered.true))

pub returns-then-same_lowered-2 : goal.returns-then-same_lowered-2
unfolding bytes
returns-then-same_lowered-2 c = sym (is_action _ (sym c.same_lowered.ensures ∙ c.if-same_lowered.false) (sym c.same_lowered-2.ensures ∙ c.if-same_lowered-2.true))

pub returns-then-same_lowered-3 : goal.returns-then-same_lowered-3
unfolding bytes
returns-then-same_lowered-3 c = sym (is_marker _ (sym c.same_lowered.ensures ∙ c.if-same_lowered.false) (sym c.same_lowered-2.ensures ∙ c.if-same_lowered-2.false) (sym c.same_lowered-3.ensures ∙ c.if-same_lowered-3.true))

pub returns-then-same_lowered-4 : goal.returns-then-same_lowered-4
unfolding bytes
returns-then-same_lowered-4 c = sym (is_defaults _ (sym c.same_lowered.ensures ∙ c.if-same_lowered.false) (sym c.same_lowered-2.ensures ∙ c.if-same_lowered-2.false) (sym c.same_lowered-3.ensures ∙ c.if-same_lowered-3.false) (sym c.same_lowered-4.ensures ∙ c.if-same_lowered-4.true))

pub returns : goal.returns
unfolding bytes
returns c = sym (is_other _ (sym c.same_lowered.ensures ∙ c.if-same_lowered.false) (sym c.same_lowered-2.ensures ∙ c.if-same_lowered-2.false) (sym c.same_lowered-3.ensures ∙ c.if-same_lowered-3.false) (sym c.same_lowered-4.ensures ∙ c.if-same_lowered-4.false))
