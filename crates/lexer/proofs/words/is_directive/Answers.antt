-- The two tests of `directive`: the first three bytes small are the small word's first three, and a shorter word is not "sec".
use mathlib.Core.Path.{◌≡◌, ◌∙◌, refl, sym, ap}
use mathlib.Core.Bool.{true, false}
use mathlib.Core.List.{List, [], ◌∷◌}
use Prim.Native.Nat.{ℕ, zero, suc, ◌<◌}
use native.Mathlib.Omega.{arith}
use lib.ListN.{length, take}
use borrow.Author.Tests.{leb-true}
use lib.Seq.{take_all}
use Rattle.ascii.specs.Fold.{lower, lowered, same_lowered}
use Rattle.ascii.specs.Text.{bytes}
use Rattle.ascii.proofs.FoldLaws.{lengths_differ}
use Rattle.lexer.specs.Tokens.{directive}
use Rattle.lexer.proofs.words.is_directive.Goals as goal
use Rattle.lexer.proofs.words.is_directive.Goals.{then-w-ge3, else-w-ge3}

take_lowered : (n : ℕ) (w : List ℕ) → take n (lowered w) ≡ lowered (take n w)
take_lowered zero [] = refl
take_lowered (suc n) [] = refl
take_lowered zero (b ∷ w) = refl
take_lowered (suc n) (b ∷ w) = ap (λ (l : List ℕ). lower b ∷ l) (take_lowered n w)

directive_sec : (w : List ℕ) → same_lowered (take 3 w) (bytes "sec") ≡ true → directive w ≡ true
unfolding directive
directive_sec w e = rw (take_lowered 3 w, e)

directive_other : (w : List ℕ) → same_lowered (take 3 w) (bytes "sec") ≡ false → directive w ≡ same_lowered w (bytes "include")
unfolding directive
directive_other w e = rw (take_lowered 3 w, e)

short_word : (w : List ℕ) → length w < 3 → same_lowered (take 3 w) (bytes "sec") ≡ false
unfolding bytes
short_word w h = rw (take_all 3 w (omega arith)) (lengths_differ w _ (λ e. omega (arith, e)))

pub returns-then-same_lowered : goal.returns-then-same_lowered
unfolding bytes
returns-then-same_lowered c =
    c.if-same_lowered.true
    ∙ sym (elim c.if-w-ge3.branch [
      | then-w-ge3 w ↦ directive_sec _ (sym w.same_lowered.ensures ∙ sym w.value-is ∙ c.if-same_lowered.true)
      | else-w-ge3 w ↦ absurd (omega (arith, leb-true 3 (length c.args.w.now) (sym w.value-is ∙ c.if-same_lowered.true)))
    ])

pub returns-else-same_lowered : goal.returns-else-same_lowered
unfolding bytes
returns-else-same_lowered c =
    let w = c.args.w.now in
    let e : same_lowered (take 3 w) (bytes "sec") ≡ false =
    elim c.if-w-ge3.branch [ then-w-ge3 h ↦ sym h.same_lowered.ensures ∙ sym h.value-is ∙ c.if-same_lowered.false | else-w-ge3 h ↦ short_word w h.if-w-ge3.false ] in
    c.same_lowered-else-same_lowered.ensures ∙ sym (directive_other w e)
