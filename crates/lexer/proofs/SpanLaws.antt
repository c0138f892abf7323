-- A span of bytes that a run takes one by one in the same mode is taken at once: its text, its count.
-- Later code finds such a span's end and copies it, where the table itself is asked only for the byte that ended it.
use mathlib.Core.Path.{◌≡◌, refl, sym, ap, ◌∙◌}
use Prim.Native.Nat.{ℕ, ◌+◌}
use native.Mathlib.Omega.{arith}
use mathlib.Core.List.{List, [], ◌∷◌, ◌++◌, append_assoc}
use lib.ListN.{length}
use Rattle.lexer.specs.Runs.{Does, takes, text, took}
use Rattle.lexer.proofs.RunLaws.{text_by_lem, took_by}

-- the texts f of the bytes, one behind another
unfoldable pub spelled : (ℕ → List ℕ) → List ℕ → List ℕ
spelled f [] = []
spelled f (b ∷ p) = f b ++ spelled f p

-- bytes that stand for themselves
pub spelled_self : (p : List ℕ) → spelled (λ b. b ∷ []) p ≡ p
unfolding spelled
spelled_self [] = refl
spelled_self (b ∷ p) = ap (λ (l : List ℕ). b ∷ l) (spelled_self p)

module _ {M : Type 0} (does : M → ℕ → List ℕ → Does M) (f : ℕ → List ℕ) (m : M) where
  -- each byte of p, with q behind, is taken with its text f and leaves the mode m
  abbrev pub Span : List ℕ → List ℕ → Type 0
  Span [] q = Unit {0}
  Span (b ∷ p) q = (does m b (p ++ q) ≡ takes (f b) m) × Span p q

  pub text_span : (p q : List ℕ) → Span p q → text does m (p ++ q) ≡ spelled f p ++ text does m q
  unfolding spelled
  text_span [] q h = refl
  text_span (b ∷ p) q h =
      text_by_lem does m b (p ++ q) (takes (f b) m) h.0 ∙ ap (λ (l : List ℕ). f b ++ l) (text_span p q h.1) ∙ sym (append_assoc (f b) (spelled f p) (text does m q))

  pub took_span : (p q : List ℕ) → Span p q → took does m (p ++ q) ≡ length p + took does m q
  took_span [] q h = omega arith
  took_span (b ∷ p) q h = took_by does m b (p ++ q) (takes (f b) m) h.0 ∙ omega (arith, took_span p q h.1)
