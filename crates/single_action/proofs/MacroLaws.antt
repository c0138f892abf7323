-- The search for a macro by the places of its two bytes: i is that of the second.
use mathlib.Core.Path.{◌≡◌, ◌∙◌, refl}
use mathlib.Core.Bool.{Bool, true, false}
use mathlib.Core.List.{List, [], ◌∷◌}
use Prim.Native.Nat.{ℕ, ◌+◌, ◌-◌, ◌≤◌, ◌<◌}
use native.Mathlib.Omega.{arith}
use lib.ListN.{length, drop, get_or, length-drop}
use lib.Dec.{eqb}
use borrow.Author.Tests.{ne_eqb}
use Rattle.ascii.specs.Choice.{and, or}
use Rattle.single_action.specs.Setvar.{has_macro}
use Rattle.single_action.proofs.SetvarLaws.{macro_next, leads_at}

module _ (s : List ℕ) (i : ℕ) (p : 1 ≤ i) (h : i < length s) where
  macro_two : has_macro (drop (i - 1) s) ≡ or (and (eqb (get_or s (i - 1) 0) 37) (eqb (get_or s i 0) 123)) (has_macro (drop i s))
  macro_two =
      let e : i - 1 + 1 ≡ i = omega arith in
      macro_next s (i - 1) (omega arith) ∙ rw (e, leads_at 123 s i h)

  pub macro_here : get_or s (i - 1) 0 ≡ 37 → get_or s i 0 ≡ 123 → has_macro (drop (i - 1) s) ≡ true
  macro_here e f = macro_two ∙ rw (e, f)

  pub macro_other : (get_or s i 0 ≡ 123 → ⊥) → has_macro (drop (i - 1) s) ≡ has_macro (drop i s)
  macro_other n = macro_two ∙ rw (ne_eqb _ _ n) (go (eqb (get_or s (i - 1) 0) 37))
    where
      go : (t : Bool) → or (and t false) (has_macro (drop i s)) ≡ has_macro (drop i s)
      go true = refl
      go false = refl

  pub macro_alone : (get_or s (i - 1) 0 ≡ 37 → ⊥) → has_macro (drop (i - 1) s) ≡ has_macro (drop i s)
  macro_alone n = macro_two ∙ rw (ne_eqb _ _ n)

-- one byte is no macro
few_none : (l : List ℕ) → length l ≤ 1 → has_macro l ≡ false
unfolding has_macro
few_none [] h = refl
few_none (b ∷ []) h = go (eqb b 37)
  where
    go : (t : Bool) → or (and t false) false ≡ false
    go true = refl
    go false = refl
few_none (b ∷ c ∷ r) h = absurd (omega arith)

pub macro_last : (s : List ℕ) (i : ℕ) → length s ≤ i → has_macro (drop (i - 1) s) ≡ false
macro_last s i h = few_none (drop (i - 1) s) (omega (arith, length-drop (i - 1) s))
