-- The walk over texts: what each byte does, and how deep it can get.
use Rattle.std.specs.Prelude.{Option, Some, None}
use mathlib.Core.Path.{◌≡◌, ◌∙◌, refl, sym, ap}
use mathlib.Core.Bool.{Bool, true, false}
use mathlib.Core.List.{List, [], ◌∷◌}
use Prim.Native.Nat.{ℕ, suc, ◌+◌, ◌-◌, ◌≤◌, ◌<◌}
use native.Mathlib.Omega.{arith}
use borrow.Author.Tests.{lt-ltb, eq-eqb, ne_eqb}
use lib.ListN.{length, drop, get_or, drop_of_length-le}
use lib.Dec.{eqb}
use Rattle.ascii.specs.Choice.{pick, and}
use Rattle.ascii.proofs.ListLaws.{next_byte}
use Rattle.single_action.specs.Marks.{quotation}
use Rattle.actions.specs.Pieces.{Nest, nest, nest_bare, nest_quoted, nest_after, cuts}
use Rattle.spelled.specs.Steps.{line_end, open_at, opened, stays, stepped, passed, passed_on}
use Rattle.spelled.specs.declared.passing.Open.{Open}

-- ---- one byte

-- behind a byte, before the rest r
abbrev after : Nest → ℕ → List ℕ → Option Open
after n b r = pick (stays n b r) (opened (nest_after n b)) None

and_false : (t : Bool) → and t false ≡ false
and_false true = refl
and_false false = refl

module _ (m d b : ℕ) (r : List ℕ) where
  module _ (low : b < 128) (firm : and (eqb b 92) (line_end r) ≡ false) where
    inside : (m ≡ 0 → ⊥) → after (nest m d) b r ≡ opened (nest_quoted m d b)
    unfolding nest_after cuts
    inside n = rw (lt-ltb b 128 low, firm, ne_eqb m 0 n, and_false (eqb b 44))

    closing : (m ≡ 0 → ⊥) → b ≡ m → after (nest m d) b r ≡ open_at 0 d
    unfolding nest_quoted
    closing n e = inside n ∙ rw (eq-eqb b m e)

    going : (m ≡ 0 → ⊥) → (b ≡ m → ⊥) → after (nest m d) b r ≡ open_at m d
    unfolding nest_quoted
    going n e = inside n ∙ rw (ne_eqb b m e)

-- the same at a place
module _ (m d : ℕ) (t : List ℕ) (i : ℕ) (h : i < length t) where
  step_at : stepped (nest m d) (drop i t) ≡ after (nest m d) (get_or t i 0) (drop (i + 1) t)
  step_at = ap (stepped (nest m d)) (next_byte t i h)

  module _ (low : get_or t i 0 < 128) (firm : and (eqb (get_or t i 0) 92) (line_end (drop (i + 1) t)) ≡ false) where
    pub step_closing : (m ≡ 0 → ⊥) → get_or t i 0 ≡ m → open_at 0 d ≡ stepped (nest m d) (drop i t)
    step_closing n e = sym (step_at ∙ closing m d (get_or t i 0) (drop (i + 1) t) low firm n e)

    pub step_going : (m ≡ 0 → ⊥) → (get_or t i 0 ≡ m → ⊥) → open_at m d ≡ stepped (nest m d) (drop i t)
    step_going n e = sym (step_at ∙ going m d (get_or t i 0) (drop (i + 1) t) low firm n e)

-- ---- a text

pub passed_step : (n : Nest) (t : List ℕ) (i : ℕ) → i < length t → passed n (drop i t) ≡ passed_on (stepped n (drop i t)) (drop (i + 1) t)
unfolding passed
passed_step n t i h = rw (next_byte t i h) (go (stays n (get_or t i 0) (drop (i + 1) t)))
  where
    go : (s : Bool) → pick s (passed (nest_after n (get_or t i 0)) (drop (i + 1) t)) None ≡ passed_on (pick s (opened (nest_after n (get_or t i 0))) None) (drop (i + 1) t)
    go true = refl
    go false = refl

pub passed_end : (n : Nest) (t : List ℕ) (i : ℕ) → length t ≤ i → passed n (drop i t) ≡ opened n
unfolding passed
passed_end n t i h = rw (drop_of_length-le t h)

-- ---- how deep

abbrev depth_in : Option Open → ℕ
depth_in None = 0
depth_in (Some o) = o.depth

after_deep : (n : Nest) (b : ℕ) → (nest_after n b).depth ≤ n.depth + 1
unfolding nest_after nest_bare nest_quoted
after_deep n b = go (eqb n.mark 0) (quotation b) (eqb b 40) (eqb b 41) (eqb b n.mark)
  where
    go : (o q x y z : Bool)
        → (pick o (pick q (nest b n.depth) (pick x (nest 0 (n.depth + 1)) (pick y (nest 0 (n.depth - 1)) (nest 0 n.depth)))) (pick z (nest 0 n.depth) (nest n.mark n.depth))).depth
        ≤ n.depth + 1
    go true true x y z = omega arith
    go true false true y z = omega arith
    go true false false true z = omega arith
    go true false false false z = omega arith
    go false q x y true = omega arith
    go false q x y false = omega arith

deep_passed : (n : Nest) (t : List ℕ) → depth_in (passed n t) ≤ n.depth + length t
unfolding passed
deep_passed n [] = omega arith
deep_passed n (b ∷ r) = go (stays n b r) (deep_passed (nest_after n b) r) (after_deep n b)
  where
    go : (s : Bool) → depth_in (passed (nest_after n b) r) ≤ (nest_after n b).depth + length r → (nest_after n b).depth ≤ n.depth + 1
        → depth_in (pick s (passed (nest_after n b) r) None) ≤ n.depth + suc (length r)
    go true h k = omega (arith, h, k)
    go false h k = omega arith

pub passed_deep : (n : Nest) (t : List ℕ) (o : Open) → passed n t ≡ Some o → o.depth ≤ n.depth + length t
passed_deep n t o e = omega (arith, deep_passed n t, ap depth_in e)

step_deep : (n : Nest) (t : List ℕ) → depth_in (stepped n t) ≤ n.depth + 1
step_deep n [] = omega arith
step_deep n (b ∷ r) = go (stays n b r) (after_deep n b)
  where
    go : (s : Bool) → (nest_after n b).depth ≤ n.depth + 1 → depth_in (pick s (opened (nest_after n b)) None) ≤ n.depth + 1
    go true h = omega (arith, h)
    go false h = omega arith

-- ---- the loop

abbrev pub Walking : ℕ → ℕ → List ℕ → ℕ → ℕ → ℕ → Type 0
Walking m₀ d₀ t m d i = (d ≤ d₀ + i) × ((i ≤ length t) × (passed (nest m d) (drop i t) ≡ passed (nest m₀ d₀) t))

module _ (m₀ d₀ : ℕ) (t : List ℕ) (m d i : ℕ) (w : Walking m₀ d₀ t m d i) (r : Option Open) (e : r ≡ stepped (nest m d) (drop i t)) (h : i < length t) where
  on_is : passed (nest m₀ d₀) t ≡ passed_on r (drop (i + 1) t)
  on_is = sym w.1.1 ∙ passed_step (nest m d) t i h ∙ ap (λ (p : Option Open). passed_on p (drop (i + 1) t)) (sym e)

  pub walk_lost : r ≡ None → None ≡ passed (nest m₀ d₀) t
  walk_lost f = sym (on_is ∙ ap (λ (p : Option Open). passed_on p (drop (i + 1) t)) f)

  pub walk_on : (o : Open) → r ≡ Some o → Walking m₀ d₀ t o.mark o.depth (i + 1)
  walk_on o f =
      (omega (arith, w.0, step_deep (nest m d) (drop i t), ap depth_in (sym e ∙ f)), (omega (arith, h), sym (on_is ∙ ap (λ (p : Option Open). passed_on p (drop (i + 1) t)) f)))
