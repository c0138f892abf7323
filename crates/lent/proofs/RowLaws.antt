-- Each number exactly when, for every reader: rows of a number and the fact that it stands for.
-- The idea: one of the facts holds, each fact gives its number, and the numbers differ by one computed test.
use Rattle.lent.specs.declared.gating.GateError.TheVariants.{TooLong, Short, NotAscii}
use Rattle.lent.specs.declared.gating.GateError.{GateError}
use Rattle.std.specs.Prelude.{Result, Ok, Err}
use mathlib.Core.Path.{◌≡◌, ◌∙◌, refl, sym, ap}
use mathlib.Core.Bool.{Bool, true, false}
use mathlib.Core.List.{List, [], ◌∷◌}
use mathlib.Core.Logic.{◌↔◌, ◌⊎◌, inl, inr}
use Prim.Native.Nat.{ℕ, ◌≤◌, ◌<◌}
use native.Mathlib.Omega.{arith}
use lib.ListN.{length}
use lib.Dec.{eqb}
use borrow.Author.Tests.{eqb-false}
use Rattle.ascii.specs.Choice.{pick, and, bit}
use Rattle.ascii.proofs.SameLaws.{and_left, and_right}
use Rattle.lent.specs.Sizes.{limit}
use Rattle.lent.specs.Gates.{gate_of}
use Rattle.lent.specs.Table.{Outcome, past_gate}
use Rattle.lent.specs.Admission.{FirstAt, Opened, Shortened}
use Rattle.lent.proofs.GateLaws.{gate_row}
use Rattle.lent.proofs.GateLaws as Gates
use Rattle.lent.proofs.OutcomeLaws.{number_of, past_row}

pub record Row : Type 1 where
  pub number : ℕ
  pub fact : Type 0

abbrev pub row : ℕ → Type 0 → Row
row n f = record { number = n; fact = f }

-- one of the facts holds
unfoldable pub OneOf : List Row → Type 0
OneOf [] = ⊥
OneOf (r ∷ rs) = r.fact ⊎ OneOf rs

-- each gives its number
unfoldable pub Numbered : ℕ → List Row → Type 0
Numbered n [] = Unit {0}
Numbered n (r ∷ rs) = (r.fact → n ≡ r.number) × Numbered n rs

-- each number is given exactly when its fact holds
unfoldable pub Exactly : ℕ → List Row → Type 0
Exactly n [] = Unit {0}
Exactly n (r ∷ rs) = ((n ≡ r.number) ↔ r.fact) × Exactly n rs

-- no row has that number
unfoldable pub absent : ℕ → List Row → Bool
absent k [] = true
absent k (r ∷ rs) = pick (eqb k r.number) false (absent k rs)

-- no two rows have one number
unfoldable pub differ : List Row → Bool
differ [] = true
differ (r ∷ rs) = and (absent r.number rs) (differ rs)

-- where no row has the number, no fact of them holds
other : (n k : ℕ) (rs : List Row) → absent k rs ≡ true → Numbered n rs → OneOf rs → n ≡ k → ⊥
unfolding OneOf Numbered absent
other n k [] d g o e = o
other n k (r ∷ rs) d g o e = go (eqb k r.number) refl d (λ d o. other n k rs d g.1 o e) o
  where
    go : (b : Bool) → eqb k r.number ≡ b → pick b false (absent k rs) ≡ true → (absent k rs ≡ true → OneOf rs → ⊥) → r.fact ⊎ OneOf rs → ⊥
    go true z d rest o = absurd (omega (arith, ap bit d))
    go false z d rest (inl f) = eqb-false k r.number z (sym e ∙ g.0 f)
    go false z d rest (inr o) = rest d o

-- and each of their numbers is none
none_of : (n k : ℕ) (rs : List Row) → absent k rs ≡ true → Numbered n rs → n ≡ k → Exactly n rs
unfolding Numbered absent Exactly
none_of n k [] d g e = tt
none_of n k (r ∷ rs) d g e = go (eqb k r.number) refl d (λ d. none_of n k rs d g.1 e)
  where
    go : (b : Bool) → eqb k r.number ≡ b → pick b false (absent k rs) ≡ true → (absent k rs ≡ true → Exactly n rs) → ((n ≡ r.number) ↔ r.fact) × Exactly n rs
    go true z d rest = absurd (omega (arith, ap bit d))
    go false z d rest = ((λ q. absurd (eqb-false k r.number z (sym e ∙ q)), g.0), rest d)

pub exactly : (n : ℕ) (rs : List Row) → differ rs ≡ true → OneOf rs → Numbered n rs → Exactly n rs
unfolding OneOf Numbered Exactly differ
exactly n [] d o g = tt
exactly n (r ∷ rs) d o g = go (and_left (absent r.number rs) (differ rs) d) (λ o. exactly n rs (and_right (absent r.number rs) (differ rs) d) o g.1) o
  where
    go : absent r.number rs ≡ true → (OneOf rs → Exactly n rs) → r.fact ⊎ OneOf rs → ((n ≡ r.number) ↔ r.fact) × Exactly n rs
    go d rest (inl f) = ((λ e. f, g.0), none_of n r.number rs d g.1 (g.0 f))
    go d rest (inr o) = ((λ e. absurd (other n r.number rs d g.1 o e), g.0), rest o)

-- ---- behind the gate

module _ (s : List ℕ) (lent asked : ℕ) where
  -- rows past the gate, each with what the gate says when it is open
  unfoldable pub behind : List Row → List Row
  behind [] = []
  behind (r ∷ rs) = row r.number (Opened s lent asked × r.fact) ∷ behind rs

  -- and the gate's own before them
  abbrev pub gated : List Row → List Row
  gated rs =
      row 1 (limit < length s)
      ∷ row 2 ((length s ≤ limit) × ((p : ℕ) × FirstAt s p))
      ∷ row 3 (Shortened s lent asked)
      ∷ behind rs

  opened : Opened s lent asked → (rs : List Row) → OneOf rs → OneOf (behind rs)
  unfolding OneOf behind
  opened h [] o = o
  opened h (r ∷ rs) (inl f) = inl (h, f)
  opened h (r ∷ rs) (inr o) = inr (opened h rs o)

  module _ {A : Type 0} (o : Outcome A) where
    -- what the call comes to
    abbrev whole : ℕ
    whole = number_of (past_gate (gate_of s lent asked) o)

    by_gate : (g : Result Unit GateError) → Gates.Row s lent asked g → whole ≡ number_of (past_gate g o)
    by_gate g h = ap number_of (past_row s lent asked o g h)

    numbered : (rs : List Row) → Numbered (number_of o) rs → Numbered whole (behind rs)
    unfolding Numbered behind
    numbered [] g = tt
    numbered (r ∷ rs) g = (λ p. by_gate (Ok tt) p.0 ∙ g.0 p.1, numbered rs g.1)

    -- every number of a call, by the facts of what stands past its gate
    pub exactly_gated : (rs : List Row) → differ (gated rs) ≡ true → OneOf rs → Numbered (number_of o) rs → Exactly (number_of (past_gate (gate_of s lent asked) o)) (gated rs)
    unfolding OneOf Numbered
    exactly_gated rs d one g = exactly whole (gated rs) d (go (gate_of s lent asked) (gate_row s lent asked)) (by_gate (Err TooLong), (λ k. by_gate (Err (NotAscii k.1.0)) (k.0, k.1.1), (by_gate (Err Short), numbered rs g)))
      where
        go : (g : Result Unit GateError) → Gates.Row s lent asked g → OneOf (gated rs)
        go (Err TooLong) h = inl h
        go (Err (NotAscii p)) h = inr (inl (h.0, (p, h.1)))
        go (Err Short) h = inr (inr (inl h))
        go (Ok tt) h = inr (inr (inr (opened h rs one)))
