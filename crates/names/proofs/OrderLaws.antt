-- Ascending order of names carries over, so it tells them apart.
use mathlib.Core.Path.{◌≡◌, ◌∙◌, refl, sym}
use mathlib.Core.Bool.{Bool, true, false}
use mathlib.Core.Logic.{◌⊎◌, inl, inr}
use mathlib.Core.List.{List, [], ◌∷◌}
use Prim.Native.Nat.{ℕ, zero, suc, ◌+◌, ◌<◌}
use native.Mathlib.Nat.{lt_trans, lt_irrefl, eq-or-lt_of_le, le_of_suc-le-suc}
use native.Mathlib.Numerals.{add-one}
use native.Mathlib.Omega.{arith}
use lib.Dec.{eqb, ltb}
use borrow.Author.Tests.{eqb-true, ltb-true}
use Rattle.ascii.specs.Choice.{and, or}
use Rattle.ascii.proofs.TestLaws.{both, apart}
use Rattle.names.specs.Sorted.{precedes, part_at, Ascending}

-- a stands before b: it ends first, or has the lesser byte where they part
data Below : List ℕ → List ℕ → Type 0 where
  ended : {y : ℕ} {ys : List ℕ} → Below [] (y ∷ ys)
  parted : {x y : ℕ} {xs ys : List ℕ} → x < y → Below (x ∷ xs) (y ∷ ys)
  later : {x y : ℕ} {xs ys : List ℕ} → x ≡ y → Below xs ys → Below (x ∷ xs) (y ∷ ys)

below_trans : {a b c : List ℕ} → Below a b → Below b c → Below a c
below_trans ended (parted q) = ended
below_trans ended (later e q) = ended
below_trans (parted p) (parted q) = parted (lt_trans p q)
below_trans (parted p) (later e q) = parted (rw e at p)
below_trans (later e p) (parted q) = parted (rw (sym e) at q)
below_trans (later e p) (later f q) = later (e ∙ f) (below_trans p q)

below_irrefl : (a : List ℕ) → Below a a → ⊥
below_irrefl [] x = elim x [ ]
below_irrefl (x ∷ a) (parted p) = lt_irrefl x p
below_irrefl (x ∷ a) (later e p) = below_irrefl a p

below : (a b : List ℕ) → precedes a b ≡ true → Below a b
unfolding precedes
below [] [] e = absurd (apart e refl)
below [] (y ∷ b) e = ended
below (x ∷ a) [] e = absurd (apart e refl)
below (x ∷ a) (y ∷ b) e = go (ltb x y) refl e (below a b)
  where
    go : (t : Bool) → ltb x y ≡ t → or t (and (eqb x y) (precedes a b)) ≡ true → (precedes a b ≡ true → Below a b) → Below (x ∷ a) (y ∷ b)
    go true p q r = parted (ltb-true x y p)
    go false p q r = let h = both (eqb x y) (precedes a b) q in later (eqb-true x y h.0) (r h.1)

module _ (run starts : List ℕ) (p : Ascending run starts) where
  -- each name stands before every later one
  rising : (i j : ℕ) → i < j → j < 76 → Below (part_at run starts i) (part_at run starts j)
  rising i zero h k = absurd (omega arith)
  rising i (suc j) h k = go (λ l. rising i j l (omega arith)) (eq-or-lt_of_le (le_of_suc-le-suc h))
    where
      next : Below (part_at run starts j) (part_at run starts (suc j))
      next = rw (add-one j) at (below (part_at run starts j) (part_at run starts (j + 1)) (p.rising j (omega arith)))

      go : (i < j → Below (part_at run starts i) (part_at run starts j)) → (i ≡ j) ⊎ (i < j) → Below (part_at run starts i) (part_at run starts (suc j))
      go r (inl e) = rw e next
      go r (inr l) = below_trans (r l) next

  -- so no two places have the same name
  pub distinct : (i j : ℕ) → i < j → j < 76 → part_at run starts i ≡ part_at run starts j → ⊥
  distinct i j h k e = below_irrefl (part_at run starts j) (rw e at (rising i j h k))
