-- A table's names of one length: what is found among them is found in the table, and names of no other length are there.
use Rattle.std.specs.Prelude.{Option, Some, None}
use mathlib.Core.Path.{◌≡◌, ◌∙◌, refl, sym, ap, subst}
use mathlib.Core.Bool.{Bool, true, false}
use mathlib.Core.List.{List, [], ◌∷◌, map}
use Prim.Native.Nat.{ℕ, ◌<◌}
use lib.ListN.{length, length-map}
use lib.Dec.{eqb}
use borrow.Author.Tests.{eqb-false, ne_eqb}
use Rattle.ascii.specs.Choice.{pick, or}
use Rattle.ascii.specs.Fold.{same}
use Rattle.ascii.proofs.TestLaws.{apart}
use Rattle.ascii.proofs.SameLaws.{same_false}
use Rattle.names.specs.Tables.{Row, find, name_at}
use Rattle.names.proofs.Tests.{every, at}
use Rattle.names.proofs.TableLaws.{find_none}

unfoldable pub of_length : ℕ → List Row → List Row
of_length n [] = []
of_length n (r ∷ rows) = pick (eqb (length r.name) n) (r ∷ of_length n rows) (of_length n rows)

pub by_length : (n : ℕ) (rows : List Row) (name : List ℕ) → length name ≡ n → find (of_length n rows) name ≡ find rows name
unfolding of_length find
by_length n [] name e = refl
by_length n (r ∷ rows) name e = go (eqb (length r.name) n) refl (by_length n rows name e)
  where
    go : (t : Bool) → eqb (length r.name) n ≡ t → find (of_length n rows) name ≡ find rows name
        → find (pick t (r ∷ of_length n rows) (of_length n rows)) name ≡ pick (same r.name name) (Some r.code) (find rows name)
    go true p q = ap (λ (l : Option ℕ). pick (same r.name name) (Some r.code) l) q
    go false p q = rw (same_false r.name name (λ f. eqb-false (length r.name) n p (ap length f ∙ e))) q

-- ---- lengths that a match lists, the last first, and what is known where it lists none

abbrev pub Rest : List ℕ → ℕ → Type 0
Rest [] n = Unit {0}
Rest (l ∷ lengths) n = Rest lengths n × (n ≡ l → ⊥)

abbrev listed : ℕ → List ℕ → Bool
listed n [] = false
listed n (l ∷ lengths) = or (eqb n l) (listed n lengths)

unlisted : (n : ℕ) (lengths : List ℕ) → Rest lengths n → listed n lengths ≡ false
unlisted n [] r = refl
unlisted n (l ∷ lengths) r = rw (ne_eqb n l r.1) (unlisted n lengths r.0)

-- each name of the table has one of these lengths, or one that does not come here
unfoldable pub covers : List Row → List ℕ → (ℕ → Bool) → Bool
covers table lengths elsewhere = every (λ k. or (elsewhere (length (name_at table k))) (listed (length (name_at table k)) lengths)) (length table)

pub none_of : (f : ℕ → ℕ) (table : List Row) (lengths : List ℕ) (elsewhere : ℕ → Bool) → covers table lengths elsewhere ≡ true
    → (name : List ℕ) → Rest lengths (length name) → elsewhere (length name) ≡ false → None ≡ find table (map f name)
unfolding covers
none_of f table lengths elsewhere t name r o = sym (find_none table (map f name) other)
  where
    there : (k : ℕ) → k < length table → or (elsewhere (length (name_at table k))) (listed (length (name_at table k)) lengths) ≡ true
    there k h = at (λ k. or (elsewhere (length (name_at table k))) (listed (length (name_at table k)) lengths)) (length table) t k h

    other : (k : ℕ) → k < length table → name_at table k ≡ map f name → ⊥
    other k h e =
        let p : or (elsewhere (length name)) (listed (length name) lengths) ≡ true =
        subst (λ (n : ℕ). or (elsewhere n) (listed n lengths) ≡ true) (ap length e ∙ length-map name f) (there k h) in
        apart p (rw (o, unlisted (length name) lengths r))
