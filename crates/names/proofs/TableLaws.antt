-- What is found in a table: nothing for a name that no row has, and alike in two tables that hold the same rows.
use Rattle.std.specs.Prelude.{Option, Some, None}
use mathlib.Core.Path.{◌≡◌, ◌∙◌, refl, sym, ap}
use mathlib.Core.Bool.{Bool, true, false}
use mathlib.Core.List.{List, [], ◌∷◌, map}
use Prim.Native.Nat.{ℕ, zero, suc, ◌<◌, zero-le, suc-le-suc}
use native.Mathlib.Nat.{not-suc-le-zero, le_of_suc-le-suc}
use lib.ListN.{length, get_or}
use borrow.Author.Tests.{eqb-true}
use Rattle.ascii.specs.Choice.{pick}
use Rattle.ascii.specs.Fold.{same}
use Rattle.names.specs.Tables.{Row, find, gave, answered, name_at}
use Rattle.ascii.proofs.SameLaws.{never, and_left, and_right, same_true, same_false}

-- a name that no row has is not found
pub find_none : (rows : List Row) (name : List ℕ) → ((k : ℕ) → k < length rows → name_at rows k ≡ name → ⊥) → find rows name ≡ None
unfolding find
find_none [] name n = refl
find_none (t ∷ rows) name n =
    rw (same_false t.name name (n 0 (suc-le-suc zero-le))) (find_none rows name (λ k l. n (suc k) (suc-le-suc l)))

gave_true : (l : Option ℕ) (c : ℕ) → gave l c ≡ true → l ≡ Some c
gave_true (Some c) d e = ap Some (eqb-true c d e)
gave_true None d e = absurd (never cc)

-- where each row is answered with its code, what is found among them is the answer
pub carried : (answer : List ℕ → Option ℕ) (rows : List Row) → answered answer rows ≡ true
    → (name : List ℕ) (c : ℕ) → find rows name ≡ Some c → answer name ≡ Some c
unfolding find answered
carried answer [] f name c e = absurd (never cc)
carried answer (r ∷ rows) f name c e = go (same r.name name) refl (carried answer rows (and_right first rest f) name c) e
  where
    first : Bool
    first = gave (answer r.name) r.code

    rest : Bool
    rest = answered answer rows

    go : (t : Bool) → same r.name name ≡ t
        → (find rows name ≡ Some c → answer name ≡ Some c)
        → pick t (Some r.code) (find rows name) ≡ Some c → answer name ≡ Some c
    go true s q p = rw (sym (same_true r.name name s)) (gave_true (answer r.name) r.code (and_left first rest f) ∙ p)
    go false s q p = q p

-- two tables each of whose rows is found in the other with its code find the same for every name
pub agree : (a b : List Row) → answered (find b) a ≡ true → answered (find a) b ≡ true → (name : List ℕ) → find a name ≡ find b name
agree a b f g name = go (find a name) (find b name) refl refl
  where
    go : (x y : Option ℕ) → find a name ≡ x → find b name ≡ y → find a name ≡ find b name
    go (Some c) y p q = p ∙ sym (carried (find b) a f name c p)
    go None (Some c) p q = carried (find a) b g name c q ∙ sym q
    go None None p q = p ∙ sym q

-- a table written out from a rule for each place
unfoldable pub tabulate : (ℕ → Row) → ℕ → ℕ → List Row
tabulate f k zero = []
tabulate f k (suc n) = f k ∷ tabulate f (suc k) n

pub get_d_map : {A B : Type 0} (f : A → B) (xs : List A) (k : ℕ) (d : A) (e : B) → k < length xs → get_or (map f xs) k e ≡ f (get_or xs k d)
get_d_map f [] k d e h = absurd (not-suc-le-zero h)
get_d_map f (x ∷ xs) zero d e h = refl
get_d_map f (x ∷ xs) (suc k) d e h = get_d_map f xs k d e (le_of_suc-le-suc h)
