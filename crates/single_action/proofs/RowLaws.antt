-- The row of a name by its length: a row whose name is found is the only one, and a name that is none of the rows of its length is none at all.
use Rattle.std.specs.Prelude.{Option, Some, None}
use mathlib.Core.Path.{◌≡◌, ◌∙◌, refl, sym, ap}
use mathlib.Core.Bool.{Bool, true, false}
use mathlib.Core.List.{List, [], ◌∷◌}
use Prim.Native.Nat.{ℕ, ◌≤◌, ◌<◌}
use native.Mathlib.Omega.{arith}
use borrow.Author.Rules.{rules}
use lib.ListN.{length, length-map}
use lib.Dec.{eqb, leb}
use borrow.Author.Tests.{eqb-true, le-leb}
use Rattle.ascii.specs.Choice.{pick, and, or}
use Rattle.ascii.specs.Text.{bytes}
use Rattle.ascii.specs.Fold.{lower, lowered, same}
use Rattle.ascii.proofs.SameLaws.{never, same_refl, same_true, same_not}
use Rattle.names.proofs.Tests.{every, at}
use Rattle.single_action.specs.Table.{rows, row_at, find, found, Placed, NoneOf, Among}
use Rattle.single_action.proofs.TableLaws.{find_at, find_none, rows_count}

-- the name of a row as it is sought
abbrev pub sought : ℕ → List ℕ
sought k = lowered (row_at k).name

-- ---- one name after another

-- it is the name
pub hit : (name : List ℕ) {lit : List ℕ} {k : ℕ} {r : Bool} → r ≡ true → r ≡ same (lowered name) lit → sought k ≡ lit → k < 41 → (k < 41) × (sought k ≡ lowered name)
hit name {lit} t s e h = (h, e ∙ sym (same_true (lowered name) lit (sym s ∙ t)))

pub ruleset hits = (hit, rules)

-- it is not
pub other : (name : List ℕ) (k : ℕ) {r : Bool} → r ≡ same (lowered name) (sought k) → r ≡ false → sought k ≡ lowered name → ⊥
other name k s t f = same_not (lowered name) (sought k) (sym s ∙ t) (sym f)

never_both : (t : Bool) → pick t false true ≡ true → t ≡ true → ⊥
never_both true e f = never cc
never_both false e f = never cc

-- ---- from the rows of a length to all rows

-- no two rows have one name
apart : ℕ → Bool
apart r = every (λ (k : ℕ). pick (same (sought k) (sought r)) false true) r

all_apart : every apart 41 ≡ true
unfolding every apart rows bytes same lower
all_apart = refl

-- so its row is found by its own name
found_there : (r : ℕ) → r < 41 → find rows (sought r) ≡ found (row_at r)
unfolding apart
found_there r h =
    find_at rows (sought r) r (rw rows_count h)
    (λ k b f. absurd (never_both (same (sought k) (sought r)) (at (λ (k : ℕ). pick (same (sought k) (sought r)) false true) r (at apart 41 all_apart r h) k b) (rw f (same_refl (sought r)))))
    refl

unfoldable pub member : ℕ → List ℕ → Bool
member k [] = false
member k (x ∷ xs) = or (eqb k x) (member k xs)

-- the rows whose names have a length that passes a test are at these places
unfoldable pub covers : (ℕ → Bool) → List ℕ → ℕ → Bool
covers test ks k = pick (test (length (row_at k).name)) (member k ks) true

-- from lo to hi letters
abbrev pub between : ℕ → ℕ → ℕ → Bool
between lo hi n = and (leb lo n) (leb n hi)

pub is_between : (lo hi n : ℕ) → lo ≤ n → n ≤ hi → between lo hi n ≡ true
is_between lo hi n l h = rw (le-leb lo n l, le-leb n hi h)

module _ (test : ℕ → Bool) (ks name : List ℕ) (c : every (covers test ks) 41 ≡ true) (l : test (length name) ≡ true) where
  none_at : (xs : List ℕ) (k : ℕ) → NoneOf xs name → member k xs ≡ true → sought k ≡ lowered name → ⊥
  unfolding member
  none_at [] k n m = absurd (never cc)
  none_at (x ∷ xs) k n m = go (eqb k x) refl m (none_at xs k n.1)
    where
      go : (t : Bool) → eqb k x ≡ t → or t (member k xs) ≡ true → (member k xs ≡ true → sought k ≡ lowered name → ⊥) → sought k ≡ lowered name → ⊥
      go true e m r f = n.0 (rw (eqb-true k x e) at f)
      go false e m r f = r m f

  -- a name that is none of the rows of its length
  nowhere : NoneOf ks name → (k : ℕ) → k < 41 → sought k ≡ lowered name → ⊥
  unfolding covers
  nowhere n k b f =
      let e : length (row_at k).name ≡ length name = sym (length-map (row_at k).name lower) ∙ ap length f ∙ length-map name lower in
      let m : member k ks ≡ true = rw (e, l) at (at (covers test ks) 41 c k b) in
      none_at ks k n m f

  pub placed_by : (r : Option ℕ) → Among ks name r → Placed name r
  placed_by (Some r) x = (x.0, ap (find rows) (sym x.1) ∙ found_there r x.0)
  placed_by None x = find_none rows (lowered name) (λ k b. nowhere x k (rw rows_count at b))
