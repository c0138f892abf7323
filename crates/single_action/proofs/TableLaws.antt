-- The rows of the table by their places: the first row of a name decides, whichever way the code finds it.
use mathlib.Core.Path.{◌≡◌, refl}
use mathlib.Core.List.{List, [], ◌∷◌}
use Prim.Native.Nat.{ℕ, zero, suc, ◌<◌, zero-le, suc-le-suc}
use native.Mathlib.Nat.{not-suc-le-zero, le_of_suc-le-suc}
use lib.ListN.{length, get_or}
use Rattle.ascii.specs.Fold.{lowered}
use Rattle.ascii.proofs.SameLaws.{same_refl, same_false}
use Rattle.single_action.specs.Table.{plain, Row, row, rows, found, missing, find}

-- the row at a place of any table
abbrev pub row_in : List Row → ℕ → Row
row_in rs k = get_or rs k (row "" 0 plain)

-- its name as it is sought
abbrev pub sought_at : List Row → ℕ → List ℕ
sought_at rs k = lowered (row_in rs k).name

pub find_at : (rs : List Row) (name : List ℕ) (r : ℕ) → r < length rs
    → ((k : ℕ) → k < r → sought_at rs k ≡ name → ⊥)
    → sought_at rs r ≡ name
    → find rs name ≡ found (row_in rs r)
unfolding find
find_at [] name r h n e = absurd (not-suc-le-zero h)
find_at (t ∷ rs) name zero h n e = rw (e, same_refl name)
find_at (t ∷ rs) name (suc r) h n e =
    rw (same_false (lowered t.name) name (n 0 (suc-le-suc zero-le)))
    (find_at rs name r (le_of_suc-le-suc h) (λ k l. n (suc k) (suc-le-suc l)) e)

pub find_none : (rs : List Row) (name : List ℕ) → ((k : ℕ) → k < length rs → sought_at rs k ≡ name → ⊥) → find rs name ≡ missing
unfolding find
find_none [] name n = refl
find_none (t ∷ rs) name n =
    rw (same_false (lowered t.name) name (n 0 (suc-le-suc zero-le))) (find_none rs name (λ k l. n (suc k) (suc-le-suc l)))

pub rows_count : length rows ≡ 41
unfolding rows
rows_count = refl
