-- Names in ascending order, packed in one run of bytes.
use Rattle.std.specs.Prelude.{ℕ, ◌+◌, ◌-◌, ◌<◌, ◌≤◌, ◌≡◌, Bool, true, false, List, [], ◌∷◌, length, get_or, take, drop, eqb, ltb}
use Rattle.ascii.specs.Choice.{and, or}

-- the first stands before the second: it ends first, or has the lesser byte where they part
unfoldable pub precedes : List ℕ → List ℕ → Bool
precedes [] [] = false
precedes [] (y ∷ ys) = true
precedes (x ∷ xs) [] = false
precedes (x ∷ xs) (y ∷ ys) = or (ltb x y) (and (eqb x y) (precedes xs ys))

-- the name at place k of a run
unfoldable pub part_at : List ℕ → List ℕ → ℕ → List ℕ
part_at run starts k = take (get_or starts (k + 1) 0 - get_or starts k 0) (drop (get_or starts k 0) run)

-- 76 names, one behind another from the run's start to its end, each before the next one
pub record Ascending (run starts : List ℕ) : Type 0 where
  pub begins : get_or starts 0 0 ≡ 0
  pub forward : (k : ℕ) → k < 76 → get_or starts k 0 ≤ get_or starts (k + 1) 0
  pub ends : get_or starts 76 0 ≡ length run
  pub rising : (k : ℕ) → k < 75 → precedes (part_at run starts k) (part_at run starts (k + 1)) ≡ true
