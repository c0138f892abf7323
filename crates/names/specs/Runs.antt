-- Names of one length in a table, as the code lists them: by their places in a run, or by the rows that they begin.
use Rattle.std.specs.Prelude.{◌≡◌, ℕ, ◌+◌, Bool, true, List, [], ◌∷◌, map, length, get_or, take, drop, leb, ltb, Option}
use Rattle.ascii.specs.Choice.{and}
use Rattle.ascii.specs.Fold.{lowered, uppered}
use Rattle.names.specs.Tables.{Row, find}

-- n bytes of the run at each place, with the code beside it
unfoldable pub parts : ℕ → List ℕ → List (ℕ × ℕ) → List Row
parts n run places = map (λ (p : ℕ × ℕ). record { name = take n (drop p.0 run); code = p.1 }) places

-- each part is within a run so long, and n is a length that words hold
unfoldable pub parts_fit : ℕ → ℕ → List (ℕ × ℕ) → Bool
parts_fit n long [] = and (leb 1 n) (leb n 32)
parts_fit n long (p ∷ places) = and (leb (p.0 + n) long) (parts_fit n long places)

-- what is asked of a run's list, and what is found: the code of the first part that is the name in capitals
pub record PartsFit (n : ℕ) (run : List ℕ) (places : List (ℕ × ℕ)) : Type 0 where
  pub fit : parts_fit n (length run) places ≡ true

pub record AmongParts (n : ℕ) (run : List ℕ) (places : List (ℕ × ℕ)) (name : List ℕ) (r : Option ℕ) : Type 0 where
  pub found : r ≡ find (parts n run places) (uppered name)

-- the first n bytes of the rows listed, a row's number being its code
unfoldable pub fronts : ℕ → List (List ℕ) → List ℕ → List Row
fronts n rows listed = map (λ (k : ℕ). record { name = take n (get_or rows k []); code = k }) listed

-- there are such rows, and n bytes in a row
unfoldable pub fronts_fit : ℕ → ℕ → List ℕ → Bool
fronts_fit n count [] = and (leb 1 n) (leb n 20)
fronts_fit n count (k ∷ listed) = and (ltb k count) (fronts_fit n count listed)

-- the same of rows: the number of the first row listed that begins with the name in small letters
pub record FrontsFit (n : ℕ) (rows : List (List ℕ)) (listed : List ℕ) : Type 0 where
  pub fit : fronts_fit n (length rows) listed ≡ true

pub record AmongFronts (n : ℕ) (rows : List (List ℕ)) (listed name : List ℕ) (r : Option ℕ) : Type 0 where
  pub found : r ≡ find (fronts n rows listed) (lowered name)
