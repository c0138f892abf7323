-- Names in zero-filled rows.
use Rattle.std.specs.Prelude.{ℕ, ◌-◌, List, ◌++◌, map, length, replicate}
use Rattle.names.specs.Tables.{Row}

-- a row of 20 bytes
unfoldable pub shelved : List ℕ → List ℕ
shelved name = name ++ replicate (20 - length name) 0

-- the rows that hold a table's names
abbrev pub rows_of : List Row → List (List ℕ)
rows_of table = map (λ (r : Row). shelved r.name) table
