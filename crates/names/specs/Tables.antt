-- What a table of names is, and what is found in it.
use Rattle.std.specs.Prelude.{ℕ, Bool, true, false, List, [], ◌∷◌, get_or, eqb, Option, Some, None}
use Prim.Native.String.{String}
use Rattle.ascii.specs.Choice.{pick, and}
use Rattle.ascii.specs.Text.{bytes}
use Rattle.ascii.specs.Fold.{lower, upper, same}

pub record Row : Type 0 where
  pub name : List ℕ
  pub code : ℕ

abbrev pub row : String → ℕ → Row
row text n = record { name = bytes text; code = n }

-- the code of the first row of that name: `get` of the Rust's maps, which have no name twice
unfoldable pub find : List Row → List ℕ → Option ℕ
find [] name = None
find (r ∷ rows) name = pick (same r.name name) (Some r.code) (find rows name)

-- a lookup gave this code
abbrev pub gave : Option ℕ → ℕ → Bool
gave (Some c) d = eqb c d
gave None d = false

-- each row's name is answered with its code
unfoldable pub answered : (List ℕ → Option ℕ) → List Row → Bool
answered answer [] = true
answered answer (r ∷ rows) = and (gave (answer r.name) r.code) (answered answer rows)

-- the name and the code at a place of a table
abbrev pub name_at : List Row → ℕ → List ℕ
name_at rows k = (get_or rows k (row "" 0)).name

abbrev pub code_at : List Row → ℕ → ℕ
code_at rows k = (get_or rows k (row "" 0)).code

-- how a letter is folded: all capitals, or all small
abbrev pub casing : Bool → ℕ → ℕ
casing true = upper
casing false = lower
