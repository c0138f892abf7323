-- Rules that stand, each by its id and its directive's line: adding one, and removing some. Nothing here knows of slices.
use Rattle.std.specs.Prelude.{ℕ, suc, ◌≡◌, Bool, true, List, [], ◌∷◌, length, eqb, leb, ltb, Option, Some, None}
use Rattle.ascii.specs.Choice.{pick, and}
use Rattle.rules.specs.Entries.{Entry, id_code, first_of}

pub record Rule : Type 0 where
  pub id : ℕ
  pub line : ℕ

-- what a rule goes by: its first id, if it has one
abbrev pub name_of : List Entry → Option ℕ
name_of es = first_of id_code es

-- the line of the rule that has an id
unfoldable pub line_of : ℕ → List Rule → Option ℕ
line_of id [] = None
line_of id (x ∷ r) = pick (eqb x.id id) (Some x.line) (line_of id r)

-- No two rules have one id.
pub data Distinct : List Rule → Type 0 where
  none : Distinct []
  more : {x : Rule} {r : List Rule} → line_of x.id r ≡ None → Distinct r → Distinct (x ∷ r)

-- ids strictly ascending, the first no less than `least`
unfoldable pub from : ℕ → List Rule → Bool
from least [] = true
from least (x ∷ r) = and (leb least x.id) (from (suc x.id) r)

-- a rule more, in its place by id
unfoldable pub insert : Rule → List Rule → List Rule
insert x [] = x ∷ []
insert x (y ∷ r) = pick (ltb x.id y.id) (x ∷ y ∷ r) (y ∷ insert x r)

-- rules put in their places, one after another
unfoldable pub entered : List Rule → List Rule → List Rule
entered [] rs = rs
entered (x ∷ xs) rs = entered xs (insert x rs)

-- Rules by ascending id, built afresh.
abbrev pub afresh : List Rule → List Rule
afresh xs = entered xs []

-- those whose id a test does not take
unfoldable pub without : (ℕ → Bool) → List Rule → List Rule
without t [] = []
without t (x ∷ r) = pick (t x.id) (without t r) (x ∷ without t r)

-- What adding a rule comes to, where so many rules have a place: no id, the id is there, no place left, or entered.
pub data Verdict : Type 0 where
  passes : Verdict
  taken : ℕ → Verdict
  full : Verdict
  enters : Rule → Verdict

abbrev pub placing : ℕ → ℕ → Rule → Option ℕ → Verdict
placing places count x (Some l) = taken l
placing places count x None = pick (ltb count places) (enters x) full

abbrev pub verdict : ℕ → List Rule → Option ℕ → ℕ → Verdict
verdict places rs None line = passes
verdict places rs (Some id) line = placing places (length rs) (record { id = id; line = line }) (line_of id rs)
