-- When a call is refused past the gate, and when it is read, in plain words.
use Rattle.std.specs.Prelude.{◌≡◌, ℕ, ◌+◌, List, [], ◌∷◌, ◌++◌, length, eqb, Some, None}
use Rattle.ascii.specs.Choice.{pick}
use Rattle.names.specs.Variables.{variable_code}
use Rattle.variables.specs.Parts.{Piece, pieces}
use Rattle.variables.specs.Variables.{at_colon, front_of}
use Rattle.variables.specs.Steps.{excluded_of, kept_count}
use Rattle.variables.specs.declared.singles.Exclusions.{Exclusions}
use Rattle.variables.specs.declared.singles.Exclusions.TheVariants.{AsWritten, LookedUp}

-- the name of a piece that is looked up, if one is
pub data Asked : Type 0 where
  nothing : Asked
  name : List ℕ → Asked

-- up to the first colon
abbrev pub up_to_colon : List ℕ → Asked
up_to_colon t = name (front_of (at_colon t))

-- behind `!`, which only parse_update_targets looks up
abbrev pub asked_behind : Exclusions → List ℕ → Asked
asked_behind AsWritten r = nothing
asked_behind LookedUp r = up_to_colon r

-- behind `&` too
abbrev pub asked : Exclusions → List ℕ → Asked
asked n [] = up_to_colon []
asked n (b ∷ r) = pick (eqb b 33) (asked_behind n r) (pick (eqb b 38) (up_to_colon r) (up_to_colon (b ∷ r)))

-- no name is looked up, or a variable's
pub data Meant (n : Exclusions) (p : List ℕ) : Type 0 where
  unasked : asked n p ≡ nothing → Meant n p
  found : (x : List ℕ) (code : ℕ) → asked n p ≡ name x → variable_code x ≡ Some code → Meant n p

pub data AllMeant (n : Exclusions) : List Piece → Type 0 where
  none : AllMeant n []
  also : {p : Piece} {ps : List Piece} → Meant n p.text → AllMeant n ps → AllMeant n (p ∷ ps)

-- the first piece whose name is no variable's
pub record Missing (n : Exclusions) (ps : List Piece) : Type 0 where
  pub passed : List Piece
  pub this : Piece
  pub after : List Piece
  pub text : List ℕ
  pub list : ps ≡ passed ++ this ∷ after
  pub meant : AllMeant n passed
  pub asks : asked n this.text ≡ name text
  pub unknown : variable_code text ≡ None

-- the pieces without a mark
abbrev pub unmarked : List ℕ → Piece → List Piece → List Piece
unmarked [] p ps = p ∷ ps
unmarked (b ∷ r) p ps = pick (eqb b 33) ps (p ∷ ps)

unfoldable pub unmarked_of : List Piece → List Piece
unmarked_of [] = []
unmarked_of (p ∷ ps) = unmarked p.text p (unmarked_of ps)

-- how many records a list takes: its variables, and the exclusions that are kept
abbrev pub needed : Exclusions → List ℕ → ℕ
needed n s = length (unmarked_of (pieces s)) + kept_count n (length (unmarked_of (pieces s))) (length (excluded_of (pieces s)))
