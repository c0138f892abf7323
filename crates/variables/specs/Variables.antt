-- One variable, and the lists that are read from pieces.
use Rattle.std.specs.Prelude.{ℕ, suc, ◌-◌, Bool, true, false, List, [], ◌∷◌, length, take, drop, get_or, eqb, ltb, Option, Some, None}
use Rattle.ascii.specs.Choice.{pick, and}
use Rattle.ascii.specs.Splits.{Split, whole, halves, split}
use Rattle.lent.specs.Sources.{Part, Sourced, sourced}
use Rattle.names.specs.Variables.{variable_code}
use Rattle.variables.specs.Parts.{Piece}

-- ---- one variable

-- A text before the first colon, and what follows it if there is one: bytes().position(|b| b == b':').
abbrev pub at_colon : List ℕ → Split
at_colon = split 58

-- The Rust's Selection, or none.
pub data Selection : Type 0 where
  none : Selection
  key : List ℕ → Selection
  regex : List ℕ → Selection

-- A selection is a regex where it starts and ends with `/` and is longer than two bytes.
abbrev pub is_regex : List ℕ → Bool
is_regex s = and (eqb (get_or s 0 0) 47) (and (eqb (get_or s (length s - 1) 0) 47) (ltb 2 (length s)))

unfoldable pub selection : List ℕ → Selection
selection s = pick (is_regex s) (regex (take (length s - 2) (drop 1 s))) (key s)

-- The Rust's VariableSpec, without exclusions, which hold for every variable of a list.
pub record Variable : Type 0 where
  pub code : ℕ
  pub counts : Bool
  pub chosen : Selection

-- A variable, or the name that is none.
pub data Single : Type 0 where
  variable : Variable → Single
  unknown : List ℕ → Single

abbrev pub named : Option ℕ → List ℕ → Bool → Selection → Single
named (Some c) name counts chosen = variable (record { code = c; counts = counts; chosen = chosen })
named None name counts chosen = unknown name

abbrev pub split_single : Split → Bool → Single
split_single (whole name) counts = named (variable_code name) name counts none
split_single (halves name t) counts = named (variable_code name) name counts (selection t)

-- parse_single_variable, on a part that is trimmed: `&` first is count mode.
unfoldable pub single : List ℕ → Single
single [] = split_single (at_colon []) false
single (b ∷ r) = pick (eqb b 38) (split_single (at_colon r) true) (split_single (at_colon (b ∷ r)) false)

-- ---- a list

-- What a list is read to: variables and exclusions, each in order and with the part that it was read from;
-- or the first name that is none, with its piece and the part that this is.
pub data Targets : Type 0 where
  targets : List (Sourced Variable) → List (Sourced (List ℕ)) → Targets
  refused : ℕ → List ℕ → Part → Targets

-- One piece, which stands at x, read before the others.
abbrev pub with_variable : Part → Single → Targets → Targets
with_variable x (variable v) (targets vs es) = targets (sourced v x ∷ vs) es
with_variable x (variable v) (refused i n y) = refused (suc i) n y
with_variable x (unknown n) (targets vs es) = refused 0 n x
with_variable x (unknown n) (refused i m y) = refused 0 n x

abbrev pub with_exclusion : Part → List ℕ → Targets → Targets
with_exclusion x e (targets vs es) = targets vs (sourced e x ∷ es)
with_exclusion x e (refused i n y) = refused (suc i) n y

-- An exclusion's name up to a colon, looked up: only parse_update_targets does.
abbrev pub front_of : Split → List ℕ
front_of (whole s) = s
front_of (halves s t) = s

abbrev pub if_known : Part → Option ℕ → List ℕ → Targets → Targets
if_known x (Some c) n ts = ts
if_known x None n ts = refused 0 n x

-- What `!` does with the text behind it, in each of the two parsers; the piece stands at the part given, its `!` with it.
abbrev pub Excluding : Type 0
Excluding = Part → List ℕ → Targets → Targets

abbrev pub as_written : Excluding
as_written x e ts = with_exclusion x e ts

abbrev pub looked_up : Excluding
looked_up x e ts = if_known x (variable_code (front_of (at_colon e))) (front_of (at_colon e)) (with_exclusion x e ts)

-- A piece, by its place and its bytes: an exclusion behind `!`, else a variable.
abbrev pub piece : Excluding → Part → List ℕ → Targets → Targets
piece ex x [] ts = with_variable x (single []) ts
piece ex x (b ∷ r) ts = pick (eqb b 33) (ex x r ts) (with_variable x (single (b ∷ r)) ts)

-- The loops of parse_variables and parse_update_targets over their pieces.
unfoldable pub read_all : Excluding → List Piece → Targets
read_all ex [] = targets [] []
read_all ex (p ∷ ps) = piece ex p.place p.text (read_all ex ps)
