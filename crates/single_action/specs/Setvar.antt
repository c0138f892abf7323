-- A setvar specification: parse_setvar.
use Rattle.ascii.specs.declared.numbers.NumberError.{NumberError}
use Rattle.std.specs.Prelude.{ℕ, Bool, false, List, [], ◌∷◌, drop, eqb, Result, Ok, Err}
use Rattle.ascii.specs.Choice.{pick, and, or}
use Rattle.ascii.specs.Text.{bytes}
use Rattle.ascii.specs.Fold.{lowered}
use Rattle.ascii.specs.Trim.{trim_ends}
use Rattle.ascii.specs.Numbers.{signed_word}
use Rattle.ascii.specs.Splits.{Split, whole, halves, split, leads}
use Rattle.single_action.specs.Marks.{unpaired}

-- SetVarValue; amounts are i64, as words in two's complement.
pub data SetValue : Type 0 where
  text : List ℕ → SetValue
  int : ℕ → SetValue
  increment : ℕ → SetValue
  decrement : ℕ → SetValue
  delete : SetValue
  macro : List ℕ → SetValue

-- A collection and a key: what parse_var_name gives.
pub record VarName : Type 0 where
  pub collection : List ℕ
  pub key : List ℕ

-- SetVarSpec.
pub record Setvar : Type 0 where
  pub name : VarName
  pub value : SetValue

-- The name with this collection and key: the pair that parse_var_name returns.
abbrev pub var_name : List ℕ → List ℕ → VarName
var_name c k = record { collection = c; key = k }

-- The specification with this name and value: SetVarSpec.
abbrev pub setvar_of : VarName → SetValue → Setvar
setvar_of n v = record { name = n; value = v }

-- parse_var_name, by its split: the collection stands before the first dot and is lower-cased; it is `tx` where there is no dot.
abbrev pub name_by : Split → VarName
name_by (whole k) = var_name (bytes "tx") k
name_by (halves c k) = var_name (lowered c) k

-- A collection and a key: parse_var_name, which splits at the first dot.
unfoldable pub name_of : List ℕ → VarName
name_of s = name_by (split 46 s)

-- `%{` stands anywhere in it: the `contains` of parse_setvar.
unfoldable pub has_macro : List ℕ → Bool
has_macro [] = false
has_macro (b ∷ r) = or (and (eqb b 37) (leads 123 r)) (has_macro r)

-- A step's amount: an unreadable or too large one is 1, as `unwrap_or(1)` says.
abbrev pub amount : Result ℕ NumberError → ℕ
amount (Ok v) = v
amount (Err e) = 1

-- A number, or else the text itself: the last two branches of parse_setvar.
abbrev pub number_or : List ℕ → Result ℕ NumberError → SetValue
number_or s (Ok v) = int v
number_or s (Err e) = text s

-- A value without a macro, in the order of parse_setvar: `+`, `-`, number, text.
unfoldable pub plain_value : List ℕ → SetValue
plain_value s =
    pick (leads 43 s) (increment (amount (signed_word (drop 1 s))))
    (pick (leads 45 s) (decrement (amount (signed_word (drop 1 s))))
    (number_or s (signed_word s)))

-- The value behind `=`: parse_setvar looks for a macro first.
unfoldable pub value_of : List ℕ → SetValue
value_of s = pick (has_macro s) (macro s) (plain_value s)

-- By the split at the first `=` of parse_setvar: with none the value is the text 1.
abbrev pub assigned : Split → Setvar
assigned (whole n) = setvar_of (name_of n) (text (bytes "1"))
assigned (halves n v) = setvar_of (name_of n) (value_of v)

-- A specification without its marks: parse_setvar looks for `!` first, then for the first `=`.
unfoldable pub setvar_bare : List ℕ → Setvar
setvar_bare s = pick (leads 33 s) (setvar_of (name_of (drop 1 s)) delete) (assigned (split 61 s))

-- parse_setvar: trim, drop one matching pair of marks, then read.
unfoldable pub setvar : List ℕ → Setvar
setvar s = setvar_bare (unpaired (trim_ends s))
