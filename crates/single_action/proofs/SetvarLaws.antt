-- The texts of a setvar are at most 3 bytes longer than its specification: `tx` and the text 1.
use Rattle.ascii.specs.declared.numbers.NumberError.TheVariants.{Unreadable, TooLarge}
use Rattle.ascii.specs.declared.numbers.NumberError.{NumberError}
use Rattle.std.specs.Prelude.{Result, Ok, Err}
use mathlib.Core.Path.{◌≡◌}
use mathlib.Core.Bool.{Bool, true, false}
use mathlib.Core.List.{List}
use Prim.Native.Nat.{ℕ, ◌+◌, ◌≤◌, ◌<◌}
use native.Mathlib.Omega.{arith}
use lib.ListN.{length, drop, get_or, length-drop, length-map, drop_of_length-le}
use lib.Dec.{eqb}
use Rattle.ascii.specs.Choice.{pick, and, or}
use Rattle.ascii.specs.Text.{bytes}
use Rattle.ascii.specs.Fold.{lower}
use Rattle.ascii.specs.Classes.{white}
use Rattle.ascii.specs.Trim.{trim_ends}
use Rattle.ascii.specs.Numbers.{signed_word}
use Rattle.ascii.specs.Splits.{Split, whole, halves, split, leads}
use Rattle.ascii.proofs.ListLaws.{next_byte}
use Rattle.ascii.proofs.TrimLaws.{ends_fit}
use Rattle.ascii.proofs.SplitLaws.{spread, split_spread}
use Rattle.single_action.specs.Marks.{unpaired}
use Rattle.single_action.specs.Setvar.{SetValue, increment, decrement, delete, macro, VarName, name_by, name_of, Setvar, setvar_of, amount, number_or, has_macro, plain_value, value_of, assigned, setvar_bare, setvar}
use Rattle.single_action.specs.Actions.{slot_text, text_of}
use Rattle.single_action.proofs.MarkLaws.{unpaired_short}

abbrev name_length : VarName → ℕ
name_length n = length n.collection + length n.key

abbrev value_length : SetValue → ℕ
value_length v = length (slot_text (text_of v))

-- the texts of a setvar together
abbrev pub setvar_length : Setvar → ℕ
setvar_length v = name_length v.name + value_length v.value

by_short : (x : Split) → name_length (name_by x) ≤ spread x + 2
unfolding bytes
by_short (whole k) = omega arith
by_short (halves c k) = omega (arith, length-map c lower)

name_short : (s : List ℕ) → name_length (name_of s) ≤ length s + 2
unfolding name_of
name_short s = omega (arith, by_short (split 46 s), split_spread 46 s)

number_short : (s : List ℕ) (n : Result ℕ NumberError) → value_length (number_or s n) ≤ length s
number_short s (Ok v) = omega arith
number_short s (Err Unreadable) = omega arith
number_short s (Err TooLarge) = omega arith

value_short : (s : List ℕ) → value_length (value_of s) ≤ length s
unfolding value_of plain_value
value_short s = go (has_macro s) (leads 43 s) (leads 45 s)
  where
    go : (t u v : Bool)
        → value_length (pick t (macro s) (pick u (increment (amount (signed_word (drop 1 s)))) (pick v (decrement (amount (signed_word (drop 1 s)))) (number_or s (signed_word s))))) ≤ length s
    go true u v = omega arith
    go false true v = omega arith
    go false false true = omega arith
    go false false false = number_short s (signed_word s)

assigned_short : (x : Split) → setvar_length (assigned x) ≤ spread x + 3
unfolding bytes
assigned_short (whole n) = omega (arith, name_short n)
assigned_short (halves n v) = omega (arith, name_short n, value_short v)

bare_short : (s : List ℕ) → setvar_length (setvar_bare s) ≤ length s + 3
unfolding setvar_bare
bare_short s = go (leads 33 s)
  where
    go : (t : Bool) → setvar_length (pick t (setvar_of (name_of (drop 1 s)) delete) (assigned (split 61 s))) ≤ length s + 3
    go true = omega (arith, name_short (drop 1 s), length-drop 1 s)
    go false = omega (arith, assigned_short (split 61 s), split_spread 61 s)

pub setvar_short : (s : List ℕ) → setvar_length (setvar s) ≤ length s + 3
unfolding setvar
setvar_short s = omega (arith, bare_short (unpaired (trim_ends s)), unpaired_short (trim_ends s), ends_fit white s)

-- ---- the search for a macro, one byte at a time

module _ (s : List ℕ) (i : ℕ) where
  pub macro_next : i < length s → has_macro (drop i s) ≡ or (and (eqb (get_or s i 0) 37) (leads 123 (drop (i + 1) s))) (has_macro (drop (i + 1) s))
  unfolding has_macro
  macro_next h = rw (next_byte s i)

  pub macro_end : length s ≤ i → has_macro (drop i s) ≡ false
  unfolding has_macro
  macro_end h = rw (drop_of_length-le s h)

-- whether a byte stands first, by its place
pub leads_at : (m : ℕ) (s : List ℕ) (i : ℕ) → i < length s → leads m (drop i s) ≡ eqb (get_or s i 0) m
leads_at m s i h = rw (next_byte s i)

pub leads_none : (m : ℕ) (s : List ℕ) (i : ℕ) → length s ≤ i → leads m (drop i s) ≡ false
leads_none m s i h = rw (drop_of_length-le s h)
