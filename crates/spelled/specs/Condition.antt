-- When a list's spelling reads back to it, decided by a walk over the records: the condition of M-109.
use Rattle.ascii.specs.declared.numbers.NumberError.{NumberError}
use Rattle.std.specs.Prelude.{Bool, true, false, List, [], ◌∷◌, ℕ, ◌^◌, eqb, leb, ltb, Result, Ok, Err}
use Rattle.ascii.specs.Choice.{pick, and, or}
use Rattle.ascii.specs.Text.{bytes}
use Rattle.ascii.specs.Classes.{white}
use Rattle.ascii.specs.Fold.{lowered, same}
use Rattle.ascii.specs.Splits.{leads}
use Rattle.ascii.specs.Numbers.{signed_word}
use Rattle.records.specs.Codes.{transformation_code}
use Rattle.records.specs.Actions.{Slot, absent, present, Action, slot_text, action_text}
use Rattle.single_action.specs.Marks.{quotation}
use Rattle.single_action.specs.Setvar.{SetValue, text, int, increment, decrement, delete, macro, Setvar, has_macro}
use Rattle.single_action.specs.declared.naming.Rule.{Rule}
use Rattle.single_action.specs.declared.naming.Rule.TheVariants.{Plain as plain, Wanted as wanted, Unmarked as unmarked, UpTo as up_to, Severity as severity, Equation as equation, Expiry as expiry, Setting as setting}
use Rattle.single_action.specs.Table.{rows, Found, found, missing}
use Rattle.single_action.specs.Actions.{action, numbered, worded, setvar_action}
use Rattle.actions.specs.Pieces.{Nest, outside, nest_after, cuts}
use Rattle.spelled.specs.Spelling.{coded, has, setvar_in, spell}

abbrev pub isnt : Bool → Bool
isnt true = false
isnt false = true

-- ---- a record that a reader makes

unfoldable pub same_slot : Slot → Slot → Bool
same_slot absent absent = true
same_slot absent (present t) = false
same_slot (present s) absent = false
same_slot (present s) (present t) = same s t

unfoldable pub same_action : Action → Action → Bool
same_action x y =
    and (eqb x.code y.code)
    (and (eqb x.number y.number)
    (and (same_slot x.a y.a)
    (and (same_slot x.b y.b)
    (and (eqb x.kind y.kind)
    (same_slot x.c y.c)))))

-- The record with the same used words, and nothing in the unused ones.
unfoldable pub canon : Rule → Action → Action
canon plain x = numbered x.code 0
canon wanted x = worded x.code (slot_text x.a)
canon unmarked x = worded x.code (slot_text x.a)
canon (up_to most) x = numbered x.code x.number
canon severity x = numbered x.code x.number
canon equation x = action x.code 0 (present (slot_text x.a)) (present (slot_text x.b))
canon expiry x = action x.code x.number (present (slot_text x.a)) absent
canon setting x = setvar_action x.code (setvar_in x)

-- ---- its texts and numbers

-- The test holds for the first byte; for the last one, or d where there is none.
abbrev pub first_by : (ℕ → Bool) → List ℕ → Bool
first_by test [] = false
first_by test (b ∷ r) = test b

unfoldable pub last_by : (ℕ → Bool) → Bool → List ℕ → Bool
last_by test d [] = d
last_by test d (b ∷ r) = last_by test (test b) r

abbrev pub unread : Result ℕ NumberError → Bool
unread (Ok n) = false
unread (Err e) = true

-- A text that is read as a text behind `=`.
unfoldable pub textual : List ℕ → Bool
textual t = and (isnt (has_macro t)) (and (isnt (leads 43 t)) (and (isnt (leads 45 t)) (unread (signed_word t))))

abbrev pub value_fits : SetValue → Bool
value_fits (text t) = or (same t (bytes "1")) (textual t)
value_fits (int n) = ltb n (2 ^ 63)
value_fits (increment n) = ltb n (2 ^ 64)
value_fits (decrement n) = ltb n (2 ^ 64)
value_fits delete = true
value_fits (macro t) = has_macro t

-- Unless it is Delete, no `!` first, and no `=` in collection or key.
unfoldable pub name_fits : List ℕ → List ℕ → Bool
name_fits c k = and (isnt (leads 33 c)) (and (isnt (has 61 c)) (isnt (has 61 k)))

abbrev pub named_fits : SetValue → List ℕ → List ℕ → Bool
named_fits (text t) c k = name_fits c k
named_fits (int n) c k = name_fits c k
named_fits (increment n) c k = name_fits c k
named_fits (decrement n) c k = name_fits c k
named_fits delete c k = true
named_fits (macro t) c k = name_fits c k

-- No dot and no capital in the collection.
unfoldable pub setvar_fits : Setvar → Bool
setvar_fits v =
    and (and (isnt (has 46 v.name.collection)) (same (lowered v.name.collection) v.name.collection))
    (and (named_fits v.value v.name.collection v.name.key) (value_fits v.value))

unfoldable pub texts_fit : Rule → Action → Bool
texts_fit plain x = true
texts_fit wanted x = true
texts_fit unmarked x = and (isnt (first_by quotation (slot_text x.a))) (isnt (last_by quotation false (slot_text x.a)))
texts_fit (up_to most) x = leb x.number most
texts_fit severity x = leb x.number 255
texts_fit equation x = isnt (has 61 (slot_text x.a))
texts_fit expiry x = and (isnt (has 61 (slot_text x.a))) (leb x.number 18446744073709551615)
texts_fit setting x = setvar_fits (setvar_in x)

abbrev pub fits_by : Found → Action → Bool
fits_by (found r) x = and (same_action x (canon r.rule x)) (texts_fit r.rule x)
fits_by missing x = false

-- The record alone: reading its spelling gives it back.
unfoldable pub fits : Action → Bool
fits x = pick (eqb x.code transformation_code) (same_action x (worded transformation_code (slot_text x.a))) (fits_by (coded rows x.code) x)

-- ---- its spelling in a list

-- No backslash stands right before LF or CR.
unfoldable pub steady : List ℕ → Bool
steady [] = true
steady (b ∷ r) = and (isnt (and (eqb b 92) (or (leads 10 r) (leads 13 r)))) (steady r)

-- It does not end in whitespace. (Only a text that stands last and bare can: of redirect, skipAfter and `t:`, and the second of ctl and initcol.)
abbrev pub solid : List ℕ → Bool
solid p = isnt (last_by white false p)

-- The cutter meets no comma that cuts.
unfoldable pub uncut : Nest → List ℕ → Bool
uncut n [] = true
uncut n (b ∷ r) = and (isnt (cuts n b)) (uncut (nest_after n b) r)

-- How it stands behind the bytes.
unfoldable pub nest_past : Nest → List ℕ → Nest
nest_past n [] = n
nest_past n (b ∷ r) = nest_past (nest_after n b) r

abbrev pub clean : Nest → Bool
clean n = and (eqb n.mark 0) (eqb n.depth 0)

-- One record: it fits, and its spelling stays whole; where another follows, nothing is left open.
unfoldable pub stays : Action → Bool
stays x = and (fits x) (and (steady (spell x)) (and (solid (spell x)) (uncut outside (spell x))))

unfoldable pub written : List Action → Bool
written [] = true
written (x ∷ []) = stays x
written (x ∷ y ∷ r) = and (stays x) (and (clean (nest_past outside (spell x))) (written (y ∷ r)))

-- ---- lists that are always written

-- A quotation mark, a backslash, a comma or a round bracket.
abbrev pub rough : ℕ → Bool
rough b = or (quotation b) (or (eqb b 92) (or (eqb b 44) (or (eqb b 40) (eqb b 41))))

unfoldable pub smooth : List ℕ → Bool
smooth [] = true
smooth (b ∷ r) = and (isnt (rough b)) (smooth r)

-- None of them stands in a text of the list.
unfoldable pub smooth_texts : List Action → Bool
smooth_texts [] = true
smooth_texts (x ∷ xs) = and (smooth (action_text x)) (smooth_texts xs)
