-- The fixed spelling of an action, and of a list (document 02, M-109).
use Rattle.std.specs.Prelude.{Bool, false, List, [], ◌∷◌, ◌++◌, map, ℕ, ◌^◌, ◌-◌, eqb, ltb}
use Rattle.ascii.specs.Choice.{pick, or}
use Rattle.ascii.specs.Text.{bytes}
use Rattle.ascii.specs.Fold.{lowered, same}
use Rattle.records.specs.Codes.{string_kind, int_kind, increment_kind, decrement_kind, macro_kind, transformation_code}
use Rattle.records.specs.Actions.{Slot, absent, present, Action, slot_text}
use Rattle.single_action.specs.Setvar.{SetValue, text, int, increment, decrement, delete, macro, var_name, Setvar, setvar_of}
use Rattle.single_action.specs.declared.naming.Rule.{Rule}
use Rattle.single_action.specs.declared.naming.Rule.TheVariants.{Plain as plain, Wanted as wanted, Unmarked as unmarked, UpTo as up_to, Severity as severity, Equation as equation, Expiry as expiry, Setting as setting}
use Rattle.single_action.specs.Table.{Row, rows, Found, found, missing}
use Rattle.listing.specs.Json.{decimal, joined}

-- The first row with this code: the first name of its arm.
unfoldable pub coded : List Row → ℕ → Found
coded [] k = missing
coded (r ∷ rs) k = pick (eqb r.code k) (found r) (coded rs k)

-- The byte m stands in it.
unfoldable pub has : ℕ → List ℕ → Bool
has m [] = false
has m (b ∷ r) = or (eqb b m) (has m r)

-- Between two marks m.
abbrev pub between : ℕ → List ℕ → List ℕ
between m t = m ∷ (t ++ (m ∷ []))

-- In single marks, or in double ones where it holds a single one.
unfoldable pub marked : List ℕ → List ℕ
marked t = between (pick (has 39 t) 34 39) t

-- A signed amount, a word in two's complement.
unfoldable pub signed : ℕ → List ℕ
signed n = pick (ltb n (2 ^ 63)) (decimal n) (45 ∷ decimal (2 ^ 64 - n))

-- ---- setvar

-- The value that a kind, a number and a text stand for; a kind of no reader is taken for Delete, and refused by the condition.
unfoldable pub value_in : ℕ → ℕ → List ℕ → SetValue
value_in k n t =
    pick (eqb k string_kind) (text t)
    (pick (eqb k int_kind) (int n)
    (pick (eqb k increment_kind) (increment n)
    (pick (eqb k decrement_kind) (decrement n)
    (pick (eqb k macro_kind) (macro t) delete))))

-- The setvar that a record stands for.
abbrev pub setvar_in : Action → Setvar
setvar_in x = setvar_of (var_name (slot_text x.a) (slot_text x.b)) (value_in x.kind x.number (slot_text x.c))

-- What stands before the collection.
abbrev pub bang : SetValue → List ℕ
bang (text t) = []
bang (int n) = []
bang (increment n) = []
bang (decrement n) = []
bang delete = 33 ∷ []
bang (macro t) = []

-- What stands behind the key: nothing for Delete and the text 1.
abbrev pub tail : SetValue → List ℕ
tail (text t) = pick (same t (bytes "1")) [] (61 ∷ t)
tail (int n) = 61 ∷ decimal n
tail (increment n) = 61 ∷ 43 ∷ signed n
tail (decrement n) = 61 ∷ 45 ∷ signed n
tail delete = []
tail (macro t) = 61 ∷ t

-- A setvar, without its marks.
unfoldable pub setvar_text : Setvar → List ℕ
setvar_text v = bang v.value ++ (v.name.collection ++ (46 ∷ (v.name.key ++ tail v.value)))

-- ---- an action

-- What stands behind the colon, if there is one.
unfoldable pub argument : Rule → Action → Slot
argument plain x = absent
argument wanted x = present (slot_text x.a)
argument unmarked x = present (marked (slot_text x.a))
argument (up_to most) x = present (decimal x.number)
argument severity x = present (decimal x.number)
argument equation x = present (slot_text x.a ++ (61 ∷ slot_text x.b))
argument expiry x = present (slot_text x.a ++ (61 ∷ decimal x.number))
argument setting x = present (marked (setvar_text (setvar_in x)))

-- A name with its argument.
abbrev pub with_argument : List ℕ → Slot → List ℕ
with_argument name absent = name
with_argument name (present t) = name ++ (58 ∷ t)

-- By the row of its code.
abbrev pub spell_by : Found → Action → List ℕ
spell_by (found r) x = with_argument (lowered r.name) (argument r.rule x)
spell_by missing x = []

-- One action. A transformation has no row.
unfoldable pub spell : Action → List ℕ
spell x = pick (eqb x.code transformation_code) (116 ∷ 58 ∷ slot_text x.a) (spell_by (coded rows x.code) x)

-- A list, joined by commas alone.
unfoldable pub spell_all : List Action → List ℕ
spell_all xs = joined (map spell xs)
