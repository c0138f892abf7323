-- Every action that a reader makes has its texts where its code says so, whatever the piece.
use Rattle.ascii.specs.declared.numbers.NumberError.TheVariants.{Unreadable, TooLarge}
use Rattle.ascii.specs.declared.numbers.NumberError.{NumberError}
use Rattle.std.specs.Prelude.{Result, Ok, Err}
use mathlib.Core.Path.{◌≡◌, refl, ap, subst}
use mathlib.Core.Bool.{Bool, true, false}
use mathlib.Core.List.{List, [], ◌∷◌, map}
use Prim.Native.Nat.{ℕ}
use lib.ListN.{drop, get_or}
use Rattle.ascii.specs.Choice.{pick}
use Rattle.ascii.specs.Fold.{lowered, same_lowered}
use Rattle.ascii.specs.Numbers.{unsigned_by}
use Rattle.ascii.specs.Splits.{Split, whole, halves, split}
use Rattle.records.specs.declared.marking.Shape.{Shape}
use Rattle.records.specs.declared.marking.Shape.TheVariants as K
use Rattle.records.specs.Codes.{transformation_code, shapes, shape_of}
use Rattle.records.specs.Decoding.{formed}
use Rattle.single_action.specs.Marks.{stripped}
use Rattle.single_action.specs.Setvar.{SetValue, text, int, increment, decrement, delete, macro, Setvar, setvar}
use Rattle.single_action.specs.Table.{Rule, plain, wanted, unmarked, up_to, severity, equation, expiry, setting, Row, rows, found, find}
use Rattle.single_action.specs.Actions.{Slot, absent, present, Action, worded, Single, done, bad, unknown, setvar_action, number_by, severity_number, both_by, expiry_by, with_text, with_none, ruled, found_by, named, split_by, transforms, single}

-- what a rule makes
abbrev pub shape_for : Rule → Shape
shape_for plain = K.Bare
shape_for wanted = K.One
shape_for unmarked = K.One
shape_for (up_to most) = K.Bare
shape_for severity = K.Bare
shape_for equation = K.Two
shape_for expiry = K.One
shape_for setting = K.Setting

abbrev Suits : Row → Type 0
Suits r = shape_of r.code ≡ shape_for r.rule

abbrev AllSuit : List Row → Type 0
AllSuit rs = map (λ (r : Row). shape_of r.code) rs ≡ map (λ (r : Row). shape_for r.rule) rs

-- each row of the table makes what the table of codes says
suits : AllSuit rows
unfolding rows shape_of shapes
suits = refl

-- where an action comes out, it is formed
abbrev pub Fine : Single → Type 0
Fine (done x) = formed x ≡ true
Fine (bad f n) = Unit {0}
Fine (unknown n) = Unit {0}

module _ (r : Row) where
  fine_number : (n : Result ℕ NumberError) → shape_of r.code ≡ K.Bare → Fine (number_by r n)
  unfolding formed
  fine_number (Ok n) e = rw e
  fine_number (Err Unreadable) e = tt
  fine_number (Err TooLarge) e = tt

  fine_both : (s : Split) → shape_of r.code ≡ K.Two → formed (both_by r.code s) ≡ true
  unfolding formed
  fine_both (whole a) e = rw e
  fine_both (halves a b) e = rw e

  fine_expiry : (s : Split) → shape_of r.code ≡ K.One → formed (expiry_by r.code s) ≡ true
  unfolding formed
  fine_expiry (whole a) e = rw e
  fine_expiry (halves a b) e = rw e

  pub fine_value : (v : Setvar) (w : SetValue) → v.value ≡ w → shape_of r.code ≡ K.Setting → formed (setvar_action r.code v) ≡ true
  unfolding formed
  fine_value v (text t) f e = rw (f, e)
  fine_value v (int n) f e = rw (f, e)
  fine_value v (increment n) f e = rw (f, e)
  fine_value v (decrement n) f e = rw (f, e)
  fine_value v delete f e = rw (f, e)
  fine_value v (macro t) f e = rw (f, e)

  fine_text : (u : Rule) (t : List ℕ) → shape_of r.code ≡ shape_for u → Fine (with_text u r t)
  unfolding with_text formed
  fine_text plain t e = rw e
  fine_text wanted t e = rw e
  fine_text unmarked t e = rw e
  fine_text (up_to most) t e = fine_number (unsigned_by most t) e
  fine_text severity t e = fine_number (severity_number (stripped t)) e
  fine_text equation t e = fine_both (split 61 t) e
  fine_text expiry t e = fine_expiry (split 61 t) e
  fine_text setting t e = fine_value (setvar t) (setvar t).value refl e

  fine_none : (u : Rule) → shape_of r.code ≡ shape_for u → Fine (with_none u r)
  unfolding with_none formed
  fine_none plain e = rw e
  fine_none wanted e = tt
  fine_none unmarked e = rw e
  fine_none (up_to most) e = tt
  fine_none severity e = tt
  fine_none equation e = tt
  fine_none expiry e = rw e
  fine_none setting e = tt

  fine_row : (s : Slot) → Suits r → Fine (ruled r s)
  fine_row absent e = fine_none r.rule e
  fine_row (present t) e = fine_text r.rule t e

fine_find : (rs : List Row) → AllSuit rs → (name key : List ℕ) (s : Slot) → Fine (found_by (find rs key) name s)
unfolding find
fine_find [] all name key s = tt
fine_find (r ∷ rs) all name key s = go (same_lowered r.name key) (fine_find rs (ap (drop 1) all) name key s)
  where
    go : (t : Bool) → Fine (found_by (find rs key) name s) → Fine (found_by (pick t (found r) (find rs key)) name s)
    go true h = fine_row r s (ap (λ (l : List Shape). get_or l 0 K.NoCode) all)
    go false h = h

fine_split : (s : Split) → Fine (split_by s)
unfolding named
fine_split (whole n) = fine_find rows suits (lowered n) (lowered n) absent
fine_split (halves n t) = fine_find rows suits (lowered n) (lowered n) (present t)

pub fine_single : (s : List ℕ) → Fine (single s)
unfolding single formed shape_of shapes
fine_single s = go (transforms s)
  where
    go : (t : Bool) → Fine (pick t (done (worded transformation_code (drop 2 s))) (split_by (split 58 s)))
    go true = refl
    go false = fine_split (split 58 s)

-- so for a piece that comes to an action
pub made : (s : List ℕ) (x : Action) → single s ≡ done x → formed x ≡ true
made s x e = subst Fine e (fine_single s)
