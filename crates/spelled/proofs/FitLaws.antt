-- The tests on a text by places: a byte that stands in it, its first byte and its last one.
use Rattle.ascii.specs.declared.numbers.NumberError.{NumberError}
use Rattle.std.specs.Prelude.{Result, Ok, Err}
use Rattle.std.specs.Result.{is_err}
use mathlib.Core.Path.{◌≡◌, ◌∙◌, refl, sym, ap}
use mathlib.Core.Bool.{Bool, true, false, not}
use mathlib.Core.List.{List, [], ◌∷◌, ◌++◌}
use Prim.Native.Nat.{ℕ, suc, ◌+◌, ◌-◌, ◌≤◌, ◌<◌}
use native.Mathlib.Omega.{arith}
use native.Mathlib.Numerals.{one-add}
use borrow.Author.Tests.{lt-ltb, le-ltb, ltb-true, ltb-false, eq-eqb, eqb-true}
use lib.ListN.{length, take, get_or}
use lib.Seq.{take-length}
use lib.Dec.{eqb, ltb}
use Rattle.ascii.specs.Choice.{pick, and, or}
use Rattle.ascii.specs.Classes.{white}
use Rattle.ascii.specs.Fold.{lowered, same}
use Rattle.ascii.specs.Trim.{leading}
use Rattle.ascii.specs.Splits.{leads, first_of}
use Rattle.ascii.specs.Numbers.{signed_word}
use Rattle.ascii.proofs.ListLaws.{last_byte}
use Rattle.ascii.proofs.TestLaws.{apart}
use Rattle.single_action.specs.Setvar.{has_macro}
use Rattle.single_action.specs.Plans.{cut}
use Rattle.single_action.specs.declared.naming.Rule.TheVariants.{Wanted as wanted, Unmarked as unmarked, Equation as equation, Expiry as expiry}
use Rattle.records.specs.Actions.{slot_text}
use Rattle.spelled.specs.Spelling.{has}
use Rattle.spelled.specs.Condition.{isnt, first_by, last_by, unread, textual, name_fits}
use Rattle.spelled.specs.Steps.{Placed, entry_action, bare, marked_end, value_kept, setting_kept, kept}
use Rattle.spelled.specs.declared.entries.Entry.{Entry}

-- ---- a test of several, by the one that decides

pub off : {x : Bool} (y : Bool) → x ≡ false → false ≡ and x y
off y e = rw e

pub on : {x y r : Bool} → x ≡ true → r ≡ y → r ≡ and x y
on e f = rw e f

pub either : {x : Bool} (y : Bool) → x ≡ true → true ≡ or x y
either y e = rw e

pub neither : {x y r : Bool} → x ≡ false → r ≡ y → r ≡ or x y
neither e f = rw e f

pub isnt_of : {r x : Bool} → r ≡ x → not r ≡ isnt x
isnt_of {r} {x} e = rw e (go x)
  where
    go : (t : Bool) → not t ≡ isnt t
    go true = refl
    go false = refl

pub isnt_true : {x : Bool} → x ≡ true → isnt x ≡ false
isnt_true e = rw e

pub isnt_false : {x : Bool} → x ≡ false → isnt x ≡ true
isnt_false e = rw e

-- ---- a byte in a text

suc_ltb : (a b : ℕ) → ltb (suc a) (suc b) ≡ ltb a b
suc_ltb a b = go (ltb a b) refl
  where
    go : (t : Bool) → ltb a b ≡ t → ltb (suc a) (suc b) ≡ t
    go true e = lt-ltb (suc a) (suc b) (omega (arith, ltb-true a b e))
    go false e = le-ltb (suc a) (suc b) (omega (arith, ltb-false a b e))

-- a length as `is_empty` tells it
pub filled : {r : Bool} (n : ℕ) → r ≡ eqb n 0 → r ≡ false → 0 < n
filled n e f = go (ltb 0 n) refl
  where
    go : (t : Bool) → ltb 0 n ≡ t → 0 < n
    go true g = ltb-true 0 n g
    go false g = let z : n ≡ 0 = omega (arith, ltb-false 0 n g) in absurd (apart (eq-eqb n 0 z) (sym e ∙ f))

pub emptied : {r : Bool} (n : ℕ) → r ≡ eqb n 0 → r ≡ true → n ≡ 0
emptied n e f = eqb-true n 0 (sym e ∙ f)

-- an error is no number
pub unread_err : (x : Result ℕ NumberError) → is_err x ≡ unread x
unread_err (Ok n) = refl
unread_err (Err e) = refl

-- it stands there where the search finds it
pub has_found : (m : ℕ) (t : List ℕ) → ltb (first_of m t) (length t) ≡ has m t
unfolding has leading
has_found m [] = refl
has_found m (b ∷ r) = go (eqb b m) (has_found m r)
  where
    go : (t : Bool) → ltb (first_of m r) (length r) ≡ has m r → ltb (pick (pick t false true) (1 + first_of m r) 0) (suc (length r)) ≡ or t (has m r)
    go true e = lt-ltb 0 (suc (length r)) (omega arith)
    go false e = rw one-add (suc_ltb (first_of m r) (length r) ∙ e)

-- ---- the first byte and the last

module _ (m : ℕ) where
  pub leads_is : (t : List ℕ) → 0 < length t → leads m t ≡ eqb (get_or t 0 0) m
  leads_is [] h = absurd (omega arith)
  leads_is (b ∷ r) h = refl

  pub leads_nothing : (t : List ℕ) → length t ≤ 0 → leads m t ≡ false
  leads_nothing [] h = refl
  leads_nothing (b ∷ r) h = absurd (omega arith)

module _ (test : ℕ → Bool) where
  pub first_is : (t : List ℕ) → 0 < length t → first_by test t ≡ test (get_or t 0 0)
  first_is [] h = absurd (omega arith)
  first_is (b ∷ r) h = refl

  last_append : (d : Bool) (l : List ℕ) (b : ℕ) → last_by test d (l ++ (b ∷ [])) ≡ test b
  unfolding last_by
  last_append d [] b = refl
  last_append d (x ∷ l) b = last_append (test x) l b

  pub last_none : (d : Bool) (t : List ℕ) → length t ≡ 0 → last_by test d t ≡ d
  unfolding last_by
  last_none d [] h = refl
  last_none d (b ∷ r) h = absurd (omega arith)

  pub last_is : (d : Bool) (t : List ℕ) → 0 < length t → last_by test d t ≡ test (get_or t (length t - 1) 0)
  last_is d t h = ap (last_by test d) (sym (take-length t) ∙ last_byte t (length t) h (omega arith)) ∙ last_append d (take (length t - 1) t) (get_or t (length t - 1) 0)

-- ---- an empty text

pub marks_none : (t : List ℕ) → length t ≡ 0 → false ≡ marked_end t
unfolding last_by
marks_none [] h = refl
marks_none (b ∷ r) h = absurd (omega arith)

pub textual_none : (t : List ℕ) → length t ≡ 0 → true ≡ textual t
unfolding textual has_macro signed_word
textual_none [] h = refl
textual_none (b ∷ r) h = absurd (omega arith)

-- ---- an entry, by the parts of the text that its texts are

abbrev pub setting_by : ℕ → ℕ → List ℕ → List ℕ → List ℕ → Bool
setting_by n k a b c = and (isnt (has 46 a)) (and (same (lowered a) a) (and (or (eqb k 5) (name_fits a b)) (value_kept k n c)))

module _ (t : List ℕ) (e : Entry) (p : Placed t e) where
  abbrev first : List ℕ
  first = cut t e.first e.second

  abbrev second : List ℕ
  second = cut t e.second e.third

  abbrev third : List ℕ
  third = cut t e.third e.past

  pub setting_is : setting_kept (entry_action t e) ≡ setting_by e.number e.kind first second third
  unfolding setting_kept entry_action
  setting_is =
      ap (λ (l : List ℕ). setting_by e.number e.kind l (slot_text (entry_action t e).b) (slot_text (entry_action t e).c)) p.a_is
      ∙ ap (λ (l : List ℕ). setting_by e.number e.kind first l (slot_text (entry_action t e).c)) p.b_is
      ∙ ap (setting_by e.number e.kind first second) p.c_is

  pub wanted_is : kept wanted (entry_action t e) ≡ and (bare e.number e.kind) (isnt (last_by white false first))
  unfolding kept entry_action
  wanted_is = ap (λ (l : List ℕ). and (bare e.number e.kind) (isnt (last_by white false l))) p.a_is

  pub unmarked_is : kept unmarked (entry_action t e) ≡ and (bare e.number e.kind) (isnt (marked_end first))
  unfolding kept entry_action
  unmarked_is = ap (λ (l : List ℕ). and (bare e.number e.kind) (isnt (marked_end l))) p.a_is

  pub equation_is : kept equation (entry_action t e) ≡ and (isnt (has 61 first)) (and (bare e.number e.kind) (isnt (last_by white false second)))
  unfolding kept entry_action
  equation_is =
      ap (λ (l : List ℕ). and (isnt (has 61 l)) (and (bare e.number e.kind) (isnt (last_by white false (slot_text (entry_action t e).b))))) p.a_is
      ∙ ap (λ (l : List ℕ). and (isnt (has 61 first)) (and (bare e.number e.kind) (isnt (last_by white false l)))) p.b_is

  pub expiry_is : kept expiry (entry_action t e) ≡ and (eqb e.kind 0) (isnt (has 61 first))
  unfolding kept entry_action
  expiry_is = ap (λ (l : List ℕ). and (eqb e.kind 0) (isnt (has 61 l))) p.a_is
