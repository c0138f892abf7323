-- What one piece writes, its texts or the name that is refused, is no longer than the piece.
-- A setvar may write 3 bytes more than its argument has: its name, two bytes at least as every name of the table, and the colon pay for them.
use Rattle.ascii.specs.declared.numbers.NumberError.TheVariants.{Unreadable, TooLarge}
use Rattle.ascii.specs.declared.numbers.NumberError.{NumberError}
use Rattle.std.specs.Prelude.{Result, Ok, Err}
use mathlib.Core.Path.{◌≡◌, refl, sym, ap, ◌∙◌}
use mathlib.Core.Bool.{Bool, true, false}
use mathlib.Core.List.{List, [], ◌∷◌, ◌++◌}
use Prim.Native.Nat.{ℕ, suc, ◌+◌, ◌≤◌}
use native.Mathlib.Omega.{arith}
use lib.ListN.{length, take, drop, length-append, length-drop, length-map}
use lib.Dec.{leb}
use borrow.Author.Tests.{leb-true}
use Rattle.ascii.specs.Choice.{pick, and}
use Rattle.ascii.specs.Text.{bytes}
use Rattle.ascii.specs.Fold.{lower, lowered, same, same_lowered}
use Rattle.ascii.specs.Numbers.{unsigned_by}
use Rattle.ascii.specs.Splits.{Split, whole, halves, split}
use Rattle.ascii.proofs.SplitLaws.{spread, split_spread}
use Rattle.ascii.proofs.SameLaws.{and_left, and_right, same_true}
use Rattle.records.specs.Codes.{transformation_code}
use Rattle.single_action.specs.Marks.{stripped}
use Rattle.single_action.specs.Setvar.{setvar}
use Rattle.single_action.specs.Table.{Rule, plain, wanted, unmarked, up_to, severity, equation, expiry, setting, Row, rows, Found, found, missing, find}
use Rattle.single_action.specs.Actions.{absent, present, slot_text, action_text, worded, Single, done, bad, unknown, text_of, setvar_action, number_by, severity_number, both_by, expiry_by, with_text, with_none, found_by, named, split_by, single}
use Rattle.single_action.proofs.MarkLaws.{stripped_short}
use Rattle.single_action.proofs.SetvarLaws.{setvar_short}

-- ---- one action

-- what a piece writes, its texts or the name that is refused, is at most n bytes long
abbrev pub Within : ℕ → Single → Type 0
Within n (done x) = length (action_text x) ≤ n
Within n (bad flaw name) = length name ≤ n
Within n (unknown name) = length name ≤ n

-- the texts of a setvar
pub setvar_text_lem : (k : ℕ) (s : List ℕ) → length (action_text (setvar_action k (setvar s))) ≤ length s + 3
unfolding action_text
setvar_text_lem k s =
    let v = setvar s in
    let c = v.name.collection in
    let t = slot_text (text_of v.value) in
    omega (arith, setvar_short s, length-append c (v.name.key ++ t), length-append v.name.key t)

number_within : (n : ℕ) (r : Row) (x : Result ℕ NumberError) → length r.name ≤ n → Within n (number_by r x)
unfolding action_text
number_within n r (Ok v) h = omega arith
number_within n r (Err Unreadable) h = h
number_within n r (Err TooLarge) h = h

both_within : (k : ℕ) (x : Split) → length (action_text (both_by k x)) ≤ spread x
unfolding action_text
both_within k (whole a) = omega (arith, length-append a ([] ++ []))
both_within k (halves a b) = omega (arith, length-append a (b ++ []), length-append b [])

expiry_within : (k : ℕ) (x : Split) → length (action_text (expiry_by k x)) ≤ spread x
unfolding action_text
expiry_within k (whole a) = omega (arith, length-append a ([] ++ []))
expiry_within k (halves a b) = omega (arith, length-append a ([] ++ []))

worded_within : (k : ℕ) (t : List ℕ) → length (action_text (worded k t)) ≤ length t
unfolding action_text
worded_within k t = omega (arith, length-append t ([] ++ []))

-- a rule writes at most what stands behind the name, and 3 bytes, or the name
with_text_lem : (u : Rule) (r : Row) (t : List ℕ) (n : ℕ) → length r.name ≤ n → length t + 3 ≤ n → Within n (with_text u r t)
unfolding with_text action_text
with_text_lem plain r t n h k = omega arith
with_text_lem wanted r t n h k = omega (arith, worded_within r.code t)
with_text_lem unmarked r t n h k = omega (arith, worded_within r.code (stripped t), stripped_short t)
with_text_lem (up_to most) r t n h k = number_within n r (unsigned_by most t) h
with_text_lem severity r t n h k = number_within n r (severity_number (stripped t)) h
with_text_lem equation r t n h k = omega (arith, both_within r.code (split 61 t), split_spread 61 t)
with_text_lem expiry r t n h k = omega (arith, expiry_within r.code (split 61 t), split_spread 61 t)
with_text_lem setting r t n h k = omega (arith, setvar_text_lem r.code t)

with_none_lem : (u : Rule) (r : Row) (n : ℕ) → length r.name ≤ n → Within n (with_none u r)
unfolding with_none action_text
with_none_lem plain r n h = omega arith
with_none_lem wanted r n h = h
with_none_lem unmarked r n h = omega arith
with_none_lem (up_to most) r n h = h
with_none_lem severity r n h = h
with_none_lem equation r n h = h
with_none_lem expiry r n h = omega arith
with_none_lem setting r n h = h

-- ---- the table

-- every name has two bytes at least
unfoldable long : List Row → Bool
long [] = true
long (r ∷ rs) = and (leb 2 (length r.name)) (long rs)

-- a row that is found has a name of two bytes at least, as long as the one that was sought
abbrev Long : Found → List ℕ → Type 0
Long (found r) name = (2 ≤ length r.name) × (length r.name ≡ length name)
Long missing name = Unit {0}

find_long : (rs : List Row) (name : List ℕ) → long rs ≡ true → Long (find rs name) name
unfolding find long
find_long [] name e = tt
find_long (r ∷ rs) name e = go (same_lowered r.name name) (same_true (lowered r.name) name) (find_long rs name (and_right (leb 2 (length r.name)) (long rs) e))
  where
    go : (t : Bool) → (t ≡ true → lowered r.name ≡ name) → Long (find rs name) name → Long (pick t (found r) (find rs name)) name
    go true f ih = (leb-true 2 (length r.name) (and_left (leb 2 (length r.name)) (long rs) e), sym (length-map r.name lower) ∙ ap length (f refl))
    go false f ih = ih

rows_long : (name : List ℕ) → Long (find rows name) name
unfolding long rows bytes
rows_long name = find_long rows name refl

-- ---- a piece

found_text : (f : Found) (name t : List ℕ) (n : ℕ) → Long f name → suc (length name + length t) ≤ n → Within n (found_by f name (present t))
found_text (found r) name t n (l, e) h = with_text_lem r.rule r t n (omega arith) (omega arith)
found_text missing name t n l h = omega arith

found_none : (f : Found) (name : List ℕ) (n : ℕ) → Long f name → length name ≤ n → Within n (found_by f name absent)
found_none (found r) name n (l, e) h = with_none_lem r.rule r n (omega arith)
found_none missing name n l h = h

split_within : (x : Split) → Within (spread x) (split_by x)
unfolding named
split_within (whole a) = found_none (find rows (lowered a)) (lowered a) (length a) (rows_long (lowered a)) (omega (arith, length-map a lower))
split_within (halves a t) =
    found_text (find rows (lowered a)) (lowered a) t (suc (length a + length t)) (rows_long (lowered a)) (omega (arith, length-map a lower))

-- what a piece writes is no longer than the piece
pub single_within : (s : List ℕ) → Within (length s) (single s)
unfolding single
single_within s = go (same (take 2 s) (bytes "t:")) (rw split_spread at (split_within (split 58 s)))
  where
    go : (t : Bool) → Within (length s) (split_by (split 58 s)) → Within (length s) (pick t (done (worded transformation_code (drop 2 s))) (split_by (split 58 s)))
    go true h = omega (arith, worded_within transformation_code (drop 2 s), length-drop 2 s)
    go false h = h
