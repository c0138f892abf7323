-- A list that is read from ASCII has an ASCII spelling.
use mathlib.Core.Path.{◌≡◌, refl}
use mathlib.Core.Bool.{Bool, true, false}
use mathlib.Core.List.{List, [], ◌∷◌}
use Prim.Native.Nat.{ℕ, suc, ◌+◌}
use native.Mathlib.Omega.{arith}
use lib.ListN.{length}
use lib.Dec.{leb, ltb}
use borrow.Author.Tests.{leb-false, lt-leb, lt-ltb, ltb-true}
use Rattle.ascii.specs.Choice.{pick, and}
use Rattle.ascii.proofs.TestLaws.{both, joins}
use Rattle.lent.specs.Sources.{Sourced}
use Rattle.lent.specs.Table.{reads}
use Rattle.lent.specs.Gates.{first_high}
use Rattle.records.specs.Actions.{Action, action_text}
use Rattle.actions.specs.Lists.{actions_of}
use Rattle.spelled.specs.Spelling.{spell_all}
use Rattle.spelled.specs.Back.{things}
use Rattle.spelled.specs.Writing.{ascii}
use Rattle.spelled.proofs.CountLaws.{count, Tidy}
use Rattle.spelled.proofs.CountListLaws.{texts_total, list_read, list_spelled}

-- a byte past ASCII
abbrev is_high : ℕ → Bool
is_high b = leb 128 b

tidy_high : Tidy is_high
tidy_high = record { solid = λ b h l. lt-leb 128 b (omega arith); bang = refl; double = refl; single = refl; plus = refl }

ascii_none : (s : List ℕ) → ascii s ≡ true → count is_high s ≡ 0
unfolding ascii count
ascii_none [] h = refl
ascii_none (b ∷ r) h =
    let p = both (ltb b 128) (ascii r) h in
    rw (lt-leb 128 b (ltb-true b 128 p.0)) (ascii_none r p.1)

none_ascii : (s : List ℕ) → count is_high s ≡ 0 → ascii s ≡ true
unfolding ascii count
none_ascii [] h = refl
none_ascii (b ∷ r) h = go (leb 128 b) refl h (λ h. none_ascii r h)
  where
    go : (t : Bool) → leb 128 b ≡ t → pick t (suc (count is_high r)) (count is_high r) ≡ 0 → (count is_high r ≡ 0 → ascii r ≡ true) → and (ltb b 128) (ascii r) ≡ true
    go true e h ih = absurd (omega (arith, h))
    go false e h ih = joins (lt-ltb b 128 (leb-false 128 b e)) (ih h)

-- no text of the list has a byte past it
unfoldable pub low : List Action → Bool
low [] = true
low (x ∷ xs) = and (ascii (action_text x)) (low xs)

low_none : (xs : List Action) → low xs ≡ true → texts_total is_high tidy_high xs ≡ 0
unfolding low texts_total
low_none [] h = refl
low_none (x ∷ xs) h =
    let p = both (ascii (action_text x)) (low xs) h in
    omega (arith, ascii_none (action_text x) p.0, low_none xs p.1)

none_low : (xs : List Action) → texts_total is_high tidy_high xs ≡ 0 → low xs ≡ true
unfolding low texts_total
none_low [] h = refl
none_low (x ∷ xs) h = joins (none_ascii (action_text x) (omega (arith, h))) (none_low xs (omega (arith, h)))

-- its spelling has one exactly if a text has
pub low_spelling : (xs : List Action) → low xs ≡ true → ascii (spell_all xs) ≡ true
low_spelling xs h = none_ascii (spell_all xs) (omega (arith, list_spelled is_high tidy_high refl xs, low_none xs h))

pub read_low : (s : List ℕ) (ys : List (Sourced Action)) → actions_of s ≡ reads ys → ascii s ≡ true → low (things ys) ≡ true
read_low s ys e h = none_low (things ys) (omega (arith, list_read is_high tidy_high s ys e, ascii_none s h))

-- as the gate sees it
pub ascii_high : (s : List ℕ) → ascii s ≡ true → first_high s ≡ length s
unfolding ascii first_high
ascii_high [] h = refl
ascii_high (b ∷ r) h =
    let p = both (ltb b 128) (ascii r) h in
    rw (lt-leb 128 b (ltb-true b 128 p.0), ascii_high r p.1) (omega arith)

pub high_ascii : (s : List ℕ) → first_high s ≡ length s → ascii s ≡ true
unfolding ascii first_high
high_ascii [] h = refl
high_ascii (b ∷ r) h = go (leb 128 b) refl h (λ e. high_ascii r e)
  where
    go : (t : Bool) → leb 128 b ≡ t → pick t 0 (1 + first_high r) ≡ length (b ∷ r) → (first_high r ≡ length r → ascii r ≡ true) → and (ltb b 128) (ascii r) ≡ true
    go true e h ih = absurd (omega (arith, h))
    go false e h ih = joins (lt-ltb b 128 (leb-false 128 b e)) (ih (omega (arith, h)))
