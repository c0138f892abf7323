-- A word's text and a quoted text are no longer than the bytes that the run takes.
-- A byte pays for its text; a backslash in quotes gives none itself, so that the byte behind it may give two.
use mathlib.Core.Path.{◌≡◌, ap, ◌∙◌}
use Prim.Native.Nat.{ℕ, zero, suc, ◌+◌, ◌-◌, ◌≤◌}
use native.Mathlib.Omega.{arith}
use mathlib.Core.List.{List, [], ◌∷◌}
use lib.ListN.{length, length-append, length-drop}
use lib.Dec.{eqb}
use Rattle.lexer.specs.Bytes.{Class, Feed, Return, Gap, Upright, Hash, Quote, Slash, Other}
use Rattle.lexer.specs.Cursors.{Cursor}
use Rattle.lexer.specs.Runs.{Does, ends, closes, takes, gives, counts, Spot, run, text, took}
use Rattle.lexer.specs.Rules.{line_end, word, word_by, word_slash, Mode, plain, escaped, after_cr, margin, quoted, quoted_plain, quoted_margin, unescaped}
use Rattle.lexer.proofs.TestLaws.{either}
use Rattle.lexer.proofs.RunLaws.{run_took, took_length}
use Rattle.lexer.proofs.ClassLaws.{word_by_lem}

-- the text of one byte and what the mode after it may still owe, within what the mode before it owed and the byte
abbrev pub Paid : {M : Type 0} → (M → ℕ) → ℕ → Does M → Type 0
Paid owes n ends = Unit {0}
Paid owes n closes = Unit {0}
Paid owes n (takes t m) = length t + owes m ≤ suc n

module _ {M : Type 0} (does : M → ℕ → List ℕ → Does M) (owes : M → ℕ) (paid : (m : M) (b : ℕ) (r : List ℕ) → Paid owes (owes m) (does m b r)) where
  text_took : (m : M) (xs : List ℕ) → length (text does m xs) ≤ owes m + took does m xs
  unfolding text took
  text_took m [] = omega arith
  text_took m (b ∷ r) = go (does m b r) (paid m b r) (λ m. text_took m r)
    where
      go : (x : Does M) → Paid owes (owes m) x → ((m : M) → length (text does m r) ≤ owes m + took does m r)
          → length (gives x (λ m. text does m r)) ≤ owes m + counts x (λ m. took does m r)
      go ends p ih = omega arith
      go closes p ih = omega arith
      go (takes t m) p ih = omega (arith, ih m, length-append t (text does m r))

  text_length : (m : M) (xs : List ℕ) (c : Cursor) → length (text does m xs) + length (run does m xs c).rest ≤ owes m + length xs
  text_length m xs c =
      let e : length (run does m xs c).rest ≡ length xs - took does m xs = ap (λ (a : Spot). length a.rest) (run_took does m xs c) ∙ length-drop (took does m xs) xs in
      omega (arith, text_took m xs, took_length does m xs)

-- ---- in a word

-- a word owes nothing
abbrev nought : ℕ → ℕ
nought k = 0

slash_paid : (k : ℕ) → Paid nought 0 (word_slash k)
unfolding word_slash
slash_paid zero = omega arith
slash_paid (suc k) = omega arith

word_paid : (k b : ℕ) (r : List ℕ) → Paid nought 0 (word k b r)
unfolding word word_by
word_paid (suc k) b r = omega arith
word_paid zero b r = word_by_lem (Paid nought 0) b r go
  where
    go : (k : Class) → Paid nought 0 (word_by k b r)
    go Feed = tt
    go Return = tt
    go Gap = tt
    go Upright = tt
    go Hash = tt
    go Quote = tt
    go Slash = slash_paid (line_end r)
    go Other = omega arith

pub word_length : (k : ℕ) (xs : List ℕ) (c : Cursor) → length (text word k xs) + length (run word k xs c).rest ≤ length xs
word_length k xs c = omega (arith, text_length word nought word_paid k xs c)

-- ---- in quotes

-- what a mode owes: behind a backslash one more byte of text
abbrev pub owed : Mode → ℕ
owed plain = 0
owed escaped = 1
owed after_cr = 0
owed margin = 0

plain_paid : (q b : ℕ) → Paid owed 0 (quoted_plain q b)
unfolding quoted_plain
plain_paid q b = either (Paid owed 0) (eqb b 92) (λ e. omega arith) (λ e. either (Paid owed 0) (eqb b q) (λ e. tt) (λ e. omega arith))

margin_paid : (q b : ℕ) → Paid owed 0 (quoted_margin q b)
unfolding quoted_margin
margin_paid q b =
    either (Paid owed 0) (eqb b 32) (λ e. omega arith) (λ e. either (Paid owed 0) (eqb b 9) (λ e. omega arith) (λ e. plain_paid q b))

unescaped_length : (b : ℕ) → length (unescaped b) ≤ 2
unfolding unescaped
unescaped_length b =
    let P : List ℕ → Type 0 = λ l. length l ≤ 2 in
    either P (eqb b 110) (λ e. omega arith) (λ e. either P (eqb b 116) (λ e. omega arith) (λ e. either P (eqb b 114) (λ e. omega arith)
    (λ e. either P (eqb b 92) (λ e. omega arith) (λ e. either P (eqb b 34) (λ e. omega arith) (λ e. either P (eqb b 39) (λ e. omega arith) (λ e. omega arith))))))

pub quoted_paid : (q : ℕ) (m : Mode) (b : ℕ) (r : List ℕ) → Paid owed (owed m) (quoted q m b r)
unfolding quoted
quoted_paid q plain b r = plain_paid q b
quoted_paid q escaped b r =
    either (Paid owed 1) (eqb b 10) (λ e. omega arith) (λ e. either (Paid owed 1) (eqb b 13) (λ e. omega arith) (λ e. omega (arith, unescaped_length b)))
quoted_paid q after_cr b r = either (Paid owed 0) (eqb b 10) (λ e. omega arith) (λ e. margin_paid q b)
quoted_paid q margin b r = margin_paid q b

pub quoted_length : (q : ℕ) (m : Mode) (xs : List ℕ) (c : Cursor) → length (text (quoted q) m xs) + length (run (quoted q) m xs c).rest ≤ owed m + length xs
quoted_length q = text_length (quoted q) owed (quoted_paid q)
