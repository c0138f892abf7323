-- The tokens of an ASCII text have ASCII texts: a byte of a text is one that was read, or a backslash, LF, tab or CR.
use mathlib.Core.Path.{◌≡◌, refl, subst}
use mathlib.Core.List.{List, [], ◌∷◌, ◌++◌}
use Prim.Native.Nat.{ℕ, zero, suc, ◌<◌}
use native.Mathlib.Numerals.{one-add}
use native.Mathlib.Omega.{arith}
use lib.ListN.{length}
use lib.Dec.{eqb}
use borrow.Author.Tests.{lt-leb}
use Rattle.lent.specs.Gates.{first_high}
use Rattle.lent.specs.Admission.{Low}
use Rattle.lexer.specs.declared.bytes.Class.{Class}
use Rattle.lexer.specs.declared.bytes.Class.TheVariants.{Feed, Return, Gap, Upright, Hash, Quote, Slash, Other}
use Rattle.lexer.specs.declared.quotes.Mode.{Mode}
use Rattle.lexer.specs.declared.quotes.Mode.TheVariants.{Plain as plain, Escaped as escaped, AfterCr as after_cr, Margin as margin}
use Rattle.lexer.specs.declared.Cursor.{Cursor}
use Rattle.lexer.specs.Cursors.{fresh}
use Rattle.lexer.specs.Runs.{Does, ends, closes, takes, gives, run, text}
use Rattle.lexer.specs.Rules.{before, line_end, word, word_by, word_slash, quoted, quoted_plain, quoted_margin, unescaped}
use Rattle.lexer.specs.Tokens.{Token, token_by, token_at, next, tokens, reading}
use Rattle.lexer.specs.Places.{All, nil, cons}
use Rattle.lexer.proofs.TestLaws.{either}
use Rattle.lexer.proofs.RunLaws.{run_passed}
use Rattle.lexer.proofs.ClassLaws.{word_by_lem, token_by_lem}
use Rattle.lexer.proofs.NextLaws.{Of, taken_over}
use Rattle.lexer.proofs.TokenLaws.{by_tokens}

-- every byte is below 128
abbrev pub Ascii : List ℕ → Type 0
Ascii [] = Unit {0}
Ascii (b ∷ r) = (b < 128) × Ascii r

pub ascii_low : (xs : List ℕ) → Low xs → Ascii xs
ascii_low [] l = tt
ascii_low (b ∷ r) l = (l 0 (omega arith), ascii_low r (λ i h. l (suc i) (omega arith)))

-- so none of its bytes is high
pub ascii_high : (xs : List ℕ) → Ascii xs → first_high xs ≡ length xs
unfolding first_high
ascii_high [] a = refl
ascii_high (b ∷ r) a = rw (lt-leb 128 b a.0, ascii_high r a.1, one-add)

ascii_append : (xs ys : List ℕ) → Ascii xs → Ascii ys → Ascii (xs ++ ys)
ascii_append [] ys a b = b
ascii_append (x ∷ xs) ys a b = (a.0, ascii_append xs ys a.1 b)

ascii_rest : (xs ys : List ℕ) → Ascii (xs ++ ys) → Ascii ys
ascii_rest [] ys a = a
ascii_rest (x ∷ xs) ys a = ascii_rest xs ys a.1

-- ---- runs

-- a byte's text is ASCII
abbrev Gives : {M : Type 0} → Does M → Type 0
Gives ends = Unit {0}
Gives closes = Unit {0}
Gives (takes t m) = Ascii t

module _ {M : Type 0} (does : M → ℕ → List ℕ → Does M) (fine : (m : M) (b : ℕ) (r : List ℕ) → b < 128 → Gives (does m b r)) where
  text_ascii : (m : M) (xs : List ℕ) → Ascii xs → Ascii (text does m xs)
  unfolding text
  text_ascii m [] a = tt
  text_ascii m (b ∷ r) a = go (does m b r) (fine m b r a.0) (λ m. text_ascii m r a.1)
    where
      go : (x : Does M) → Gives x → ((m : M) → Ascii (text does m r)) → Ascii (gives x (λ m. text does m r))
      go ends g ih = tt
      go closes g ih = tt
      go (takes t m) g ih = ascii_append t (text does m r) g (ih m)

slash_fine : (k : ℕ) → Gives (word_slash k)
unfolding word_slash
slash_fine zero = (omega arith, tt)
slash_fine (suc k) = tt

word_fine : (k b : ℕ) (r : List ℕ) → b < 128 → Gives (word k b r)
unfolding word word_by
word_fine (suc k) b r h = tt
word_fine zero b r h = word_by_lem Gives b r go
  where
    go : (k : Class) → Gives (word_by k b r)
    go Feed = tt
    go Return = tt
    go Gap = tt
    go Upright = tt
    go Hash = tt
    go Quote = tt
    go Slash = slash_fine (line_end r)
    go Other = (h, tt)

plain_fine : (q b : ℕ) → b < 128 → Gives (quoted_plain q b)
unfolding quoted_plain
plain_fine q b h = either Gives (eqb b 92) (λ e. tt) (λ e. either Gives (eqb b q) (λ e. tt) (λ e. (h, tt)))

margin_fine : (q b : ℕ) → b < 128 → Gives (quoted_margin q b)
unfolding quoted_margin
margin_fine q b h = either Gives (eqb b 32) (λ e. tt) (λ e. either Gives (eqb b 9) (λ e. tt) (λ e. plain_fine q b h))

unescaped_ascii : (b : ℕ) → b < 128 → Ascii (unescaped b)
unfolding unescaped
unescaped_ascii b h =
    either Ascii (eqb b 110) (λ e. (omega arith, tt)) (λ e. either Ascii (eqb b 116) (λ e. (omega arith, tt)) (λ e. either Ascii (eqb b 114) (λ e. (omega arith, tt))
    (λ e. either Ascii (eqb b 92) (λ e. (h, tt)) (λ e. either Ascii (eqb b 34) (λ e. (h, tt)) (λ e. either Ascii (eqb b 39) (λ e. (h, tt)) (λ e. (omega arith, (h, tt))))))))

quoted_fine : (q : ℕ) (m : Mode) (b : ℕ) (r : List ℕ) → b < 128 → Gives (quoted q m b r)
unfolding quoted
quoted_fine q plain b r h = plain_fine q b h
quoted_fine q escaped b r h = either Gives (eqb b 10) (λ e. tt) (λ e. either Gives (eqb b 13) (λ e. tt) (λ e. unescaped_ascii b h))
quoted_fine q after_cr b r h = either Gives (eqb b 10) (λ e. tt) (λ e. margin_fine q b h)
quoted_fine q margin b r h = margin_fine q b h

-- ---- tokens

abbrev pub Worded : Token → Type 0
Worded t = Ascii t.text

token_by_worded : (k : Class) (b : ℕ) (r : List ℕ) (c : Cursor) → b < 128 → Ascii r → Of (λ t e. Worded t) (token_by k b r c)
unfolding token_by
token_by_worded Feed b r c h a = tt
token_by_worded Return b r c h a = tt
token_by_worded Gap b r c h a = tt
token_by_worded Upright b r c h a = tt
token_by_worded Hash b r c h a = tt
token_by_worded Quote b r c h a = text_ascii (quoted b) (quoted_fine b) plain r a
token_by_worded Slash b r c h a = tt
token_by_worded Other b r c h a = (h, text_ascii word word_fine 0 r a)

token_at_worded : (xs : List ℕ) (c : Cursor) → Ascii xs → Of (λ t e. Worded t) (token_at xs c)
token_at_worded [] c a = unfold token_at in tt
token_at_worded (b ∷ r) c a = token_by_lem (Of (λ t e. Worded t)) b r c (λ k. token_by_worded k b r c a.0 a.1)

next_worded : (xs : List ℕ) (c : Cursor) → Ascii xs → Of (λ t e. Worded t) (next xs c)
unfolding next
next_worded xs c a =
    let p = run_passed before 0 xs c in
    token_at_worded (run before 0 xs c).rest (run before 0 xs c).here (ascii_rest p.part (run before 0 xs c).rest (subst Ascii p.list a))

all_worded : (xs : List ℕ) (c : Cursor) → Ascii xs → All Worded (tokens 0 xs c).tokens
all_worded =
    by_tokens (λ xs c r. Ascii xs → All Worded r.tokens)
    (λ xs c s q a. nil)
    (λ xs c t e q k ih a.
    cons (subst (Of (λ t e. Worded t)) q (next_worded xs c a)) (ih (ascii_rest (taken_over k).part e.rest (subst Ascii (taken_over k).list a))))

-- the texts of a reading
pub worded : (s : List ℕ) → Ascii s → All Worded (reading s).tokens
unfolding reading
worded s a = all_worded s fresh a
