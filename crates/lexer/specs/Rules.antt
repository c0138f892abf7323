-- The four tables of the lexer: before a token, in a word, in a comment, in quotes.
use Rattle.std.specs.Prelude.{ℕ, zero, suc, List, [], ◌∷◌, eqb}
use Rattle.ascii.specs.Choice.{pick}
use Rattle.lexer.specs.Bytes.{Class, Feed, Return, Gap, Upright, Hash, Quote, Slash, Other, class}
use Rattle.lexer.specs.Runs.{Does, ends, closes, takes}
pub use Rattle.lexer.specs.declared.quotes.Mode.{Mode}
pub use Rattle.lexer.specs.declared.quotes.Mode.TheVariants.{Plain as plain, Escaped as escaped, AfterCr as after_cr, Margin as margin}

-- Behind a CR a line feed makes a line end of two bytes: the look ahead of Lexer::skip_cr_before_lf.
unfoldable pub feed_next : List ℕ → ℕ
feed_next [] = 0
feed_next (b ∷ r) = pick (eqb b 10) 2 0

-- How many bytes of a line end stand first, LF or CR LF: Lexer::skip_cr_before_lf and the look for a line feed after it.
unfoldable pub line_end : List ℕ → ℕ
line_end [] = 0
line_end (b ∷ r) = pick (eqb b 10) 1 (pick (eqb b 13) (feed_next r) 0)

-- The mode of the first three tables is the count of bytes owed: those of the line end behind a backslash.

-- Before a token, by class: blanks are passed over, and a backslash with its line end or alone.
unfoldable pub before_by : Class → List ℕ → Does ℕ
before_by Feed r = ends
before_by Return r = takes [] 0
before_by Gap r = takes [] 0
before_by Upright r = ends
before_by Hash r = ends
before_by Quote r = ends
before_by Slash r = takes [] (line_end r)
before_by Other r = ends

-- Before a token: Lexer::skip_whitespace and the backslash arm of Lexer::next_token.
unfoldable pub before : ℕ → ℕ → List ℕ → Does ℕ
before zero b r = before_by (class b) r
before (suc k) b r = takes [] k

-- A backslash in a word vanishes with the bytes of its line end, and stays where none follows: the `if` on it in Lexer::read_word.
unfoldable pub word_slash : ℕ → Does ℕ
word_slash zero = takes (92 ∷ []) 0
word_slash (suc k) = takes [] (suc k)

-- In a word, by class: whitespace, a quotation mark or `#` ends it.
unfoldable pub word_by : Class → ℕ → List ℕ → Does ℕ
word_by Feed b r = ends
word_by Return b r = ends
word_by Gap b r = ends
word_by Upright b r = ends
word_by Hash b r = ends
word_by Quote b r = ends
word_by Slash b r = word_slash (line_end r)
word_by Other b r = takes (b ∷ []) 0

-- In a word: Lexer::read_word.
unfoldable pub word : ℕ → ℕ → List ℕ → Does ℕ
word zero b r = word_by (class b) b r
word (suc k) b r = takes [] k

-- A comment takes its line feed: the `#` arm of Lexer::next_token. It owes nothing, since a backslash does not continue it.
unfoldable pub comment : ℕ → ℕ → List ℕ → Does ℕ
comment k b r = pick (eqb b 10) closes (takes [] 0)

-- The modes in quotes are the source's: plain; behind a backslash; behind a backslash and CR; in the blanks behind an escaped line end.

-- What an escaped byte stands for: the inner `match` of Lexer::read_quoted_string.
unfoldable pub unescaped : ℕ → List ℕ
unescaped b =
    pick (eqb b 110) (10 ∷ []) (pick (eqb b 116) (9 ∷ []) (pick (eqb b 114) (13 ∷ [])
    (pick (eqb b 92) (b ∷ []) (pick (eqb b 34) (b ∷ []) (pick (eqb b 39) (b ∷ []) (92 ∷ b ∷ []))))))

-- In quotes that the mark q closes, with no backslash before: the last three branches of Lexer::read_quoted_string.
unfoldable pub quoted_plain : ℕ → ℕ → Does Mode
quoted_plain q b = pick (eqb b 92) (takes [] escaped) (pick (eqb b q) closes (takes (b ∷ []) plain))

-- Spaces and tabs behind an escaped line end vanish: the inner loops of Lexer::read_quoted_string.
unfoldable pub quoted_margin : ℕ → ℕ → Does Mode
quoted_margin q b = pick (eqb b 32) (takes [] margin) (pick (eqb b 9) (takes [] margin) (quoted_plain q b))

-- In quotes: Lexer::read_quoted_string.
unfoldable pub quoted : ℕ → Mode → ℕ → List ℕ → Does Mode
quoted q plain b r = quoted_plain q b
quoted q escaped b r = pick (eqb b 10) (takes [] margin) (pick (eqb b 13) (takes [] after_cr) (takes (unescaped b) plain))
quoted q after_cr b r = pick (eqb b 10) (takes [] margin) (quoted_margin q b)
quoted q margin b r = quoted_margin q b
