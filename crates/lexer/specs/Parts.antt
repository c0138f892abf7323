-- A text in parts: the words that the third demand is stated with.
use Rattle.std.specs.Prelude.{◌≡◌, ℕ, ◌+◌, Bool, false, List, [], ◌∷◌, ◌++◌, map, length, eqb}
use Rattle.ascii.specs.Choice.{or}
use Rattle.lexer.specs.Cursors.{Line, Column, Cursor, cursor, line}
use Rattle.lexer.specs.Tokens.{Kind, Directive, Word, QuotedString, Comment, Newline, Token, Reading, reading}
use Rattle.lexer.specs.Places.{feeds}

-- The cursor d bytes and l line feeds further on.
abbrev pub raise : ℕ → ℕ → Cursor → Cursor
raise d l c = cursor (d + c.place) (l + c.line.0) c.column.0 c.mark

-- The token d bytes and l line feeds further on.
abbrev pub raised : ℕ → ℕ → Token → Token
raised d l t =
    record { kind = t.kind; line = line (l + t.line.0); column = t.column; first = d + t.first; past = d + t.past; text = t.text }

-- A reading d bytes and l line feeds further on.
abbrev pub raised_reading : ℕ → ℕ → Reading → Reading
raised_reading d l r = record { tokens = map (raised d l) r.tokens; stop = raise d l r.stop }

-- Tokens read before.
abbrev pub puts : List Token → Reading → Reading
puts ts r = record { tokens = ts ++ r.tokens; stop = r.stop }

-- The tokens of a line as they stand behind the front.
abbrev pub line_in : List ℕ → List ℕ → List Token
line_in front line = map (raised (length front) (feeds front)) (reading line).tokens

-- The tokens of the rest, and where reading stops, as they stand behind the front and the line.
abbrev pub rest_in : List ℕ → List ℕ → List ℕ → Reading
rest_in front line rest = raised_reading (length front + length line) (feeds front + 1) (reading rest)

-- Some byte of a list is b.
abbrev pub among : ℕ → List ℕ → Bool
among b [] = false
among b (x ∷ xs) = or (eqb b x) (among b xs)

-- Line feed, vertical tab, form feed, both quotation marks and backslash.
abbrev pub unplain : List ℕ
unplain = 10 ∷ 11 ∷ 12 ∷ 34 ∷ 39 ∷ 92 ∷ []

-- None of these.
abbrev pub Plain : ℕ → Type 0
Plain b = among b unplain ≡ false

-- One line of such bytes, closed by a line feed.
pub data ALine : List ℕ → Type 0 where
  feed : ALine (10 ∷ [])
  byte : {b : ℕ} {r : List ℕ} → Plain b → ALine r → ALine (b ∷ r)

-- The list is empty or ends in a line feed.
abbrev pub EndsLf : List ℕ → Type 0
EndsLf [] = Unit {0}
EndsLf (b ∷ []) = b ≡ 10
EndsLf (b ∷ d ∷ r) = EndsLf (d ∷ r)

-- A token that takes a line feed with it: a Newline or a Comment.
abbrev pub Closer : Kind → Type 0
Closer Directive = ⊥
Closer Word = ⊥
Closer QuotedString = ⊥
Closer Comment = Unit {0}
Closer Newline = Unit {0}

-- The text is empty, or ends in a line feed that its last token, a Newline or a Comment, holds.
pub data Closed (xs : List ℕ) : Type 0 where
  none : xs ≡ [] → Closed xs
  held : (ts : List Token) (t : Token) → (reading xs).tokens ≡ ts ++ t ∷ [] → Closer t.kind → t.past ≡ length xs → EndsLf xs → Closed xs

-- What a token is but for its byte span.
pub record Bare : Type 0 where
  pub kind : Kind
  pub line : Line
  pub column : Column
  pub text : List ℕ

-- The token without its byte span.
abbrev pub bare : Token → Bare
bare t = record { kind = t.kind; line = t.line; column = t.column; text = t.text }

-- With another line in a line's place the tokens before it are the same, and those behind it differ in their spans only.
pub record Replaced (front line line' rest : List ℕ) : Type 0 where
  pub old : (reading (front ++ line ++ rest)).tokens ≡ (reading front).tokens ++ (line_in front line ++ (rest_in front line rest).tokens)
  pub new : (reading (front ++ line' ++ rest)).tokens ≡ (reading front).tokens ++ (line_in front line' ++ (rest_in front line' rest).tokens)
  pub behind : map bare (rest_in front line rest).tokens ≡ map bare (rest_in front line' rest).tokens
