-- One token, and the tokens of a whole text.
use Rattle.std.specs.Prelude.{ℕ, zero, suc, ◌-◌, Bool, List, [], ◌∷◌, take}
use Rattle.ascii.specs.Choice.{pick, and, or}
use Rattle.ascii.specs.Text.{bytes}
use Rattle.ascii.specs.Fold.{lowered, same}
use Rattle.lexer.specs.Bytes.{Class, Feed, Return, Gap, Upright, Hash, Quote, Slash, Other, class}
use Rattle.lexer.specs.Cursors.{Line, Column, Cursor, fresh, moved}
use Rattle.lexer.specs.Runs.{Spot, spot, run, text}
use Rattle.lexer.specs.Rules.{before, word, comment, quoted, plain}
pub use Rattle.lexer.specs.declared.Kind.{Kind}
pub use Rattle.lexer.specs.declared.Kind.TheVariants.{Directive, Word, QuotedString, Comment, Newline}

-- The Rust's Token and TokenKind, with the bytes that it takes: from `first`, and up to `past` without it.
pub record Token : Type 0 where
  pub kind : Kind
  pub line : Line
  pub column : Column
  pub first : ℕ
  pub past : ℕ
  pub text : List ℕ

-- What one step gives: no token, with where reading stops; or a token, with where reading goes on.
pub data Step : Type 0 where
  nothing : Cursor → Step
  token : Token → Spot → Step

-- A word that names a directive: the test in the last arm of Lexer::next_token.
unfoldable pub directive : List ℕ → Bool
directive w = or (same (take 3 (lowered w)) (bytes "sec")) (same (lowered w) (bytes "include"))

-- What a word is: a directive only at a line's start, the `if` of that arm.
unfoldable pub word_kind : Bool → List ℕ → Kind
word_kind mark w = pick (and mark (directive w)) Directive Word

-- The token that starts at c and ends where e is.
abbrev pub made : Kind → List ℕ → Cursor → Spot → Step
made k t c e =
    token (record { kind = k; line = c.line; column = c.column; first = c.place; past = e.here.place; text = t }) e

-- The token that starts with the byte b, by class: the `match` of Lexer::next_token. Blanks and backslashes are passed over
-- before it, and at a vertical tab or a form feed the word would be empty, so that reading stops.
unfoldable pub token_by : Class → ℕ → List ℕ → Cursor → Step
token_by Feed b r c = made Newline [] c (spot (moved c b) r)
token_by Return b r c = nothing c
token_by Gap b r c = nothing c
token_by Upright b r c = nothing c
token_by Hash b r c = made Comment [] c (run comment 0 r (moved c b))
token_by Quote b r c = made QuotedString (text (quoted b) plain r) c (run (quoted b) plain r (moved c b))
token_by Slash b r c = nothing c
token_by Other b r c =
    made (word_kind c.mark (b ∷ text word 0 r)) (b ∷ text word 0 r) c (run word 0 r (moved c b))

-- The token that the bytes still to be read start with: Lexer::next_token from its `peek` on.
unfoldable pub token_at : List ℕ → Cursor → Step
token_at [] c = nothing c
token_at (b ∷ r) c = token_by (class b) b r c

-- The first token of what is still to be read: Lexer::next_token.
unfoldable pub next : List ℕ → Cursor → Step
next r c = token_at (run before 0 r c).rest (run before 0 r c).here

-- The tokens of a whole text, and where reading stops.
pub record Reading : Type 0 where
  pub tokens : List Token
  pub stop : Cursor

-- A token read before.
abbrev pub put : Token → Reading → Reading
put t r = record { tokens = t ∷ r.tokens; stop = r.stop }

-- A step's token and all that follow it. Of the step's bytes the first is passed already, and the others are owed.
abbrev pub after : Step → Cursor → (ℕ → Cursor → Reading) → Reading
after (nothing s) c go = record { tokens = []; stop = s }
after (token t e) c go = put t (go (e.here.place - suc c.place) e.here)

-- Lexer::next_token again and again. The first k bytes are owed: they belong to the token before.
unfoldable pub tokens : ℕ → List ℕ → Cursor → Reading
tokens k [] c = record { tokens = []; stop = c }
tokens (suc k) (b ∷ r) c = tokens k r c
tokens zero (b ∷ r) c = after (next (b ∷ r) c) c (λ k e. tokens k r e)

-- A text read from its start, Lexer::new, to where reading stops.
unfoldable pub reading : List ℕ → Reading
reading r = tokens 0 r fresh
