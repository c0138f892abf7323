-- What the private functions promise: runs by numbers, and the cursor that a run's numbers make.
use Rattle.std.specs.Prelude.{◌≡◌, ℕ, ◌+◌, ◌-◌, ◌≤◌, ◌<◌, Bool, true, false, List, [], ◌∷◌, ◌++◌, length, take, drop, get_or}
use Rattle.ascii.specs.Classes.{white}
use Rattle.lent.specs.Sizes.{limit, cursor_most}
use Rattle.lexer.specs.Cursors.{Cursor, moves}
use Rattle.lexer.specs.Runs.{Does, closes, takes, run, text, took}
use Rattle.lexer.specs.Rules.{before}
use Rattle.lexer.specs.Places.{feeds, since}
use Rattle.lexer.specs.Tokens.{Kind, Token, next, reading, nothing, token}
use Rattle.lexer.specs.Tokens as T
use Rattle.lexer.specs.Layout.{texts, words_from}
use Rattle.lexer.specs.Promises.{lexeme, step_text}
use Rattle.lexer.specs.declared.moving.Run.{Run}
use Rattle.lexer.specs.declared.stepping.Lexeme.{Lexeme}
use Rattle.lexer.specs.declared.stepping.Found.{Found}
use Rattle.lexer.specs.declared.writing.Tally.{Tally}
use Rattle.lexer.specs.declared.quotes.Mode.{Mode}
use Rattle.lexer.specs.declared.quotes.Act.{Act}
use Rattle.lexer.specs.declared.quotes.Act.TheVariants.{Closes, Vanishes, Gives, Keeps}

-- A cursor inside the text whose line and column are at most as far on as its place.
pub record Within (s : List ℕ) (c : Cursor) : Type 0 where
  pub short : length s ≤ limit
  pub inside : c.place ≤ length s
  pub lined : c.line.0 ≤ cursor_most + c.place
  pub columned : c.column.0 ≤ cursor_most + c.place

-- The bytes from one place up to another.
abbrev pub part : List ℕ → ℕ → ℕ → List ℕ
part s from to = take (to - from) (drop from s)

-- The cursor past the bytes from its own place up to another.
abbrev pub past_bytes : List ℕ → Cursor → ℕ → Cursor
past_bytes s c to = moves (part s c.place to) c

-- What stands before a token is skipped.
pub record Skipped (s : List ℕ) (c r : Cursor) : Type 0 where
  pub stop_is : r ≡ (run before 0 (drop c.place s) c).here
  pub moved_is : r ≡ past_bytes s c r.place
  pub onward : c.place ≤ r.place
  pub within : Within s r

module _ {M : Type 0} (does : M → ℕ → List ℕ → Does M) (m : M) (s : List ℕ) (from : ℕ) where
  -- The run from a place: where it ends, its line feeds, and the bytes since the last of them.
  pub record Ran (r : Run) : Type 0 where
    pub past_is : r.past ≡ from + took does m (drop from s)
    pub inside : r.past ≤ length s
    pub feeds_are : r.feeds ≡ feeds (part s from r.past)
    pub last_is : r.last + since 0 (part s from r.past) ≡ r.past

  -- Its text stands at the front of a buffer, and nothing beyond is touched.
  pub record Wrote (old new : List ℕ) (r : Run) : Type 0 where
    pub length_is : r.len ≡ length (text does m (drop from s))
    pub text_is : new ≡ text does m (drop from s) ++ drop (length (text does m (drop from s))) old
    pub short : from + r.len ≤ r.past

-- An act of the source as what it does to the run.
abbrev pub does_of : Act → Does Mode
does_of Closes = closes
does_of (Vanishes m) = takes [] m
does_of (Gives x m) = takes (x ∷ []) m
does_of (Keeps x m) = takes (92 ∷ x ∷ []) m

-- Only whitespace stands from one place up to another, or some other byte.
abbrev pub Blank : List ℕ → ℕ → ℕ → Bool → Type 0
Blank s from to true = (i : ℕ) → from ≤ i → i < to → white (get_or s i 0) ≡ true
Blank s from to false = (i : ℕ) × (from ≤ i) × (i < to) × (white (get_or s i 0) ≡ false)

-- A run's numbers, for a token that starts at c with a byte that is not white.
pub record Passes (s : List ℕ) (c : Cursor) (r : Run) : Type 0 where
  pub some : c.place < r.past
  pub inside : r.past ≤ length s
  pub solid : white (get_or s c.place 0) ≡ false
  pub feeds_are : r.feeds ≡ feeds (part s c.place r.past)
  pub last_is : 0 < r.feeds → r.last + since 0 (part s c.place r.past) ≡ r.past

-- ---- a token inside the text

-- A token that starts at a cursor and ends at the next.
abbrev pub lexeme_at : Kind → Cursor → ℕ → Cursor → Lexeme
lexeme_at k c n d = record { kind = k; line = c.line; column = c.column; first = c.place; len = n; next = d }

-- A step of the definitions as the source's answer.
abbrev pub found : T.Step → Found
found (nothing c) = Found.Nothing c
found (token t e) = Found.Token (lexeme t e.here)

-- A token that was found from c on leads on, by at least a byte and by as many as its text has.
pub record Ahead (s : List ℕ) (c : Cursor) (t : Lexeme) : Type 0 where
  pub within : Within s t.next
  pub past : c.place < t.next.place
  pub first_low : t.first ≤ t.next.place
  pub text_low : c.place + t.len ≤ t.next.place

abbrev pub Onward : List ℕ → Cursor → Found → Type 0
Onward s c (Found.Token t) = Ahead s c t
Onward s c (Found.Nothing d) = Unit {0}

-- The step at a cursor inside the text, and the text that it writes.
pub record Stepped (s : List ℕ) (c : Cursor) (old new : List ℕ) (r : Found) : Type 0 where
  pub step_is : r ≡ found (next (drop c.place s) c)
  pub text_is : new ≡ step_text (next (drop c.place s) c) ++ drop (length (step_text (next (drop c.place s) c))) old
  pub onward : Onward s c r

-- Numbers that a span word takes.
pub record Narrow (o : ℕ) (t : Lexeme) : Type 0 where
  pub forward : t.first ≤ t.next.place
  pub near : t.next.place ≤ limit
  pub offset : o ≤ limit
  pub short : t.len ≤ limit

-- Every token of a text is written, and its records where they fit.
pub record Whole (s text text' records records' : List ℕ) (r : Tally) : Type 0 where
  pub count_is : r.count ≡ length (reading s).tokens
  pub used_is : r.used ≡ length (texts (reading s).tokens)
  pub stop_is : r.stop ≡ (reading s).stop
  pub text_is : text' ≡ texts (reading s).tokens ++ drop (length (texts (reading s).tokens)) text
  pub long : length records' ≡ length records
  pub records_are : length (words_from 0 (reading s).tokens) ≤ length records → records' ≡ words_from 0 (reading s).tokens ++ drop (length (words_from 0 (reading s).tokens)) records
