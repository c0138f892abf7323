-- What a call is given, in plain words, and what is read back from what it leaves.
use Rattle.std.specs.Prelude.{◌≡◌, ℕ, ◌+◌, ◌*◌, ◌≤◌, ◌<◌, false, List, ◌++◌, map, length, take, get_or, Result, Ok, Err}
use Rattle.lent.specs.Sizes.{limit, cursor_most, token_words}
use Rattle.lexer.specs.Cursors.{Cursor, cursor, fresh, moves}
use Rattle.lexer.specs.Tokens.{Token, Reading, reading}
use Rattle.lexer.specs.Places.{feeds}
use Rattle.lexer.specs.Parts.{raise, raised, puts, line_in, rest_in, bare}
use Rattle.lexer.specs.Layout.{texts}
use Rattle.lexer.specs.Promises.{Tokens}
use Rattle.lexer.specs.Decoding.{decoded}
use Rattle.lexer.specs.declared.writing.Read.{Read}
use Rattle.lexer.specs.declared.writing.TokensError.{TokensError}

-- A line or a column that a cursor may have.
pub record Counted (n : ℕ) : Type 0 where
  pub some : 0 < n
  pub most : n ≤ cursor_most

-- A line or a column that no cursor may have.
pub data Uncounted (n : ℕ) : Type 0 where
  nought : n ≡ 0 → Uncounted n
  above : cursor_most < n → Uncounted n

-- A cursor that is taken for a text.
pub record Fit (s : List ℕ) (c : Cursor) : Type 0 where
  pub inside : c.place ≤ length s
  pub lined : Counted c.line.0
  pub columned : Counted c.column.0

-- A cursor that stands in the text where the bytes before its place lead.
pub record Reached (s : List ℕ) (c : Cursor) : Type 0 where
  pub inside : c.place ≤ length s
  pub here : c ≡ moves (take c.place s) fresh

-- Number 9: the place is past the end, or the line or the column is 0 or above the largest.
pub data Astray (s : List ℕ) (c : Cursor) : Type 0 where
  far : length s < c.place → Astray s c
  off_line : Uncounted c.line.0 → Astray s c
  off_column : Uncounted c.column.0 → Astray s c

-- Every byte is ASCII.
abbrev pub Ascii : List ℕ → Type 0
Ascii s = (i : ℕ) → i < length s → get_or s i 0 < 128

-- The words that the records of all tokens take.
abbrev pub needed : List ℕ → ℕ
needed s = length (reading s).tokens * token_words

-- A text that is read whole: short enough, ASCII, and with room for its texts and for a record of every token.
pub record Roomy (s buffer words : List ℕ) : Type 0 where
  pub within : length s ≤ limit
  pub ascii : Ascii s
  pub texts_fit_lem : length s ≤ length buffer
  pub records_fit : needed s ≤ length words

-- A call of tokens with such room: both buffers before and after it, and its answer, of which only the promise is known.
pub record Called (s : List ℕ) : Type 0 where
  pub buffer : List ℕ
  pub buffer' : List ℕ
  pub words : List ℕ
  pub words' : List ℕ
  pub answer : Result Read TokensError
  pub roomy : Roomy s buffer words
  pub promise : Tokens s buffer buffer' words words' answer

-- The answer for a reading: the count of records, the length of the texts, and the stop's place, line and column.
abbrev pub read_answer : Reading → Result Read TokensError
read_answer x = Ok (record { count = length x.tokens; text = length (texts x.tokens); place = x.stop.place; line = x.stop.line; column = x.stop.column })

-- How many records an answer says there are.
abbrev pub count_of : Result Read TokensError → ℕ
count_of (Ok r) = r.count
count_of (Err e) = 0

-- Where an answer says that reading stopped; it does not tell the mark.
abbrev pub stop_of : Result Read TokensError → Cursor
stop_of (Ok r) = record { place = r.place; line = r.line; column = r.column; mark = false }
stop_of (Err e) = cursor 0 0 0 false

-- The tokens that are read back from what a call left.
abbrev pub tokens_in : {s : List ℕ} → Called s → List Token
tokens_in k = decoded (count_of k.answer) k.words' k.buffer'

-- A call that read: it answers with the reading's numbers, and its buffers hold the reading's tokens.
pub record Tells {s : List ℕ} (k : Called s) (x : Reading) : Type 0 where
  pub answer_is : k.answer ≡ read_answer x
  pub tokens_are : tokens_in k ≡ x.tokens

-- Of two calls, whose texts differ in a line: the tokens before it are the same, those behind it are but for byte spans,
-- and reading stops at the same line and column.
pub record SameOutside (front line line' rest : List ℕ) {s s' : List ℕ} (k : Called s) (k' : Called s') : Type 0 where
  pub old : Tells k (puts (reading front).tokens (puts (line_in front line) (rest_in front line rest)))
  pub new : Tells k' (puts (reading front).tokens (puts (line_in front line') (rest_in front line' rest)))
  pub behind : map bare (rest_in front line rest).tokens ≡ map bare (rest_in front line' rest).tokens
  pub stop_line : (rest_in front line rest).stop.line ≡ (rest_in front line' rest).stop.line
  pub stop_column : (rest_in front line rest).stop.column ≡ (rest_in front line' rest).stop.column

-- A call on a text in three parts beside a call on each part: its tokens are theirs, raised and put together, and it stops where the last does.
pub record Joined (front line rest : List ℕ) (k : Called (front ++ line ++ rest)) (a : Called front) (b : Called line) (d : Called rest) : Type 0 where
  pub tokens_are : tokens_in k ≡ tokens_in a ++ (map (raised (length front) (feeds front)) (tokens_in b) ++ map (raised (length front + length line) (feeds front + 1)) (tokens_in d))
  pub stop_is : stop_of k.answer ≡ raise (length front + length line) (feeds front + 1) (stop_of d.answer)
