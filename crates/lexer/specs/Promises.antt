-- What the public calls promise, by document 01's table: the answer, and every byte of lent memory, on every path.
use Rattle.lent.specs.declared.gating.GateError.TheVariants.{TooLong, Short, NotAscii}
use Rattle.lent.specs.declared.gating.GateError.{GateError}
use Rattle.std.specs.Prelude.{◌≡◌, ℕ, ◌-◌, Bool, true, false, List, [], ◌∷◌, ◌++◌, length, drop, ltb, leb, eqb, Result, Ok, Err}
use Rattle.ascii.specs.Choice.{pick, and, bit}
use Rattle.lent.specs.Sizes.{limit, cursor_most, token_words, room_for, span_word}
use Rattle.lent.specs.Gates.{gate_of}
use Rattle.lent.specs.Buffers.{stored}
use Rattle.lent.specs.Endings.{overfull, Finished}
use Rattle.lent.specs.Table.{Given, given, Refusal, too_long, not_ascii, short_buffer, no_room, bad_cursor, refused, refused_text, Outcome, refuses, reads, past_gate, Filled, given_by, text_by, records_by}
use Rattle.lexer.specs.Cursors.{Cursor}
use Rattle.lexer.specs.Tokens.{Token, Reading, next, reading, nothing, token}
use Rattle.lexer.specs.Tokens as T
use Rattle.lexer.specs.Layout.{kind_code, words_from, texts}
use Rattle.lexer.specs.declared.stepping.Lexeme.{Lexeme}
use Rattle.lexer.specs.declared.stepping.Found.{Found}
use Rattle.lexer.specs.declared.stepping.StepError.{StepError}
use Rattle.lexer.specs.declared.writing.Tally.{Tally}
use Rattle.lexer.specs.declared.writing.Read.{Read}
use Rattle.lexer.specs.declared.writing.TokensError.{TokensError}

-- ---- one token

-- A cursor's values: place, line, column and mark.
abbrev pub cursor_values : Cursor → List ℕ
cursor_values c = c.place ∷ c.line.0 ∷ c.column.0 ∷ bit c.mark ∷ []

-- A token's values: kind, line, column, first byte and text length, then the next cursor, at whose place the token ends.
abbrev pub lexeme_values : Lexeme → List ℕ
lexeme_values t = kind_code t.kind ∷ t.line.0 ∷ t.column.0 ∷ t.first ∷ t.len ∷ cursor_values t.next

-- What refuses a text at the gate.
abbrev pub gate_refusal : GateError → Refusal
gate_refusal TooLong = too_long
gate_refusal (NotAscii place) = not_ascii place
gate_refusal Short = short_buffer

-- The paper's number and values for each answer of a step: 1 and a token, or 0 and where reading stands.
abbrev pub step_given : Result Found StepError → Given
step_given (Ok (Found.Token t)) = given 0 (1 ∷ lexeme_values t)
step_given (Ok (Found.Nothing c)) = given 0 (0 ∷ cursor_values c)
step_given (Err (StepError.Gate g)) = refused (gate_refusal g)
step_given (Err StepError.BadCursor) = refused bad_cursor

-- A line or a column: not 0, and at most one more than the limit.
abbrev pub counted : ℕ → Bool
counted n = pick (eqb n 0) false (leb n cursor_most)

-- Number 9: the place is past the end, or the line or the column is none.
abbrev pub cursor_refused : List ℕ → Cursor → Bool
cursor_refused s c = pick (ltb (length s) c.place) true (pick (counted c.line.0) (pick (counted c.column.0) false true) true)

-- The source's token, and the text that is written for it.
abbrev pub lexeme : Token → Cursor → Lexeme
lexeme t c = record { kind = t.kind; line = t.line; column = t.column; first = t.first; len = length t.text; next = c }

-- What a step gives, and the text that it writes.
abbrev pub step_values : T.Step → List ℕ
step_values (nothing c) = 0 ∷ cursor_values c
step_values (token t e) = 1 ∷ lexeme_values (lexeme t e.here)

abbrev pub step_text : T.Step → List ℕ
step_text (nothing c) = []
step_text (token t e) = t.text

-- What a call of step_in comes to, with n bytes of text lent: checks 1, 9 and 3, where only what is left behind the place is asked;
-- then the token, whatever the bytes are.
unfoldable pub step_outcome : List ℕ → Cursor → ℕ → Outcome T.Step
step_outcome s c n =
    pick (ltb limit (length s)) (refuses too_long)
    (pick (cursor_refused s c) (refuses bad_cursor)
    (pick (ltb n (length s - c.place)) (refuses short_buffer)
    (reads (next (drop c.place s) c))))

-- What a call of next_token comes to, with n bytes of text lent: checks 1, 2, 3 and 9, then the token.
unfoldable pub next_outcome : List ℕ → Cursor → ℕ → Outcome T.Step
next_outcome s c n =
    past_gate (gate_of s n (length s)) (pick (cursor_refused s c) (refuses bad_cursor) (reads (next (drop c.place s) c)))

abbrev pub next_given_by : Outcome T.Step → Given
next_given_by (refuses f) = refused f
next_given_by (reads x) = given 0 (step_values x)

-- The text stands at the buffer's front, and nothing beyond is touched.
abbrev pub next_text_by : Outcome T.Step → List ℕ → List ℕ
next_text_by (refuses f) old = refused_text f old
next_text_by (reads x) old = step_text x ++ drop (length (step_text x)) old

pub record StepIn (s : List ℕ) (c : Cursor) (old new : List ℕ) (r : Result Found StepError) : Type 0 where
  pub answer : step_given r ≡ next_given_by (step_outcome s c (length old))
  pub text : new ≡ next_text_by (step_outcome s c (length old)) old

pub record NextToken (s : List ℕ) (c : Cursor) (old new : List ℕ) (r : Result Found StepError) : Type 0 where
  pub answer : step_given r ≡ next_given_by (next_outcome s c (length old))
  pub text : new ≡ next_text_by (next_outcome s c (length old)) old

-- ---- a whole text

-- The paper's number and values for each answer: the count of records, the length of the texts, and the stop's place, line and column.
abbrev pub answer_given : Result Read TokensError → Given
answer_given (Ok r) = given 0 (r.count ∷ r.text ∷ r.place ∷ r.line.0 ∷ r.column.0 ∷ [])
answer_given (Err (TokensError.Gate g)) = refused (gate_refusal g)
answer_given (Err (TokensError.NoRoom needed)) = refused (no_room needed)

-- A reading laid out: the values returned, the texts, and the records' words.
abbrev pub laid_out : Reading → Filled
laid_out x = record {
  values = length x.tokens ∷ length (texts x.tokens) ∷ x.stop.place ∷ x.stop.line.0 ∷ x.stop.column.0 ∷ [];
  texts = texts x.tokens;
  words = words_from 0 x.tokens;
}

-- What a call of tokens comes to, with n bytes of text and m words of records lent: checks 1, 2 and 3, the reading, and then 4.
unfoldable pub tokens_outcome : List ℕ → ℕ → ℕ → Outcome Filled
tokens_outcome s n m =
    past_gate (gate_of s n (length s))
    (pick (ltb (room_for token_words m) (length (reading s).tokens)) (refuses (no_room (length (reading s).tokens))) (reads (laid_out (reading s))))

pub record Tokens (s text text' records records' : List ℕ) (r : Result Read TokensError) : Type 0 where
  pub answer : answer_given r ≡ given_by (tokens_outcome s (length text) (length records))
  pub texts : text' ≡ text_by (tokens_outcome s (length text) (length records)) text
  pub words : records' ≡ records_by (tokens_outcome s (length text) (length records)) records

-- ---- what both lexers begin and end with

-- The five words of a token whose text starts at the offset o.
abbrev pub lexeme_record : ℕ → Lexeme → List ℕ
lexeme_record o t = kind_code t.kind ∷ t.line.0 ∷ t.column.0 ∷ span_word t.first (t.next.place - t.first) ∷ span_word o t.len ∷ []

-- Its numbers go into span words.
abbrev pub narrow : ℕ → Lexeme → Bool
narrow o t = and (leb t.first t.next.place) (and (leb t.next.place limit) (and (leb o limit) (leb t.len limit)))

-- Its record in a buffer, at a place where it fits.
abbrev pub token_stored : List ℕ → ℕ → ℕ → Lexeme → List ℕ
token_stored old at o t = pick (narrow o t) (stored old at (lexeme_record o t)) old

-- What is answered of a reading, by whether its records are too many.
abbrev pub ended_by : Bool → Tally → Result Read TokensError
ended_by true r = Err (TokensError.NoRoom r.count)
ended_by false r = Ok (record { count = r.count; text = r.used; place = r.stop.place; line = r.stop.line; column = r.stop.column })

pub record EndReading (r : Tally) (text text' records records' : List ℕ) (a : Result Read TokensError) : Type 0 where
  pub answer : a ≡ ended_by (overfull token_words r.count records) r
  pub left : Finished r.used r.count token_words text text' records records' (overfull token_words r.count records)
