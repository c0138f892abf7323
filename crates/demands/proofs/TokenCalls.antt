-- The lexer's three promises are total, have no second answer, and keep to document 01's table.
-- The idea: what a call comes to has an answer in each of its cases, and the crates' own laws tell that it is the only one.
use Rattle.lexer.specs.declared.writing.TokensError.TheVariants as TokensError
use Rattle.lexer.specs.declared.stepping.Found.TheVariants as Found
use Rattle.lexer.specs.declared.stepping.StepError.TheVariants as StepError
use Rattle.lent.specs.declared.gating.GateError.TheVariants as GateError
use Rattle.lent.specs.declared.gating.GateError.TheVariants.{TooLong, Short, NotAscii}
use Rattle.lent.specs.declared.gating.GateError.{GateError}
use Rattle.std.specs.Prelude.{Result, Ok, Err}
use mathlib.Core.Path.{◌≡◌, refl}
use mathlib.Core.Bool.{Bool, true, false}
use Prim.Native.Nat.{ℕ, ◌-◌}
use lib.ListN.{length}
use lib.Dec.{ltb}
use Rattle.ascii.specs.Choice.{pick}
use Rattle.lent.specs.Sizes.{limit, token_words, room_for}
use Rattle.lent.specs.Gates.{gate_of}
use Rattle.lent.specs.Table.{given, too_long, short_buffer, no_room, bad_cursor, Outcome, refuses, reads, past_gate, Filled, text_by, records_by}
use Rattle.lexer.specs.Tokens as T
use Rattle.lexer.specs.Promises as L
use Rattle.lexer.specs.declared.writing.Read.{Read as TokensRead}
use Rattle.lexer.specs.declared.writing.TokensError.{TokensError}
use Rattle.lexer.specs.declared.stepping.Found.{Found}
use Rattle.lexer.specs.declared.stepping.StepError.{StepError}
use Rattle.lexer.proofs.GivenLaws as LexerLaws
use Rattle.lexer.proofs.LayoutLaws.{words_length}
use Rattle.demands.specs.Fixed.{Fixed}
use Rattle.demands.specs.Calls.{Lent, Left, Wrote, Place, step_in_promise, next_token_promise, tokens_promise}
use Rattle.demands.proofs.FixedLaws.{left_same, wrote_same}
use Rattle.demands.specs.Rows.{Row}
use Rattle.demands.proofs.RowLaws.{row_of}
use Rattle.demands.proofs.AnswerLaws.{Answered, Gated, past_gate_lem}

-- ---- one token

read_answer : (x : T.Step) → (r : Result Found StepError) × (L.step_given r ≡ given 0 (L.step_values x))
read_answer (T.nothing c) = (Ok (Found.Nothing c), refl)
read_answer (T.token t e) = (Ok (Found.Token (L.lexeme t e.here)), refl)

step_answer : (long bad short : Bool) (x : T.Step)
    → (r : Result Found StepError) × (L.step_given r ≡ L.next_given_by (pick long (refuses too_long) (pick bad (refuses bad_cursor) (pick short (refuses short_buffer) (reads x)))))
step_answer true bad short x = (Err (StepError.Gate GateError.TooLong), refl)
step_answer false true short x = (Err StepError.BadCursor, refl)
step_answer false false true x = (Err (StepError.Gate GateError.Short), refl)
step_answer false false false x = read_answer x

pub step_in_fixed : Fixed Place (Wrote (Result Found StepError)) step_in_promise
unfolding L.step_outcome
step_in_fixed = record {
  total = λ i.
      let r = step_answer (ltb limit (length i.input)) (L.cursor_refused i.input i.from) (ltb (length i.buffer) (length i.input - i.from.place)) _ in
      (record { answer = r.0; buffer = L.next_text_by (L.step_outcome i.input i.from (length i.buffer)) i.buffer }, record { answer = r.1; text = refl });
  once = λ i o p x y. wrote_same o p (LexerLaws.step_in_once x y);
}

next_answer : (g : Result Unit GateError) (t : Bool) (x : T.Step)
    → (r : Result Found StepError) × (L.step_given r ≡ L.next_given_by (past_gate g (pick t (refuses bad_cursor) (reads x))))
next_answer (Err TooLong) t x = (Err (StepError.Gate GateError.TooLong), refl)
next_answer (Err (NotAscii p)) t x = (Err (StepError.Gate (GateError.NotAscii p)), refl)
next_answer (Err Short) t x = (Err (StepError.Gate GateError.Short), refl)
next_answer (Ok tt) true x = (Err StepError.BadCursor, refl)
next_answer (Ok tt) false x = read_answer x

pub next_token_fixed : Fixed Place (Wrote (Result Found StepError)) next_token_promise
unfolding L.next_outcome
next_token_fixed = record {
  total = λ i.
      let r = next_answer (gate_of i.input (length i.buffer) (length i.input)) (L.cursor_refused i.input i.from) _ in
      (record { answer = r.0; buffer = L.next_text_by (L.next_outcome i.input i.from (length i.buffer)) i.buffer }, record { answer = r.1; text = refl });
  once = λ i o p x y. wrote_same o p (LexerLaws.next_token_once x y);
}

-- ---- a whole text

abbrev AnsweredTokens : Outcome Filled → Type 0
AnsweredTokens = Answered token_words L.answer_given

room_answered : (t : Bool) (n : ℕ) (x : T.Reading) → AnsweredTokens (pick t (refuses (no_room n)) (reads (L.laid_out x)))
room_answered true n x = record { answer = Err (TokensError.NoRoom n); is = refl; filling = tt }
room_answered false n x =
    record {
      answer = Ok (record { count = length x.tokens; text = _; place = x.stop.place; line = x.stop.line; column = x.stop.column });
      is = refl;
      filling = record { count = _; more = _; values = refl; words = words_length 0 x.tokens };
    }

gated : Gated token_words L.answer_given
gated = record { long = (Err (TokensError.Gate GateError.TooLong), refl); high = λ p. (Err (TokensError.Gate (GateError.NotAscii p)), refl); short = (Err (TokensError.Gate GateError.Short), refl) }

tokens_answered : (i : Lent) → AnsweredTokens (L.tokens_outcome i.input (length i.text) (length i.records))
unfolding L.tokens_outcome
tokens_answered i =
    let count = length (T.reading i.input).tokens in
    past_gate_lem token_words L.answer_given gated (gate_of i.input (length i.text) (length i.input)) _
    (room_answered (ltb (room_for token_words (length i.records)) count) count (T.reading i.input))

pub tokens_fixed : Fixed Lent (Left (Result TokensRead TokensError)) tokens_promise
tokens_fixed = record {
  total = λ i.
      let o = L.tokens_outcome i.input (length i.text) (length i.records) in
      let a = tokens_answered i in
      (record { answer = a.answer; text = text_by o i.text; records = records_by o i.records }, record { answer = a.is; texts = refl; words = refl });
  once = λ i o p x y. left_same o p (LexerLaws.tokens_once x y);
}

pub tokens_row : (i : Lent) (o : Left (Result TokensRead TokensError)) → tokens_promise i o → Row token_words (L.answer_given o.answer) i.text o.text i.records o.records
tokens_row i o x = row_of token_words (L.tokens_outcome i.input (length i.text) (length i.records)) (tokens_answered i).filling x.answer x.texts x.words
