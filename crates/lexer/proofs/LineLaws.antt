-- A line of plain bytes is closed: its last token is a Newline or a Comment that holds its line feed.
-- No plain byte opens quotes, continues a line or stops reading, so that each step leaves a line, or takes the line feed.
use mathlib.Core.Path.{◌≡◌, ◌∙◌, refl, ap}
use mathlib.Core.Logic.{◌⊎◌, inl, inr}
use Prim.Native.Nat.{ℕ}
use native.Mathlib.Omega.{arith}
use mathlib.Core.Bool.{true, false}
use mathlib.Core.List.{List, []}
use lib.ListN.{length}
use lib.Dec.{eqb}
use borrow.Author.Tests.{ne_eqb}
use Rattle.lexer.specs.Bytes.{Class, Feed, Return, Gap, Upright, Hash, Quote, Slash, Other, class}
use Rattle.lexer.specs.Cursors.{Cursor, moved}
use Rattle.lexer.specs.Runs.{onward, Spot, run}
use Rattle.lexer.specs.Rules.{before, before_by, word, word_by, comment}
use Rattle.lexer.specs.Tokens.{Token, Step, nothing, token, token_by, token_at, next, Reading, put, tokens}
use Rattle.lexer.specs.Places.{feeds}
use Rattle.lexer.specs.Parts.{among, unplain, Plain, ALine, feed, byte, EndsLf, Closer}
use Rattle.ascii.proofs.TestLaws.{apart}
use Rattle.lexer.proofs.TestLaws.{either}
use Rattle.lexer.proofs.NextLaws.{Taken, taken_place}
use Rattle.lexer.proofs.TokenLaws.{by_tokens, last_of, Shut, shut_later}

-- ---- a plain byte

-- the classes of plain bytes
abbrev PlainBy : Class → Type 0
PlainBy Feed = ⊥
PlainBy Return = Unit {0}
PlainBy Gap = Unit {0}
PlainBy Upright = ⊥
PlainBy Hash = Unit {0}
PlainBy Quote = ⊥
PlainBy Slash = ⊥
PlainBy Other = Unit {0}

-- a plain byte is none that a line may not have; that k is one of these is computed
none_of : (b k : ℕ) → Plain b → among k unplain ≡ true → eqb b k ≡ false
none_of b k h t = ne_eqb b k (λ e. apart (ap (λ (x : ℕ). among x unplain) e ∙ t) h)

plain_flat : (b : ℕ) → Plain b → eqb b 10 ≡ false
plain_flat b h = none_of b 10 h refl

plain_class : (b : ℕ) → Plain b → PlainBy (class b)
unfolding class
plain_class b h =
    rw (none_of b 10 h refl, none_of b 11 h refl, none_of b 12 h refl, none_of b 34 h refl, none_of b 39 h refl, none_of b 92 h refl)
    (either PlainBy (eqb b 13) (λ e. tt) (λ e. either PlainBy (eqb b 32) (λ e. tt) (λ e. either PlainBy (eqb b 9) (λ e. tt) (λ e. either PlainBy (eqb b 35) (λ e. tt) (λ e. tt)))))

-- ---- a line

pub line_ends : {xs : List ℕ} → ALine xs → EndsLf xs
line_ends feed = refl
line_ends (byte p feed) = refl
line_ends (byte p (byte q a)) = line_ends (byte q a)

-- a line has one line feed
pub line_feeds : {xs : List ℕ} → ALine xs → feeds xs ≡ 1
unfolding feeds
line_feeds feed = refl
line_feeds (byte {b = b} p a) = rw (plain_flat b p) (omega (arith, line_feeds a))

word_line : {xs : List ℕ} (c : Cursor) → ALine xs → ALine (run word 0 xs c).rest
unfolding run word word_by
word_line c feed = unfold class in feed
word_line c (byte {b = b} {r = r} p a) = go (class b) (plain_class b p) (word_line (moved c b) a)
  where
    go : (k : Class) → PlainBy k → ALine (run word 0 r (moved c b)).rest → ALine (onward (word_by k b r) b r c (λ m. run word m r (moved c b))).rest
    go Feed h ih = absurd h
    go Return h ih = byte p a
    go Gap h ih = byte p a
    go Upright h ih = absurd h
    go Hash h ih = byte p a
    go Quote h ih = absurd h
    go Slash h ih = absurd h
    go Other h ih = ih

comment_line : {xs : List ℕ} (c : Cursor) → ALine xs → (run comment 0 xs c).rest ≡ []
unfolding run comment
comment_line c feed = refl
comment_line c (byte {b = b} p a) = rw (plain_flat b p) (comment_line (moved c b) a)

-- ---- its tokens

abbrev LineStep : Step → Type 0
LineStep (nothing s) = ⊥
LineStep (token t e) = ALine e.rest ⊎ ((e.rest ≡ []) × Closer t.kind)

line_next_lem : {xs : List ℕ} (c : Cursor) → ALine xs → LineStep (next xs c)
unfolding next run before before_by token_at token_by
line_next_lem c feed = unfold class in inr (refl, tt)
line_next_lem c (byte {b = b} {r = r} p a) = go (class b) refl (plain_class b p) (line_next_lem (moved c b) a)
  where
    at : Class → Spot
    at k = onward (before_by k r) b r c (λ m. run before m r (moved c b))

    go : (k : Class) → class b ≡ k → PlainBy k → LineStep (next r (moved c b)) → LineStep (token_at (at k).rest (at k).here)
    go Feed e h ih = absurd h
    go Return e h ih = ih
    go Gap e h ih = ih
    go Upright e h ih = absurd h
    go Hash e h ih = rw e (inr (comment_line (moved c b) a, tt))
    go Quote e h ih = absurd h
    go Slash e h ih = absurd h
    go Other e h ih = rw e (inl (word_line (moved c b) a))

abbrev LineShut : List ℕ → Cursor → Reading → Type 0
LineShut xs c r = (d : Token) → ALine xs → Shut xs c (last_of d r.tokens)

shut_none : (xs : List ℕ) (c s : Cursor) → next xs c ≡ nothing s → LineShut xs c (record { tokens = []; stop = s })
shut_none xs c s q d a = absurd (rw q at (line_next_lem c a))

shut_one : (xs : List ℕ) (c : Cursor) (t : Token) (e : Spot) → next xs c ≡ token t e → Taken xs c t e
    → LineShut e.rest e.here (tokens 0 e.rest e.here) → LineShut xs c (put t (tokens 0 e.rest e.here))
shut_one xs c t e q k ih d a = go (rw q at (line_next_lem c a))
  where
    go : LineStep (token t e) → Shut xs c (last_of t (tokens 0 e.rest e.here).tokens)
    go (inl l) = shut_later k (ih t l)
    go (inr l) = rw l.0 (unfold tokens in record { closer = l.1; end = omega (arith, k.made.past, taken_place k, ap length l.0) })

pub line_shut : (xs : List ℕ) (c : Cursor) → LineShut xs c (tokens 0 xs c)
line_shut = by_tokens LineShut shut_none shut_one
