-- Damage stays in its line. For a text cut into a front that is closed (empty, or ending in a line feed that its last Newline or
-- Comment token holds), one line without quotation marks, backslash, LF, VT or FF and closed by a LF, and any rest: the tokens of the
-- whole are those of the three parts read by themselves, with equal kinds, texts and columns, and lines raised only by the line feeds before.
-- The third demand: a line in a text is read as if it stood alone, and so are what stands before and behind it.
-- What stands behind a closed text is read as if it stood alone, and this is used twice: behind the front, and behind the line.
use mathlib.Core.Path.{◌≡◌, refl, ap, ap₂, ◌∙◌}
use Prim.Native.Nat.{ℕ, ◌+◌}
use native.Mathlib.Nat.{add_assoc}
use native.Mathlib.Omega.{arith}
use mathlib.Core.List.{List, [], ◌∷◌, ◌++◌, append_assoc, map, map-map, map-append}
use lib.ListN.{length}
use Rattle.lexer.specs.Cursors.{Cursor, line, column, fresh}
use Rattle.lexer.specs.Tokens.{Newline, Token, Reading, tokens, reading}
use Rattle.lexer.specs.Places.{feeds}
use Rattle.lexer.specs.Parts.{raised, raised_reading, puts, line_in, rest_in, ALine, EndsLf, Closed, none, held, Replaced}
use Rattle.lexer.proofs.MoveLaws.{moves_fresh}
use Rattle.lexer.proofs.TokenLaws.{last_of, Shut, tokens_append, tokens_raise}
use Rattle.lexer.proofs.LineLaws.{line_ends, line_feeds, line_shut}

-- ---- a closed text

-- stands for the token before the first
abbrev pub before_all : Token
before_all = record { kind = Newline; line = line 0; column = column 0; first = 0; past = 0; text = [] }

last_append : (d : Token) (ts : List Token) (t : Token) → last_of d (ts ++ t ∷ []) ≡ t
last_append d [] t = refl
last_append d (u ∷ ts) t = last_append u ts t

-- the last token holds the line feed that ends the text
pub record ClosedAt (xs : List ℕ) : Type 0 where
  pub shut : Shut xs fresh (last_of before_all (reading xs).tokens)
  pub feed : EndsLf xs

pub closed_at : (xs : List ℕ) → Closed xs → ClosedAt xs
unfolding reading tokens fresh
closed_at xs (none e) = rw e (record { shut = record { closer = tt; end = refl }; feed = tt })
closed_at xs (held ts t r k p f) =
    let e : last_of before_all (reading xs).tokens ≡ t = ap (last_of before_all) r ∙ last_append before_all ts t in
    record { shut = rw e (record { closer = k; end = omega arith }); feed = f }

pub line_closed : (xs : List ℕ) → ALine xs → ClosedAt xs
unfolding reading
line_closed xs h = record { shut = line_shut xs fresh before_all h; feed = line_ends h }

-- what stands behind a closed text is read as if it stood alone
pub behind : (xs ys : List ℕ) → ClosedAt xs → reading (xs ++ ys) ≡ puts (reading xs).tokens (raised_reading (length xs) (feeds xs) (reading ys))
unfolding reading
behind xs ys h =
    tokens_append ys xs fresh before_all h.feed (unfold fresh in refl) h.shut
    ∙ ap (λ (a : Cursor). puts (tokens 0 xs fresh).tokens (tokens 0 ys a)) (moves_fresh xs h.feed)
    ∙ ap (puts (tokens 0 xs fresh).tokens) (tokens_raise (length xs) (feeds xs) ys fresh)

-- ---- the third demand

pub raised_twice : (d l d' l' : ℕ) (ts : List Token) → map (raised d l) (map (raised d' l') ts) ≡ map (raised (d + d') (l + l')) ts
raised_twice d l d' l' [] = refl
raised_twice d l d' l' (t ∷ ts) = ap₂ (λ (u : Token) (us : List Token). u ∷ us) (simp add_assoc) (raised_twice d l d' l' ts)

-- a closed front, a closed line with one line feed, and a rest
pub closed_apart : (front line rest : List ℕ) → ClosedAt front → ClosedAt line → feeds line ≡ 1
    → reading (front ++ line ++ rest) ≡ puts (reading front).tokens (puts (line_in front line) (rest_in front line rest))
closed_apart front line rest f h n =
    ap reading (append_assoc front line rest)
    ∙ behind front (line ++ rest) f
    ∙ ap (λ (r : Reading). puts (reading front).tokens (raised_reading (length front) (feeds front) r)) (behind line rest h)
    ∙ simp (map-append, raised_twice, add_assoc, n)

-- Behind a closed front a line, and behind the line the rest, are read as if each stood alone:
-- lines are raised by the line feeds before, spans by the bytes before, and reading stops where it does in the rest.
pub demand3 : (front line rest : List ℕ) → Closed front → ALine line
    → reading (front ++ line ++ rest) ≡ puts (reading front).tokens (puts (line_in front line) (rest_in front line rest))
demand3 front line rest f h = closed_apart front line rest (closed_at front f) (line_closed line h) (line_feeds h)

-- Another such line in its place changes no token outside it but byte spans.
pub replaced : (front line line' rest : List ℕ) → Closed front → ALine line → ALine line' → Replaced front line line' rest
replaced front line line' rest f h h' =
    record {
      old = ap (λ (r : Reading). r.tokens) (demand3 front line rest f h);
      new = ap (λ (r : Reading). r.tokens) (demand3 front line' rest f h');
      behind = simp map-map;
    }
