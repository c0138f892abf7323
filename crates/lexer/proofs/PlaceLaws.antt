-- Where the tokens of a whole text stand, and that their texts together are no longer than it.
-- Each token starts where the cursor has come past the bytes before it, so that the laws of `moves` give its line and column.
use mathlib.Core.Path.{◌≡◌, refl, ap, ◌∙◌}
use Prim.Native.Nat.{ℕ, ◌≤◌}
use native.Mathlib.Omega.{arith}
use mathlib.Core.List.{List}
use lib.ListN.{length, take}
use lib.Seq.{take_at}
use Rattle.lexer.specs.Cursors.{Cursor, line, column, fresh}
use Rattle.lexer.specs.Runs.{Spot}
use Rattle.lexer.specs.Tokens.{Token, tokens, reading}
use Rattle.lexer.specs.Places.{Placed, All, nil, cons, total}
use Rattle.lexer.proofs.MoveLaws.{moves_line, moves_column}
use Rattle.lexer.proofs.RunLaws.{passed_place, passed_length}
use Rattle.lexer.proofs.NextLaws.{Taken, taken_over, taken_place, taken_later}
use Rattle.lexer.proofs.TokenLaws.{by_tokens}

pub all_map : {P Q : Token → Type 0} {ts : List Token} → ((t : Token) → P t → Q t) → All P ts → All Q ts
all_map f nil = nil
all_map f (cons {t = t} p ps) = cons (f t p) (all_map f ps)

-- the token is one that reading from xs at c comes to
abbrev pub From : List ℕ → Cursor → Token → Type 0
From xs c t = (e : Spot) × Taken xs c t e

pub froms : (xs : List ℕ) (c : Cursor) → All (From xs c) (tokens 0 xs c).tokens
froms =
    by_tokens (λ xs c r. All (From xs c) r.tokens)
    (λ xs c s q. nil)
    (λ xs c t e q k ih. cons (e, k) (all_map (λ u f. (f.0, taken_later (taken_over k) f.1)) ih))

placed : (xs : List ℕ) (t : Token) → From xs fresh t → Placed xs t
unfolding fresh
placed xs t f =
    let e : Spot = f.0 in
    let k : Taken xs fresh t e = f.1 in
    let p : List ℕ = k.blanks.part in
    let front : take t.first xs ≡ p =
    ap (take t.first) k.blanks.list ∙ take_at p k.start.rest t.first (omega (arith, k.made.first, passed_place k.blanks)) in
    record {
      lined = rw front (k.made.line ∙ ap (λ (c : Cursor). c.line) k.blanks.cursor ∙ ap line (omega (arith, moves_line p fresh)));
      columned = rw front (k.made.column ∙ ap (λ (c : Cursor). c.column) k.blanks.cursor ∙ ap column (moves_column p fresh 0 refl));
      some = omega (arith, k.made.first, k.made.past, k.made.some, passed_place k.made.over);
      inside = omega (arith, k.made.past, taken_place k);
      short = omega (arith, k.made.first, k.made.past, k.made.short, passed_place k.made.over, passed_length k.made.over);
    }

-- a token's line, column and span
pub places : (xs : List ℕ) → All (Placed xs) (reading xs).tokens
unfolding reading
places xs = all_map (placed xs) (froms xs fresh)

-- the texts of all tokens together, from any cursor
pub tokens_fit : (xs : List ℕ) (c : Cursor) → total (tokens 0 xs c).tokens ≤ length xs
unfolding total
tokens_fit =
    by_tokens (λ xs c r. total r.tokens ≤ length xs)
    (λ xs c s q. omega arith)
    (λ xs c t e q k ih. omega (arith, k.made.short, passed_length k.blanks))

pub texts_fit_lem : (xs : List ℕ) → total (reading xs).tokens ≤ length xs
unfolding reading
texts_fit_lem xs = tokens_fit xs fresh
