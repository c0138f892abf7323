-- Where reading stops: at the text's end, or at a vertical tab or a form feed.
-- Before a token nothing is left that could be passed over, and every other byte starts a token.
use mathlib.Core.Path.{◌≡◌, refl, sym, ap, ◌∙◌, subst}
use mathlib.Core.Logic.{inl, inr}
use Prim.Native.Nat.{ℕ, zero, suc}
use native.Mathlib.Omega.{arith}
use mathlib.Core.Bool.{true}
use mathlib.Core.List.{List, [], ◌∷◌}
use lib.ListN.{length, take, drop}
use lib.Seq.{take_at, drop_at}
use lib.Dec.{eqb}
use Rattle.ascii.specs.Choice.{or}
use Rattle.lexer.specs.Bytes.{Class, Feed, Return, Gap, Upright, Hash, Quote, Slash, Other, class}
use Rattle.lexer.specs.Cursors.{Cursor, fresh, moved, moves}
use Rattle.lexer.specs.Runs.{Spot, spot, onward, run}
use Rattle.lexer.specs.Rules.{line_end, before, before_by}
use Rattle.lexer.specs.Tokens.{Step, nothing, token, token_by, token_at, next, tokens, reading}
use Rattle.lexer.specs.Places.{feeds, since, Halts, Stopped}
use Rattle.lexer.proofs.MoveLaws.{moves_line, moves_column}
use Rattle.lexer.proofs.RunLaws.{Passed, passed_trans, passed_place, passed_length, run_passed}
use Rattle.lexer.proofs.NextLaws.{taken_over}
use Rattle.lexer.proofs.TokenLaws.{by_tokens}
use Rattle.lexer.proofs.ClassLaws.{Means, told}

-- ---- what stands behind the blanks

-- it is none of those that are passed over
abbrev StartBy : Class → Type 0
StartBy Feed = Unit {0}
StartBy Return = ⊥
StartBy Gap = ⊥
StartBy Upright = Unit {0}
StartBy Hash = Unit {0}
StartBy Quote = Unit {0}
StartBy Slash = ⊥
StartBy Other = Unit {0}

abbrev Start : List ℕ → Type 0
Start [] = Unit {0}
Start (b ∷ r) = StartBy (class b)

before_start : (k : ℕ) (xs : List ℕ) (c : Cursor) → Start (run before k xs c).rest
unfolding run before before_by
before_start zero [] c = tt
before_start (suc k) [] c = tt
before_start (suc k) (b ∷ r) c = before_start k r (moved c b)
before_start zero (b ∷ r) c = go (class b) refl (λ k. before_start k r (moved c b))
  where
    go : (k : Class) → class b ≡ k → ((k : ℕ) → Start (run before k r (moved c b)).rest) → Start (onward (before_by k r) b r c (λ m. run before m r (moved c b))).rest
    go Feed e ih = rw e tt
    go Return e ih = ih 0
    go Gap e ih = ih 0
    go Upright e ih = rw e tt
    go Hash e ih = rw e tt
    go Quote e ih = rw e tt
    go Slash e ih = ih (line_end r)
    go Other e ih = rw e tt

-- ---- no token

-- the only class at which no token starts
halt_byte : (b : ℕ) → Means Upright b → or (eqb b 11) (eqb b 12) ≡ true
halt_byte b (inl e) = rw e
halt_byte b (inr e) = rw e

abbrev Ends : List ℕ → Cursor → Step → Type 0
Ends xs c (nothing s) = (s ≡ c) × Halts xs
Ends xs c (token t e) = Unit {0}

token_at_ends : (xs : List ℕ) (c : Cursor) → Start xs → Ends xs c (token_at xs c)
unfolding token_at token_by
token_at_ends [] c h = (refl, tt)
token_at_ends (b ∷ r) c h = go (class b) refl h
  where
    go : (k : Class) → class b ≡ k → StartBy k → Ends (b ∷ r) c (token_by k b r c)
    go Feed e h = tt
    go Return e h = absurd h
    go Gap e h = absurd h
    go Upright e h = (refl, halt_byte b (told b Upright e))
    go Hash e h = tt
    go Quote e h = tt
    go Slash e h = absurd h
    go Other e h = tt

-- reading came from xs at c to a stop
record Halted (xs : List ℕ) (c s : Cursor) : Type 0 where
  rest : List ℕ
  over : Passed xs c (spot s rest)
  there : Halts rest

next_halted : (xs : List ℕ) (c s : Cursor) → next xs c ≡ nothing s → Halted xs c s
unfolding next
next_halted xs c s q =
    let p : Spot = run before 0 xs c in
    let e : (s ≡ p.here) × Halts p.rest = subst (Ends p.rest p.here) q (token_at_ends p.rest p.here (before_start 0 xs c)) in
    rw e.0 (record { rest = p.rest; over = run_passed before 0 xs c; there = e.1 })

halted : (xs : List ℕ) (c : Cursor) → Halted xs c (tokens 0 xs c).stop
halted =
    by_tokens (λ xs c r. Halted xs c r.stop) next_halted
    (λ xs c t e q k ih. record { rest = ih.rest; over = passed_trans (taken_over k) ih.over; there = ih.there })

-- ---- a whole text

pub stops : (xs : List ℕ) → Stopped xs (reading xs).stop
unfolding reading fresh
stops xs =
    let s : Cursor = (tokens 0 xs fresh).stop in
    let h : Halted xs fresh s = halted xs fresh in
    let p : List ℕ = h.over.part in
    let n : length p ≡ s.place = omega (arith, passed_place h.over) in
    record {
      inside = omega (arith, passed_length h.over);
      cursor = h.over.cursor ∙ ap (λ (l : List ℕ). moves l fresh) (sym (ap (take s.place) h.over.list ∙ take_at p h.rest s.place n));
      there = subst Halts (sym (ap (drop s.place) h.over.list ∙ drop_at p h.rest s.place n)) h.there;
    }

-- its line and column, as a token's
pub stop_line : (xs : List ℕ) → (reading xs).stop.line.0 ≡ suc (feeds (take (reading xs).stop.place xs))
unfolding fresh
stop_line xs = omega (arith, ap (λ (c : Cursor). c.line.0) (stops xs).cursor, moves_line (take (reading xs).stop.place xs) fresh)

pub stop_column : (xs : List ℕ) → (reading xs).stop.column.0 ≡ suc (since 0 (take (reading xs).stop.place xs))
unfolding fresh
stop_column xs = ap (λ (c : Cursor). c.column.0) (stops xs).cursor ∙ moves_column (take (reading xs).stop.place xs) fresh 0 refl
