-- A whole text, token by token. `tokens_step` hides what `tokens` owes, and `by_tokens` is the induction over a text's tokens;
-- by it, reading moves with its cursor, and a text that a Newline or a Comment closes is read the same whatever stands behind it.
use mathlib.Core.Path.{◌≡◌, refl, sym, ap, ◌∙◌, subst}
use Prim.Native.Nat.{ℕ, zero, suc, ◌+◌, ◌-◌, ◌≤◌, ◌<◌}
use native.Mathlib.Nat.{le_refl}
use native.Mathlib.Omega.{arith}
use mathlib.Core.List.{List, [], ◌∷◌, ◌++◌, tail}
use lib.ListN.{length, drop}
use lib.Seq.{drop_at}
use Rattle.lexer.specs.Cursors.{Cursor, moves}
use Rattle.lexer.specs.Runs.{Spot, run}
use Rattle.lexer.specs.Tokens.{Token, Step, nothing, token, token_at, next, Reading, put, after, tokens}
use Rattle.lexer.specs.Parts.{EndsLf, raise, raised, raised_reading, puts, Closer}
use Rattle.lexer.proofs.RunLaws.{Passed, passed_place, passed_length, passed_moves, ends_lf_suffix}
use Rattle.lexer.proofs.NextLaws.{Of, Taken, next_taken, taken_over, taken_place, shorter, raise_step, next_raise, widen_step, Stands, next_append}

-- ---- the equation of `tokens`, with nothing owed

tokens_owed : (k : ℕ) (xs : List ℕ) (c : Cursor) → tokens k xs c ≡ tokens 0 (drop k xs) c
unfolding tokens
tokens_owed zero xs c = refl
tokens_owed (suc k) [] c = refl
tokens_owed (suc k) (b ∷ r) c = tokens_owed k r c

-- a step, and the tokens of what it leaves
abbrev pub follow : Step → Reading
follow (nothing s) = record { tokens = []; stop = s }
follow (token t e) = put t (tokens 0 e.rest e.here)

left : (b : ℕ) (r p q : List ℕ) (n : ℕ) → b ∷ r ≡ p ++ q → length p ≡ suc n → drop n r ≡ q
left b r [] q n h e = absurd (omega arith)
left b r (a ∷ p) q n h e = ap (λ (l : List ℕ). drop n (tail l)) h ∙ drop_at p q n (omega arith)

pub tokens_step : (xs : List ℕ) (c : Cursor) → tokens 0 xs c ≡ follow (next xs c)
unfolding tokens
tokens_step [] c = unfold next run token_at in refl
tokens_step (b ∷ r) c = go (next (b ∷ r) c) (next_taken (b ∷ r) c)
  where
    go : (x : Step) → Of (Taken (b ∷ r) c) x → after x c (λ k e. tokens k r e) ≡ follow x
    go (nothing s) k = refl
    go (token t e) k =
        let p : Passed (b ∷ r) c e = taken_over k in
        ap (put t)
        (tokens_owed (e.here.place - suc c.place) r e.here
        ∙ ap (λ (l : List ℕ). tokens 0 l e.here)
        (left b r p.part e.rest (e.here.place - suc c.place) p.list (omega (arith, passed_place p, passed_length p, shorter k))))

-- ---- the induction over a text's tokens

module _ (P : List ℕ → Cursor → Reading → Type 0)
    (none : (xs : List ℕ) (c s : Cursor) → next xs c ≡ nothing s → P xs c (record { tokens = []; stop = s }))
    (one : (xs : List ℕ) (c : Cursor) (t : Token) (e : Spot) → next xs c ≡ token t e → Taken xs c t e
    → P e.rest e.here (tokens 0 e.rest e.here) → P xs c (put t (tokens 0 e.rest e.here))) where
  turn : (xs : List ℕ) (c : Cursor) → ((ys : List ℕ) (d : Cursor) → length ys < length xs → P ys d (tokens 0 ys d)) → P xs c (tokens 0 xs c)
  turn xs c ih = rw tokens_step (go (next xs c) refl (next_taken xs c))
    where
      go : (x : Step) → next xs c ≡ x → Of (Taken xs c) x → P xs c (follow x)
      go (nothing s) q k = none xs c s q
      go (token t e) q k = one xs c t e q k (ih e.rest e.here (shorter k))

  within : (n : ℕ) (xs : List ℕ) (c : Cursor) → length xs ≤ n → P xs c (tokens 0 xs c)
  within zero xs c h = turn xs c (λ ys d l. absurd (omega arith))
  within (suc n) xs c h = turn xs c (λ ys d l. within n ys d (omega arith))

  pub by_tokens : (xs : List ℕ) (c : Cursor) → P xs c (tokens 0 xs c)
  by_tokens xs c = within (length xs) xs c (le_refl (length xs))

-- ---- from a cursor further on

pub tokens_raise : (d l : ℕ) (xs : List ℕ) (c : Cursor) → tokens 0 xs (raise d l c) ≡ raised_reading d l (tokens 0 xs c)
tokens_raise d l =
    by_tokens (λ xs c r. tokens 0 xs (raise d l c) ≡ raised_reading d l r)
    (λ xs c s q. step xs c (nothing s) q)
    (λ xs c t e q k ih. step xs c (token t e) q ∙ ap (put (raised d l t)) ih)
  where
    step : (xs : List ℕ) (c : Cursor) (x : Step) → next xs c ≡ x → tokens 0 xs (raise d l c) ≡ follow (raise_step d l x)
    step xs c x q = tokens_step xs (raise d l c) ∙ ap follow (next_raise d l xs c ∙ ap (raise_step d l) q)

-- ---- with more bytes behind

-- the last of the tokens, or t
abbrev pub last_of : Token → List Token → Token
last_of t [] = t
last_of t (u ∷ ts) = last_of u ts

-- the token closes a text that is read from c
pub record Shut (xs : List ℕ) (c : Cursor) (t : Token) : Type 0 where
  pub closer : Closer t.kind
  pub end : t.past ≡ c.place + length xs

pub shut_later : {xs : List ℕ} {c : Cursor} {t : Token} {e : Spot} {u : Token} → Taken xs c t e → Shut e.rest e.here u → Shut xs c u
shut_later k s = record { closer = s.closer; end = omega (arith, s.end, taken_place k) }

-- `d` stands for the token before
abbrev Joins : List ℕ → List ℕ → Cursor → Reading → Type 0
Joins ys xs c r = (d : Token) → EndsLf xs → d.past ≡ c.place → Shut xs c (last_of d r.tokens)
    → tokens 0 (xs ++ ys) c ≡ puts r.tokens (tokens 0 ys (moves xs c))

module _ (ys : List ℕ) where
  joins_none : (xs : List ℕ) (c s : Cursor) → next xs c ≡ nothing s → Joins ys xs c (record { tokens = []; stop = s })
  joins_none [] c s q d f p h = unfold moves in refl
  joins_none (b ∷ r) c s q d f p h = absurd (omega (arith, h.end))

  joins_one : (xs : List ℕ) (c : Cursor) (t : Token) (e : Spot) → next xs c ≡ token t e → Taken xs c t e
      → Joins ys e.rest e.here (tokens 0 e.rest e.here) → Joins ys xs c (put t (tokens 0 e.rest e.here))
  joins_one xs c t e q k ih d f p h =
      tokens_step (xs ++ ys) c
      ∙ ap follow (next_append ys xs c f (subst Stands (sym q) stands) ∙ ap (widen_step ys) q)
      ∙ ap (put t) (ih t (ends_lf_suffix (taken_over k).part e.rest (subst EndsLf (taken_over k).list f)) k.made.past
      (record { closer = h.closer; end = omega (arith, h.end, taken_place k) })
      ∙ ap (λ (a : Cursor). puts (tokens 0 e.rest e.here).tokens (tokens 0 ys a)) (passed_moves (taken_over k)))
    where
      stands : Stands (token t e)
      stands z = unfold tokens in subst (λ (l : List ℕ). Closer (last_of t (tokens 0 l e.here).tokens).kind) z h.closer

  pub tokens_append : (xs : List ℕ) (c : Cursor) → Joins ys xs c (tokens 0 xs c)
  tokens_append = by_tokens (Joins ys) joins_none joins_one
