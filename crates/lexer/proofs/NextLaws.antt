-- One step: what its token takes, how it moves with its cursor, and that it does not change with the bytes behind its line.
-- Each is proved by the class of the token's first byte, from the laws of runs, and then past the blanks before it.
use mathlib.Core.Path.{◌≡◌, refl, sym, ap, ◌∙◌, subst}
use mathlib.Core.Logic.{inl, inr}
use Prim.Native.Nat.{ℕ, suc, ◌+◌, ◌≤◌, ◌<◌}
use native.Mathlib.Omega.{arith}
use mathlib.Core.Bool.{Bool}
use mathlib.Core.List.{List, [], ◌∷◌, ◌++◌}
use lib.ListN.{length, take, drop, take-append-drop}
use lib.Seq.{length-take-le}
use Rattle.ascii.specs.Choice.{and}
use Rattle.lexer.specs.Bytes.{Class, Feed, Return, Gap, Upright, Hash, Quote, Slash, Other, class}
use Rattle.lexer.specs.Cursors.{Cursor, moved, moves}
use Rattle.lexer.specs.Runs.{Spot, run, text}
use Rattle.lexer.specs.Rules.{before, word, comment, quoted, plain}
use Rattle.lexer.specs.Tokens.{Kind, QuotedString, Comment, Newline, Token, Step, nothing, token, directive, word_kind, made, token_by, token_at, next}
use Rattle.lexer.specs.Parts.{EndsLf, raise, raised, Closer}
use Rattle.lexer.proofs.TestLaws.{either}
use Rattle.lexer.proofs.MoveLaws.{moved_raise}
use Rattle.lexer.proofs.RunLaws.{Passed, passed_none, passed_trans, passed_place, passed_length, passed_drop, raise_spot, widen, run_passed, run_raise, run_append, ends_lf_tail, ends_lf_suffix}
use Rattle.lexer.proofs.LengthLaws.{word_length, quoted_length}
use Rattle.lexer.proofs.NearLaws.{before_near, word_near, quoted_near, comment_append}

-- ---- what a step takes

-- the token starts at c, where xs is still to be read, and ends at e
pub record Made (xs : List ℕ) (c : Cursor) (t : Token) (e : Spot) : Type 0 where
  pub over : Passed xs c e
  pub some : 0 < length over.part
  pub first : t.first ≡ c.place
  pub line : t.line ≡ c.line
  pub column : t.column ≡ c.column
  pub past : t.past ≡ e.here.place
  pub short : length t.text + length e.rest ≤ length xs

-- the same, behind the bytes that are passed over before it
pub record Taken (xs : List ℕ) (c : Cursor) (t : Token) (e : Spot) : Type 0 where
  pub start : Spot
  pub blanks : Passed xs c start
  pub made : Made start.rest start.here t e

-- of an answer, if it is a token
abbrev pub Of : (Token → Spot → Type 0) → Step → Type 0
Of P (nothing s) = Unit {0}
Of P (token t e) = P t e

-- the first byte, and what a run passes over behind it
one_more : (k : Kind) (w : List ℕ) (b : ℕ) {r : List ℕ} {c : Cursor} {e : Spot} → Passed r (moved c b) e → length w + length e.rest ≤ suc (length r)
    → Of (Made (b ∷ r) c) (made k w c e)
unfolding moves
one_more k w b p h =
    record {
      over = record { part = b ∷ p.part; list = ap (λ (l : List ℕ). b ∷ l) p.list; cursor = p.cursor };
      some = omega arith;
      first = refl;
      line = refl;
      column = refl;
      past = refl;
      short = h;
    }

token_by_made : (k : Class) (b : ℕ) (r : List ℕ) (c : Cursor) → Of (Made (b ∷ r) c) (token_by k b r c)
unfolding token_by
token_by_made Feed b r c = one_more Newline [] b (passed_none r (moved c b)) (omega arith)
token_by_made Return b r c = tt
token_by_made Gap b r c = tt
token_by_made Upright b r c = tt
token_by_made Hash b r c =
    one_more Comment [] b (run_passed comment 0 r (moved c b)) (omega (arith, passed_length (run_passed comment 0 r (moved c b))))
token_by_made Quote b r c =
    one_more QuotedString (text (quoted b) plain r) b (run_passed (quoted b) plain r (moved c b)) (omega (arith, quoted_length b plain r (moved c b)))
token_by_made Slash b r c = tt
token_by_made Other b r c =
    one_more (word_kind c.mark (b ∷ text word 0 r)) (b ∷ text word 0 r) b (run_passed word 0 r (moved c b)) (omega (arith, word_length 0 r (moved c b)))

token_at_made : (xs : List ℕ) (c : Cursor) → Of (Made xs c) (token_at xs c)
unfolding token_at
token_at_made [] c = tt
token_at_made (b ∷ r) c = token_by_made (class b) b r c

pub next_taken : (xs : List ℕ) (c : Cursor) → Of (Taken xs c) (next xs c)
unfolding next
next_taken xs c = go (token_at s.rest s.here) (token_at_made s.rest s.here)
  where
    s : Spot
    s = run before 0 xs c

    go : (x : Step) → Of (Made s.rest s.here) x → Of (Taken xs c) x
    go (nothing _) h = tt
    go (token t e) h = record { start = s; blanks = run_passed before 0 xs c; made = h }

module _ {xs : List ℕ} {c : Cursor} {t : Token} {e : Spot} (k : Taken xs c t e) where
  -- from c to the token's end
  pub taken_over : Passed xs c e
  taken_over = passed_trans k.blanks k.made.over

  -- places and lengths go together
  pub taken_place : e.here.place + length e.rest ≡ c.place + length xs
  taken_place = omega (arith, passed_place taken_over, passed_length taken_over)

  -- what is left is shorter
  pub shorter : length e.rest < length xs
  shorter = omega (arith, passed_length k.blanks, passed_length k.made.over, k.made.some)

-- a token of what is left is a token of the whole
pub taken_later : {xs : List ℕ} {c : Cursor} {s : Spot} {t : Token} {e : Spot} → Passed xs c s → Taken s.rest s.here t e → Taken xs c t e
taken_later p k = record { start = k.start; blanks = passed_trans p k.blanks; made = k.made }

-- in a whole text, what is left to be read is what stands from the next cursor's place on
pub next_drop : (s : List ℕ) (c : Cursor) (t : Token) (e : Spot) → c.place ≤ length s → next (drop c.place s) c ≡ token t e → e.rest ≡ drop e.here.place s
next_drop s c t e h q =
    sym (passed_drop (take c.place s) (length-take-le c.place s h) (taken_over (subst (Of (Taken (drop c.place s) c)) q (next_taken (drop c.place s) c))))
    ∙ ap (drop e.here.place) (take-append-drop c.place s)

-- ---- a step from a cursor further on

abbrev pub raise_step : ℕ → ℕ → Step → Step
raise_step d l (nothing s) = nothing (raise d l s)
raise_step d l (token t e) = token (raised d l t) (raise_spot d l e)

module _ (d l : ℕ) where
  token_by_raise : (k : Class) (b : ℕ) (r : List ℕ) (c : Cursor) → token_by k b r (raise d l c) ≡ raise_step d l (token_by k b r c)
  unfolding token_by
  token_by_raise Feed b r c = rw moved_raise
  token_by_raise Return b r c = refl
  token_by_raise Gap b r c = refl
  token_by_raise Upright b r c = refl
  token_by_raise Hash b r c = rw (moved_raise, run_raise)
  token_by_raise Quote b r c = rw (moved_raise, run_raise)
  token_by_raise Slash b r c = refl
  token_by_raise Other b r c = rw (moved_raise, run_raise)

  token_at_raise : (xs : List ℕ) (c : Cursor) → token_at xs (raise d l c) ≡ raise_step d l (token_at xs c)
  unfolding token_at
  token_at_raise [] c = refl
  token_at_raise (b ∷ r) c = token_by_raise (class b) b r c

  pub next_raise : (xs : List ℕ) (c : Cursor) → next xs (raise d l c) ≡ raise_step d l (next xs c)
  unfolding next
  next_raise xs c = rw run_raise (token_at_raise (run before 0 xs c).rest (run before 0 xs c).here)

-- ---- a step with more bytes behind

abbrev pub widen_step : List ℕ → Step → Step
widen_step ys (nothing s) = nothing s
widen_step ys (token t e) = token t (widen ys e)

-- there is a token, and one that takes all is a Newline or a Comment
abbrev pub Stands : Step → Type 0
Stands (nothing s) = ⊥
Stands (token t e) = e.rest ≡ [] → Closer t.kind

word_open : (m : Bool) (w : List ℕ) → Closer (word_kind m w) → ⊥
unfolding word_kind
word_open m w = either (λ (k : Kind). Closer k → ⊥) (and m (directive w)) (λ e h. h) (λ e h. h)

module _ (ys : List ℕ) where
  token_by_append : (b : ℕ) (r : List ℕ) (c : Cursor) → EndsLf (b ∷ r) → (k : Class) → class b ≡ k → Stands (token_by k b r c)
      → token_by k b (r ++ ys) c ≡ widen_step ys (token_by k b r c)
  unfolding token_by
  token_by_append b r c h Feed e s = refl
  token_by_append b r c h Return e s = absurd s
  token_by_append b r c h Gap e s = absurd s
  token_by_append b r c h Upright e s = absurd s
  token_by_append b r c h Hash e s = rw (comment_append b r ys (moved c b) h e)
  token_by_append b r c h Quote e s =
      elim (run_append (quoted b) (quoted_near b) ys plain r (moved c b) (ends_lf_tail b r h))
      [ inl j ↦ rw (j.spots, j.texts) | inr j ↦ absurd (s j) ]
  token_by_append b r c h Slash e s = absurd s
  token_by_append b r c h Other e s =
      elim (run_append word word_near ys 0 r (moved c b) (ends_lf_tail b r h))
      [ inl j ↦ rw (j.spots, j.texts) | inr j ↦ absurd (word_open _ _ (s j)) ]

  token_at_append : (xs : List ℕ) (c : Cursor) → EndsLf xs → Stands (token_at xs c) → token_at (xs ++ ys) c ≡ widen_step ys (token_at xs c)
  unfolding token_at
  token_at_append [] c h s = absurd s
  token_at_append (b ∷ r) c h s = token_by_append b r c h (class b) refl s

  pub next_append : (xs : List ℕ) (c : Cursor) → EndsLf xs → Stands (next xs c) → next (xs ++ ys) c ≡ widen_step ys (next xs c)
  unfolding next token_at
  next_append xs c h s =
      elim (run_append before before_near ys 0 xs c h) [
        | inl j ↦ rw j.spots (token_at_append (run before 0 xs c).rest (run before 0 xs c).here
            (ends_lf_suffix (run_passed before 0 xs c).part _ (subst EndsLf (run_passed before 0 xs c).list h)) s)
        | inr j ↦ absurd (rw j at s)
      ]
