-- An idle line is read to one token, a Newline or a Comment, which holds its line feed: so it is closed, whatever its comment says.
use mathlib.Core.Path.{◌≡◌, refl, sym, ap, ◌∙◌, subst}
use Prim.Native.Nat.{ℕ}
use native.Mathlib.Omega.{arith}
use mathlib.Core.Bool.{Bool, true, false}
use mathlib.Core.List.{List, [], ◌∷◌}
use lib.ListN.{length}
use lib.Dec.{eqb}
use borrow.Author.Tests.{eqb-true}
use Rattle.ascii.specs.Choice.{or}
use Rattle.lexer.specs.declared.Cursor.{Cursor}
use Rattle.lexer.specs.Bytes.{class}
use Rattle.lexer.specs.Cursors.{fresh, moved}
use Rattle.lexer.specs.Runs.{takes, Spot, run}
use Rattle.lexer.specs.Rules.{before, before_by, comment}
use Rattle.lexer.specs.Tokens.{Token, Step, nothing, token, token_by, token_at, next, Reading, tokens, reading}
use Rattle.lexer.specs.Places.{feeds}
use Rattle.lexer.specs.Parts.{among, EndsLf, Closer, Closed, held}
use Rattle.lexer.proofs.RunLaws.{run_by}
use Rattle.lexer.proofs.NextLaws.{Of, Taken, next_taken, taken_place}
use Rattle.lexer.proofs.TokenLaws.{follow, tokens_step}
use Rattle.directives.specs.Parts.{Remark, close, more, Idle, feed, hash, blank}

-- ---- a blank

-- what holds of the three blanks holds of each
by_blank : (P : ℕ → Type 0) (b : ℕ) → P 32 → P 9 → P 13 → among b (32 ∷ 9 ∷ 13 ∷ []) ≡ true → P b
by_blank P b x y z h = first (eqb b 32) refl h
  where
    third : (t : Bool) → eqb b 13 ≡ t → or t false ≡ true → P b
    third true e h = subst P (sym (eqb-true b 13 e)) z
    third false e h = let z : ◌≡◌ {A = ℕ} 0 1 = cc in absurd (omega arith)

    second : (t : Bool) → eqb b 9 ≡ t → or t (or (eqb b 13) false) ≡ true → P b
    second true e h = subst P (sym (eqb-true b 9 e)) y
    second false e h = third (eqb b 13) refl h

    first : (t : Bool) → eqb b 32 ≡ t → or t (or (eqb b 9) (or (eqb b 13) false)) ≡ true → P b
    first true e h = subst P (sym (eqb-true b 32 e)) x
    first false e h = second (eqb b 9) refl h

-- it is passed over before a token
blank_next : (b : ℕ) (r : List ℕ) (c : Cursor) → among b (32 ∷ 9 ∷ 13 ∷ []) ≡ true → next (b ∷ r) c ≡ next r (moved c b)
unfolding next before before_by class
blank_next b r c h =
    ap (λ (s : Spot). token_at s.rest s.here) (run_by before 0 b r (takes [] 0) (by_blank (λ b. before 0 b r ≡ takes [] 0) b refl refl refl h) c)

blank_flat : (b : ℕ) → among b (32 ∷ 9 ∷ 13 ∷ []) ≡ true → eqb b 10 ≡ false
blank_flat b h = by_blank (λ b. eqb b 10 ≡ false) b refl refl refl h

-- ---- a line

remark_ends : {xs : List ℕ} → Remark xs → EndsLf xs
remark_ends close = refl
remark_ends (more p close) = refl
remark_ends (more p (more q r)) = remark_ends (more q r)

remark_feeds : {xs : List ℕ} → Remark xs → feeds xs ≡ 1
unfolding feeds
remark_feeds close = refl
remark_feeds (more p r) = rw p (omega (arith, remark_feeds r))

remark_over : {xs : List ℕ} (c : Cursor) → Remark xs → (run comment 0 xs c).rest ≡ []
unfolding run comment
remark_over c close = refl
remark_over c (more {b = b} p r) = rw p (remark_over (moved c b) r)

pub idle_ends : {xs : List ℕ} → Idle xs → EndsLf xs
idle_ends feed = refl
idle_ends (hash close) = refl
idle_ends (hash (more p r)) = remark_ends (more p r)
idle_ends (blank p feed) = refl
idle_ends (blank p (hash r)) = idle_ends (hash r)
idle_ends (blank p (blank q i)) = idle_ends (blank q i)

pub idle_feeds : {xs : List ℕ} → Idle xs → feeds xs ≡ 1
unfolding feeds
idle_feeds feed = refl
idle_feeds (hash r) = omega (arith, remark_feeds r)
idle_feeds (blank {b = b} p i) = rw (blank_flat b p) (omega (arith, idle_feeds i))

-- ---- its token

abbrev IdleStep : Step → Type 0
IdleStep (nothing s) = ⊥
IdleStep (token t e) = (e.rest ≡ []) × Closer t.kind

idle_next_lem : {xs : List ℕ} (c : Cursor) → Idle xs → IdleStep (next xs c)
unfolding next run before before_by token_at token_by
idle_next_lem c feed = unfold class in (refl, tt)
idle_next_lem c (hash r) = unfold class in (remark_over (moved c 35) r, tt)
idle_next_lem c (blank {b = b} {r = r} p i) = subst IdleStep (sym (blank_next b r c p)) (idle_next_lem (moved c b) i)

-- A text that is read to one token, which takes its line feed.
pub record Single (xs : List ℕ) : Type 0 where
  pub this : Token
  pub only : (reading xs).tokens ≡ this ∷ []
  pub closer : Closer this.kind
  pub end : this.past ≡ length xs

pub idle_single : (xs : List ℕ) → Idle xs → Single xs
unfolding reading fresh
idle_single xs i = go (next xs fresh) (tokens_step xs fresh) (next_taken xs fresh) (idle_next_lem fresh i)
  where
    go : (x : Step) → tokens 0 xs fresh ≡ follow x → Of (Taken xs fresh) x → IdleStep x → Single xs
    go (nothing s) q k h = absurd h
    go (token t e) q k h = record {
      this = t;
      only = ap (λ (r : Reading). r.tokens) q ∙ ap (λ (l : List ℕ). t ∷ (tokens 0 l e.here).tokens) h.0 ∙ (unfold tokens in refl);
      closer = h.1;
      end = omega (arith, k.made.past, taken_place k, ap length h.0);
    }

pub idle_closed : (xs : List ℕ) → Idle xs → Closed xs
idle_closed xs i = let s = idle_single xs i in held [] s.this s.only s.closer s.end (idle_ends i)
