-- The four tables look no further than the line's end: in a text that ends in a line feed, a byte does the same whatever follows.
-- Only a backslash looks ahead, and it is not the last byte there.
use mathlib.Core.Path.{◌≡◌, refl, ap}
use Prim.Native.Nat.{ℕ, zero, suc}
use native.Mathlib.Omega.{arith}
use mathlib.Core.Bool.{Bool, true, false}
use mathlib.Core.List.{List, [], ◌∷◌, ◌++◌}
use lib.Dec.{eqb}
use Rattle.ascii.specs.Choice.{pick}
use Rattle.lexer.specs.Bytes.{Class, Feed, Return, Gap, Upright, Hash, Quote, Slash, Other, class}
use Rattle.lexer.specs.Cursors.{Cursor, moved}
use Rattle.lexer.specs.Runs.{closes, takes, onward, run}
use Rattle.lexer.specs.Rules.{feed_next, line_end, before, before_by, word, word_by, comment, Mode, plain, escaped, after_cr, margin, quoted}
use Rattle.lexer.specs.Parts.{EndsLf}
use Rattle.lexer.proofs.RunLaws.{widen}

-- a line feed is of no other class
feed_class : (b : ℕ) (k : Class) → b ≡ 10 → class b ≡ k → Feed ≡ k
unfolding class
feed_class b k h e = cc (ap class h)

line_end_near : (b : ℕ) (r ys : List ℕ) → EndsLf (b ∷ r) → class b ≡ Slash → line_end (r ++ ys) ≡ line_end r
unfolding line_end feed_next
line_end_near b [] ys h e = let z : ◌≡◌ {A = ℕ} 0 1 = cc (feed_class b Slash h e) in absurd (omega arith)
line_end_near b (d ∷ []) ys h e = rw h
line_end_near b (d ∷ f ∷ r) ys h e = refl

-- the two tables that go by the byte's class
class_near : (b : ℕ) (r ys : List ℕ) → EndsLf (b ∷ r) → (k : Class) → class b ≡ k → (before_by k (r ++ ys) ≡ before_by k r) × (word_by k b (r ++ ys) ≡ word_by k b r)
unfolding before_by word_by
class_near b r ys h Feed e = (refl, refl)
class_near b r ys h Return e = (refl, refl)
class_near b r ys h Gap e = (refl, refl)
class_near b r ys h Upright e = (refl, refl)
class_near b r ys h Hash e = (refl, refl)
class_near b r ys h Quote e = (refl, refl)
class_near b r ys h Slash e = rw (line_end_near b r ys h e) (refl, refl)
class_near b r ys h Other e = (refl, refl)

pub before_near : (k b : ℕ) (r ys : List ℕ) → EndsLf (b ∷ r) → before k b (r ++ ys) ≡ before k b r
unfolding before
before_near (suc k) b r ys h = refl
before_near zero b r ys h = (class_near b r ys h (class b) refl).0

pub word_near : (k b : ℕ) (r ys : List ℕ) → EndsLf (b ∷ r) → word k b (r ++ ys) ≡ word k b r
unfolding word
word_near (suc k) b r ys h = refl
word_near zero b r ys h = (class_near b r ys h (class b) refl).1

pub quoted_near : (q : ℕ) (m : Mode) (b : ℕ) (r ys : List ℕ) → EndsLf (b ∷ r) → quoted q m b (r ++ ys) ≡ quoted q m b r
unfolding quoted
quoted_near q plain b r ys h = refl
quoted_near q escaped b r ys h = refl
quoted_near q after_cr b r ys h = refl
quoted_near q margin b r ys h = refl

-- a comment in a text that ends in a line feed ends by one
comment_ends : (k b : ℕ) (r ys : List ℕ) (c : Cursor) → EndsLf (b ∷ r) → run comment k (b ∷ r ++ ys) c ≡ widen ys (run comment k (b ∷ r) c)
unfolding run comment
comment_ends k b [] ys c h = rw h
comment_ends k b (d ∷ r) ys c h = go (eqb b 10) (comment_ends 0 d r ys (moved c b) h)
  where
    go : (x : Bool) → run comment 0 (d ∷ r ++ ys) (moved c b) ≡ widen ys (run comment 0 (d ∷ r) (moved c b))
        → onward (pick x closes (takes [] 0)) b (d ∷ r ++ ys) c (λ m. run comment m (d ∷ r ++ ys) (moved c b))
        ≡ widen ys (onward (pick x closes (takes [] 0)) b (d ∷ r) c (λ m. run comment m (d ∷ r) (moved c b)))
    go true ih = refl
    go false ih = ih

-- so does one behind its mark
pub comment_append : (b : ℕ) (r ys : List ℕ) (c : Cursor) → EndsLf (b ∷ r) → class b ≡ Hash → run comment 0 (r ++ ys) c ≡ widen ys (run comment 0 r c)
comment_append b [] ys c h e = let z : ◌≡◌ {A = ℕ} 0 1 = cc (feed_class b Hash h e) in absurd (omega arith)
comment_append b (d ∷ r) ys c h e = comment_ends 0 d r ys c h
