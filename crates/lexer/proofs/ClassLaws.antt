-- A byte's class tells the byte, and the arm of a `match` on a class tells the class.
use mathlib.Core.Path.{◌≡◌, ◌∙◌, refl, sym, ap, subst}
use mathlib.Core.Logic.{◌⊎◌, inl, inr, ⊎_elim}
use mathlib.Core.Bool.{Bool, true, false}
use mathlib.Core.List.{List, [], ◌∷◌}
use Prim.Native.Nat.{ℕ, zero, suc, ◌+◌}
use native.Mathlib.Omega.{arith}
use lib.ListN.{drop, get_or}
use lib.Dec.{eqb}
use types.Run.{OneOf}
use denote.Enum.Declared.{tag_of}
use borrow.Author.Tests.{eqb-true, eqb-false, ne_eqb}
use Rattle.ascii.specs.Choice.{pick}
use Rattle.ascii.specs.Classes.{white, within}
use Rattle.ascii.proofs.ByteLaws.{bounds}
use Rattle.lexer.specs.Bytes.{Class, Feed, Return, Gap, Upright, Hash, Quote, Slash, Other, class}
use Rattle.lexer.specs.Cursors.{Cursor}
use Rattle.lexer.specs.Runs.{Does, ends, takes}
use Rattle.lexer.specs.Rules.{line_end, before, before_by, word, word_by, word_slash}
use Rattle.lexer.specs.Tokens.{Step, token_by, token_at}
use Rattle.lexer.specs.contracts.bytes.Class.{the_type}
use Rattle.lexer.proofs.MoveLaws.{dark_flat}
use Rattle.lexer.proofs.TestLaws.{either}

-- ---- the byte of a class

-- what is known of a byte of each class
abbrev pub Means : Class → ℕ → Type 0
Means Feed b = b ≡ 10
Means Return b = b ≡ 13
Means Gap b = (b ≡ 9) ⊎ (b ≡ 32)
Means Upright b = (b ≡ 11) ⊎ (b ≡ 12)
Means Hash b = b ≡ 35
Means Quote b = (b ≡ 34) ⊎ (b ≡ 39)
Means Slash b = b ≡ 92
Means Other b = white b ≡ false

-- a byte that is none of the white ones
dark : (b : ℕ) → (b ≡ 9 → ⊥) → (b ≡ 10 → ⊥) → (b ≡ 11 → ⊥) → (b ≡ 12 → ⊥) → (b ≡ 13 → ⊥) → (b ≡ 32 → ⊥) → white b ≡ false
unfolding white
dark b p q r s t u = let w : within 9 13 b ≡ false = go (within 9 13 b) refl in rw (w, ne_eqb b 32 u)
  where
    go : (x : Bool) → within 9 13 b ≡ x → x ≡ false
    go true e = let h = bounds 9 13 b e in absurd (omega arith)
    go false e = refl

means : (b : ℕ) → Means (class b) b
unfolding class
means b =
    let P : Class → Type 0 = λ k. Means k b in
    either P (eqb b 10) (eqb-true b 10) (λ n10. either P (eqb b 13) (eqb-true b 13) (λ n13. either P (eqb b 32) (λ e. inr (eqb-true b 32 e))
    (λ n32. either P (eqb b 9) (λ e. inl (eqb-true b 9 e)) (λ n9. either P (eqb b 11) (λ e. inl (eqb-true b 11 e))
    (λ n11. either P (eqb b 12) (λ e. inr (eqb-true b 12 e)) (λ n12. either P (eqb b 35) (eqb-true b 35)
    (λ n35. either P (eqb b 34) (λ e. inl (eqb-true b 34 e)) (λ n34. either P (eqb b 39) (λ e. inr (eqb-true b 39 e)) (λ n39. either P (eqb b 92) (eqb-true b 92)
    (λ n92. dark b (eqb-false b 9 n9) (eqb-false b 10 n10) (eqb-false b 11 n11) (eqb-false b 12 n12) (eqb-false b 13 n13) (eqb-false b 32 n32)))))))))))

module _ (b : ℕ) where
  pub told : (k : Class) → class b ≡ k → Means k b
  told k e = subst (λ (k : Class). Means k b) e (means b)

  -- the classes that start a token, and the backslash, are not white
  pub hash_dark : class b ≡ Hash → white b ≡ false
  unfolding white
  hash_dark e = rw (told Hash e)

  pub quote_dark : class b ≡ Quote → white b ≡ false
  unfolding white
  quote_dark e = ⊎_elim (λ h. rw h) (λ h. rw h) (told Quote e)

  pub slash_dark : class b ≡ Slash → white b ≡ false
  unfolding white
  slash_dark e = rw (told Slash e)

  pub other_dark : class b ≡ Other → white b ≡ false
  other_dark e = told Other e

  -- and what is not white is no line feed
  pub not_feed : white b ≡ false → b ≡ 10 → ⊥
  not_feed h = eqb-false b 10 (dark_flat b h)

-- ---- what goes by a byte's class, so that nothing else need say how it is told

-- what holds for each class holds of what the byte does in a word, and of the token that it starts
pub word_by_lem : (P : Does ℕ → Type 0) (b : ℕ) (r : List ℕ) → ((k : Class) → P (word_by k b r)) → P (word 0 b r)
unfolding word
word_by_lem P b r f = f (class b)

pub token_by_lem : (P : Step → Type 0) (b : ℕ) (r : List ℕ) (c : Cursor) → ((k : Class) → P (token_by k b r c)) → P (token_at (b ∷ r) c)
unfolding token_at
token_by_lem P b r c f = f (class b)

-- the class of the byte at a place of a text, and what it tells there
abbrev pub class_at : List ℕ → ℕ → Class
class_at s i = class (get_or s i 0)

module _ (s : List ℕ) (i : ℕ) (k : Class) (e : class_at s i ≡ k) where
  pub told_at : Means k (get_or s i 0)
  told_at = told (get_or s i 0) k e

  pub before_at : before 0 (get_or s i 0) (drop (i + 1) s) ≡ before_by k (drop (i + 1) s)
  unfolding before
  before_at = rw e

  pub token_at_lem : (c : Cursor) → token_at (get_or s i 0 ∷ drop (i + 1) s) c ≡ token_by k (get_or s i 0) (drop (i + 1) s) c
  unfolding token_at
  token_at_lem c = rw e

-- ---- an arm with several classes

abbrev by_tag : ℕ → Class
by_tag t =
    pick (eqb t 0) Feed (pick (eqb t 1) Return (pick (eqb t 2) Gap (pick (eqb t 3) Upright
    (pick (eqb t 4) Hash (pick (eqb t 5) Quote (pick (eqb t 6) Slash Other))))))

by_tag_tag_of : (k : Class) → by_tag (tag_of the_type k) ≡ k
by_tag_tag_of Feed = refl
by_tag_tag_of Return = refl
by_tag_tag_of Gap = refl
by_tag_tag_of Upright = refl
by_tag_tag_of Hash = refl
by_tag_tag_of Quote = refl
by_tag_tag_of Slash = refl
by_tag_tag_of Other = refl

tag_inj : (k v : Class) → tag_of the_type k ≡ tag_of the_type v → k ≡ v
tag_inj k v e = sym (by_tag_tag_of k) ∙ ap by_tag e ∙ by_tag_tag_of v

abbrev pub tags : List Class → List ℕ
tags [] = []
tags (v ∷ vs) = tag_of the_type v ∷ tags vs

-- P of each class
abbrev pub Each : (Class → Type 0) → List Class → Type 0
Each P [] = Unit {0}
Each P (v ∷ vs) = P v × Each P vs

-- what holds of each class of the arm holds of the value
pub arm : (P : Class → Type 0) (vs : List Class) (k : Class) → OneOf (tags vs) (tag_of the_type k) → Each P vs → P k
arm P [] k h p = absurd h
arm P (v ∷ []) k h p = subst P (sym (tag_inj k v h)) p.0
arm P (v ∷ w ∷ vs) k h p = ⊎_elim (λ e. subst P (sym (tag_inj k v e)) p.0) (λ later. arm P (w ∷ vs) k later p.1) h

-- ---- what a byte does to a word

pub word_other : (b : ℕ) (r : List ℕ) → class b ≡ Other → word 0 b r ≡ takes (b ∷ []) 0
unfolding word word_by
word_other b r e = rw e

pub word_lone : (b : ℕ) (r : List ℕ) → class b ≡ Slash → line_end r ≡ 0 → word 0 b r ≡ takes (b ∷ []) 0
unfolding word word_by word_slash
word_lone b r e f = rw (e, f, told b Slash e)

slash_cut : (k : ℕ) → (k ≡ 0 → ⊥) → word_slash k ≡ takes [] k
unfolding word_slash
slash_cut zero n = absurd (n refl)
slash_cut (suc k) n = refl

pub word_cut : (b : ℕ) (r : List ℕ) {k : ℕ} → class b ≡ Slash → k ≡ line_end r → (k ≡ 0 → ⊥) → word 0 b r ≡ takes [] k
unfolding word word_by
word_cut b r {k} e f n = rw (e, ← f) (slash_cut k n)

-- the classes that end it
abbrev stops : List Class
stops = Feed ∷ Return ∷ Gap ∷ Upright ∷ Hash ∷ Quote ∷ []

pub word_stop : (b : ℕ) (r : List ℕ) (k : Class) → k ≡ class b → OneOf (tags stops) (tag_of the_type k) → word 0 b r ≡ ends
unfolding word word_by
word_stop b r k e h = rw (← e) (arm (λ (k : Class). word_by k b r ≡ ends) stops k h (refl, (refl, (refl, (refl, (refl, (refl, tt)))))))
