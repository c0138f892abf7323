-- The text of every token of a package is what its own bytes are read to, a quoted one's from behind its mark on.
-- The idea: the lexer's law of one token, carried along the bytes before it.
use mathlib.Core.Path.{◌≡◌, ◌∙◌, refl, sym, ap, ap₂, subst}
use mathlib.Core.Logic.{◌⊎◌, inl, inr}
use mathlib.Core.Bool.{Bool, true, false}
use mathlib.Core.List.{List, [], ◌∷◌, ◌++◌, append_assoc}
use Prim.Native.Nat.{ℕ, suc, ◌+◌, ◌-◌}
use native.Mathlib.Omega.{arith}
use lib.ListN.{length, take, drop, get_or, length-append}
use lib.Seq.{drop_at, drop-append-add, get_or_at}
use lib.Dec.{eqb}
use borrow.Author.Tests.{eqb-true}
use Rattle.ascii.specs.Choice.{pick, and, or}
use Rattle.lexer.specs.declared.bytes.Class.{Class}
use Rattle.lexer.specs.declared.bytes.Class.TheVariants.{Feed, Return, Gap, Upright, Hash, Quote, Slash, Other}
use Rattle.lexer.specs.Bytes.{class}
use Rattle.lexer.specs.declared.Cursor.{Cursor}
use Rattle.lexer.specs.Cursors.{fresh, moved}
use Rattle.lexer.specs.Runs.{Spot, run, text, took}
use Rattle.lexer.specs.declared.quotes.Mode.TheVariants.{Plain as plain}
use Rattle.lexer.specs.Rules.{before, word, quoted}
use Rattle.lexer.specs.declared.Kind.{Kind}
use Rattle.lexer.specs.declared.Kind.TheVariants.{Directive, Word, QuotedString, Comment, Newline}
use Rattle.lexer.specs.Tokens.{Token, Step, directive, word_kind, made, token_by, token_at, next, tokens, reading}
use Rattle.lexer.specs.Places.{All, nil, cons}
use Rattle.lexer.proofs.ClassLaws.{told}
use Rattle.lexer.proofs.MoveLaws.{moved_place}
use Rattle.lexer.proofs.RunLaws.{Passed, passed_place, run_place, run_passed}
use Rattle.lexer.proofs.NextLaws.{Of, taken_over}
use Rattle.lexer.proofs.TokenLaws.{by_tokens}
use Rattle.places.specs.declared.Rule.TheVariants as Rule
use Rattle.places.specs.Sites.{text_of}
use Rattle.places.proofs.TokenLaws.{word_token, end_from, quoted_text}
use Rattle.directives.specs.Directives.{is_mark, between}

-- ---- what is said of a token

pub record Plain (s : List ℕ) (t : Token) : Type 0 where
  pub mark : is_mark (get_or s t.first 0) ≡ false
  pub text : text_of Rule.Word (between s t.first t.past) ≡ t.text

-- behind the text comes the closing mark, where there is one
pub record Marked (s : List ℕ) (t : Token) : Type 0 where
  pub mark : is_mark (get_or s t.first 0) ≡ true
  pub close : List ℕ
  pub text : text_of Rule.Quoted (between s (t.first + 1) t.past) ≡ t.text ++ close

abbrev pub Stands : Kind → List ℕ → Token → Type 0
Stands Directive s t = Plain s t
Stands Word s t = Plain s t
Stands QuotedString s t = Marked s t
Stands Comment s t = Unit {0}
Stands Newline s t = Unit {0}

abbrev There : List ℕ → Step → Type 0
There s = Of (λ t e. Stands t.kind s t)

-- ---- marks

abbrev IsOther : Class → Type 0
IsOther Feed = ⊥
IsOther Return = ⊥
IsOther Gap = ⊥
IsOther Upright = ⊥
IsOther Hash = ⊥
IsOther Quote = ⊥
IsOther Slash = ⊥
IsOther Other = Unit {0}

quote_mark : (b : ℕ) → class b ≡ Quote → is_mark b ≡ true
quote_mark b e = go (told b Quote e)
  where
    go : (b ≡ 34) ⊎ (b ≡ 39) → is_mark b ≡ true
    go (inl h) = ap is_mark h
    go (inr h) = ap is_mark h

other_mark : (b : ℕ) → class b ≡ Other → is_mark b ≡ false
unfolding class
other_mark b e = go (eqb b 34) refl (eqb b 39) refl
  where
    go : (u : Bool) → eqb b 34 ≡ u → (v : Bool) → eqb b 39 ≡ v → or u v ≡ false
    go true f v g = let q : Other ≡ Quote = sym e ∙ ap class (eqb-true b 34 f) in absurd (subst IsOther q tt)
    go false f true g = let q : Other ≡ Quote = sym e ∙ ap class (eqb-true b 39 g) in absurd (subst IsOther q tt)
    go false f false g = refl

-- ---- one token, behind the bytes of the front

module _ (front : List ℕ) (b : ℕ) (r : List ℕ) (c : Cursor) (h : length front ≡ c.place) where
  abbrev s : List ℕ
  s = front ++ b ∷ r

  byte_is : get_or s c.place 0 ≡ b
  byte_is = get_or_at front b r 0 c.place h

  quoted_stands : class b ≡ Quote → There s (made QuotedString (text (quoted b) plain r) c (run (quoted b) plain r (moved c b)))
  quoted_stands e =
      let rest : drop (c.place + 1) s ≡ r = ap (λ (k : ℕ). drop (k + 1) s) (sym h) ∙ drop-append-add front (b ∷ r) 1 in
      let past : (run (quoted b) plain r (moved c b)).here.place - (c.place + 1) ≡ took (quoted b) plain r =
      omega (arith, run_place (quoted b) plain r (moved c b), moved_place c b) in
      record {
        mark = ap is_mark byte_is ∙ quote_mark b e;
        close = end_from b plain r;
        text = ap₂ (λ (n : ℕ) (l : List ℕ). text_of Rule.Quoted (take n l)) past rest ∙ quoted_text b r;
      }

  word_stands : class b ≡ Other → There s (made (word_kind c.mark (b ∷ text word 0 r)) (b ∷ text word 0 r) c (run word 0 r (moved c b)))
  unfolding word_kind
  word_stands e = go (and c.mark (directive (b ∷ text word 0 r)))
    where
      rest : drop c.place s ≡ b ∷ r
      rest = drop_at front (b ∷ r) c.place h

      past : (run word 0 r (moved c b)).here.place - c.place ≡ suc (took word 0 r)
      past = omega (arith, run_place word 0 r (moved c b), moved_place c b)

      mark_is : is_mark (get_or s c.place 0) ≡ false
      mark_is = ap is_mark byte_is ∙ other_mark b e

      text_is : text_of Rule.Word (between s c.place (run word 0 r (moved c b)).here.place) ≡ b ∷ text word 0 r
      text_is = ap₂ (λ (n : ℕ) (l : List ℕ). text_of Rule.Word (take n l)) past rest ∙ word_token b r e

      go : (u : Bool) → There s (made (pick u Directive Word) (b ∷ text word 0 r) c (run word 0 r (moved c b)))
      go true = record { mark = mark_is; text = text_is }
      go false = record { mark = mark_is; text = text_is }

  by_class : (k : Class) → class b ≡ k → There s (token_by k b r c)
  unfolding token_by
  by_class Feed e = tt
  by_class Return e = tt
  by_class Gap e = tt
  by_class Upright e = tt
  by_class Hash e = tt
  by_class Quote e = quoted_stands e
  by_class Slash e = tt
  by_class Other e = word_stands e

at_stands : (front xs : List ℕ) (c : Cursor) → length front ≡ c.place → There (front ++ xs) (token_at xs c)
unfolding token_at
at_stands front [] c h = tt
at_stands front (b ∷ r) c h = by_class front b r c h (class b) refl

-- ---- the bytes passed over

module _ (front xs : List ℕ) (c : Cursor) (h : length front ≡ c.place) where
  module _ (e : Spot) (p : Passed xs c e) where
    further_text : (front ++ p.part) ++ e.rest ≡ front ++ xs
    further_text = append_assoc front p.part e.rest ∙ ap (λ (l : List ℕ). front ++ l) (sym p.list)

    further_long : length (front ++ p.part) ≡ e.here.place
    further_long = omega (arith, length-append front p.part, passed_place p, h)

  next_stands : There (front ++ xs) (next xs c)
  unfolding next
  next_stands =
      let e : Spot = run before 0 xs c in
      let p : Passed xs c e = run_passed before 0 xs c in
      subst (λ (l : List ℕ). There l (token_at e.rest e.here)) (further_text e p) (at_stands (front ++ p.part) e.rest e.here (further_long e p))

-- ---- all of them

abbrev Each : List ℕ → List Token → Type 0
Each s = All (λ t. Stands t.kind s t)

all_stand : (xs : List ℕ) (c : Cursor) → (front : List ℕ) → length front ≡ c.place → Each (front ++ xs) (tokens 0 xs c).tokens
all_stand =
    by_tokens (λ xs c r. (front : List ℕ) → length front ≡ c.place → Each (front ++ xs) r.tokens)
    (λ xs c s q front h. nil)
    (λ xs c t e q k ih front h.
    let p : Passed xs c e = taken_over k in
    cons (subst (There (front ++ xs)) q (next_stands front xs c h))
    (subst (λ (l : List ℕ). Each l (tokens 0 e.rest e.here).tokens) (further_text front xs c h e p) (ih (front ++ p.part) (further_long front xs c h e p))))

pub tokens_stand : (s : List ℕ) → All (λ t. Stands t.kind s t) (reading s).tokens
unfolding reading fresh
tokens_stand s = all_stand s fresh [] refl
