-- Tokens in parts: a Newline or a Comment parts the items before it from those behind it; and items move with their tokens.
use Rattle.std.specs.Prelude.{Result}
use mathlib.Core.Path.{◌≡◌, refl, ap}
use Prim.Native.Nat.{ℕ}
use mathlib.Core.Bool.{Bool, true, false}
use mathlib.Core.List.{List, [], ◌∷◌, ◌++◌, map}
use Rattle.lexer.specs.declared.Kind.{Kind}
use Rattle.lexer.specs.declared.Kind.TheVariants.{Directive, Word, QuotedString, Comment, Newline}
use Rattle.lexer.specs.Tokens.{Token}
use Rattle.lexer.specs.Parts.{Closer, raised}
use Rattle.lexer.specs.Places.{All, nil, cons}
use Rattle.directives.specs.Groups.{Item, joined, stray, argument_by, arguments_of, stray_by, item_by, items}
use Rattle.directives.specs.Directives.{Directive as Entry, over, item_read, Fault}
use Rattle.directives.specs.Parts.{raised_item}

-- ---- behind a token that closes a line

closer_ends : (k : Kind) (c : Token) (ts : List Token) → Closer k → argument_by k c ts ≡ []
closer_ends Directive c ts h = absurd h
closer_ends Word c ts h = absurd h
closer_ends QuotedString c ts h = absurd h
closer_ends Comment c ts h = refl
closer_ends Newline c ts h = refl

closer_parts : (k : Kind) (taking : Bool) (c : Token) (ts : List Token) (go : Bool → List Item) → Closer k → item_by k taking c ts go ≡ go false
closer_parts Directive taking c ts go h = absurd h
closer_parts Word taking c ts go h = absurd h
closer_parts QuotedString taking c ts go h = absurd h
closer_parts Comment taking c ts go h = refl
closer_parts Newline taking c ts go h = refl

module _ (c : Token) (us : List Token) (h : Closer c.kind) where
  arguments_parted : (ts : List Token) → arguments_of (ts ++ c ∷ us) ≡ arguments_of ts
  unfolding arguments_of
  arguments_parted [] = closer_ends c.kind c (arguments_of us) h
  arguments_parted (t ∷ ts) = ap (argument_by t.kind t) (arguments_parted ts)

  pub items_parted : (taking : Bool) (ts : List Token) → items taking (ts ++ c ∷ us) ≡ items taking ts ++ items false us
  unfolding items
  items_parted taking [] = closer_parts c.kind taking c us (λ now. items now us) h
  items_parted taking (t ∷ ts) = go t.kind taking (items_parted true ts) (items_parted false ts)
    where
      kept : (taking : Bool) → items true (ts ++ c ∷ us) ≡ items true ts ++ items false us → items false (ts ++ c ∷ us) ≡ items false ts ++ items false us
          → stray_by taking t (λ now. items now (ts ++ c ∷ us)) ≡ stray_by taking t (λ now. items now ts) ++ items false us
      kept true a b = a
      kept false a b = ap (λ (l : List Item). stray t ∷ l) b

      go : (k : Kind) (taking : Bool) → items true (ts ++ c ∷ us) ≡ items true ts ++ items false us → items false (ts ++ c ∷ us) ≡ items false ts ++ items false us
          → item_by k taking t (ts ++ c ∷ us) (λ now. items now (ts ++ c ∷ us)) ≡ item_by k taking t ts (λ now. items now ts) ++ items false us
      go Directive taking a b = rw (arguments_parted ts, a)
      go Word taking a b = kept taking a b
      go QuotedString taking a b = kept taking a b
      go Comment taking a b = b
      go Newline taking a b = b

-- ---- further on

module _ (d l : ℕ) where
  arguments_raised : (ts : List Token) → arguments_of (map (raised d l) ts) ≡ map (raised d l) (arguments_of ts)
  unfolding arguments_of
  arguments_raised [] = refl
  arguments_raised (t ∷ ts) = go t.kind (arguments_raised ts)
    where
      go : (k : Kind) → arguments_of (map (raised d l) ts) ≡ map (raised d l) (arguments_of ts)
          → argument_by k (raised d l t) (arguments_of (map (raised d l) ts)) ≡ map (raised d l) (argument_by k t (arguments_of ts))
      go Directive e = refl
      go Word e = rw e
      go QuotedString e = rw e
      go Comment e = refl
      go Newline e = refl

  pub items_raised : (taking : Bool) (ts : List Token) → items taking (map (raised d l) ts) ≡ map (raised_item d l) (items taking ts)
  unfolding items
  items_raised taking [] = refl
  items_raised taking (t ∷ ts) = go t.kind taking (items_raised true ts) (items_raised false ts)
    where
      kept : (taking : Bool) → items true (map (raised d l) ts) ≡ map (raised_item d l) (items true ts) → items false (map (raised d l) ts) ≡ map (raised_item d l) (items false ts)
          → stray_by taking (raised d l t) (λ now. items now (map (raised d l) ts)) ≡ map (raised_item d l) (stray_by taking t (λ now. items now ts))
      kept true a b = a
      kept false a b = ap (λ (x : List Item). stray (raised d l t) ∷ x) b

      go : (k : Kind) (taking : Bool) → items true (map (raised d l) ts) ≡ map (raised_item d l) (items true ts) → items false (map (raised d l) ts) ≡ map (raised_item d l) (items false ts)
          → item_by k taking (raised d l t) (map (raised d l) ts) (λ now. items now (map (raised d l) ts)) ≡ map (raised_item d l) (item_by k taking t ts (λ now. items now ts))
      go Directive taking a b = rw (arguments_raised ts, a)
      go Word taking a b = kept taking a b
      go QuotedString taking a b = kept taking a b
      go Comment taking a b = b
      go Newline taking a b = b

-- ---- what holds of every token holds of those of every item

abbrev pub AllIn : (Token → Type 0) → Item → Type 0
AllIn P (joined t args) = P t × All P args
AllIn P (stray t) = P t

abbrev pub AllItems : (Token → Type 0) → List Item → Type 0
AllItems P [] = Unit {0}
AllItems P (x ∷ xs) = AllIn P x × AllItems P xs

arguments_hold : (P : Token → Type 0) (ts : List Token) → All P ts → All P (arguments_of ts)
unfolding arguments_of
arguments_hold P [] nil = nil
arguments_hold P (t ∷ ts) (cons h hs) = go t.kind (arguments_hold P ts hs)
  where
    go : (k : Kind) → All P (arguments_of ts) → All P (argument_by k t (arguments_of ts))
    go Directive i = nil
    go Word i = cons h i
    go QuotedString i = cons h i
    go Comment i = nil
    go Newline i = nil

pub items_hold : (P : Token → Type 0) (taking : Bool) (ts : List Token) → All P ts → AllItems P (items taking ts)
unfolding items
items_hold P taking [] nil = tt
items_hold P taking (t ∷ ts) (cons h hs) = go t.kind taking (items_hold P true ts hs) (items_hold P false ts hs)
  where
    go : (k : Kind) (taking : Bool) → AllItems P (items true ts) → AllItems P (items false ts) → AllItems P (item_by k taking t ts (λ now. items now ts))
    go Directive taking a b = ((h, arguments_hold P ts hs), a)
    go Word true a b = a
    go Word false a b = (h, b)
    go QuotedString true a b = a
    go QuotedString false a b = (h, b)
    go Comment taking a b = b
    go Newline taking a b = b

-- ---- items one after another

pub over_append : {A : Type 0} (step : Result Entry Fault → A → A) (s : List ℕ) (o : A) (xs ys : List Item) → over step s o (xs ++ ys) ≡ over step s (over step s o ys) xs
unfolding over
over_append step s o [] ys = refl
over_append step s o (x ∷ xs) ys = ap (step (item_read s x)) (over_append step s o xs ys)
