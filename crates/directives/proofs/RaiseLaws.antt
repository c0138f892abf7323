-- What is read of items further on: lines are raised by the line feeds before and spans by the bytes before, and nothing else moves.
-- And what is read of a front's items, whatever stands behind it.
use Rattle.std.specs.Prelude.{Result, Ok, Err}
use mathlib.Core.Path.{◌≡◌, refl, sym, ap, ap₂, ◌∙◌}
use Prim.Native.Nat.{ℕ, ◌+◌, ◌-◌, ◌≤◌, ◌<◌}
use native.Mathlib.Omega.{arith}
use native.Mathlib.Nat.{zero-add}
use mathlib.Core.Bool.{Bool, true, false}
use mathlib.Core.List.{List, [], ◌∷◌, ◌++◌, map}
use lib.ListN.{length, take, drop, get_or, length-drop, get_or-append}
use lib.Seq.{take-append-le, drop-append-le, drop-append-add, get_or-append-add}
use lib.Dec.{ltb}
use borrow.Author.Tests.{lt-ltb, le-ltb, ltb-true, ltb-false}
use Rattle.ascii.specs.Choice.{pick}
use Rattle.lent.specs.Sources.{Part, part}
use Rattle.lexer.specs.declared.Cursor.{Cursor}
use Rattle.lexer.specs.Tokens.{Token}
use Rattle.lexer.specs.Layout.{text_of}
use Rattle.lexer.specs.Places.{Placed, All, nil, cons}
use Rattle.lexer.specs.Parts.{raise, raised}
use Rattle.places.specs.declared.Rule.TheVariants as Rule
use Rattle.places.specs.Sites.{site_of}
use Rattle.places.proofs.RaiseLaws.{site_raised}
use Rattle.directives.specs.Groups.{Item, joined, stray}
use Rattle.directives.specs.Directives.{Body, Directive, wrong_count, untaken, stopped, id_missing, within, is_mark, between, site_at, sited, body_by, shape_of, last_past, placed, directive_of, item_read, before, over, end_of, Fault}
use Rattle.directives.specs.Versions.{lead_by}
use Rattle.directives.specs.Parts.{raised_item, raised_part, raised_fault, raised_directive, mapped, raised_all}
use Rattle.directives.proofs.GroupLaws.{AllIn, AllItems}
use Rattle.directives.proofs.MovedLaws.{moved_result, AllMove, none, also, body_moved, still, result_still}

-- ---- a part of a text that stands in a longer one

module _ (pre s : List ℕ) (d : ℕ) (e : d ≡ length pre) where
  between_behind : (a b : ℕ) → between (pre ++ s) (d + a) (d + b) ≡ between s a b
  between_behind a b =
      let n : d + b - (d + a) ≡ b - a = omega arith in
      ap₂ (λ (k : ℕ) (l : List ℕ). take k l) n (ap (λ (k : ℕ). drop (k + a) (pre ++ s)) e ∙ drop-append-add pre s a)

  byte_behind : (a : ℕ) → get_or (pre ++ s) (d + a) 0 ≡ get_or s a 0
  byte_behind a = ap (λ (k : ℕ). get_or (pre ++ s) (k + a) 0) e ∙ get_or-append-add pre s a 0

  site_behind : (first past : ℕ) (x : Part) → site_at (pre ++ s) (part (d + first) (d + past)) x ≡ raised_part d (site_at s (part first past) x)
  unfolding site_at
  site_behind first past x = rw (byte_behind first) (go (is_mark (get_or s first 0)))
    where
      inner : d + first + 1 ≡ d + (first + 1)
      inner = omega arith

      go : (t : Bool) → pick t (site_of Rule.Quoted (d + first + 1) (between (pre ++ s) (d + first + 1) (d + past))) (site_of Rule.Word (d + first) (between (pre ++ s) (d + first) (d + past))) x
          ≡ raised_part d (pick t (site_of Rule.Quoted (first + 1) (between s (first + 1) past)) (site_of Rule.Word first (between s first past)) x)
      go true =
          ap (λ (k : ℕ). site_of Rule.Quoted k (between (pre ++ s) k (d + past)) x) inner
          ∙ ap (λ (r : List ℕ). site_of Rule.Quoted (d + (first + 1)) r x) (between_behind (first + 1) past)
          ∙ site_raised Rule.Quoted d (first + 1) (between s (first + 1) past) x
      go false = ap (λ (r : List ℕ). site_of Rule.Word (d + first) r x) (between_behind first past) ∙ site_raised Rule.Word d first (between s first past) x

  moves_behind : (l : ℕ) (ts : List Token) → AllMove (raised_part d) s (pre ++ s) ts (map (raised d l) ts)
  moves_behind l [] = none
  moves_behind l (t ∷ ts) = also (record { site = site_behind t.first t.past; text = refl }) (moves_behind l ts)

module _ (front rest : List ℕ) where
  between_front : (a b : ℕ) → a ≤ b → b ≤ length front → between (front ++ rest) a b ≡ between front a b
  between_front a b h k = ap (take (b - a)) (drop-append-le a front rest (omega arith)) ∙ take-append-le (b - a) (drop a front) rest (omega (arith, length-drop a front))

  site_front : (first past : ℕ) → first < past → past ≤ length front → (x : Part) → site_at (front ++ rest) (part first past) x ≡ site_at front (part first past) x
  unfolding site_at
  site_front first past h k x = rw (get_or-append front rest 0 first (omega arith), between_front (first + 1) past (omega arith) k, between_front first past (omega arith) k)

  moves_front : (ts : List Token) → All (Placed front) ts → AllMove still front (front ++ rest) ts ts
  moves_front [] nil = none
  moves_front (t ∷ ts) (cons p ps) = also (record { site = site_front t.first t.past p.some p.inside; text = refl }) (moves_front ts ps)

-- ---- a front's items

module _ (front rest : List ℕ) where
  item_front : (x : Item) → AllIn (Placed front) x → item_read (front ++ rest) x ≡ item_read front x
  unfolding item_read directive_of
  item_front (stray t) p = refl
  item_front (joined t args) p =
      ap (placed t.line.0 t.first (last_past t.past args))
      (ap (λ (n : ℕ). sited (front ++ rest) (shape_of t.text) args (body_by (shape_of t.text) n t.text (map text_of args))) (sym (zero-add t.line.0))
      ∙ body_moved still front (front ++ rest) 0 t.line.0 t.text (shape_of t.text) args args (moves_front front rest args p.1)
      ∙ result_still (sited front (shape_of t.text) args (body_by (shape_of t.text) t.line.0 t.text (map text_of args))))

  pub over_front : {A : Type 0} (step : Result Directive Fault → A → A) (o : A) (xs : List Item) → AllItems (Placed front) xs → over step (front ++ rest) o xs ≡ over step front o xs
  unfolding over
  over_front step o [] p = refl
  over_front step o (x ∷ xs) p = ap₂ step (item_front x p.0) (over_front step o xs p.1)

-- ---- one directive further on

module _ (d l : ℕ) where
  abbrev pub raised_one : Result Directive Fault → Result Directive Fault
  raised_one = mapped (raised_fault d l) (raised_directive d l)

  past_raised : (p : ℕ) (ts : List Token) → last_past (d + p) (map (raised d l) ts) ≡ d + last_past p ts
  unfolding last_past
  past_raised p [] = refl
  past_raised p (t ∷ ts) = past_raised t.past ts

  placed_raised : (n first past : ℕ) (x : Result Body Fault) → placed (l + n) (d + first) (d + past) (moved_result (raised_part d) l x) ≡ raised_one (placed n first past x)
  placed_raised n first past (Err (wrong_count m)) = refl
  placed_raised n first past (Err (untaken m)) = refl
  placed_raised n first past (Err (stopped m)) = refl
  placed_raised n first past (Err (id_missing m)) = refl
  placed_raised n first past (Err (within m f)) = refl
  placed_raised n first past (Ok x) = refl

  -- ---- all

  pub before_raised : (x : Result Directive Fault) (o : Result (List Directive) Fault) → before (raised_one x) (raised_all d l o) ≡ raised_all d l (before x o)
  before_raised (Err f) o = refl
  before_raised (Ok x) (Err f) = refl
  before_raised (Ok x) (Ok xs) = refl

  pub lead_raised : (x : Result Directive Fault) (ds : List Directive) → lead_by (raised_one x) (map (raised_directive d l) ds) ≡ map (raised_directive d l) (lead_by x ds)
  lead_raised (Err f) ds = refl
  lead_raised (Ok x) ds = refl

  module _ (pre s : List ℕ) (e : d ≡ length pre) where
    item_raised : (x : Item) → item_read (pre ++ s) (raised_item d l x) ≡ raised_one (item_read s x)
    unfolding item_read directive_of
    item_raised (stray t) = refl
    item_raised (joined t args) =
        let shape = shape_of t.text in
        ap₂ (λ (p : ℕ) (b : Result Body Fault). placed (l + t.line.0) (d + t.first) p b) (past_raised t.past args)
        (body_moved (raised_part d) s (pre ++ s) l t.line.0 t.text shape args (map (raised d l) args) (moves_behind pre s d e l args))
        ∙ placed_raised t.line.0 t.first (last_past t.past args) (sited s shape args (body_by shape t.line.0 t.text (map text_of args)))

    -- a step that moves as its directives do
    pub over_raised : {A : Type 0} (step : Result Directive Fault → A → A) (g : A → A) → ((x : Result Directive Fault) (o : A) → step (raised_one x) (g o) ≡ g (step x o))
        → (o : A) (xs : List Item) → over step (pre ++ s) (g o) (map (raised_item d l) xs) ≡ g (over step s o xs)
    unfolding over
    over_raised step g n o [] = refl
    over_raised step g n o (x ∷ xs) = ap₂ step (item_raised x) (over_raised step g n o xs) ∙ n (item_read s x) (over step s o xs)

  ltb_raised : (p n : ℕ) → ltb (d + p) (d + n) ≡ ltb p n
  ltb_raised p n = go (ltb p n) refl
    where
      go : (t : Bool) → ltb p n ≡ t → ltb (d + p) (d + n) ≡ t
      go true e = lt-ltb (d + p) (d + n) (omega (arith, ltb-true p n e))
      go false e = le-ltb (d + p) (d + n) (omega (arith, ltb-false p n e))

  pub end_raised : (n : ℕ) (c : Cursor) → end_of (d + n) (raise d l c) ≡ raised_all d l (end_of n c)
  unfolding end_of
  end_raised n c = rw (ltb_raised c.place n) (go (ltb c.place n))
    where
      go : (t : Bool) → pick t (Err (stopped (l + c.line.0))) (Ok []) ≡ raised_all d l (pick t (Err (stopped c.line.0)) (Ok []))
      go true = refl
      go false = refl
