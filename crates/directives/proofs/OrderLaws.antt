-- The definitions in plain words: what a directive takes, and that the first fault in text order is the answer, the end's last.
-- For 2.7: AskedLaws.
use Rattle.std.specs.Prelude.{Result, Ok, Err}
use mathlib.Core.Path.{◌≡◌, refl, sym, ap, ◌∙◌, subst}
use mathlib.Core.Logic.{◌↔◌}
use Prim.Native.Nat.{ℕ, ◌≤◌, ◌<◌}
use native.Mathlib.Omega.{arith}
use mathlib.Core.Bool.{Bool, true, false}
use mathlib.Core.List.{List, [], ◌∷◌, ◌++◌, append-nil}
use lib.ListN.{length}
use lib.Dec.{ltb}
use borrow.Author.Tests.{lt-ltb, le-ltb, ltb-true, ltb-false}
use Rattle.ascii.specs.Choice.{pick}
use Rattle.lexer.specs.declared.Cursor.{Cursor}
use Rattle.lexer.specs.declared.Kind.{Kind}
use Rattle.lexer.specs.declared.Kind.TheVariants.{Directive, Word, QuotedString, Comment, Newline}
use Rattle.lexer.specs.Tokens.{Token, reading}
use Rattle.directives.specs.Groups.{Item, joined, stray, argument_by, arguments_of, item_by, items}
use Rattle.directives.specs.Directives.{Directive as Entry, Fault, stopped, item_read, before, over, ending, end_of, directives}
use Rattle.directives.specs.Versions.{TwoSix}
use Rattle.directives.specs.Calls.{Argument, Arguments, Ender, Ends, AllGood, none, also, Faulty, in_item, missing, at_end}

-- ---- what a directive takes

ender_ends : (k : Kind) (t : Token) (ts : List Token) → Ender k → argument_by k t ts ≡ []
ender_ends Directive t ts h = refl
ender_ends Word t ts h = absurd h
ender_ends QuotedString t ts h = absurd h
ender_ends Comment t ts h = refl
ender_ends Newline t ts h = refl

ender_same : (k : Kind) (t : Token) (ts : List Token) (go : Bool → List Item) → Ender k → item_by k true t ts go ≡ item_by k false t ts go
ender_same Directive t ts go h = refl
ender_same Word t ts go h = absurd h
ender_same QuotedString t ts go h = absurd h
ender_same Comment t ts go h = refl
ender_same Newline t ts go h = refl

arguments_none : (rest : List Token) → Ends rest → arguments_of rest ≡ []
unfolding arguments_of
arguments_none [] h = refl
arguments_none (t ∷ ts) h = ender_ends t.kind t (arguments_of ts) h

items_none : (rest : List Token) → Ends rest → items true rest ≡ items false rest
unfolding items
items_none [] h = refl
items_none (t ∷ ts) h = ender_same t.kind t ts (λ now. items now ts) h

arguments_all : (args rest : List Token) → Arguments args → Ends rest → arguments_of (args ++ rest) ≡ args
unfolding arguments_of
arguments_all [] rest h e = arguments_none rest e
arguments_all (t ∷ ts) rest h e = go t.kind h.0 (arguments_all ts rest h.1 e)
  where
    go : (k : Kind) → Argument k → arguments_of (ts ++ rest) ≡ ts → argument_by k t (arguments_of (ts ++ rest)) ≡ t ∷ ts
    go Directive h i = absurd h
    go Word h i = rw i
    go QuotedString h i = rw i
    go Comment h i = absurd h
    go Newline h i = absurd h

items_all : (args rest : List Token) → Arguments args → Ends rest → items true (args ++ rest) ≡ items false rest
unfolding items
items_all [] rest h e = items_none rest e
items_all (t ∷ ts) rest h e = go t.kind h.0 (items_all ts rest h.1 e)
  where
    go : (k : Kind) → Argument k → items true (ts ++ rest) ≡ items false rest → item_by k true t (ts ++ rest) (λ now. items now (ts ++ rest)) ≡ items false rest
    go Directive h i = absurd h
    go Word h i = i
    go QuotedString h i = i
    go Comment h i = absurd h
    go Newline h i = absurd h

-- a Directive token takes the Words and QuotedStrings up to the next Newline, Comment, Directive or the end
pub directive_takes : (taken : Bool) (t : Token) (args rest : List Token) → t.kind ≡ Directive → Arguments args → Ends rest
    → items taken (t ∷ (args ++ rest)) ≡ joined t args ∷ items false rest
unfolding items
directive_takes taken t args rest d h e = rw (d, arguments_all args rest h e, items_all args rest h e)

-- with none before it, a Word or a QuotedString is no argument
pub stray_stands : (t : Token) (ts : List Token) → Argument t.kind → items false (t ∷ ts) ≡ stray t ∷ items false ts
unfolding items
stray_stands t ts h = go t.kind h
  where
    go : (k : Kind) → Argument k → item_by k false t ts (λ now. items now ts) ≡ stray t ∷ items false ts
    go Directive h = absurd h
    go Word h = refl
    go QuotedString h = refl
    go Comment h = absurd h
    go Newline h = absurd h

-- ---- the order of faults

never : ◌≡◌ {A = ℕ} 0 1 → ⊥
never z = absurd (omega arith)

-- of two results, what tells them apart
abbrev told_fault : Result (List Entry) Fault → Fault
told_fault (Err f) = f
told_fault (Ok ds) = stopped 0

abbrev told_entries : Result (List Entry) Fault → List Entry
told_entries (Err f) = []
told_entries (Ok ds) = ds

abbrev told_kind : Result (List Entry) Fault → ℕ
told_kind (Err f) = 0
told_kind (Ok ds) = 1

module _ (s : List ℕ) (end : Result (List Entry) Fault) where
  all_good : {xs : List Item} {ds : List Entry} → AllGood s xs ds → (es : List Entry) → end ≡ Ok es → ending s end xs ≡ Ok (ds ++ es)
  unfolding over
  all_good none es q = q
  all_good (also p a) es q = rw (p, all_good a es q)

  all_bad : {xs : List Item} {ds : List Entry} (f : Fault) → AllGood s xs ds → end ≡ Err f → ending s end xs ≡ Err f
  unfolding over
  all_bad f none q = q
  all_bad f (also p a) q = rw (p, all_bad f a q)

  first_bad : (passed : List Item) (this : Item) (after : List Item) (ds : List Entry) (f : Fault) → AllGood s passed ds → item_read s this ≡ Err f → ending s end (passed ++ this ∷ after) ≡ Err f
  unfolding over
  first_bad [] this after [] f none q = rw q
  first_bad (x ∷ passed) this after (d ∷ ds) f (also p a) q = rw (p, first_bad passed this after ds f a q)
  first_bad [] this after (d ∷ ds) f h q = elim h [ ]
  first_bad (x ∷ passed) this after [] f h q = elim h [ ]

  -- what the items come to
  data Comes (xs : List Item) : Result (List Entry) Fault → Type 0 where
    fails : {f : Fault} → Faulty TwoSix s end xs f → Comes xs (Err f)
    holds : (ds es : List Entry) → AllGood s xs ds → end ≡ Ok es → Comes xs (Ok (ds ++ es))

  later : (x : Item) (xs : List Item) (d : Entry) → item_read s x ≡ Ok d → {o : Result (List Entry) Fault} → Comes xs o → Comes (x ∷ xs) (before (Ok d) o)
  later x xs d p (fails (in_item h)) =
      fails (in_item (record { passed = x ∷ h.passed; this = h.this; after = h.after; entries = d ∷ h.entries; list = ap (λ (l : List Item). x ∷ l) h.list; good_before = also p h.good_before; sound_before = tt; fault = h.fault }))
  later x xs d p (fails (missing l h m e)) = absurd h
  later x xs d p (fails (at_end ds a h q)) = fails (at_end (d ∷ ds) (also p a) tt q)
  later x xs d p (holds ds es a q) = holds (d ∷ ds) es (also p a) q

  comes : (xs : List Item) → Comes xs (ending s end xs)
  unfolding over
  comes [] = go end refl
    where
      go : (o : Result (List Entry) Fault) → end ≡ o → Comes [] o
      go (Err f) q = fails (at_end [] none tt q)
      go (Ok es) q = holds [] es none q
  comes (x ∷ xs) = go (item_read s x) refl (comes xs)
    where
      go : (r : Result Entry Fault) → item_read s x ≡ r → Comes xs (ending s end xs) → Comes (x ∷ xs) (before r (ending s end xs))
      go (Err f) p k = fails (in_item (record { passed = []; this = x; after = xs; entries = []; list = refl; good_before = none; sound_before = tt; fault = p }))
      go (Ok d) p k = later x xs d p k

  -- a fault is the answer exactly when it is the first bad item's; or with all items good, the end's
  pub fault_is : (xs : List Item) (f : Fault) → (ending s end xs ≡ Err f) ↔ Faulty TwoSix s end xs f
  fault_is xs f = (λ e. go (ending s end xs) (comes xs) e, back)
    where
      go : (o : Result (List Entry) Fault) → Comes xs o → o ≡ Err f → Faulty TwoSix s end xs f
      go (Err g) (fails h) e = subst (Faulty TwoSix s end xs) (ap told_fault e) h
      go (Ok ds) (holds _ _ a q) e = absurd (never (sym (ap told_kind e)))

      back : Faulty TwoSix s end xs f → ending s end xs ≡ Err f
      back (in_item h) = rw h.list (first_bad h.passed h.this h.after h.entries f h.good_before h.fault)
      back (missing l h m e) = absurd h
      back (at_end ds a h q) = all_bad f a q

  -- directives are those of the items, each good, and then the end's
  record Holds (xs : List Item) (ds : List Entry) : Type 0 where
    front : List Entry
    back : List Entry
    each : AllGood s xs front
    last : end ≡ Ok back
    list : front ++ back ≡ ds

  holds_is : (xs : List Item) (ds : List Entry) → ending s end xs ≡ Ok ds → Holds xs ds
  holds_is xs ds e = go (ending s end xs) (comes xs) e
    where
      go : (o : Result (List Entry) Fault) → Comes xs o → o ≡ Ok ds → Holds xs ds
      go (Err g) (fails h) e = absurd (never (ap told_kind e))
      go (Ok _) (holds cs bs h q) e = record { front = cs; back = bs; each = h; last = q; list = ap told_entries e }

-- ---- a whole text

pub text_faulty : (s : List ℕ) (f : Fault) → (directives s ≡ Err f) ↔ Faulty TwoSix s (end_of (length s) (reading s).stop) (items false (reading s).tokens) f
unfolding directives
text_faulty s f = fault_is s (end_of (length s) (reading s).stop) (items false (reading s).tokens) f

-- the end, by whether reading came to it
abbrev end_by : Cursor → Bool → Result (List Entry) Fault
end_by c early = pick early (Err (stopped c.line.0)) (Ok [])

module _ (n : ℕ) (c : Cursor) where
  pub end_good : (end_of n c ≡ Ok []) ↔ (n ≤ c.place)
  unfolding end_of
  end_good = (go (ltb c.place n) refl, λ h. rw (le-ltb c.place n h))
    where
      go : (t : Bool) → ltb c.place n ≡ t → end_by c t ≡ Ok [] → n ≤ c.place
      go true e q = absurd (never (ap told_kind q))
      go false e q = ltb-false c.place n e

  pub end_bad : (f : Fault) → (end_of n c ≡ Err f) ↔ ((c.place < n) × (f ≡ stopped c.line.0))
  unfolding end_of
  end_bad f = (go (ltb c.place n) refl, λ h. rw (lt-ltb c.place n h.0, h.1))
    where
      go : (t : Bool) → ltb c.place n ≡ t → end_by c t ≡ Err f → (c.place < n) × (f ≡ stopped c.line.0)
      go true e q = (ltb-true c.place n e, sym (ap told_fault q))
      go false e q = absurd (never (sym (ap told_kind q)))

end_none : (n : ℕ) (c : Cursor) (bs : List Entry) → end_of n c ≡ Ok bs → bs ≡ []
unfolding end_of
end_none n c bs e = go (ltb c.place n) e
  where
    go : (t : Bool) → end_by c t ≡ Ok bs → bs ≡ []
    go true e = absurd (never (ap told_kind e))
    go false e = sym (ap told_entries e)

-- number 0, 4 aside: each item is good, and reading came to the end
pub text_good : (s : List ℕ) (ds : List Entry) → (directives s ≡ Ok ds) ↔ (AllGood s (items false (reading s).tokens) ds × (end_of (length s) (reading s).stop ≡ Ok []))
unfolding directives
text_good s ds = (there, λ h. all_good s end h.0 [] h.1 ∙ ap (λ (l : List Entry). Ok l) (append-nil ds))
  where
    end : Result (List Entry) Fault
    end = end_of (length s) (reading s).stop

    xs : List Item
    xs = items false (reading s).tokens

    there : ending s end xs ≡ Ok ds → AllGood s xs ds × (end ≡ Ok [])
    there e =
        let h : Holds s end xs ds = holds_is s end xs ds e in
        let z : h.back ≡ [] = end_none (length s) (reading s).stop h.back h.last in
        (subst (AllGood s xs) (sym (append-nil h.front) ∙ ap (λ (l : List Entry). h.front ++ l) (sym z) ∙ h.list) h.each, h.last ∙ ap (λ (l : List Entry). Ok l) z)
