-- A record's own condition, by the rule of its code, is what the tests on its numbers and texts say.
use mathlib.Core.Path.{◌≡◌, ◌∙◌, refl, sym, ap, subst}
use mathlib.Core.Bool.{Bool, true, false}
use mathlib.Core.List.{List}
use Prim.Native.Nat.{ℕ, zero, suc, ◌-◌, ◌^◌, ◌≤◌, ◌<◌}
use native.Mathlib.Omega.{arith}
use borrow.Author.Tests.{lt-ltb, le-leb, lt-leb, eq-eqb, eqb-true, ltb-true, ltb-false, leb-true}
use lib.Dec.{eqb, leb, ltb}
use Rattle.ascii.specs.Choice.{pick, and, or}
use Rattle.ascii.specs.Text.{bytes}
use Rattle.ascii.specs.Classes.{white}
use Rattle.ascii.specs.Fold.{lowered, same}
use Rattle.ascii.proofs.TestLaws.{apart, both}
use Rattle.ascii.proofs.SameLaws.{same_refl}
use Rattle.names.proofs.Tests.{every, at}
use Rattle.records.specs.Codes.{transformation_code, shapes, shape_of, known_by, has_a, has_b, has_c, is_kind}
use Rattle.records.specs.declared.marking.Shape.{Shape}
use Rattle.records.specs.declared.marking.Shape.TheVariants.{NoCode as no_code, Bare as bare, One as one, Two as two, Setting as setting}
use Rattle.records.specs.Actions.{Slot, absent, present, Action, slot_text}
use Rattle.records.specs.Decoding.{stands}
use Rattle.records.proofs.ShapeLaws.{known_past}
use Rattle.single_action.specs.Actions.{worded}
use Rattle.single_action.proofs.MadeLaws.{shape_for}
use Rattle.single_action.specs.Setvar.{has_macro}
use Rattle.single_action.specs.Marks.{quotation}
use Rattle.single_action.specs.Table.{rows, Found, found, missing}
use Rattle.single_action.specs.declared.naming.Rule.{Rule}
use Rattle.spelled.specs.Spelling.{coded, has, value_in}
use Rattle.spelled.specs.Condition.{isnt, same_slot, same_action, canon, first_by, last_by, textual, name_fits, setvar_fits, texts_fit, fits_by, fits}
use Rattle.spelled.specs.Texts.{rule_in, end_text, end_of}
use Rattle.spelled.specs.Steps.{rule_for, kept, setting_kept, value_kept}

-- ---- the shape of a rule's records

abbrev shape_in : Found → Shape
shape_in (found r) = shape_for r.rule
shape_in missing = no_code

abbrev tag : Shape → ℕ
tag no_code = 0
tag bare = 1
tag one = 2
tag two = 3
tag setting = 4

abbrev untag : ℕ → Shape
untag n = pick (eqb n 1) bare (pick (eqb n 2) one (pick (eqb n 3) two (pick (eqb n 4) setting no_code)))

tag_back : (s : Shape) → untag (tag s) ≡ s
tag_back no_code = refl
tag_back bare = refl
tag_back one = refl
tag_back two = refl
tag_back setting = refl

-- a code below that of a transformation has the shape of its row's rule
abbrev shaped : ℕ → Bool
shaped k = eqb (tag (shape_of k)) (tag (shape_in (coded rows k)))

all_shaped : every shaped transformation_code ≡ true
unfolding every shape_of shapes coded rows
all_shaped = refl

below_shaped : (k : ℕ) → k < transformation_code → shape_of k ≡ shape_in (coded rows k)
below_shaped k h = sym (tag_back (shape_of k)) ∙ ap untag (eqb-true (tag (shape_of k)) (tag (shape_in (coded rows k))) (at shaped transformation_code all_shaped k h)) ∙ tag_back (shape_in (coded rows k))

-- ---- records that differ in no text

stands_none : (s : Slot) → stands false s ≡ true → same_slot s absent ≡ true
unfolding same_slot
stands_none absent e = refl
stands_none (present t) e = absurd (apart e refl)

stands_some : (s : Slot) → stands true s ≡ true → same_slot s (present (slot_text s)) ≡ true
unfolding same_slot
stands_some absent e = absurd (apart e refl)
stands_some (present t) e = same_refl t

and_true : (t : Bool) → and t true ≡ t
and_true true = refl
and_true false = refl

swapped : (n k : Bool) → and n k ≡ and k n
swapped true k = sym (and_true k)
swapped false true = refl
swapped false false = refl

none_of : (t : Bool) → and t false ≡ false
none_of true = refl
none_of false = refl

same_by : (x y : Action) → x.code ≡ y.code → same_slot x.a y.a ≡ true → same_slot x.b y.b ≡ true → same_slot x.c y.c ≡ true
    → same_action x y ≡ and (eqb x.number y.number) (eqb x.kind y.kind)
unfolding same_action
same_by x y k a b c = rw (eq-eqb x.code y.code k, a, b, c, and_true (eqb x.kind y.kind))

-- ---- by rule

abbrev pub Stands : Shape → Action → Type 0
Stands s x = (known_by s x.kind ≡ true) × ((stands (has_a s) x.a ≡ true) × ((stands (has_b s) x.b ≡ true) × (stands (has_c s x.kind) x.c ≡ true)))

-- the definition's tests, and those of the walk
abbrev said : Rule → Action → Bool
said r x = and (and (same_action x (canon r x)) (texts_fit r x)) (isnt (last_by white false (end_text r x)))

module _ (x : Action) where
  none_is : Stands bare x → (n : ℕ) → same_action x (record { code = x.code; number = n; a = absent; b = absent; kind = 0; c = absent }) ≡ and (eqb x.number n) (eqb x.kind 0)
  none_is w n = same_by x _ refl (stands_none x.a w.1.0) (stands_none x.b w.1.1.0) (stands_none x.c w.1.1.1)

  one_is : Stands one x → (n : ℕ) → same_action x (record { code = x.code; number = n; a = present (slot_text x.a); b = absent; kind = 0; c = absent }) ≡ and (eqb x.number n) (eqb x.kind 0)
  one_is w n = same_by x _ refl (stands_some x.a w.1.0) (stands_none x.b w.1.1.0) (stands_none x.c w.1.1.1)

  two_is : Stands two x → same_action x (record { code = x.code; number = 0; a = present (slot_text x.a); b = present (slot_text x.b); kind = 0; c = absent }) ≡ and (eqb x.number 0) (eqb x.kind 0)
  two_is w = same_by x _ refl (stands_some x.a w.1.0) (stands_some x.b w.1.1.0) (stands_none x.c w.1.1.1)

  plain_said : Stands bare x → said Rule.Plain x ≡ kept Rule.Plain x
  unfolding canon texts_fit last_by kept
  plain_said w = rw (none_is w 0) (go (eqb x.number 0) (eqb x.kind 0))
    where
      go : (n k : Bool) → and (and (and n k) true) true ≡ and k n
      go true true = refl
      go true false = refl
      go false true = refl
      go false false = refl

  wanted_said : Stands one x → said Rule.Wanted x ≡ kept Rule.Wanted x
  unfolding canon texts_fit kept
  wanted_said w = rw (one_is w 0) (go (eqb x.number 0) (eqb x.kind 0) (isnt (last_by white false (slot_text x.a))))
    where
      go : (n k e : Bool) → and (and (and n k) true) e ≡ and (and k n) e
      go true true e = refl
      go true false e = refl
      go false true e = refl
      go false false e = refl

  unmarked_said : Stands one x → said Rule.Unmarked x ≡ kept Rule.Unmarked x
  unfolding canon texts_fit last_by kept
  unmarked_said w = rw (one_is w 0) (go (eqb x.number 0) (eqb x.kind 0) (first_by quotation (slot_text x.a)) (last_by quotation false (slot_text x.a)))
    where
      go : (n k f l : Bool) → and (and (and n k) (and (isnt f) (isnt l))) true ≡ and (and k n) (isnt (or f l))
      go true true true l = refl
      go true true false true = refl
      go true true false false = refl
      go true false f l = refl
      go false true f l = refl
      go false false f l = refl

  numbered_said : Stands bare x → (m : ℕ) → and (and (same_action x (record { code = x.code; number = x.number; a = absent; b = absent; kind = 0; c = absent })) (leb x.number m)) true ≡ and (eqb x.kind 0) (leb x.number m)
  numbered_said w m = rw (none_is w x.number, eq-eqb x.number x.number refl) (and_true (and (eqb x.kind 0) (leb x.number m)))

  equation_said : Stands two x → said Rule.Equation x ≡ kept Rule.Equation x
  unfolding canon texts_fit kept
  equation_said w = rw (two_is w) (go (eqb x.number 0) (eqb x.kind 0) (isnt (has 61 (slot_text x.a))) (isnt (last_by white false (slot_text x.b))))
    where
      go : (n k h e : Bool) → and (and (and n k) h) e ≡ and h (and (and k n) e)
      go n k true e = rw (and_true (and n k)) (ap (λ (t : Bool). and t e) (swapped n k))
      go n k false e = rw (none_of (and n k))

  expiry_said : Stands one x → x.number < 2 ^ 64 → said Rule.Expiry x ≡ kept Rule.Expiry x
  unfolding canon texts_fit last_by kept
  expiry_said w h = rw (one_is w x.number, eq-eqb x.number x.number refl, le-leb x.number 18446744073709551615 (omega (arith, h))) (go (eqb x.kind 0) (isnt (has 61 (slot_text x.a))))
    where
      go : (k t : Bool) → and (and k (and t true)) true ≡ and k t
      go true true = refl
      go true false = refl
      go false t = refl

-- ---- a setvar, by its kind

-- the tests in the order of the definition and of the walk: of number, collection, name and value
regrouped : (n d l m v : Bool) → and (and n (and (and d l) (and m v))) true ≡ and d (and l (and m (and n v)))
regrouped true true true true true = refl
regrouped true true true true false = refl
regrouped true true true false v = refl
regrouped true true false m v = refl
regrouped true false l m v = refl
regrouped false true true true v = refl
regrouped false true true false v = refl
regrouped false true false m v = refl
regrouped false false l m v = refl

-- and where neither name nor value is asked
deleted : (n d l : Bool) → and (and n (and (and d l) true)) true ≡ and d (and l n)
deleted true true true = refl
deleted true true false = refl
deleted true false l = refl
deleted false true true = refl
deleted false true false = refl
deleted false false l = refl

kind_most : (k : ℕ) → is_kind k ≡ true → k ≤ 6
kind_most k e = leb-true k 6 (both (leb 1 k) (leb k 6) e).1

half : (n : ℕ) → ltb n (2 ^ 63) ≡ leb n (2 ^ 63 - 1)
half n = go (ltb n (2 ^ 63)) refl
  where
    go : (t : Bool) → ltb n (2 ^ 63) ≡ t → t ≡ leb n (2 ^ 63 - 1)
    go true e = sym (le-leb n (2 ^ 63 - 1) (omega (arith, ltb-true n (2 ^ 63) e)))
    go false e = sym (lt-leb n (2 ^ 63 - 1) (omega (arith, ltb-false n (2 ^ 63) e)))

abbrev set : ℕ → ℕ → Slot → Slot → Slot → ℕ → Action
set code n a b c k = record { code = code; number = n; a = a; b = b; kind = k; c = c }

module _ (code n : ℕ) (a b c : Slot) (h : n < 2 ^ 64) where
  abbrev A : List ℕ
  A = slot_text a

  abbrev B : List ℕ
  B = slot_text b

  abbrev dotless : Bool
  dotless = isnt (has 46 A)

  abbrev small : Bool
  small = same (lowered A) A

  abbrev named : Bool
  named = name_fits A B

  set_is : (k m l : ℕ) (s : Slot) → stands true a ≡ true → stands true b ≡ true → same_slot c s ≡ true
      → same_action (set code n a b c k) (set code m (present A) (present B) s l) ≡ and (eqb n m) (eqb k l)
  set_is k m l s p q r = same_by (set code n a b c k) (set code m (present A) (present B) s l) refl (stands_some a p) (stands_some b q) r

  setting_said : (k : ℕ) → Stands setting (set code n a b c k) → said Rule.Setting (set code n a b c k) ≡ kept Rule.Setting (set code n a b c k)
  unfolding canon texts_fit last_by kept setting_kept value_kept setvar_fits value_in
  setting_said zero w = absurd (apart w.0 refl)
  setting_said (suc zero) w =
      rw (set_is 1 0 1 (present (slot_text c)) w.1.0 w.1.1.0 (stands_some c w.1.1.1), and_true (eqb n 0)) (regrouped (eqb n 0) dotless small named (or (same (slot_text c) (bytes "1")) (textual (slot_text c))))
  setting_said (suc (suc zero)) w =
      rw (set_is 2 n 2 absent w.1.0 w.1.1.0 (stands_none c w.1.1.1), eq-eqb n n refl, half n) (regrouped true dotless small named (leb n (2 ^ 63 - 1)))
  setting_said (suc (suc (suc zero))) w =
      rw (set_is 3 n 3 absent w.1.0 w.1.1.0 (stands_none c w.1.1.1), eq-eqb n n refl, lt-ltb n (2 ^ 64) h) (regrouped true dotless small named true)
  setting_said (suc (suc (suc (suc zero)))) w =
      rw (set_is 4 n 4 absent w.1.0 w.1.1.0 (stands_none c w.1.1.1), eq-eqb n n refl, lt-ltb n (2 ^ 64) h) (regrouped true dotless small named true)
  setting_said (suc (suc (suc (suc (suc zero))))) w =
      rw (set_is 5 0 5 absent w.1.0 w.1.1.0 (stands_none c w.1.1.1), and_true (eqb n 0)) (deleted (eqb n 0) dotless small)
  setting_said (suc (suc (suc (suc (suc (suc zero)))))) w =
      rw (set_is 6 0 6 (present (slot_text c)) w.1.0 w.1.1.0 (stands_some c w.1.1.1), and_true (eqb n 0)) (regrouped (eqb n 0) dotless small named (has_macro (slot_text c)))
  setting_said (suc (suc (suc (suc (suc (suc (suc k))))))) w = absurd (omega (arith, kind_most (suc (suc (suc (suc (suc (suc (suc k))))))) w.0))

-- ---- any record

module _ (x : Action) (h : x.number < 2 ^ 64) where
  by_rule : (r : Rule) → Stands (shape_for r) x → said r x ≡ kept r x
  unfolding canon texts_fit last_by kept
  by_rule Rule.Plain w = plain_said x w
  by_rule Rule.Wanted w = wanted_said x w
  by_rule Rule.Unmarked w = unmarked_said x w
  by_rule (Rule.UpTo most) w = numbered_said x w most
  by_rule Rule.Severity w = numbered_said x w 255
  by_rule Rule.Equation w = equation_said x w
  by_rule Rule.Expiry w = expiry_said x w h
  by_rule Rule.Setting w = setting_said x.code x.number x.a x.b x.c h x.kind w

  by_found : (f : Found) → Stands (shape_in f) x → and (fits_by f x) (isnt (last_by white false (end_text (rule_in f) x))) ≡ kept (rule_in f) x
  by_found (found r) w = by_rule r.rule w
  by_found missing w = absurd (apart w.0 refl)

  transforming : x.code ≡ transformation_code → Stands (shape_of x.code) x
      → and (same_action x (worded transformation_code (slot_text x.a))) (isnt (last_by white false (slot_text x.a))) ≡ kept Rule.Wanted x
  unfolding shape_of shapes canon texts_fit
  transforming e w =
      let v : Stands one x = subst (λ (k : ℕ). Stands (shape_of k) x) e w in
      ap (λ (k : ℕ). and (same_action x (worded k (slot_text x.a))) (isnt (last_by white false (slot_text x.a)))) (sym e)
      ∙ ap (λ (t : Bool). and t (isnt (last_by white false (slot_text x.a)))) (sym (and_true (same_action x (worded x.code (slot_text x.a)))))
      ∙ wanted_said x v

  known_below : known_by (shape_of x.code) x.kind ≡ true → eqb x.code transformation_code ≡ false → x.code < transformation_code
  known_below e f = go (ltb x.code transformation_code) refl (ltb transformation_code x.code) refl
    where
      go : (t : Bool) → ltb x.code transformation_code ≡ t → (u : Bool) → ltb transformation_code x.code ≡ u → x.code < transformation_code
      go true p u q = ltb-true x.code transformation_code p
      go false p true q = absurd (apart e (known_past x.code x.kind (ltb-true transformation_code x.code q)))
      go false p false q = absurd (apart (eq-eqb x.code transformation_code (omega (arith, ltb-false x.code transformation_code p, ltb-false transformation_code x.code q))) f)

  kept_by : Stands (shape_of x.code) x → and (fits x) (isnt (last_by white false (end_of x))) ≡ kept (rule_for x.code) x
  unfolding fits rule_for
  kept_by w = go (eqb x.code transformation_code) refl
    where
      go : (t : Bool) → eqb x.code transformation_code ≡ t
          → and (pick t (same_action x (worded transformation_code (slot_text x.a))) (fits_by (coded rows x.code) x)) (isnt (last_by white false (pick t (slot_text x.a) (end_text (rule_in (coded rows x.code)) x))))
          ≡ kept (pick t Rule.Wanted (rule_in (coded rows x.code))) x
      go true e = transforming (eqb-true x.code transformation_code e) w
      go false e = by_found (coded rows x.code) (subst (λ (s : Shape). Stands s x) (below_shaped x.code (known_below w.0 e)) w)

  -- its shape is that of its rule
  pub stands_by : Stands (shape_of x.code) x → Stands (shape_for (rule_for x.code)) x
  unfolding rule_for shape_of shapes
  stands_by w = go (eqb x.code transformation_code) refl
    where
      row_stands : (f : Found) → Stands (shape_in f) x → Stands (shape_for (rule_in f)) x
      row_stands (found r) v = v
      row_stands missing v = absurd (apart v.0 refl)

      go : (t : Bool) → eqb x.code transformation_code ≡ t → Stands (shape_for (pick t Rule.Wanted (rule_in (coded rows x.code)))) x
      go true e = subst (λ (k : ℕ). Stands (shape_of k) x) (eqb-true x.code transformation_code e) w
      go false e = row_stands (coded rows x.code) (subst (λ (s : Shape). Stands s x) (below_shaped x.code (known_below w.0 e)) w)

pub kept_is : (x : Action) → known_by (shape_of x.code) x.kind ≡ true → stands (has_a (shape_of x.code)) x.a ≡ true → stands (has_b (shape_of x.code)) x.b ≡ true → stands (has_c (shape_of x.code) x.kind) x.c ≡ true → x.number < 2 ^ 64
    → and (fits x) (isnt (last_by white false (end_of x))) ≡ kept (rule_for x.code) x
kept_is x known a b c h = kept_by x h (known, (a, (b, c)))
