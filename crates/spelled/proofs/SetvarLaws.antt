-- A setvar that fits is read back from its spelling.
use Rattle.ascii.specs.declared.numbers.NumberError.TheVariants.{Unreadable, TooLarge}
use Rattle.ascii.specs.declared.numbers.NumberError.{NumberError}
use Rattle.std.specs.Prelude.{Result, Ok, Err}
use mathlib.Core.Path.{◌≡◌, ◌∙◌, refl, sym, ap}
use mathlib.Core.Bool.{Bool, true, false}
use mathlib.Core.List.{List, [], ◌∷◌, ◌++◌, append-nil, append_assoc}
use mathlib.Core.Logic.{◌⊎◌, inl, inr}
use Prim.Native.Nat.{ℕ, ◌^◌, ◌<◌, ◌-◌}
use native.Mathlib.Omega.{arith}
use lib.Dec.{eqb, ltb}
use borrow.Author.Tests.{ltb-true, ne_eqb}
use Rattle.ascii.specs.Choice.{pick, and, or}
use Rattle.ascii.specs.Text.{bytes}
use Rattle.ascii.specs.Fold.{lowered, same}
use Rattle.ascii.specs.Splits.{leads}
use Rattle.ascii.specs.Numbers.{all_digits, signed_word}
use Rattle.ascii.proofs.NumberLaws.{digit_bounds, in_bound}
use Rattle.ascii.proofs.SameLaws.{same_true}
use Rattle.ascii.proofs.TestLaws.{apart, both}
use Rattle.records.specs.Codes.{string_kind, int_kind, increment_kind, decrement_kind, macro_kind}
use Rattle.records.specs.Actions.{slot_text}
use Rattle.single_action.specs.Actions.{text_of}
use Rattle.single_action.specs.Setvar.{SetValue, text, int, increment, decrement, delete, macro, VarName, var_name, Setvar, setvar_of, name_of, has_macro, amount, number_or, plain_value, value_of, setvar_bare, setvar}
use Rattle.listing.specs.Json.{decimal}
use Rattle.spelled.specs.Spelling.{has, marked, signed, value_in, bang, tail, setvar_text}
use Rattle.spelled.specs.Condition.{isnt, unread, textual, value_fits, name_fits, named_fits, setvar_fits}
use Rattle.spelled.proofs.TestLaws.{denied}
use Rattle.spelled.proofs.DecimalLaws.{digits_cons, decimal_digits, decimal_signed, signed_read}
use Rattle.spelled.proofs.TextLaws.{split_back, split_none, has_append, mark_is, trimmed_between, unpaired_between}

-- ---- the name

pub name_back : (c k : List ℕ) → has 46 c ≡ false → same (lowered c) c ≡ true → name_of (c ++ (46 ∷ k)) ≡ var_name c k
unfolding name_of
name_back c k h l = rw (split_back 46 c k h, same_true (lowered c) c l)

leads_append : (m : ℕ) (c : List ℕ) (b : ℕ) (r : List ℕ) → leads m c ≡ false → eqb b m ≡ false → leads m (c ++ (b ∷ r)) ≡ false
leads_append m [] b r h k = k
leads_append m (x ∷ c) b r h k = h

-- ---- the value

digits_lead : (m : ℕ) (s : List ℕ) → m < 48 → all_digits s ≡ true → leads m s ≡ false
digits_lead m [] h d = refl
digits_lead m (b ∷ r) h d = let g = digit_bounds b (digits_cons b r d).0 in ne_eqb b m (λ e. omega (arith, e, g.0))

digits_macro : (s : List ℕ) → all_digits s ≡ true → has_macro s ≡ false
unfolding has_macro
digits_macro [] d = refl
digits_macro (b ∷ r) d =
    let p = digits_cons b r d in
    let g = digit_bounds b p.0 in
    rw (ne_eqb b 37 (λ e. omega (arith, e, g.0)), digits_macro r p.1)

signed_macro : (n : ℕ) → has_macro (signed n) ≡ false
unfolding signed has_macro
signed_macro n = go (ltb n (2 ^ 63))
  where
    go : (t : Bool) → has_macro (pick t (decimal n) (45 ∷ decimal (2 ^ 64 - n))) ≡ false
    go true = digits_macro (decimal n) (decimal_digits n)
    go false = digits_macro (decimal (2 ^ 64 - n)) (decimal_digits (2 ^ 64 - n))

pub text_back : (t : List ℕ) → textual t ≡ true → value_of t ≡ text t
unfolding textual value_of plain_value
text_back t h =
    let p = both (isnt (has_macro t)) (and (isnt (leads 43 t)) (and (isnt (leads 45 t)) (unread (signed_word t)))) h in
    let q = both (isnt (leads 43 t)) (and (isnt (leads 45 t)) (unread (signed_word t))) p.1 in
    let r = both (isnt (leads 45 t)) (unread (signed_word t)) q.1 in
    rw (denied (has_macro t) p.0, denied (leads 43 t) q.0, denied (leads 45 t) r.0) (go (signed_word t) r.1)
  where
    go : (n : Result ℕ NumberError) → unread n ≡ true → number_or t n ≡ text t
    go (Ok n) e = absurd (apart e refl)
    go (Err Unreadable) e = refl
    go (Err TooLarge) e = refl

pub int_back : (n : ℕ) → n < 2 ^ 63 → value_of (decimal n) ≡ int n
unfolding value_of plain_value
int_back n h =
    let d = decimal_digits n in
    rw (digits_macro (decimal n) d, digits_lead 43 (decimal n) (omega arith) d, digits_lead 45 (decimal n) (omega arith) d)
    (ap (number_or (decimal n)) (decimal_signed n (omega arith) ∙ in_bound (2 ^ 63 - 1) n (omega arith)))

pub increment_back : (n : ℕ) → n < 2 ^ 64 → value_of (43 ∷ signed n) ≡ increment n
unfolding value_of plain_value has_macro
increment_back n h = rw (signed_macro n) (ap (λ (m : Result ℕ NumberError). increment (amount m)) (signed_read n h))

pub decrement_back : (n : ℕ) → n < 2 ^ 64 → value_of (45 ∷ signed n) ≡ decrement n
unfolding value_of plain_value has_macro
decrement_back n h = rw (signed_macro n) (ap (λ (m : Result ℕ NumberError). decrement (amount m)) (signed_read n h))

pub macro_back : (t : List ℕ) → has_macro t ≡ true → value_of t ≡ macro t
unfolding value_of
macro_back t h = rw h

-- ---- the whole

module _ (c k : List ℕ) (dot : has 46 c ≡ false) (small : same (lowered c) c ≡ true) where
  delete_back : setvar_bare (33 ∷ (c ++ (46 ∷ (k ++ [])))) ≡ setvar_of (var_name c k) delete
  unfolding setvar_bare
  delete_back = rw append-nil (ap (λ (n : VarName). setvar_of n delete) (name_back c k dot small))

  module _ (named : name_fits c k ≡ true) where
    no_bang : (w : List ℕ) → leads 33 (c ++ (46 ∷ w)) ≡ false
    unfolding name_fits
    no_bang w =
        let p = both (isnt (leads 33 c)) (and (isnt (has 61 c)) (isnt (has 61 k))) named in
        leads_append 33 c 46 w (denied (leads 33 c) p.0) refl

    no_equals : has 61 (c ++ (46 ∷ k)) ≡ false
    unfolding name_fits has
    no_equals =
        let p = both (isnt (leads 33 c)) (and (isnt (has 61 c)) (isnt (has 61 k))) named in
        let q = both (isnt (has 61 c)) (isnt (has 61 k)) p.1 in
        has_append 61 c (46 ∷ k) (denied (has 61 c) q.0) (denied (has 61 k) q.1)

    plain_back : setvar_bare (c ++ (46 ∷ (k ++ []))) ≡ setvar_of (var_name c k) (text (bytes "1"))
    unfolding setvar_bare
    plain_back =
        rw (append-nil k, no_bang k, split_none 61 (c ++ (46 ∷ k)) no_equals)
        (ap (λ (n : VarName). setvar_of n (text (bytes "1"))) (name_back c k dot small))

    value_back : (w : List ℕ) (v : SetValue) → value_of w ≡ v → setvar_bare (c ++ (46 ∷ (k ++ (61 ∷ w)))) ≡ setvar_of (var_name c k) v
    unfolding setvar_bare
    value_back w v e =
        rw (no_bang (k ++ (61 ∷ w)), ← append_assoc c (46 ∷ k) (61 ∷ w), split_back 61 (c ++ (46 ∷ k)) w no_equals, name_back c k dot small, e)

bare_back : (c k : List ℕ) → has 46 c ≡ false → same (lowered c) c ≡ true → (v : SetValue) → named_fits v c k ≡ true → value_fits v ≡ true
    → setvar_bare (bang v ++ (c ++ (46 ∷ (k ++ tail v)))) ≡ setvar_of (var_name c k) v
bare_back c k d s (text t) h f = go (same t (bytes "1")) refl f
  where
    go : (b : Bool) → same t (bytes "1") ≡ b → or b (textual t) ≡ true
        → setvar_bare (c ++ (46 ∷ (k ++ pick b [] (61 ∷ t)))) ≡ setvar_of (var_name c k) (text t)
    go true e f = plain_back c k d s h ∙ ap (λ (l : List ℕ). setvar_of (var_name c k) (text l)) (sym (same_true t (bytes "1") e))
    go false e f = value_back c k d s h t (text t) (text_back t f)
bare_back c k d s (int n) h f = value_back c k d s h (decimal n) (int n) (int_back n (ltb-true n (2 ^ 63) f))
bare_back c k d s (increment n) h f = value_back c k d s h (43 ∷ signed n) (increment n) (increment_back n (ltb-true n (2 ^ 64) f))
bare_back c k d s (decrement n) h f = value_back c k d s h (45 ∷ signed n) (decrement n) (decrement_back n (ltb-true n (2 ^ 64) f))
bare_back c k d s delete h f = delete_back c k d s
bare_back c k d s (macro t) h f = value_back c k d s h t (macro t) (macro_back t f)

-- in marks, nothing is asked of the text
pub setvar_marked : (s : List ℕ) → setvar (marked s) ≡ setvar_bare s
unfolding setvar marked
setvar_marked s =
    let m : ℕ = pick (has 39 s) 34 39 in
    rw (trimmed_between m s (mark_is (has 39 s)), unpaired_between m s (mark_is (has 39 s)))

pub setvar_back : (v : Setvar) → setvar_fits v ≡ true → setvar (marked (setvar_text v)) ≡ v
unfolding setvar_text setvar_fits
setvar_back v h =
    let c = v.name.collection in
    let p = both (and (isnt (has 46 c)) (same (lowered c) c)) (and (named_fits v.value c v.name.key) (value_fits v.value)) h in
    let q = both (isnt (has 46 c)) (same (lowered c) c) p.0 in
    let r = both (named_fits v.value c v.name.key) (value_fits v.value) p.1 in
    setvar_marked (bang v.value ++ (c ++ (46 ∷ (v.name.key ++ tail v.value))))
    ∙ bare_back c v.name.key (denied (has 46 c) q.0) q.1 v.value r.0 r.1

-- the text of the value that a record stands for is the record's, or none
pub value_text : (k n : ℕ) (t : List ℕ) → (slot_text (text_of (value_in k n t)) ≡ t) ⊎ (slot_text (text_of (value_in k n t)) ≡ [])
unfolding value_in
value_text k n t = go (eqb k string_kind) (eqb k int_kind) (eqb k increment_kind) (eqb k decrement_kind) (eqb k macro_kind)
  where
    in_order : Bool → Bool → Bool → Bool → Bool → List ℕ
    in_order a b c d e = slot_text (text_of (pick a (text t) (pick b (int n) (pick c (increment n) (pick d (decrement n) (pick e (macro t) delete))))))

    go : (a b c d e : Bool) → (in_order a b c d e ≡ t) ⊎ (in_order a b c d e ≡ [])
    go true b c d e = inl refl
    go false true c d e = inr refl
    go false false true d e = inr refl
    go false false false true e = inr refl
    go false false false false true = inl refl
    go false false false false false = inr refl
