-- Bytes counted by a test: a spelling has no more than the texts that it is made of, where names, numbers, marks and signs do not pass it.
use mathlib.Core.Path.{◌≡◌, ◌∙◌, refl, ap}
use mathlib.Core.Bool.{Bool, true, false}
use mathlib.Core.List.{List, [], ◌∷◌, ◌++◌}
use mathlib.Core.Logic.{⊎_elim}
use Prim.Native.Nat.{ℕ, ◌+◌, ◌^◌, ◌≤◌, ◌-◌}
use native.Mathlib.Omega.{arith}
use lib.Dec.{eqb, ltb}
use Rattle.ascii.specs.Choice.{pick}
use Rattle.ascii.specs.Text.{bytes}
use Rattle.ascii.specs.Fold.{same}
use Rattle.ascii.specs.Numbers.{all_digits}
use Rattle.ascii.proofs.NumberLaws.{digit_bounds}
use Rattle.records.specs.Codes.{transformation_code}
use Rattle.records.specs.Actions.{Action, slot_text, action_text}
use Rattle.single_action.specs.Setvar.{SetValue, text, int, increment, decrement, delete, macro, Setvar}
use Rattle.single_action.specs.declared.naming.Rule.{Rule}
use Rattle.single_action.specs.declared.naming.Rule.TheVariants.{Plain as plain, Wanted as wanted, Unmarked as unmarked, UpTo as up_to, Severity as severity, Equation as equation, Expiry as expiry, Setting as setting}
use Rattle.single_action.specs.Table.{rows}
use Rattle.single_action.specs.Actions.{text_of}
use Rattle.listing.specs.Json.{decimal}
use Rattle.spelled.specs.Spelling.{has, between, marked, signed, value_in, setvar_in, bang, tail, setvar_text, argument, spell, coded}
use Rattle.spelled.specs.Texts.{rule_in, walk_of}
use Rattle.spelled.proofs.DecimalLaws.{digits_cons, decimal_digits}
use Rattle.spelled.proofs.SetvarLaws.{value_text}
use Rattle.spelled.proofs.PassLaws.{Passes, past_spelling}
use Rattle.spelled.proofs.CountLaws.{count, Tidy, nil_count, count_append, skip, texts_count}

module _ (test : ℕ → Bool) (T : Tidy test) where
  dash : test 45 ≡ false
  dash = T.solid 45 (omega arith) (omega arith)

  dot : test 46 ≡ false
  dot = T.solid 46 (omega arith) (omega arith)

  equals : test 61 ≡ false
  equals = T.solid 61 (omega arith) (omega arith)

  digits_count : (s : List ℕ) → all_digits s ≡ true → count test s ≡ 0
  unfolding count
  digits_count [] d = refl
  digits_count (b ∷ r) d =
      let p = digits_cons b r d in
      let g = digit_bounds b p.0 in
      skip test b r (T.solid b (omega (arith, g.0)) (omega (arith, g.1))) ∙ digits_count r p.1

  decimal_count : (n : ℕ) → count test (decimal n) ≡ 0
  decimal_count n = digits_count (decimal n) (decimal_digits n)

  signed_count : (n : ℕ) → count test (signed n) ≡ 0
  unfolding signed
  signed_count n = go (ltb n (2 ^ 63))
    where
      go : (t : Bool) → count test (pick t (decimal n) (45 ∷ decimal (2 ^ 64 - n))) ≡ 0
      go true = decimal_count n
      go false = skip test 45 (decimal (2 ^ 64 - n)) dash ∙ decimal_count (2 ^ 64 - n)

  marked_count : (t : List ℕ) → count test (marked t) ≡ count test t
  unfolding marked
  marked_count t = go (has 39 t)
    where
      go : (h : Bool) → count test (between (pick h 34 39) t) ≡ count test t
      go true = omega (arith, skip test 34 (t ++ (34 ∷ [])) T.double, count_append test t (34 ∷ []), skip test 34 [] T.double, nil_count test)
      go false = omega (arith, skip test 39 (t ++ (39 ∷ [])) T.single, count_append test t (39 ∷ []), skip test 39 [] T.single, nil_count test)

  bang_count : (v : SetValue) (s : List ℕ) → count test (bang v ++ s) ≡ count test s
  bang_count (text t) s = refl
  bang_count (int n) s = refl
  bang_count (increment n) s = refl
  bang_count (decrement n) s = refl
  bang_count delete s = skip test 33 s T.bang
  bang_count (macro t) s = refl

  tail_count : (v : SetValue) → count test (tail v) ≤ count test (slot_text (text_of v))
  tail_count (text t) = go (same t (bytes "1"))
    where
      go : (b : Bool) → count test (pick b [] (61 ∷ t)) ≤ count test t
      go true = omega (arith, nil_count test)
      go false = omega (arith, skip test 61 t equals)
  tail_count (int n) = omega (arith, skip test 61 (decimal n) equals, decimal_count n)
  tail_count (increment n) = omega (arith, skip test 61 (43 ∷ signed n) equals, skip test 43 (signed n) T.plus, signed_count n)
  tail_count (decrement n) = omega (arith, skip test 61 (45 ∷ signed n) equals, skip test 45 (signed n) dash, signed_count n)
  tail_count delete = omega arith
  tail_count (macro t) = omega (arith, skip test 61 t equals)

  value_in_count : (k n : ℕ) (t : List ℕ) → count test (slot_text (text_of (value_in k n t))) ≤ count test t
  value_in_count k n t = ⊎_elim (λ e. omega (arith, ap (count test) e)) (λ e. omega (arith, ap (count test) e, nil_count test)) (value_text k n t)

  setvar_text_count : (v : Setvar) → count test (setvar_text v) ≤ count test v.name.collection + count test v.name.key + count test (slot_text (text_of v.value))
  unfolding setvar_text
  setvar_text_count v =
      let c = v.name.collection in
      let k = v.name.key in
      let w = tail v.value in
      omega (arith, bang_count v.value (c ++ (46 ∷ (k ++ w))), count_append test c (46 ∷ (k ++ w)), skip test 46 (k ++ w) dot, count_append test k w, tail_count v.value)

  argument_count : (u : Rule) (x : Action) → count test (slot_text (argument u x)) ≤ count test (action_text x)
  unfolding argument
  argument_count plain x = omega (arith, nil_count test)
  argument_count wanted x = omega (arith, texts_count test x)
  argument_count unmarked x = omega (arith, texts_count test x, marked_count (slot_text x.a))
  argument_count (up_to most) x = omega (arith, decimal_count x.number)
  argument_count severity x = omega (arith, decimal_count x.number)
  argument_count equation x = omega (arith, texts_count test x, count_append test (slot_text x.a) (61 ∷ slot_text x.b), skip test 61 (slot_text x.b) equals)
  argument_count expiry x =
      omega (arith, texts_count test x, count_append test (slot_text x.a) (61 ∷ decimal x.number), skip test 61 (decimal x.number) equals, decimal_count x.number)
  argument_count setting x =
      omega (arith, texts_count test x, marked_count (setvar_text (setvar_in x)), setvar_text_count (setvar_in x), value_in_count x.kind x.number (slot_text x.c))

  walk_count : (x : Action) → count test (walk_of x) ≤ count test (action_text x)
  walk_count x = go (eqb x.code transformation_code) (rule_in (coded rows x.code))
    where
      go : (t : Bool) (u : Rule) → count test (pick t (slot_text x.a) (slot_text (argument u x))) ≤ count test (action_text x)
      go true u = omega (arith, texts_count test x)
      go false u = argument_count u x

  passes : Passes (count test)
  passes b s l h n = skip test b s (T.solid b (omega (arith, l)) (omega (arith, h)))

  -- an action has no fewer than its spelling
  pub spell_count : (x : Action) → count test (spell x) ≤ count test (action_text x)
  spell_count x = omega (arith, past_spelling (count test) passes x, walk_count x)
