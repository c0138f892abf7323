-- Bytes counted by a test: texts that are read have no more than the piece that they are read from.
use Rattle.ascii.specs.declared.numbers.NumberError.TheVariants.{Unreadable, TooLarge}
use Rattle.ascii.specs.declared.numbers.NumberError.{NumberError}
use Rattle.std.specs.Prelude.{Result, Ok, Err}
use mathlib.Core.Path.{◌≡◌, ◌∙◌, refl, sym, subst}
use mathlib.Core.Bool.{Bool, true, false}
use mathlib.Core.List.{List, [], ◌∷◌}
use Prim.Native.Nat.{ℕ, ◌+◌, ◌≤◌}
use native.Mathlib.Omega.{arith}
use lib.ListN.{drop}
use Rattle.ascii.specs.Choice.{pick}
use Rattle.ascii.specs.Text.{bytes}
use Rattle.ascii.specs.Classes.{white, within}
use Rattle.ascii.specs.Fold.{lower, lowered}
use Rattle.ascii.specs.Trim.{trim_ends}
use Rattle.ascii.specs.Splits.{Split, whole, halves, split, leads}
use Rattle.ascii.specs.Numbers.{unsigned_by, signed_word}
use Rattle.ascii.proofs.ByteLaws.{bounds}
use Rattle.records.specs.Codes.{transformation_code}
use Rattle.records.specs.Actions.{Slot, absent, present, Action, slot_text, action_text}
use Rattle.single_action.specs.Marks.{quotation, stripped, unpaired}
use Rattle.single_action.specs.Setvar.{increment, decrement, delete, macro, VarName, Setvar, setvar_of, name_by, name_of, has_macro, amount, number_or, plain_value, value_of, assigned, setvar_bare, setvar}
use Rattle.single_action.specs.declared.naming.Rule.{Rule}
use Rattle.single_action.specs.declared.naming.Rule.TheVariants.{Plain as plain, Wanted as wanted, Unmarked as unmarked, UpTo as up_to, Severity as severity, Equation as equation, Expiry as expiry, Setting as setting}
use Rattle.single_action.specs.Table.{Row, rows, Found, found, missing, find}
use Rattle.single_action.specs.Actions.{action, numbered, worded, Single, done, bad, unknown, text_of, setvar_action, number_by, severity_number, both_by, expiry_by, seconds, with_text, with_none, found_by, named, split_by, transforms, single}
use Rattle.spelled.proofs.CountLaws.{count, Tidy, nil_count, count_drop, skip, ends_count, unpaired_count, split_count, split_count_lem, texts_count}

-- the texts of what a piece comes to
abbrev pub texts_in : Single → List ℕ
texts_in (done x) = action_text x
texts_in (bad flaw n) = []
texts_in (unknown n) = []

module _ (test : ℕ → Bool) (T : Tidy test) where
  lower_count : (b : ℕ) → test (lower b) ≡ test b
  unfolding lower
  lower_count b = go (within 65 90 b) refl
    where
      go : (t : Bool) → within 65 90 b ≡ t → test (pick t (b + 32) b) ≡ test b
      go true e =
          let g = bounds 65 90 b e in
          T.solid (b + 32) (omega (arith, g.0)) (omega (arith, g.1)) ∙ sym (T.solid b (omega (arith, g.0)) (omega (arith, g.1)))
      go false e = refl

  lowered_count : (s : List ℕ) → count test (lowered s) ≡ count test s
  unfolding count
  lowered_count [] = refl
  lowered_count (b ∷ r) = rw (lower_count b, lowered_count r)

  abbrev name_count : VarName → ℕ
  name_count n = count test n.collection + count test n.key

  tx_count : count test (bytes "tx") ≡ 0
  unfolding bytes
  tx_count = skip test 116 (120 ∷ []) (T.solid 116 (omega arith) (omega arith)) ∙ skip test 120 [] (T.solid 120 (omega arith) (omega arith)) ∙ nil_count test

  one_count : count test (bytes "1") ≡ 0
  unfolding bytes
  one_count = skip test 49 [] (T.solid 49 (omega arith) (omega arith)) ∙ nil_count test

  name_count_lem : (s : List ℕ) → name_count (name_of s) ≤ count test s
  unfolding name_of
  name_count_lem s = go (split 46 s) (split_count_lem test 46 s)
    where
      go : (x : Split) → split_count test x ≤ count test s → name_count (name_by x) ≤ count test s
      go (whole k) h = omega (arith, tx_count)
      go (halves c k) h = omega (arith, lowered_count c)

  value_count : (s : List ℕ) → count test (slot_text (text_of (value_of s))) ≤ count test s
  unfolding value_of plain_value
  value_count s = go (has_macro s) (leads 43 s) (leads 45 s) (signed_word s)
    where
      number : (n : Result ℕ NumberError) → count test (slot_text (text_of (number_or s n))) ≤ count test s
      number (Ok v) = omega (arith, nil_count test)
      number (Err Unreadable) = omega arith
      number (Err TooLarge) = omega arith

      go : (t u v : Bool) (n : Result ℕ NumberError)
          → count test (slot_text (text_of (pick t (macro s) (pick u (increment (amount (signed_word (drop 1 s)))) (pick v (decrement (amount (signed_word (drop 1 s)))) (number_or s n)))))) ≤ count test s
      go true u v n = omega arith
      go false true v n = omega (arith, nil_count test)
      go false false true n = omega (arith, nil_count test)
      go false false false n = number n

  abbrev set_count : Setvar → ℕ
  set_count v = name_count v.name + count test (slot_text (text_of v.value))

  bare_count : (s : List ℕ) → set_count (setvar_bare s) ≤ count test s
  unfolding setvar_bare
  bare_count s = go (leads 33 s) (split 61 s) (split_count_lem test 61 s)
    where
      go : (t : Bool) (x : Split) → split_count test x ≤ count test s → set_count (pick t (setvar_of (name_of (drop 1 s)) delete) (assigned x)) ≤ count test s
      go true x h = omega (arith, nil_count test, name_count_lem (drop 1 s), count_drop test 1 s)
      go false (whole n) h = omega (arith, one_count, name_count_lem n)
      go false (halves n v) h = omega (arith, name_count_lem n, value_count v)

  setvar_count : (s : List ℕ) → set_count (setvar s) ≤ count test s
  unfolding setvar
  setvar_count s = omega (arith, bare_count (unpaired (trim_ends s)), unpaired_count test (trim_ends s), ends_count test white s)

  none_count : (k n : ℕ) → count test (action_text (numbered k n)) ≡ 0
  unfolding action_text count
  none_count k n = refl

  number_count : (r : Row) (n : Result ℕ NumberError) → count test (texts_in (number_by r n)) ≡ 0
  number_count r (Ok n) = none_count r.code n
  number_count r (Err Unreadable) = nil_count test
  number_count r (Err TooLarge) = nil_count test

  rule_count : (u : Rule) (r : Row) (t : List ℕ) → count test (texts_in (with_text u r t)) ≤ count test t
  unfolding with_text
  rule_count plain r t = omega (arith, none_count r.code 0)
  rule_count wanted r t = omega (arith, texts_count test (worded r.code t), nil_count test)
  rule_count unmarked r t = omega (arith, texts_count test (worded r.code (stripped t)), nil_count test, ends_count test quotation t)
  rule_count (up_to most) r t = omega (arith, number_count r (unsigned_by most t))
  rule_count severity r t = omega (arith, number_count r (severity_number (stripped t)))
  rule_count equation r t = go (split 61 t) (split_count_lem test 61 t)
    where
      go : (x : Split) → split_count test x ≤ count test t → count test (action_text (both_by r.code x)) ≤ count test t
      go (whole a) h = omega (arith, texts_count test (action r.code 0 (present a) (present [])), nil_count test)
      go (halves a b) h = omega (arith, texts_count test (action r.code 0 (present a) (present b)), nil_count test)
  rule_count expiry r t = go (split 61 t) (split_count_lem test 61 t)
    where
      go : (x : Split) → split_count test x ≤ count test t → count test (action_text (expiry_by r.code x)) ≤ count test t
      go (whole a) h = omega (arith, texts_count test (action r.code 0 (present a) absent), nil_count test)
      go (halves a b) h = omega (arith, texts_count test (action r.code (seconds (unsigned_by 18446744073709551615 b)) (present a) absent), nil_count test)
  rule_count setting r t = omega (arith, texts_count test (setvar_action r.code (setvar t)), setvar_count t)

  without_count : (u : Rule) (r : Row) → count test (texts_in (with_none u r)) ≡ 0
  unfolding with_none count action_text
  without_count plain r = refl
  without_count wanted r = refl
  without_count unmarked r = refl
  without_count (up_to most) r = refl
  without_count severity r = refl
  without_count equation r = refl
  without_count expiry r = refl
  without_count setting r = refl

  found_count : (f : Found) (name : List ℕ) (s : Slot) → count test (texts_in (found_by f name s)) ≤ count test (slot_text s)
  found_count (found r) name absent = omega (arith, without_count r.rule r)
  found_count (found r) name (present t) = rule_count r.rule r t
  found_count missing name s = omega (arith, nil_count test)

  -- a piece has no fewer than the texts that are read from it
  single_count : (q : List ℕ) → count test (texts_in (single q)) ≤ count test q
  unfolding single named
  single_count q = go (transforms q) (split 58 q) (split_count_lem test 58 q)
    where
      go : (t : Bool) (x : Split) → split_count test x ≤ count test q → count test (texts_in (pick t (done (worded transformation_code (drop 2 q))) (split_by x))) ≤ count test q
      go true x h = omega (arith, texts_count test (worded transformation_code (drop 2 q)), nil_count test, count_drop test 2 q)
      go false (whole n) h = omega (arith, found_count (find rows (lowered n)) (lowered n) absent, nil_count test)
      go false (halves n t) h = omega (arith, found_count (find rows (lowered n)) (lowered n) (present t))

  pub read_count : (q : List ℕ) (x : Action) → single q ≡ done x → count test (action_text x) ≤ count test q
  read_count q x e = subst (λ (s : Single). count test (texts_in s) ≤ count test q) e (single_count q)
