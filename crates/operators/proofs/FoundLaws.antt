-- What the places found say of the operator: the part lent for the name, and the answer by its lookup, with the argument's place and length.
use Rattle.std.specs.Prelude.{Some, None, Ok, Err}
use mathlib.Core.Path.{◌≡◌, ◌∙◌, refl, sym, ap}
use mathlib.Core.Bool.{Bool, true, false}
use mathlib.Core.List.{List, [], ◌∷◌}
use Prim.Native.Nat.{ℕ, ◌+◌, ◌-◌, ◌≤◌}
use native.Mathlib.Omega.{arith}
use lib.ListN.{length, drop, take}
use lib.Seq.{length-take-le}
use Rattle.ascii.specs.Choice.{pick, bit}
use Rattle.ascii.specs.Classes.{white}
use Rattle.ascii.specs.Trim.{trim_start, trim_ends}
use Rattle.ascii.proofs.TrimLaws.{ends_fit, leading_fits}
use Rattle.lent.specs.Sources.{Part, part}
use Rattle.lent.specs.Table.{given, refused, unknown_operator}
use Rattle.names.specs.Operators.{operator_code}
use Rattle.operators.specs.Operators.{Reading, spec, unknown, starts, name_length, name_of, after_name, unsigned, operator, in_name}
use Rattle.operators.specs.Places.{text_end, after_at, name_place, name_past, is_named, argument_place, found_of}
use Rattle.operators.specs.Promises.{in_given, outcome_of, given_by}
use Rattle.operators.specs.declared.finding.Found.{Found}
use Rattle.operators.proofs.PlaceLaws.{past_fits, name_stands, argument_text, argument_fits, argument_ends}

-- ---- the operator, by what is written

module _ (s : List ℕ) where
  pub plain : is_named s ≡ false → operator s ≡ spec (starts 33 (trim_ends s)) 0 (unsigned (trim_ends s))
  unfolding operator
  plain e = rw e

  pub known : is_named s ≡ true → (code : ℕ) → operator_code (name_of (after_at s)) ≡ Some code
      → operator s ≡ spec (starts 33 (trim_ends s)) code (trim_start (after_name (after_at s)))
  unfolding operator
  known e code f = rw (e, f)

  pub missed : is_named s ≡ true → operator_code (name_of (after_at s)) ≡ None → operator s ≡ unknown (name_of (after_at s))
  unfolding operator
  missed e f = rw (e, f)

-- ---- by the places found

rows : {f g k a b l m : ℕ} → f ≡ g → a ≡ b → l ≡ m → given 0 (f ∷ k ∷ a ∷ l ∷ []) ≡ given 0 (g ∷ k ∷ b ∷ m ∷ [])
rows d e f = rw (d, e, f)

module _ (s : List ℕ) (f : Found) (e : f ≡ found_of s) where
  found_negated : f.negated ≡ starts 33 (trim_ends s)
  unfolding found_of
  found_negated = ap (λ (f : Found). f.negated) e

  found_name : f.name ≡ pick (is_named s) (Some (part (name_place s) (name_past s))) None
  unfolding found_of
  found_name = ap (λ (f : Found). f.name) e

  found_argument : f.argument.first ≡ argument_place s
  unfolding found_of
  found_argument = ap (λ (f : Found). f.argument.first) e

  found_end : f.argument.past ≡ text_end s
  unfolding found_of
  found_end = ap (λ (f : Found). f.argument.past) e

  pub argument_ordered : f.argument.first ≤ f.argument.past
  argument_ordered = omega (arith, found_argument, found_end, argument_fits s)

  found_length : f.argument.past - f.argument.first ≡ length (argument_text s (is_named s))
  found_length = omega (arith, found_argument, found_end, argument_ends s)

  -- the operator that is read, by its code and argument
  abbrev read : ℕ → List ℕ → Reading
  read code argument = spec (starts 33 (trim_ends s)) code argument

  answer_read : (code : ℕ) → operator s ≡ read code (argument_text s (is_named s))
      → in_given (Ok (record { negated = f.negated; name = code; place = f.argument.first; len = f.argument.past - f.argument.first })) ≡ given_by s (outcome_of s (operator s))
  answer_read code o =
      rows (ap bit found_negated) found_argument found_length ∙ sym (ap (λ (x : Reading). given_by s (outcome_of s x)) o)

  -- a name is written there
  module _ (p : Part) (h : f.name ≡ Some p) where
    named : (b : Bool) → is_named s ≡ b → (is_named s ≡ true) × (p ≡ part (name_place s) (name_past s))
    named true e = let k = sym h ∙ found_name ∙ ap (λ (b : Bool). pick b (Some (part (name_place s) (name_past s))) None) e in (e, cc)
    named false e = let k = sym h ∙ found_name ∙ ap (λ (b : Bool). pick b (Some (part (name_place s) (name_past s))) None) e in cc

    is_named_lem : is_named s ≡ true
    is_named_lem = (named (is_named s) refl).0

    found_first : p.first ≡ name_place s
    found_first = ap (λ (p : Part). p.first) (named (is_named s) refl).1

    found_past : p.past ≡ name_past s
    found_past = ap (λ (p : Part). p.past) (named (is_named s) refl).1

    pub name_ordered : p.first ≤ p.past
    name_ordered = omega (arith, found_first, found_past)

    pub name_within : p.past ≤ length s
    name_within = omega (arith, found_past, past_fits s is_named_lem, ends_fit white s)

    -- the part lent for the name
    pub name_text_lem : take (p.past - p.first) (drop p.first s) ≡ name_of (after_at s)
    name_text_lem =
        let n : p.past - p.first ≡ name_length (after_at s) = omega (arith, found_first, found_past) in
        ap (λ (k : ℕ). take k (drop p.first s)) n ∙ ap (λ (k : ℕ). take (name_length (after_at s)) (drop k s)) found_first ∙ name_stands s

    pub answer_known : (code : ℕ) → operator_code (take (p.past - p.first) (drop p.first s)) ≡ Some code
        → in_given (Ok (record { negated = f.negated; name = code; place = f.argument.first; len = f.argument.past - f.argument.first })) ≡ given_by s (outcome_of s (operator s))
    answer_known code l =
        answer_read code (known s is_named_lem code (sym (ap operator_code name_text_lem) ∙ l) ∙ sym (ap (λ (b : Bool). read code (argument_text s b)) is_named_lem))

    pub answer_unknown : operator_code (take (p.past - p.first) (drop p.first s)) ≡ None
        → in_given (Err (record { place = p.first; len = p.past - p.first })) ≡ given_by s (outcome_of s (operator s))
    answer_unknown l =
        let n : p.past - p.first ≡ length (name_of (after_at s)) =
        omega (arith, found_first, found_past, length-take-le (name_length (after_at s)) (after_at s) (leading_fits in_name (after_at s))) in
        ap (λ (k : ℕ). refused (unknown_operator k (p.past - p.first) (part k (k + (p.past - p.first))))) found_first
        ∙ ap (λ (k : ℕ). refused (unknown_operator (name_place s) k (part (name_place s) (name_place s + k)))) n
        ∙ sym (ap (λ (x : Reading). given_by s (outcome_of s x)) (missed s is_named_lem (sym (ap operator_code name_text_lem) ∙ l)))

  pub answer_plain : f.name ≡ None
      → in_given (Ok (record { negated = f.negated; name = 0; place = f.argument.first; len = f.argument.past - f.argument.first })) ≡ given_by s (outcome_of s (operator s))
  answer_plain h = answer_read 0 (plain s no_name ∙ sym (ap (λ (b : Bool). read 0 (argument_text s b)) no_name))
    where
      go : (b : Bool) → is_named s ≡ b → is_named s ≡ false
      go true e = let k = sym h ∙ found_name ∙ ap (λ (b : Bool). pick b (Some (part (name_place s) (name_past s))) None) e in cc
      go false e = e

      no_name : is_named s ≡ false
      no_name = go (is_named s) refl
