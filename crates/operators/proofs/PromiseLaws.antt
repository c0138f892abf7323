-- What the calls promise, in plain words: every number exactly when it is given, what is given with it, and where it stands.
-- The idea: lent's RowLaws has numbers 1 and 2 and one law for all, and the name's lookup tells 8 from 0.
use Rattle.lent.specs.declared.gating.GateError.TheVariants.{TooLong, NotAscii, Short}
use Rattle.lent.specs.declared.gating.GateError.{GateError}
use Rattle.std.specs.Prelude.{Option, Some, None, Result, Ok, Err}
use mathlib.Core.Path.{◌≡◌, ◌∙◌, refl, sym, ap, subst}
use mathlib.Core.Bool.{Bool, true, false}
use mathlib.Core.List.{List, [], ◌∷◌}
use mathlib.Core.Logic.{◌↔◌, ◌⊎◌, inl, inr}
use Prim.Native.Nat.{ℕ, ◌+◌, ◌-◌, ◌≤◌, ◌<◌}
use native.Mathlib.Omega.{arith}
use lib.ListN.{length, take, drop}
use lib.Seq.{length-take-le}
use Rattle.ascii.specs.Classes.{white}
use Rattle.ascii.specs.Handed.{Standing, bytes_of, part_at}
use Rattle.ascii.specs.Trim.{trim_start, trim_ends}
use Rattle.lent.specs.Sizes.{limit, span_word}
use Rattle.lent.specs.Gates.{gate_of}
use Rattle.lent.specs.Table.{Given, Outcome, refuses, reads, past_gate}
use Rattle.lent.specs.Admission.{FirstAt, Opened}
use Rattle.lent.proofs.GateLaws.{Row}
use Rattle.lent.proofs.OutcomeLaws.{number_of, past_row}
use Rattle.lent.proofs.RowLaws as Rows
use Rattle.lent.proofs.RowLaws.{row, OneOf, Numbered, Exactly, absent, differ, exactly, behind, gated, exactly_gated}
use Rattle.names.specs.Operators.{operator_code}
use Rattle.ascii.proofs.TrimLaws.{ends_fit, leading_fits}
use Rattle.operators.specs.Operators.{Spec, Reading, accepted, unknown, starts, name_length, name_of, after_name, unsigned, operator, in_name}
use Rattle.operators.specs.Places.{after_at, name_place, is_named, argument_place}
use Rattle.operators.specs.Promises.{in_given, answer_given, outcome_of, operator_outcome, given_by, argument_by, part_place, argument_of, OperatorIn, ParseOperator, OperatorArgument}
use Rattle.operators.specs.Calls.{Missing, Meant, unwritten, written}
use Rattle.operators.specs.declared.Operator.{Operator}
use Rattle.operators.specs.declared.UnknownOperator.{UnknownOperator}
use Rattle.operators.specs.declared.OperatorError.{OperatorError}
use Rattle.operators.specs.declared.OperatorError.TheVariants.{Gate, Unknown}
use Rattle.operators.proofs.PlaceLaws.{past_fits, name_stands, argument_at}
use Rattle.operators.proofs.FoundLaws.{plain, known, missed}
use Rattle.operators.proofs.AnswerLaws.{Argued, gate_argued, never_short}
use Rattle.operators.proofs.GivenLaws.{answer_told}

-- ---- past the gate

-- what is read, by whether a name is written
abbrev pub meaning : (s : List ℕ) → Meant s → Spec
meaning s (unwritten h) = record { negated = starts 33 (trim_ends s); name = 0; argument = unsigned (trim_ends s) }
meaning s (written h code l) = record { negated = starts 33 (trim_ends s); name = code; argument = trim_start (after_name (after_at s)) }

module _ (s : List ℕ) where
  pub operator_meant : (m : Meant s) → operator s ≡ accepted (meaning s m)
  operator_meant (unwritten h) = plain s h
  operator_meant (written h code l) = known s h code l

  pub operator_missing : Missing s → operator s ≡ unknown (name_of (after_at s))
  operator_missing m = missed s m.written m.missing

  -- one or the other
  pub missing_or_meant : Missing s ⊎ Meant s
  missing_or_meant = go (is_named s) refl
    where
      look : is_named s ≡ true → (l : Option ℕ) → operator_code (name_of (after_at s)) ≡ l → Missing s ⊎ Meant s
      look h (Some code) e = inr (written h code e)
      look h None e = inl (record { written = h; missing = e })

      go : (b : Bool) → is_named s ≡ b → Missing s ⊎ Meant s
      go true h = look h (operator_code (name_of (after_at s))) refl
      go false h = inr (unwritten h)

  abbrev past : Outcome Spec
  past = outcome_of s (operator s)

  -- the number of each
  abbrev rows : List Rows.Row
  rows = row 8 (Missing s) ∷ row 0 (Meant s) ∷ []

  one : OneOf rows
  unfolding OneOf
  one = go missing_or_meant
    where
      go : Missing s ⊎ Meant s → OneOf rows
      go (inl m) = inl m
      go (inr m) = inr (inl m)

  numbered : Numbered (number_of past) rows
  unfolding Numbered
  numbered = (λ m. ap (λ (x : Reading). number_of (outcome_of s x)) (operator_missing m), (λ m. ap (λ (x : Reading). number_of (outcome_of s x)) (operator_meant m), tt))

  -- without the gate
  in_exact : Exactly (number_of past) rows
  unfolding differ absent
  in_exact = exactly (number_of past) rows refl one numbered

  -- and behind it
  exact : Exactly (number_of (past_gate (gate_of s 0 0) past)) (gated s 0 0 rows)
  unfolding differ absent behind
  exact = exactly_gated s 0 0 past rows refl one numbered

  -- The unknown name stands in the input, at the place given with it.
  pub unknown_stands : Missing s → take (length (name_of (after_at s))) (drop (name_place s) s) ≡ name_of (after_at s)
  unknown_stands m =
      ap (λ (k : ℕ). take k (drop (name_place s) s)) (length-take-le (name_length (after_at s)) (after_at s) (leading_fits in_name (after_at s))) ∙ name_stands s

module _ (s : List ℕ) where
  -- a name that is refused is the one that is written
  refused_name : (name : List ℕ) → operator s ≡ unknown name → Missing s × (name ≡ name_of (after_at s))
  refused_name name e = go (missing_or_meant s)
    where
      go : Missing s ⊎ Meant s → Missing s × (name ≡ name_of (after_at s))
      go (inl m) = let f = sym e ∙ operator_missing s m in (m, cc)
      go (inr m) = let f = sym e ∙ operator_meant s m in let z : ◌≡◌ {A = ℕ} 0 1 = cc in absurd (omega arith)

  -- What 8 underlines stands in the input, and is the name.
  pub refused_inside : (name : List ℕ) → operator s ≡ unknown name → name_place s + length name ≤ length s
  refused_inside name e =
      let r = refused_name name e in
      let n = length-take-le (name_length (after_at s)) (after_at s) (leading_fits in_name (after_at s)) in
      omega (arith, ap length r.1, n, past_fits s r.0.written, ends_fit white s)

  pub refused_stands : (name : List ℕ) → operator s ≡ unknown name → take (length name) (drop (name_place s) s) ≡ name
  refused_stands name e = let r = refused_name name e in rw r.1 (unknown_stands s r.0)

-- What 8 gives back: the name's place and length, and its span.
pub unknown_values : (u : UnknownOperator) → (answer_given (Err (Unknown u))).values ≡ u.place ∷ u.len ∷ span_word u.place u.len ∷ []
unknown_values u = let e : u.place + u.len - u.place ≡ u.len = omega arith in rw e

-- ---- operator_in and parse_operator

given_number : (s : List ℕ) (o : Outcome Spec) → (given_by s o).number ≡ number_of o
given_number s (refuses f) = refl
given_number s (reads x) = refl

abbrev pub Numbers : ℕ → Type 0
Numbers n = (n ≡ 0) ⊎ ((n ≡ 1) ⊎ ((n ≡ 2) ⊎ (n ≡ 8)))

numbers : (s : List ℕ) (g : Result Unit GateError) → gate_of s 0 0 ≡ g → (y : Reading) → Numbers (number_of (past_gate g (outcome_of s y)))
numbers s (Ok tt) e (accepted x) = inl refl
numbers s (Ok tt) e (unknown n) = inr (inr (inr refl))
numbers s (Err TooLong) e y = inr (inl refl)
numbers s (Err (NotAscii p)) e y = inr (inr (inl refl))
numbers s (Err Short) e y = absurd (never_short s e)

module _ {s : List ℕ} {r : Result Operator UnknownOperator} (x : OperatorIn s r) where
  in_number : (in_given r).number ≡ number_of (past s)
  in_number = ap (λ (g : Given). g.number) x.answer ∙ given_number s (past s)

  -- Number 8: a name is written that no operator has. Number 0: else.
  pub operator_in_8 : ((in_given r).number ≡ 8) ↔ Missing s
  unfolding Exactly
  operator_in_8 = rw in_number (in_exact s).0

  pub operator_in_0 : ((in_given r).number ≡ 0) ↔ Meant s
  unfolding Exactly
  operator_in_0 = rw in_number (in_exact s).1.0

module _ {s : List ℕ} {r : Result Operator OperatorError} (x : ParseOperator s r) where
  number_is : (answer_given r).number ≡ number_of (past_gate (gate_of s 0 0) (past s))
  unfolding operator_outcome
  number_is = ap (λ (g : Given). g.number) x.answer ∙ given_number s (operator_outcome s)

  -- Number 1: the input is over the limit.
  pub parse_operator_1 : ((answer_given r).number ≡ 1) ↔ (limit < length s)
  unfolding Exactly
  parse_operator_1 = rw number_is (exact s).0

  -- Number 2: it is not, and a byte is 128 or more.
  pub parse_operator_2 : ((answer_given r).number ≡ 2) ↔ ((length s ≤ limit) × ((p : ℕ) × FirstAt s p))
  unfolding Exactly
  parse_operator_2 = rw number_is (exact s).1.0

  -- Number 8: none is, and a name is written that no operator has.
  pub parse_operator_8 : ((answer_given r).number ≡ 8) ↔ (Opened s 0 0 × Missing s)
  unfolding Exactly behind
  parse_operator_8 = rw number_is (exact s).1.1.1.0

  -- Number 0: none of these.
  pub parse_operator_0 : ((answer_given r).number ≡ 0) ↔ (Opened s 0 0 × Meant s)
  unfolding Exactly behind
  parse_operator_0 = rw number_is (exact s).1.1.1.1.0

  -- No number but 0, 1, 2 and 8.
  pub parse_operator_numbers : Numbers (answer_given r).number
  parse_operator_numbers = rw number_is (numbers s (gate_of s 0 0) refl (operator s))

  -- what is given back, by the gate's answer
  by_gate : (g : Result Unit GateError) → Row s 0 0 g → answer_given r ≡ given_by s (past_gate g (past s))
  unfolding operator_outcome
  by_gate g h = x.answer ∙ ap (given_by s) (past_row s 0 0 (past s) g h)

  -- Each answer in full.
  pub parse_operator_long : limit < length s → r ≡ Err (Gate TooLong)
  parse_operator_long h = answer_told r (Err (Gate TooLong)) (by_gate (Err TooLong) h)

  pub parse_operator_high : (p : ℕ) → (length s ≤ limit) × FirstAt s p → r ≡ Err (Gate (NotAscii p))
  parse_operator_high p h = answer_told r (Err (Gate (NotAscii p))) (by_gate (Err (NotAscii p)) h)

  pub parse_operator_unknown : Opened s 0 0 → Missing s → r ≡ Err (Unknown (record { place = name_place s; len = length (name_of (after_at s)) }))
  parse_operator_unknown o m =
      answer_told r (Err (Unknown (record { place = name_place s; len = length (name_of (after_at s)) })))
      (by_gate (Ok tt) o ∙ ap (λ (y : Reading). given_by s (outcome_of s y)) (operator_missing s m))

  pub parse_operator_reads : Opened s 0 0 → (m : Meant s) → r ≡ Ok (record { negated = (meaning s m).negated; name = (meaning s m).name; place = argument_place s; len = length (meaning s m).argument })
  parse_operator_reads o m =
      answer_told r (Ok (record { negated = (meaning s m).negated; name = (meaning s m).name; place = argument_place s; len = length (meaning s m).argument }))
      (by_gate (Ok tt) o ∙ ap (λ (y : Reading). given_by s (outcome_of s y)) (operator_meant s m))

-- ---- operator_argument

front : (l : List ℕ) → take 0 l ≡ []
front [] = refl
front (x ∷ l) = refl

module _ (s : List ℕ) where
  part_stands : (o : Outcome Spec) → ((given_by s o).number ≡ 0 → Argued s o) → take (length (argument_by o)) (drop (part_place s o) s) ≡ argument_by o
  part_stands (refuses f) h = front s
  part_stands (reads x) h =
      let a = h refl in
      subst (λ (t : List ℕ). take (length t) (drop (argument_place s) s) ≡ t) (sym (ap argument_by a.is_read ∙ a.text_is)) (argument_at s)

module _ {s part : Standing} (x : OperatorArgument s part) where
  argument_by_lem : (g : Result Unit GateError) → Row s.bytes 0 0 g → part ≡ argument_of s (past_gate g (past s.bytes))
  unfolding operator_outcome
  argument_by_lem g h = x.argument ∙ ap (argument_of s) (past_row s.bytes 0 0 (past s.bytes) g h)

  -- Its bytes are those of the input at the place of the definition.
  pub operator_argument_part : take (length part.bytes) (drop (part_place s.bytes (operator_outcome s.bytes)) s.bytes) ≡ part.bytes
  unfolding operator_outcome
  operator_argument_part =
      subst (λ (t : List ℕ). take (length t) (drop (part_place s.bytes (past_gate (gate_of s.bytes 0 0) (past s.bytes))) s.bytes) ≡ t) (sym (ap bytes_of x.argument))
      (part_stands s.bytes (past_gate (gate_of s.bytes 0 0) (past s.bytes)) (gate_argued s.bytes (gate_of s.bytes 0 0)))

  -- The empty part at the front on every refusal, and else the operator's own.
  pub operator_argument_long : limit < length s.bytes → part ≡ part_at s 0 []
  operator_argument_long h = argument_by_lem (Err TooLong) h

  pub operator_argument_high : (p : ℕ) → (length s.bytes ≤ limit) × FirstAt s.bytes p → part ≡ part_at s 0 []
  operator_argument_high p h = argument_by_lem (Err (NotAscii p)) h

  pub operator_argument_unknown : Opened s.bytes 0 0 → Missing s.bytes → part ≡ part_at s 0 []
  operator_argument_unknown o m = argument_by_lem (Ok tt) o ∙ ap (λ (y : Reading). argument_of s (outcome_of s.bytes y)) (operator_missing s.bytes m)

  pub operator_argument_reads : Opened s.bytes 0 0 → (m : Meant s.bytes) → part ≡ part_at s (argument_place s.bytes) (meaning s.bytes m).argument
  operator_argument_reads o m = argument_by_lem (Ok tt) o ∙ ap (λ (y : Reading). argument_of s (outcome_of s.bytes y)) (operator_meant s.bytes m)
