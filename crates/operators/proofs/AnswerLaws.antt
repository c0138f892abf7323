-- Each way through the two public calls meets its promise.
use Rattle.lent.specs.declared.gating.GateError.TheVariants.{TooLong, Short, NotAscii}
use Rattle.lent.specs.declared.gating.GateError.{GateError}
use Rattle.std.specs.Prelude.{Option, Some, None, Result, Ok, Err}
use mathlib.Core.Path.{◌≡◌, ◌∙◌, refl, sym, ap}
use mathlib.Core.Bool.{Bool, true, false}
use mathlib.Core.List.{List, [], ◌∷◌}
use Prim.Native.Nat.{ℕ, ◌+◌, ◌-◌, ◌≤◌}
use native.Mathlib.Omega.{arith}
use lib.ListN.{length, take, drop, get_or}
use Rattle.ascii.specs.Choice.{bit}
use Rattle.ascii.specs.Classes.{white}
use Rattle.ascii.specs.Handed.{Standing, part_at}
use Rattle.ascii.proofs.HandedLaws.{part_is, front_is}
use Rattle.ascii.proofs.TrimLaws.{ends_fit}
use Rattle.lent.specs.Gates.{gate_of}
use Rattle.lent.specs.Table.{Given, given, Outcome, refuses, reads, past_gate}
use Rattle.lent.proofs.GateLaws.{short_is}
use Rattle.names.specs.Operators.{operator_code}
use Rattle.operators.specs.Operators.{Spec, Reading, name_of, operator}
use Rattle.operators.specs.Places.{after_at, is_named, argument_place}
use Rattle.operators.specs.Promises.{answer_given, outcome_of, operator_outcome, given_by, argument_of, OperatorIn, ParseOperator, OperatorArgument}
use Rattle.operators.specs.declared.Operator.{Operator}
use Rattle.operators.specs.declared.UnknownOperator.{UnknownOperator}
use Rattle.operators.specs.declared.OperatorError.{OperatorError}
use Rattle.operators.specs.declared.OperatorError.TheVariants.{Gate, Unknown}
use Rattle.operators.proofs.PlaceLaws.{argument_text, argument_ends, argument_at}
use Rattle.operators.proofs.FoundLaws.{plain, known, missed}

-- ---- parse_operator

module _ (s : List ℕ) where
  -- no buffer is asked for, so none is short
  pub never_short : gate_of s 0 0 ≡ (Err Short) → ⊥
  never_short e = omega (arith, ((short_is s 0 0).0 e).less)

  pub answer_refused : (g : Result Unit GateError) → g ≡ gate_of s 0 0 → (f : GateError) → g ≡ Err f → ParseOperator s (Err (Gate f))
  unfolding operator_outcome
  answer_refused g e TooLong f = record { answer = rw (sym e ∙ f) }
  answer_refused g e (NotAscii p) f = record { answer = rw (sym e ∙ f) }
  answer_refused g e Short f = record { answer = rw (sym e ∙ f) }

  module _ (g : Result Unit GateError) (e : g ≡ gate_of s 0 0) (f : g ≡ Ok tt) where
    pub answer_unknown_lem : (u : UnknownOperator) → OperatorIn s (Err u) → ParseOperator s (Err (Unknown u))
    unfolding operator_outcome
    answer_unknown_lem u a = record { answer = rw (sym e ∙ f) a.answer }

    pub answer_open : (o : Operator) → OperatorIn s (Ok o) → ParseOperator s (Ok o)
    unfolding operator_outcome
    answer_open o a = record { answer = rw (sym e ∙ f) a.answer }

-- ---- operator_argument

abbrev number : Given → ℕ
number g = g.number

abbrev value : ℕ → Given → ℕ
value i g = get_or g.values i 0

other_number : (e : OperatorError) → (answer_given (Err e)).number ≡ 0 → ⊥
other_number (Gate TooLong) z = omega arith
other_number (Gate (NotAscii p)) z = omega arith
other_number (Gate Short) z = omega arith
other_number (Unknown u) z = omega arith

-- a call that reads has the argument of the places
pub record Argued (s : List ℕ) (o : Outcome Spec) : Type 0 where
  pub found : Spec
  pub is_read : o ≡ reads found
  pub text_is : found.argument ≡ argument_text s (is_named s)

module _ (s : List ℕ) where
  accepted_argued : (given_by s (outcome_of s (operator s))).number ≡ 0 → Argued s (outcome_of s (operator s))
  accepted_argued z = go (is_named s) refl
    where
      look : is_named s ≡ true → (l : Option ℕ) → operator_code (name_of (after_at s)) ≡ l → Argued s (outcome_of s (operator s))
      look h (Some code) f =
          record { found = _; is_read = ap (outcome_of s) (known s h code f); text_is = sym (ap (argument_text s) h) }
      look h None f =
          let y = sym (ap (λ (x : Reading). (given_by s (outcome_of s x)).number) (missed s h f)) ∙ z in
          absurd (omega arith)

      go : (b : Bool) → is_named s ≡ b → Argued s (outcome_of s (operator s))
      go true h = look h (operator_code (name_of (after_at s))) refl
      go false h = record { found = _; is_read = ap (outcome_of s) (plain s h); text_is = sym (ap (argument_text s) h) }

  pub gate_argued : (g : Result Unit GateError) → (given_by s (past_gate g (outcome_of s (operator s)))).number ≡ 0 → Argued s (past_gate g (outcome_of s (operator s)))
  gate_argued (Ok tt) z = accepted_argued z
  gate_argued (Err TooLong) z = absurd (omega arith)
  gate_argued (Err (NotAscii p)) z = absurd (omega arith)
  gate_argued (Err Short) z = absurd (omega arith)

module _ (s : Standing) where
  -- what is not read has the empty argument, at the front
  refused_argument : (o : Outcome Spec) → ((given_by s.bytes o).number ≡ 0 → ⊥) → record { block = s.block; offset = s.offset; bytes = [] } ≡ argument_of s o
  refused_argument (refuses f) h = front_is s refl
  refused_argument (reads x) h = absurd (h refl)

  pub argument_refused : (e : OperatorError) → ParseOperator s.bytes (Err e) → OperatorArgument s (record { block = s.block; offset = s.offset; bytes = [] })
  argument_refused e p =
      record { argument = refused_argument (operator_outcome s.bytes) (λ z. other_number e (ap number p.answer ∙ z)) }

-- the arm of an operator that is read
module _ (s : List ℕ) (o : Operator) (x : ParseOperator s (Ok o)) where
  told : given 0 (bit o.negated ∷ o.name ∷ o.place ∷ o.len ∷ []) ≡ given_by s (operator_outcome s)
  told = x.answer

  argued : Argued s (operator_outcome s)
  unfolding operator_outcome
  argued = gate_argued s (gate_of s 0 0) (sym (ap number told))

  row : given 0 (bit o.negated ∷ o.name ∷ o.place ∷ o.len ∷ []) ≡ given_by s (reads argued.found)
  row = told ∙ ap (given_by s) argued.is_read

  place_is : o.place ≡ argument_place s
  place_is = ap (value 2) row

  len_is : o.len ≡ length (argument_text s (is_named s))
  len_is = ap (value 3) row ∙ ap length argued.text_is

  pub argument_in_lem : o.place + o.len ≤ length s
  argument_in_lem = omega (arith, place_is, len_is, argument_ends s, ends_fit white s)

  text_at : (end : ℕ) → end ≡ o.place + o.len → take (end - o.place) (drop o.place s) ≡ argued.found.argument
  text_at end f =
      let n : end - o.place ≡ length (argument_text s (is_named s)) = omega (arith, len_is) in
      rw (n, place_is) (argument_at s) ∙ sym argued.text_is

-- the same, where it stands
pub argument_read : (s : Standing) (o : Operator) (x : ParseOperator s.bytes (Ok o)) (end : ℕ) → end ≡ o.place + o.len
    → OperatorArgument s (part_at s o.place (take (end - o.place) (drop o.place s.bytes)))
argument_read s o x end f =
    record { argument = part_is s (place_is s.bytes o x) (text_at s.bytes o x end f) ∙ sym (ap (argument_of s) (argued s.bytes o x).is_read) }
