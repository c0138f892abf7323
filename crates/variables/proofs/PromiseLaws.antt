-- What the two parsers promise, in plain words: every number exactly when it is given, and what is given and left with it.
-- The idea: lent's RowLaws has numbers 1 to 3 and one law for all; the names and the room tell 7, 4 and 0 apart.
use Rattle.lent.specs.declared.gating.GateError.TheVariants.{TooLong, Short, NotAscii}
use Rattle.lent.specs.declared.gating.GateError.{GateError}
use Rattle.std.specs.Prelude.{Result, Ok, Err}
use mathlib.Core.Path.{◌≡◌, ◌∙◌, refl, sym, ap, ap₂}
use mathlib.Core.Bool.{Bool, true, false}
use mathlib.Core.List.{List, [], ◌∷◌}
use mathlib.Core.Logic.{◌↔◌, ◌⊎◌, inl, inr}
use Prim.Native.Nat.{ℕ, ◌+◌, ◌≤◌, ◌<◌}
use native.Mathlib.Omega.{arith}
use lib.ListN.{length}
use lib.Dec.{ltb}
use borrow.Author.Tests.{lt-ltb, le-ltb, ltb-true, ltb-false}
use Rattle.lent.specs.Sizes.{limit, variable_words, room_for}
use Rattle.lent.specs.Sources.{part_word, Sourced}
use Rattle.lent.specs.Buffers.{zeros, padded}
use Rattle.lent.specs.Gates.{gate_of}
use Rattle.lent.specs.Table.{Given, no_room, unknown_variable, Outcome, refuses, reads, past_gate, Filled, given_by, text_by, records_by}
use Rattle.lent.specs.Admission.{FirstAt, Opened, Shortened}
use Rattle.lent.proofs.GateLaws.{Row}
use Rattle.lent.proofs.OutcomeLaws.{number_of, given_number, past_row}
use Rattle.lent.proofs.RowLaws as Rows
use Rattle.lent.proofs.RowLaws.{row, OneOf, Numbered, Exactly, absent, differ, behind, gated, exactly_gated}
use Rattle.variables.specs.Parts.{pieces}
use Rattle.variables.specs.Variables.{Variable}
use Rattle.variables.specs.Layout.{texts, words_from}
use Rattle.variables.specs.Promises.{answer_given, laid_out, roomed, updated, Meets, ParseVariables, ParseUpdateTargets}
use Rattle.variables.specs.Steps.{excluded_of, kept_count, kept_of, read_outcome, outcome_of}
use Rattle.variables.specs.Calls.{AllMeant, Missing, unmarked_of, needed}
use Rattle.variables.specs.declared.Read.{Read}
use Rattle.variables.specs.declared.VariablesError.{VariablesError}
use Rattle.variables.specs.declared.VariablesError.TheVariants.{Gate, Unknown, NoRoom}
use Rattle.variables.specs.declared.singles.Exclusions.{Exclusions}
use Rattle.variables.specs.declared.singles.Exclusions.TheVariants.{AsWritten, LookedUp}
use Rattle.variables.proofs.AnswerLaws.{refused_is, as_variables, as_update}
use Rattle.variables.proofs.CoreLaws.{kept_long, targets_refused, targets_read}
use Rattle.variables.proofs.GivenLaws.{answer_told}
use Rattle.variables.proofs.MeantLaws.{all_or_missing, understood, refused_there}

-- ---- past the gate

module _ (n : Exclusions) (s : List ℕ) (m : ℕ) where
  -- what is read where every name is meant
  abbrev pub variables_of : AllMeant n (pieces s) → List (Sourced Variable)
  variables_of a = (understood n a).vs

  abbrev pub exclusions_of : List (Sourced (List ℕ))
  exclusions_of = kept_of (kept_count n (length (unmarked_of (pieces s))) (length (excluded_of (pieces s)))) (excluded_of (pieces s))

  read_is : (a : AllMeant n (pieces s)) → read_outcome n s m ≡ roomed m (variables_of a) exclusions_of
  unfolding read_outcome
  read_is a =
      let u = understood n a in
      ap (updated m) (targets_read n s u.vs u.read)
      ∙ ap (λ (i : ℕ). roomed m u.vs (kept_of (kept_count n i (length (excluded_of (pieces s)))) (excluded_of (pieces s)))) u.count

  pub needed_is : (a : AllMeant n (pieces s)) → length (variables_of a) + length exclusions_of ≡ needed n s
  needed_is a = ap₂ ◌+◌ (understood n a).count (sym (kept_long n (length (unmarked_of (pieces s))) (excluded_of (pieces s))))

  pub missing_is : (x : Missing n (pieces s)) → read_outcome n s m ≡ refuses (unknown_variable (length x.passed) x.text x.this.place)
  missing_is x = refused_is n s m (length x.passed) x.text x.this.place (targets_refused n s (length x.passed) x.text x.this.place (refused_there n x))

  pub crowded_is : AllMeant n (pieces s) → room_for variable_words m < needed n s → read_outcome n s m ≡ refuses (no_room (needed n s))
  crowded_is a h =
      let e = needed_is a in
      read_is a ∙ rw (e, lt-ltb (room_for variable_words m) (needed n s) h)

  pub roomy_is : (a : AllMeant n (pieces s)) → needed n s ≤ room_for variable_words m → read_outcome n s m ≡ reads (laid_out (variables_of a) exclusions_of)
  roomy_is a h = read_is a ∙ rw (le-ltb (room_for variable_words m) (length (variables_of a) + length exclusions_of) (omega (arith, needed_is a)))

  -- one of three, and the number of each
  abbrev rows : List Rows.Row
  rows =
      row 7 (Missing n (pieces s))
      ∷ row 4 (AllMeant n (pieces s) × (room_for variable_words m < needed n s))
      ∷ row 0 (AllMeant n (pieces s) × (needed n s ≤ room_for variable_words m))
      ∷ []

  one : OneOf rows
  unfolding OneOf
  one = go (all_or_missing n (pieces s))
    where
      by : AllMeant n (pieces s) → (t : Bool) → ltb (room_for variable_words m) (needed n s) ≡ t → OneOf rows
      by a true e = inr (inl (a, ltb-true (room_for variable_words m) (needed n s) e))
      by a false e = inr (inr (inl (a, ltb-false (room_for variable_words m) (needed n s) e)))

      go : AllMeant n (pieces s) ⊎ Missing n (pieces s) → OneOf rows
      go (inl a) = by a (ltb (room_for variable_words m) (needed n s)) refl
      go (inr x) = inl x

  numbered : Numbered (number_of (read_outcome n s m)) rows
  unfolding Numbered
  numbered = (λ x. ap number_of (missing_is x), (λ p. ap number_of (crowded_is p.0 p.1), (λ p. ap number_of (roomy_is p.0 p.1), tt)))

  exact : (k : ℕ) → Exactly (number_of (past_gate (gate_of s k (length s)) (read_outcome n s m))) (gated s k (length s) rows)
  unfolding differ absent behind
  exact k = exactly_gated s k (length s) (read_outcome n s m) rows refl one numbered

-- ---- the whole call

-- Every number exactly when it is given, and what is given and left with it, for a call with these buffers before and after it.
pub record Numbers (n : Exclusions) (s text text' records records' : List ℕ) (r : Result Read VariablesError) : Type 0 where
  -- 1: the input is over the limit.
  pub number_1 : ((answer_given r).number ≡ 1) ↔ (limit < length s)
  -- 2: it is not, and a byte is 128 or more.
  pub number_2 : ((answer_given r).number ≡ 2) ↔ ((length s ≤ limit) × ((p : ℕ) × FirstAt s p))
  -- 3: none is, and the text buffer is shorter than the input.
  pub number_3 : ((answer_given r).number ≡ 3) ↔ Shortened s (length text) (length s)
  -- 7: it is not, and a name that is looked up is no variable's.
  pub number_7 : ((answer_given r).number ≡ 7) ↔ (Opened s (length text) (length s) × Missing n (pieces s))
  -- 4: every such name is one, and more records are needed than fit.
  pub number_4 : ((answer_given r).number ≡ 4) ↔ (Opened s (length text) (length s) × (AllMeant n (pieces s) × (room_for variable_words (length records) < needed n s)))
  -- 0: none of these.
  pub number_0 : ((answer_given r).number ≡ 0) ↔ (Opened s (length text) (length s) × (AllMeant n (pieces s) × (needed n s ≤ room_for variable_words (length records))))
  -- Each in full: 1 to 3 touch nothing.
  pub long : limit < length s → (r ≡ Err (Gate TooLong)) × (text' ≡ text) × (records' ≡ records)
  pub high : (p : ℕ) → (length s ≤ limit) × FirstAt s p → (r ≡ Err (Gate (NotAscii p))) × (text' ≡ text) × (records' ≡ records)
  pub short : Shortened s (length text) (length s) → (r ≡ Err (Gate Short)) × (text' ≡ text) × (records' ≡ records)
  -- 7 gives the first such piece and its span; the name stands in the text as written, and all else is zero.
  pub missed : Opened s (length text) (length s) → (x : Missing n (pieces s))
      → (r ≡ Err (Unknown (length x.passed) (length x.text) (part_word x.this.place))) × (text' ≡ padded (length text) x.text) × (records' ≡ zeros (length records))
  -- 4 gives the records needed, and all is zero.
  pub full : Opened s (length text) (length s) → AllMeant n (pieces s) → room_for variable_words (length records) < needed n s
      → (r ≡ Err (NoRoom (needed n s))) × (text' ≡ zeros (length text)) × (records' ≡ zeros (length records))
  -- 0 gives the count and the texts' length; texts and records, and zeros beyond.
  pub read : Opened s (length text) (length s) → (a : AllMeant n (pieces s)) → needed n s ≤ room_for variable_words (length records)
      → (r ≡ Ok (record { count = needed n s; text = length (texts (variables_of n s 0 a) (exclusions_of n s 0)) }))
      × (text' ≡ padded (length text) (texts (variables_of n s 0 a) (exclusions_of n s 0)))
      × (records' ≡ padded (length records) (words_from 0 (variables_of n s 0 a) (exclusions_of n s 0)))

module _ (n : Exclusions) (s : List ℕ) {text text' records records' : List ℕ} {r : Result Read VariablesError} (x : Meets (outcome_of n s (length text) (length records)) text text' records records' r) where
  abbrev past : Outcome Filled
  past = read_outcome n s (length records)

  number_is : (answer_given r).number ≡ number_of (past_gate (gate_of s (length text) (length s)) past)
  unfolding outcome_of
  number_is = ap (λ (g : Given). g.number) x.answer ∙ given_number (outcome_of n s (length text) (length records))

  -- what is given back and left, by an outcome that the call comes to
  by_outcome : (o : Outcome Filled) (v : Result Read VariablesError) → outcome_of n s (length text) (length records) ≡ o → given_by o ≡ answer_given v
      → (r ≡ v) × (text' ≡ text_by o text) × (records' ≡ records_by o records)
  by_outcome o v e g = (
    answer_told r v (x.answer ∙ ap given_by e ∙ g),
    x.texts ∙ ap (λ (o : Outcome Filled). text_by o text) e,
    x.words ∙ ap (λ (o : Outcome Filled). records_by o records) e,
  )

  at_gate : (g : Result Unit GateError) → Row s (length text) (length s) g → outcome_of n s (length text) (length records) ≡ past_gate g past
  unfolding outcome_of
  at_gate g h = past_row s (length text) (length s) past g h

  pub numbers : Numbers n s text text' records records' r
  unfolding Exactly behind
  numbers =
      let m = length records in
      let e = exact n s m (length text) in
      record {
        number_1 = rw number_is e.0;
        number_2 = rw number_is e.1.0;
        number_3 = rw number_is e.1.1.0;
        number_7 = rw number_is e.1.1.1.0;
        number_4 = rw number_is e.1.1.1.1.0;
        number_0 = rw number_is e.1.1.1.1.1.0;
        long = λ h. by_outcome _ (Err (Gate TooLong)) (at_gate (Err TooLong) h) refl;
        high = λ p h. by_outcome _ (Err (Gate (NotAscii p))) (at_gate (Err (NotAscii p)) h) refl;
        short = λ h. by_outcome _ (Err (Gate Short)) (at_gate (Err Short) h) refl;
        missed = λ o y. by_outcome _ (Err (Unknown (length y.passed) (length y.text) (part_word y.this.place))) (at_gate (Ok tt) o ∙ missing_is n s m y) refl;
        full = λ o a h. by_outcome _ (Err (NoRoom (needed n s))) (at_gate (Ok tt) o ∙ crowded_is n s m a h) refl;
        read = λ o a h. by_outcome _ (Ok (record { count = needed n s; text = length (texts (variables_of n s 0 a) (exclusions_of n s 0)) })) (at_gate (Ok tt) o ∙ roomy_is n s m a h)
            (rw (needed_is n s m a));
      }

pub parse_variables_numbers : (s : List ℕ) {text text' records records' : List ℕ} {r : Result Read VariablesError} → ParseVariables s text text' records records' r
    → Numbers AsWritten s text text' records records' r
parse_variables_numbers s {text} {text'} {records} {records'} {r} x = numbers AsWritten s (rw (as_variables s (length text) (length records)) at x)

pub parse_update_targets_numbers : (s : List ℕ) {text text' records records' : List ℕ} {r : Result Read VariablesError} → ParseUpdateTargets s text text' records records' r
    → Numbers LookedUp s text text' records records' r
parse_update_targets_numbers s {text} {text'} {records} {records'} {r} x = numbers LookedUp s (rw (as_update s (length text) (length records)) at x)
