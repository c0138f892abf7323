-- From a list read at 0 and 0 to what the parsers promise: one law for each way out.
use Rattle.lent.specs.declared.gating.GateError.TheVariants.{TooLong, Short, NotAscii}
use Rattle.lent.specs.declared.gating.GateError.{GateError}
use Rattle.std.specs.Prelude.{Result, Ok, Err}
use mathlib.Core.Path.{◌≡◌, ◌∙◌, refl, sym, ap, ap₂, subst}
use mathlib.Core.Bool.{Bool, true, false}
use mathlib.Core.List.{List, [], ◌∷◌}
use Prim.Native.Nat.{ℕ, ◌+◌, ◌-◌, ◌*◌, ◌≤◌}
use native.Mathlib.Omega.{arith}
use native.Mathlib.Nat.{zero-add, zero-mul}
use lib.ListN.{length, take, get_or, length-append}
use lib.Dec.{ltb}
use Rattle.ascii.specs.Choice.{pick}
use Rattle.lent.specs.Sizes.{limit, span_word, variable_words, room_for}
use Rattle.lent.specs.Sources.{Part, part as placed, part_word, Sourced}
use Rattle.lent.specs.Buffers.{stored, joined}
use Rattle.lent.specs.Gates.{gate_of}
use Rattle.lent.specs.Endings.{starts, Finished}
use Rattle.lent.specs.Layout.{texts_of, records_of, words_of}
use Rattle.lent.specs.Table.{Given, given, refused as refused_by, no_room, unknown_variable, refuses, reads, given_by}
use Rattle.lent.proofs.BufferLaws.{stored_length, taken_first, each_length, each_fits, joined_append}
use Rattle.lent.specs.Admission.{Opened}
use Rattle.lent.proofs.GateLaws.{open_is}
use Rattle.lent.proofs.StartLaws.{starts_is}
use Rattle.lent.proofs.EndLaws.{ended_told, ended_text, ended_records}
use Rattle.lent.proofs.LayoutLaws.{records_joined, words_length}
use Rattle.variables.specs.Parts.{pieces}
use Rattle.variables.specs.Variables.{Variable, Targets, targets, refused, read_all}
use Rattle.variables.specs.Layout.{variable_whole, exclusion_whole, variable_text, exclusion_text, selection_texts, texts, words_from}
use Rattle.variables.specs.Promises.{answer_given, laid_out, roomed, updated, hung, variables_outcome, update_outcome, Meets}
use Rattle.variables.specs.Steps.{excluding_of, hanging, targets_of, read_outcome, outcome_of}
use Rattle.variables.specs.Cores.{records_from, reached_by, reached_text, reached_records, ReadTargets}
use Rattle.variables.specs.declared.Read.{Read}
use Rattle.variables.specs.declared.VariablesError.{VariablesError}
use Rattle.variables.specs.declared.Reached.{Reached}
use Rattle.variables.specs.declared.TargetsError.{TargetsError}
use Rattle.variables.specs.declared.TargetsError.TheVariants.{Unknown as NoVariable, Unfit}
use Rattle.variables.specs.declared.VariablesError.TheVariants.{Gate, Unknown}
use Rattle.variables.specs.declared.singles.Exclusions.{Exclusions}
use Rattle.variables.specs.declared.singles.Exclusions.TheVariants.{AsWritten, LookedUp}
use Rattle.variables.proofs.FitLaws.{Within, targets_within}
use Rattle.variables.proofs.ScanLaws.{wide_variable, wide_exclusion}
use Rattle.variables.proofs.SourceLaws.{Inside, EachIn, targets_inside}

-- ---- past the gate

pub refused_is : (n : Exclusions) (s : List ℕ) (m i : ℕ) (name : List ℕ) (x : Part) → targets_of n s ≡ refused i name x
    → read_outcome n s m ≡ refuses (unknown_variable i name x)
unfolding read_outcome
refused_is n s m i name x e = ap (updated m) e

-- the words of records one by one
all_words : (o : ℕ) (vs : List (Sourced Variable)) (es : List (Sourced (List ℕ))) → joined (records_from o vs es) ≡ words_from o vs es
all_words o vs es =
    joined_append (records_of variable_whole variable_text o vs) (records_of exclusion_whole exclusion_text (o + length (selection_texts vs)) es)
    ∙ rw (records_joined variable_text variable_whole o vs, records_joined exclusion_text exclusion_whole (o + length (selection_texts vs)) es)

words_long : (o : ℕ) (vs : List (Sourced Variable)) (es : List (Sourced (List ℕ))) → length (words_from o vs es) ≡ (length vs + length es) * variable_words
words_long o vs es =
    let a = words_length variable_text variable_whole variable_words wide_variable o vs in
    let b = words_length exclusion_text exclusion_whole variable_words wide_exclusion (o + length (selection_texts vs)) es in
    omega (arith, a, b, length-append (words_of variable_whole variable_text o vs) (words_of exclusion_whole exclusion_text (o + length (selection_texts vs)) es))

-- what is given back, by whether the records fit
given_is : (m : ℕ) (vs : List (Sourced Variable)) (es : List (Sourced (List ℕ))) (full : Bool) → full ≡ ltb (room_for variable_words m) (length vs + length es)
    → pick full (refused_by (no_room (length vs + length es))) (given 0 ((length vs + length es) ∷ length (texts vs es) ∷ [])) ≡ given_by (roomed m vs es)
given_is m vs es full e = rw (← e) (go full)
  where
    go : (b : Bool) → pick b (refused_by (no_room (length vs + length es))) (given 0 ((length vs + length es) ∷ length (texts vs es) ∷ []))
        ≡ given_by (pick b (refuses (no_room (length vs + length es))) (reads (laid_out vs es)))
    go true = refl
    go false = refl

-- what an answer of the core tells
seen : Result Reached TargetsError → Given
seen (Ok q) = given 0 (q.count ∷ q.offset ∷ [])
seen (Err (NoVariable piece name first past)) = given 7 (piece ∷ name ∷ part_word (placed first past) ∷ [])
seen (Err Unfit) = given 3 (0 ∷ [])

places_seen : Result Reached TargetsError → List ℕ
places_seen (Ok q) = []
places_seen (Err (NoVariable piece name first past)) = first ∷ past ∷ []
places_seen (Err Unfit) = []

module _ (n : Exclusions) (s text records : List ℕ) {text₁ records₁ : List ℕ} {r : Result Reached TargetsError} (x : ReadTargets n s 0 0 text text₁ records records₁ r)
    (o : Opened s (length text) (length s)) where
  begins : starts (length s) (length text) 0 0 ≡ true
  begins = (starts_is (length s) (length text) 0 0).1 (record { within = o.within; offset_low = omega arith; count_low = omega arith; room = omega (arith, o.room) })

  told : r ≡ reached_by 0 (targets_of n s)
  told = x.answer ∙ rw begins

  text_told : text₁ ≡ reached_text 0 text (targets_of n s)
  text_told = x.texts ∙ rw begins

  words_told : records₁ ≡ reached_records 0 0 records (targets_of n s)
  words_told = x.words ∙ rw begins

  pub never_unfit : r ≡ Err Unfit → ⊥
  unfolding seen
  never_unfit e = go (targets_of n s) told
    where
      go : (ts : Targets) → r ≡ reached_by 0 ts → ⊥
      go (targets vs es) f = let z = ap (λ (q : Result Reached TargetsError). (seen q).number) (sym e ∙ f) in omega (arith, z)
      go (refused i name y) f = let z = ap (λ (q : Result Reached TargetsError). (seen q).number) (sym e ∙ f) in omega (arith, z)

  -- the places of a refused piece are in order, and within the list
  pub refused_narrow : (piece name first past : ℕ) → r ≡ Err (NoVariable piece name first past) → (first ≤ past) × (past ≤ limit)
  unfolding places_seen
  refused_narrow piece name first past e = go (targets_of n s) told (targets_inside n s)
    where
      go : (ts : Targets) → r ≡ reached_by 0 ts → EachIn (Inside (length s)) ts → (first ≤ past) × (past ≤ limit)
      go (targets vs es) f h = let z = ap (λ (q : Result Reached TargetsError). length (places_seen q)) (sym e ∙ f) in absurd (omega (arith, z))
      go (refused i w y) f h =
          let z : first ∷ past ∷ [] ≡ y.first ∷ y.past ∷ [] = ap places_seen (sym e ∙ f) in
          let a : first ≡ y.first = ap (λ (l : List ℕ). get_or l 0 0) z in
          let b : past ≡ y.past = ap (λ (l : List ℕ). get_or l 1 0) z in
          (omega (arith, a, b, h.some), omega (arith, b, h.within, o.within))

  pub parsed_unknown : (piece name first past span : ℕ) → r ≡ Err (NoVariable piece name first past) → span ≡ span_word first (past - first)
      → Meets (read_outcome n s (length records)) text text₁ records records₁ (Err (Unknown piece name span))
  unfolding seen read_outcome
  parsed_unknown piece name first past span e k = go (targets_of n s) refl told text_told words_told
    where
      go : (ts : Targets) → targets_of n s ≡ ts → r ≡ reached_by 0 ts → text₁ ≡ reached_text 0 text ts → records₁ ≡ reached_records 0 0 records ts
          → Meets (updated (length records) (targets_of n s)) text text₁ records records₁ (Err (Unknown piece name span))
      go (targets vs es) q f a b = let z = ap (λ (q : Result Reached TargetsError). (seen q).number) (sym e ∙ f) in absurd (omega (arith, z))
      go (refused i w y) q f a b = rw q (record { answer = ap (λ (j : ℕ). given 7 (piece ∷ name ∷ j ∷ [])) k ∙ ap seen (sym e ∙ f); texts = a; words = b })

  -- the records are at the front, where they fit
  words_front : (vs : List (Sourced Variable)) (es : List (Sourced (List ℕ))) → records₁ ≡ reached_records 0 0 records (targets vs es)
      → (length vs + length es) * variable_words ≤ length records → take ((length vs + length es) * variable_words) records₁ ≡ words_from 0 vs es
  words_front vs es b k =
      let l = words_long 0 vs es in
      let j = all_words 0 vs es in
      let w : records₁ ≡ stored records 0 (words_from 0 vs es) = b ∙ rw zero-mul (each_fits records 0 (records_from 0 vs es) (rw j (omega (arith, l, k))) ∙ ap (stored records 0) j) in
      rw (w, ← l) (taken_first records (words_from 0 vs es) (omega (arith, l, k)))

  -- the last step
  pub parsed_read : (count used : ℕ) → r ≡ Ok (record { count = count; offset = used }) → {text' records' : List ℕ} {full : Bool}
      → Finished used count variable_words text₁ text' records₁ records' full → (v : Result Read VariablesError)
      → answer_given v ≡ pick full (refused_by (no_room count)) (given 0 (count ∷ used ∷ []))
      → Meets (read_outcome n s (length records)) text text' records records' v
  unfolding seen read_outcome
  parsed_read count used e {text'} {records'} {full} y v g = go (targets_of n s) refl told text_told words_told (targets_within n s)
    where
      go : (ts : Targets) → targets_of n s ≡ ts → r ≡ reached_by 0 ts → text₁ ≡ reached_text 0 text ts → records₁ ≡ reached_records 0 0 records ts → Within (length s) (length s) ts
          → Meets (updated (length records) (targets_of n s)) text text' records records' v
      go (refused i w y) q f a b h = let z = ap (λ (q : Result Reached TargetsError). (seen q).number) (sym e ∙ f) in absurd (omega (arith, z))
      go (targets vs es) q f a b h =
          let z : count ∷ used ∷ [] ≡ (length vs + length es) ∷ (0 + length (texts vs es)) ∷ [] = ap (λ (q : Result Reached TargetsError). (seen q).values) (sym e ∙ f) in
          let c : count ≡ length vs + length es = ap (λ (l : List ℕ). get_or l 0 0) z in
          let u : used ≡ length (texts vs es) = ap (λ (l : List ℕ). get_or l 1 0) z ∙ zero-add _ in
          let w = subst (λ (k : ℕ). Finished used k variable_words text₁ text' records₁ records' full) c y in
          let fit : length (texts vs es) ≤ length text = omega (arith, h.0, o.room, length-append (selection_texts vs) (texts_of exclusion_text es)) in
          let long : length text₁ ≡ length text = ap length a ∙ stored_length text 0 (texts vs es) in
          let wide : length records₁ ≡ length records = ap length b ∙ each_length records (0 * variable_words) (records_from 0 vs es) in
          let front : take used text₁ ≡ texts vs es = rw (u, a) (taken_first text (texts vs es) fit) in
          rw q (record {
            answer = g ∙ ap₂ (λ (i j : ℕ). pick full (refused_by (no_room i)) (given 0 (i ∷ j ∷ []))) c u ∙ given_is (length records) vs es full (ended_told w text records (laid_out vs es) long wide);
            texts = ended_text w text records (laid_out vs es) long wide front;
            words = ended_records w text records (laid_out vs es) long wide (words_front vs es b);
          })

-- ---- the gate

module _ (n : Exclusions) (s text records : List ℕ) (g : Result Unit GateError) (e : g ≡ gate_of s (length text) (length s)) where
  pub gate_refused : (h : GateError) → g ≡ Err h → Meets (outcome_of n s (length text) (length records)) text text records records (Err (Gate h))
  unfolding outcome_of
  gate_refused TooLong f = let z = sym e ∙ f in record { answer = rw z; texts = rw z; words = rw z }
  gate_refused (NotAscii p) f = let z = sym e ∙ f in record { answer = rw z; texts = rw z; words = rw z }
  gate_refused Short f = let z = sym e ∙ f in record { answer = rw z; texts = rw z; words = rw z }

  pub gate_opened : g ≡ (Ok tt) → Opened s (length text) (length s)
  gate_opened f = (open_is s (length text) (length s)).0 (sym e ∙ f)

  pub gate_open : g ≡ (Ok tt) → {text' records' : List ℕ} {r : Result Read VariablesError} → Meets (read_outcome n s (length records)) text text' records records' r
      → Meets (outcome_of n s (length text) (length records)) text text' records records' r
  unfolding outcome_of
  gate_open f x = rw (sym e ∙ f) x

-- ---- the two parsers

hung_is : (m : ℕ) (ts : Targets) → hung m ts ≡ updated m (hanging AsWritten ts)
hung_is m (targets [] es) = refl
hung_is m (targets (v ∷ vs) es) = refl
hung_is m (refused i name x) = refl

pub as_variables : (s : List ℕ) (k m : ℕ) → variables_outcome s k m ≡ outcome_of AsWritten s k m
unfolding variables_outcome outcome_of read_outcome targets_of
as_variables s k m = rw (hung_is m (read_all (excluding_of AsWritten) (pieces s)))

pub as_update : (s : List ℕ) (k m : ℕ) → update_outcome s k m ≡ outcome_of LookedUp s k m
unfolding update_outcome outcome_of read_outcome targets_of
as_update s k m = refl
