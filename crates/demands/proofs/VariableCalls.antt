-- The promises of read_targets, parse_variables and parse_update_targets are total, have no second answer, and keep to document 01's table.
use Rattle.variables.specs.declared.VariablesError.TheVariants as VariablesError
use Rattle.lent.specs.declared.gating.GateError.TheVariants as GateError
use Rattle.std.specs.Prelude.{Result, Ok, Err}
use mathlib.Core.Path.{◌≡◌, refl}
use mathlib.Core.Bool.{Bool, true, false}
use mathlib.Core.List.{List, [], ◌∷◌}
use Prim.Native.Nat.{ℕ, ◌+◌, ◌*◌}
use native.Mathlib.Omega.{arith}
use lib.ListN.{length, length-append}
use lib.Dec.{ltb}
use Rattle.ascii.specs.Choice.{pick}
use Rattle.lent.specs.Sizes.{variable_words, room_for}
use Rattle.lent.specs.Gates.{gate_of}
use Rattle.lent.specs.Sources.{part_word, Sourced}
use Rattle.lent.specs.Table.{no_room, Outcome, past_gate, refuses, reads, Filled, text_by, records_by}
use Rattle.variables.specs.Parts.{pieces}
use Rattle.variables.specs.Variables.{Variable, Targets, targets, refused, as_written, looked_up, read_all}
use Rattle.lent.specs.Layout.{words_of}
use Rattle.lent.proofs.LayoutLaws.{words_length}
use Rattle.variables.specs.Layout.{variable_whole, exclusion_whole, variable_text, exclusion_text, selection_texts, words_from}
use Rattle.variables.specs.Promises as Vars
use Rattle.variables.specs.declared.Read.{Read as VariablesRead}
use Rattle.variables.specs.declared.VariablesError.{VariablesError}
use Rattle.variables.specs.declared.Reached.{Reached as VariablesReached}
use Rattle.variables.specs.declared.TargetsError.{TargetsError}
use Rattle.variables.proofs.GivenLaws.{meets_once}
use Rattle.ascii.proofs.OneAnswer.{one_answer}
use Rattle.demands.specs.Fixed.{Fixed}
use Rattle.demands.specs.Calls.{Lent, Left, From, read_targets_promise, parse_variables_promise, parse_update_targets_promise}
use Rattle.demands.specs.Rows.{Row}
use Rattle.demands.proofs.FixedLaws.{left_same}
use Rattle.demands.proofs.RowLaws.{row_of}
use Rattle.demands.proofs.AnswerLaws.{Answered, Gated, past_gate_lem}

abbrev AnsweredVariables : Outcome Filled → Type 0
AnsweredVariables = Answered variable_words Vars.answer_given

-- variables and exclusions have records of one width
words_long : (vs : List (Sourced Variable)) (es : List (Sourced (List ℕ))) → length (words_from 0 vs es) ≡ (length vs + length es) * variable_words
words_long vs es =
    let o = 0 + length (selection_texts vs) in
    let e : length (words_from 0 vs es) ≡ length (words_of variable_whole variable_text 0 vs) + length (words_of exclusion_whole exclusion_text o es)
    = length-append (words_of variable_whole variable_text 0 vs) (words_of exclusion_whole exclusion_text o es) in
    omega (
      arith,
      e,
      words_length variable_text variable_whole variable_words (λ o v. refl) 0 vs,
      words_length exclusion_text exclusion_whole variable_words (λ o e. refl) o es,
    )

room_told : (m : ℕ) (vs : List (Sourced Variable)) (es : List (Sourced (List ℕ))) → AnsweredVariables (Vars.roomed m vs es)
room_told m vs es = go (ltb (room_for variable_words m) (length vs + length es))
  where
    go : (b : Bool) → AnsweredVariables (pick b (refuses (no_room (length vs + length es))) (reads (Vars.laid_out vs es)))
    go true = record { answer = Err (VariablesError.NoRoom (length vs + length es)); is = refl; filling = tt }
    go false = record {
      answer = Ok (record { count = length vs + length es; text = _ });
      is = refl;
      filling = record { count = _; more = _; values = refl; words = words_long vs es };
    }

update_told : (m : ℕ) (t : Targets) → AnsweredVariables (Vars.updated m t)
update_told m (targets vs es) = room_told m vs es
update_told m (refused i name x) = record { answer = Err (VariablesError.Unknown i (length name) (part_word x)); is = refl; filling = tt }

hung_told : (m : ℕ) (t : Targets) → AnsweredVariables (Vars.hung m t)
hung_told m (targets [] es) = room_told m [] []
hung_told m (targets (v ∷ vs) es) = room_told m (v ∷ vs) es
hung_told m (refused i name x) = record { answer = Err (VariablesError.Unknown i (length name) (part_word x)); is = refl; filling = tt }

gated : Gated variable_words Vars.answer_given
gated = record { long = (Err (VariablesError.Gate GateError.TooLong), refl); high = λ p. (Err (VariablesError.Gate (GateError.NotAscii p)), refl); short = (Err (VariablesError.Gate GateError.Short), refl) }

-- ---- read_targets

pub read_targets_fixed : Fixed From (Left (Result VariablesReached TargetsError)) read_targets_promise
read_targets_fixed = record {
  total = λ i. (record { answer = _; text = _; records = _ }, record { answer = refl; texts = refl; words = refl });
  once = λ i o p x y. left_same o p (one_answer x.answer y.answer, one_answer x.texts y.texts, one_answer x.words y.words);
}

-- either parser, by what a call comes to
module _ (o : Lent → Outcome Filled) (a : (i : Lent) → AnsweredVariables (o i)) where
  abbrev Met : Lent → Left (Result VariablesRead VariablesError) → Type 0
  Met i l = Vars.Meets (o i) i.text l.text i.records l.records l.answer

  met_fixed : Fixed Lent (Left (Result VariablesRead VariablesError)) Met
  met_fixed = record {
    total = λ i.
        (record { answer = (a i).answer; text = text_by (o i) i.text; records = records_by (o i) i.records }, record { answer = (a i).is; texts = refl; words = refl });
    once = λ i l k x y. left_same l k (meets_once x y);
  }

  met_row : (i : Lent) (l : Left (Result VariablesRead VariablesError)) → Met i l → Row variable_words (Vars.answer_given l.answer) i.text l.text i.records l.records
  met_row i l x = row_of variable_words (o i) (a i).filling x.answer x.texts x.words

-- what is told past the gate
past_input : (i : Lent) {x : Outcome Filled} → AnsweredVariables x → AnsweredVariables (past_gate (gate_of i.input (length i.text) (length i.input)) x)
past_input i a = past_gate_lem variable_words Vars.answer_given gated (gate_of i.input (length i.text) (length i.input)) _ a

-- ---- parse_variables

abbrev list_outcome : Lent → Outcome Filled
list_outcome i = Vars.variables_outcome i.input (length i.text) (length i.records)

list_answered : (i : Lent) → AnsweredVariables (list_outcome i)
unfolding Vars.variables_outcome
list_answered i = past_input i (hung_told (length i.records) (read_all as_written (pieces i.input)))

pub parse_variables_fixed : Fixed Lent (Left (Result VariablesRead VariablesError)) parse_variables_promise
parse_variables_fixed = met_fixed list_outcome list_answered

pub parse_variables_row : (i : Lent) (o : Left (Result VariablesRead VariablesError)) → parse_variables_promise i o → Row variable_words (Vars.answer_given o.answer) i.text o.text i.records o.records
parse_variables_row = met_row list_outcome list_answered

-- ---- parse_update_targets

abbrev updates_outcome : Lent → Outcome Filled
updates_outcome i = Vars.update_outcome i.input (length i.text) (length i.records)

updates_answered : (i : Lent) → AnsweredVariables (updates_outcome i)
unfolding Vars.update_outcome
updates_answered i = past_input i (update_told (length i.records) (read_all looked_up (pieces i.input)))

pub parse_update_targets_fixed : Fixed Lent (Left (Result VariablesRead VariablesError)) parse_update_targets_promise
parse_update_targets_fixed = met_fixed updates_outcome updates_answered

pub parse_update_targets_row : (i : Lent) (o : Left (Result VariablesRead VariablesError)) → parse_update_targets_promise i o
    → Row variable_words (Vars.answer_given o.answer) i.text o.text i.records o.records
parse_update_targets_row = met_row updates_outcome updates_answered
