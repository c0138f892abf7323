-- Directives without their spans in the input are laid out as before, but for 0 where each record has one.
use Rattle.std.specs.Prelude.{Result, Ok, Err}
use mathlib.Core.Path.{◌≡◌, refl, sym, ap, ap₂, ◌∙◌}
use Prim.Native.Nat.{ℕ, zero, suc, ◌+◌, ◌-◌}
use mathlib.Core.Bool.{Bool, true, false}
use mathlib.Core.List.{List, [], ◌∷◌, ◌++◌, append_assoc, map}
use lib.ListN.{length}
use Rattle.ascii.specs.Choice.{pick}
use Rattle.lent.specs.Sizes.{span_word}
use Rattle.lent.specs.Buffers.{zeros, padded}
use Rattle.lent.specs.Layout.{texts_of, words_of}
use Rattle.lent.specs.Sources.{part_word, Sourced, sourced_text, sourced_record, sited_all}
use Rattle.variables.specs.Variables.{Variable}
use Rattle.variables.specs.Layout as Targets
use Rattle.records.specs.Actions.{Action, action_text, slot_text}
use Rattle.records.specs.Layout as Acts
use Rattle.directives.specs.Directives.{Body, rule, act, marker, defaults, unknown, Directive, Fault, wrong_count, untaken, stopped, id_missing, within}
use Rattle.directives.specs.Layout.{Reached, reached, past_body, kind_code, name_slot, listed_in, negated_word, operator_word, argument_slot, actions_in, name_end, listed_end, argument_end, directive_text, directive_record, texts, listed_count, action_count, listed_counts, action_counts, directives_from, variables_from, actions_from}
use Rattle.directives.specs.Table.{Outcome, shut, faulty, overfull, filled, fault_name, text_by, records_by, scratch_by}
use Rattle.directives.specs.Promises.{Rooms, laid_out, lacks, roomed}
use Rattle.directives.specs.Parts.{resited_body, nowhere, erased, erased_fault, erased_all, blanked, unspanned, unsourced_variables, unsourced_actions, unspanned_outcome}
use Rattle.directives.proofs.SitedLaws.{SameBody, resited_same, resited_name, variables_text}

-- ---- what no span changes

same : (d : Directive) → SameBody (erased d).body d.body
same d = resited_same nowhere d.body

count_erased : (ds : List Directive) → length (map erased ds) ≡ length ds
count_erased [] = refl
count_erased (d ∷ ds) = ap suc (count_erased ds)

listed_erased : (ds : List Directive) → listed_counts (map erased ds) ≡ listed_counts ds
unfolding listed_counts
listed_erased [] = refl
listed_erased (d ∷ ds) = ap₂ (λ (m n : ℕ). m + n) (same d).listed (listed_erased ds)

actions_erased : (ds : List Directive) → action_counts (map erased ds) ≡ action_counts ds
unfolding action_counts
actions_erased [] = refl
actions_erased (d ∷ ds) = ap₂ (λ (m n : ℕ). m + n) (same d).acted (actions_erased ds)

texts_erased : (ds : List Directive) → texts (map erased ds) ≡ texts ds
unfolding texts_of
texts_erased [] = refl
texts_erased (d ∷ ds) = ap₂ (λ (k l : List ℕ). k ++ l) (same d).text (texts_erased ds)

-- ---- words with 0 in some of them

-- so many words, and k of them still to come
abbrev Wide : ℕ → List ℕ → Type 0
Wide zero [] = Unit {0}
Wide zero (w ∷ ws) = ⊥
Wide (suc k) [] = ⊥
Wide (suc k) (w ∷ ws) = Wide k ws

module _ (n : ℕ) where
  blanked_length : (k : ℕ) (ws : List ℕ) → length (blanked n k ws) ≡ length ws
  unfolding blanked
  blanked_length zero [] = refl
  blanked_length (suc k) [] = refl
  blanked_length zero (w ∷ ws) = ap suc (blanked_length n ws)
  blanked_length (suc k) (w ∷ ws) = ap suc (blanked_length k ws)

  blanked_zeros : (k m : ℕ) → blanked n k (zeros m) ≡ zeros m
  unfolding blanked
  blanked_zeros zero zero = refl
  blanked_zeros (suc k) zero = refl
  blanked_zeros zero (suc m) = ap (λ (l : List ℕ). 0 ∷ l) (blanked_zeros n m)
  blanked_zeros (suc k) (suc m) = ap (λ (l : List ℕ). 0 ∷ l) (blanked_zeros k m)

  blanked_beyond : (k m : ℕ) (ws : List ℕ) → blanked n k (ws ++ zeros m) ≡ blanked n k ws ++ zeros m
  unfolding blanked
  blanked_beyond zero m [] = blanked_zeros zero m
  blanked_beyond (suc k) m [] = blanked_zeros (suc k) m
  blanked_beyond zero m (w ∷ ws) = ap (λ (l : List ℕ). 0 ∷ l) (blanked_beyond n m ws)
  blanked_beyond (suc k) m (w ∷ ws) = ap (λ (l : List ℕ). w ∷ l) (blanked_beyond k m ws)

  blanked_twice : (k : ℕ) (ws : List ℕ) → blanked n k (blanked n k ws) ≡ blanked n k ws
  unfolding blanked
  blanked_twice zero [] = refl
  blanked_twice (suc k) [] = refl
  blanked_twice zero (w ∷ ws) = ap (λ (l : List ℕ). 0 ∷ l) (blanked_twice n ws)
  blanked_twice (suc k) (w ∷ ws) = ap (λ (l : List ℕ). w ∷ l) (blanked_twice k ws)

  padded_blanked : (k m : ℕ) (ws : List ℕ) → blanked n k (padded m ws) ≡ blanked n k (padded m (blanked n k ws))
  padded_blanked k m ws =
      blanked_beyond k (m - length ws) ws
      ∙ sym (rw (blanked_length k ws) (blanked_beyond k (m - length ws) (blanked n k ws) ∙ ap (λ (l : List ℕ). l ++ zeros (m - length ws)) (blanked_twice k ws)))

  -- a whole record, whose last word goes, before others
  blanked_record : (k : ℕ) (ws : List ℕ) (w : ℕ) (rest : List ℕ) → Wide k ws → blanked n k (ws ++ (w ∷ []) ++ rest) ≡ ws ++ (0 ∷ []) ++ blanked n n rest
  unfolding blanked
  blanked_record zero [] w rest h = refl
  blanked_record zero (x ∷ ws) w rest h = absurd h
  blanked_record (suc k) [] w rest h = absurd h
  blanked_record (suc k) (x ∷ ws) w rest h = ap (λ (l : List ℕ). x ∷ l) (blanked_record k ws w rest h)

  -- records with a source, before others
  module _ {A : Type 0} (words : ℕ → A → List ℕ) (text : A → List ℕ) (wide : (o : ℕ) (x : A) → Wide n (words o x)) where
    abbrev laid : ℕ → List (Sourced A) → List ℕ
    laid = words_of (sourced_record words) (sourced_text text)

    sources_blanked : (o : ℕ) (xs : List (Sourced A)) (rest : List ℕ) → blanked n n (laid o xs ++ rest) ≡ laid o (sited_all nowhere xs) ++ blanked n n rest
    unfolding words_of span_word
    sources_blanked o [] rest = refl
    sources_blanked o (x ∷ xs) rest =
        let more = laid (o + length (text x.thing)) xs in
        ap (blanked n n) (append_assoc (words o x.thing ++ (part_word x.source ∷ [])) more rest)
        ∙ blanked_record n (words o x.thing) (part_word x.source) (more ++ rest) (wide o x.thing)
        ∙ ap (λ (l : List ℕ). words o x.thing ++ (0 ∷ []) ++ l) (sources_blanked (o + length (text x.thing)) xs rest)
        ∙ sym (append_assoc (words o x.thing ++ (0 ∷ [])) (laid (o + length (text x.thing)) (sited_all nowhere xs)) (blanked n n rest))

-- ---- a variable's and an action's last word

variable_wide : (o : ℕ) (v : Variable) → Wide 5 (Targets.variable_record o v)
variable_wide o v = tt

exclusion_wide : (o : ℕ) (e : List ℕ) → Wide 5 (Targets.exclusion_record o e)
exclusion_wide o e = tt

action_wide : (o : ℕ) (x : Action) → Wide 6 (Acts.action_record o x)
unfolding Acts.action_record
action_wide o x = tt

listed_blanked : (o : ℕ) (x : Body) (rest : List ℕ)
    → unsourced_variables (Targets.words_from o (listed_in x).variables (listed_in x).exclusions ++ rest)
    ≡ Targets.words_from o (listed_in (resited_body nowhere x)).variables (listed_in (resited_body nowhere x)).exclusions ++ unsourced_variables rest
unfolding words_of texts_of
listed_blanked o (rule vs op xs) rest =
    let i = o + length (Targets.selection_texts vs.variables) in
    let a = words_of Targets.variable_whole Targets.variable_text o vs.variables in
    let b = words_of Targets.exclusion_whole Targets.exclusion_text i vs.exclusions in
    let c = words_of Targets.variable_whole Targets.variable_text o (sited_all nowhere vs.variables) in
    let d = words_of Targets.exclusion_whole Targets.exclusion_text i (sited_all nowhere vs.exclusions) in
    ap unsourced_variables (append_assoc a b rest)
    ∙ sources_blanked 5 Targets.variable_record Targets.chosen_text variable_wide o vs.variables (b ++ rest)
    ∙ ap (λ (l : List ℕ). c ++ l) (sources_blanked 5 Targets.exclusion_record Targets.itself exclusion_wide i vs.exclusions rest)
    ∙ sym (append_assoc c d (unsourced_variables rest))
    ∙ ap (λ (t : List ℕ). (c ++ words_of Targets.exclusion_whole Targets.exclusion_text (o + length t) (sited_all nowhere vs.exclusions)) ++ unsourced_variables rest)
    (sym (variables_text nowhere vs.variables))
listed_blanked o (act xs) rest = refl
listed_blanked o (marker m) rest = refl
listed_blanked o (defaults xs) rest = refl
listed_blanked o (unknown n) rest = refl

acted_blanked : (o : ℕ) (x : Body) (rest : List ℕ)
    → unsourced_actions (Acts.words_from o (actions_in x) ++ rest) ≡ Acts.words_from o (actions_in (resited_body nowhere x)) ++ unsourced_actions rest
unfolding words_of
acted_blanked o (rule vs op xs) rest = sources_blanked 6 Acts.action_record action_text action_wide o xs rest
acted_blanked o (act xs) rest = sources_blanked 6 Acts.action_record action_text action_wide o xs rest
acted_blanked o (marker m) rest = refl
acted_blanked o (defaults xs) rest = sources_blanked 6 Acts.action_record action_text action_wide o xs rest
acted_blanked o (unknown n) rest = refl

-- what stands before a body's lists ends where it did
name_end_lem : (o : ℕ) (d : Directive) → name_end o (erased d).body ≡ name_end o d.body
name_end_lem o d = rw (same d).name

listed_end_lem : (o : ℕ) (d : Directive) → listed_end o (erased d).body ≡ listed_end o d.body
listed_end_lem o d = ap₂ (λ (i : ℕ) (t : List ℕ). i + length t) (name_end_lem o d) (same d).listed_text_lem

argument_end_lem : (o : ℕ) (d : Directive) → argument_end o (erased d).body ≡ argument_end o d.body
argument_end_lem o d = ap₂ (λ (i : ℕ) (t : List ℕ). i + length t) (listed_end_lem o d) (ap slot_text (same d).argument)

text_end_lem : (o : ℕ) (d : Directive) → o + length (directive_text (erased d)) ≡ o + length (directive_text d)
text_end_lem o d = ap (λ (t : List ℕ). o + length t) (same d).text

variables_erased : (o : ℕ) (ds : List Directive) → variables_from o (map erased ds) ≡ unsourced_variables (variables_from o ds)
unfolding words_of blanked
variables_erased o [] = refl
variables_erased o (d ∷ ds) =
    ap₂ (λ (i j : ℕ). Targets.words_from i (listed_in (erased d).body).variables (listed_in (erased d).body).exclusions ++ variables_from j (map erased ds)) (name_end_lem o d) (text_end_lem o d)
    ∙ ap (λ (l : List ℕ). Targets.words_from (name_end o d.body) (listed_in (erased d).body).variables (listed_in (erased d).body).exclusions ++ l) (variables_erased (o + length (directive_text d)) ds)
    ∙ sym (listed_blanked (name_end o d.body) d.body (variables_from (o + length (directive_text d)) ds))

action_words_erased : (o : ℕ) (ds : List Directive) → actions_from o (map erased ds) ≡ unsourced_actions (actions_from o ds)
unfolding words_of blanked
action_words_erased o [] = refl
action_words_erased o (d ∷ ds) =
    ap₂ (λ (i j : ℕ). Acts.words_from i (actions_in (erased d).body) ++ actions_from j (map erased ds)) (argument_end_lem o d) (text_end_lem o d)
    ∙ ap (λ (l : List ℕ). Acts.words_from (argument_end o d.body) (actions_in (erased d).body) ++ l) (action_words_erased (o + length (directive_text d)) ds)
    ∙ sym (acted_blanked (argument_end o d.body) d.body (actions_from (o + length (directive_text d)) ds))

-- ---- a directive's third word

-- a record by what it says of its body
abbrev written : Reached → ℕ → ℕ → Body → ℕ → ℕ → ℕ → List ℕ
written r line span x i a b =
    kind_code x ∷ line ∷ span ∷ Acts.slot_word r.text (name_slot x) ∷
    negated_word x ∷ operator_word x ∷ Acts.slot_word i (argument_slot x) ∷
    r.variables ∷ a ∷ r.actions ∷ b ∷ []

record_erased : (r : Reached) (d : Directive) → directive_record r (erased d) ≡ written r d.line 0 d.body (listed_end r.text d.body) (listed_count d.body) (action_count d.body)
unfolding span_word
record_erased r d =
    let e = same d in
    rw (e.kind, e.name, e.negated, e.operator, e.argument, e.listed, e.acted, e.listed_text_lem)

past_erased : (r : Reached) (d : Directive) → past_body r (erased d).body ≡ past_body r d.body
past_erased r d = let e = same d in rw (e.text, e.listed, e.acted)

words_erased : (r : Reached) (ds : List Directive) → directives_from r (map erased ds) ≡ unspanned (directives_from r ds)
unfolding directives_from blanked
words_erased r [] = refl
words_erased r (d ∷ ds) =
    ap₂ (λ (k : List ℕ) (q : Reached). k ++ directives_from q (map erased ds)) (record_erased r d) (past_erased r d)
    ∙ ap (λ (l : List ℕ). written r d.line 0 d.body (listed_end r.text d.body) (listed_count d.body) (action_count d.body) ++ l) (words_erased (past_body r d.body) ds)

-- ---- outcomes

pub outcome_erased : (m : Rooms) (o : Result (List Directive) Fault) → roomed m (erased_all o) ≡ unspanned_outcome (roomed m o)
outcome_erased m (Err f) = refl
outcome_erased m (Ok ds) =
    rw (count_erased ds, listed_erased ds, actions_erased ds, texts_erased ds, variables_erased 0 ds, action_words_erased 0 ds, words_erased (reached 0 0 0) ds)
    (go (lacks m ds))
  where
    go : (t : Bool) → pick t (overfull (length ds) (listed_counts ds) (action_counts ds)) (unspanned_outcome (filled (laid_out ds)))
        ≡ unspanned_outcome (pick t (overfull (length ds) (listed_counts ds) (action_counts ds)) (filled (laid_out ds)))
    go true = refl
    go false = refl

pub name_erased : (f : Fault) → fault_name (erased_fault f) ≡ fault_name f
name_erased (wrong_count n) = refl
name_erased (untaken n) = refl
name_erased (stopped n) = refl
name_erased (id_missing n) = refl
name_erased (within n f) = resited_name nowhere f

module _ (old : List ℕ) where
  pub text_unspanned : (o : Outcome) → text_by o old ≡ text_by (unspanned_outcome o) old
  text_unspanned (shut f) = refl
  text_unspanned (faulty f) = ap (padded (length old)) (sym (name_erased f))
  text_unspanned (overfull d v a) = refl
  text_unspanned (filled x) = refl

  pub scratch_unspanned : (o : Outcome) → scratch_by o old ≡ scratch_by (unspanned_outcome o) old
  scratch_unspanned (shut f) = refl
  scratch_unspanned (faulty f) = refl
  scratch_unspanned (overfull d v a) = refl
  scratch_unspanned (filled x) = refl

  pub variables_unspanned : (o : Outcome) → unsourced_variables (records_by (λ x. x.variables) o old) ≡ unsourced_variables (records_by (λ x. x.variables) (unspanned_outcome o) old)
  variables_unspanned (shut f) = refl
  variables_unspanned (faulty f) = refl
  variables_unspanned (overfull d v a) = refl
  variables_unspanned (filled x) = padded_blanked 5 5 (length old) x.variables

  pub actions_unspanned : (o : Outcome) → unsourced_actions (records_by (λ x. x.actions) o old) ≡ unsourced_actions (records_by (λ x. x.actions) (unspanned_outcome o) old)
  actions_unspanned (shut f) = refl
  actions_unspanned (faulty f) = refl
  actions_unspanned (overfull d v a) = refl
  actions_unspanned (filled x) = padded_blanked 6 6 (length old) x.actions

  pub directives_unspanned : (o : Outcome) → unspanned (records_by (λ x. x.directives) o old) ≡ unspanned (records_by (λ x. x.directives) (unspanned_outcome o) old)
  directives_unspanned (shut f) = refl
  directives_unspanned (faulty f) = refl
  directives_unspanned (overfull d v a) = refl
  directives_unspanned (filled x) = padded_blanked 10 2 (length old) x.directives
