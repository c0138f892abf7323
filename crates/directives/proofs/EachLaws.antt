-- Records of directives one by one: one more of them, all as one run, and how many words they take.
use mathlib.Core.Path.{◌≡◌, refl, sym, ap, ap₂, ◌∙◌}
use Prim.Native.Nat.{ℕ, ◌+◌, ◌*◌}
use native.Mathlib.Omega.{arith}
use mathlib.Core.Bool.{Bool}
use mathlib.Core.List.{List, [], ◌∷◌, ◌++◌, append_assoc, append-nil}
use lib.ListN.{length, length-append}
use Rattle.lent.specs.Layout.{texts_of, words_of, records_of}
use Rattle.lent.specs.Sizes.{variable_words, action_words, directive_words}
use Rattle.lent.specs.Buffers.{stored, stored_each, joined}
use Rattle.lent.proofs.LayoutLaws.{records_joined}
use Rattle.lent.proofs.BufferLaws.{joined_append}
use Rattle.variables.specs.Layout as Targets
use Rattle.records.specs.Layout.{full_record, full_text}
use Rattle.directives.specs.Directives.{Body, Directive}
use Rattle.directives.specs.Layout.{Reached, past_body, name_end, argument_end, listed_in, actions_in, directive_text, directive_record, variable_records, action_records, texts, listed_counts, action_counts, directives_from, variables_from, actions_from}
use Rattle.directives.specs.Steps.{directive_each, each_from, listed_each, acted_each, entry_record}
use Rattle.directives.specs.declared.parts.Tally.{Tally}
use Rattle.directives.specs.declared.parts.Entry.{Entry}
use Rattle.directives.proofs.LayoutLaws.{past_all, directives_long, variables_long, actions_long}

-- ---- equal parts, equal records

pub same_record : (t : Tally) {l l' i i' j j' : ℕ} {e e' : Entry} → l ≡ l' → i ≡ i' → j ≡ j' → e ≡ e' → entry_record l i j t e ≡ entry_record l' i' j' t e'
same_record t a b c d = rw (a, b, c, d)

pub same_tally : {a a' b b' c c' d d' : ℕ} {e e' : Bool} → a ≡ a' → b ≡ b' → c ≡ c' → d ≡ d' → e ≡ e'
    → ◌≡◌ {A = Tally} (record { directives = a; text = b; variables = c; actions = d; chained = e }) (record { directives = a'; text = b'; variables = c'; actions = d'; chained = e' })
same_tally a b c d e = rw (a, b, c, d, e)

pub same_stored : {old old' : List ℕ} {i i' : ℕ} {w w' : List ℕ} → old ≡ old' → i ≡ i' → w ≡ w' → stored old i w ≡ stored old' i' w'
same_stored a b c = rw (a, b, c)

pub same_each : {old old' : List ℕ} {i i' : ℕ} {w w' : List (List ℕ)} → old ≡ old' → i ≡ i' → w ≡ w' → stored_each old i w ≡ stored_each old' i' w'
same_each a b c = rw (a, b, c)

-- ---- one more

pub directive_each_more : (r : Reached) (ds : List Directive) (d : Directive) → directive_each r (ds ++ d ∷ []) ≡ directive_each r ds ++ (directive_record (past_all r ds) d ∷ [])
unfolding directive_each past_all
directive_each_more r [] d = refl
directive_each_more r (e ∷ ds) d = ap (λ (l : List (List ℕ)). directive_record r e ∷ l) (directive_each_more (past_body r e.body) ds d)

pub each_from_more : (words : ℕ → Body → List (List ℕ)) (o : ℕ) (ds : List Directive) (d : Directive)
    → each_from words o (ds ++ d ∷ []) ≡ each_from words o ds ++ words (o + length (texts ds)) d.body
unfolding each_from texts_of
each_from_more words o [] d = let e : o + 0 ≡ o = omega arith in rw e (append-nil (words o d.body))
each_from_more words o (y ∷ ds) d =
    let n = o + length (directive_text y) in
    let e : n + length (texts ds) ≡ o + length (directive_text y ++ texts ds) = omega (arith, length-append (directive_text y) (texts ds)) in
    ap (λ (l : List (List ℕ)). words o y.body ++ l) (each_from_more words n ds d ∙ ap (λ (k : ℕ). each_from words n ds ++ words k d.body) e)
    ∙ sym (append_assoc (words o y.body) (each_from words n ds) (words (o + length (directive_text y ++ texts ds)) d.body))

-- ---- as one run

pub directives_joined : (r : Reached) (ds : List Directive) → joined (directive_each r ds) ≡ directives_from r ds
unfolding directive_each directives_from joined
directives_joined r [] = refl
directives_joined r (d ∷ ds) = ap (λ (l : List ℕ). directive_record r d ++ l) (directives_joined (past_body r d.body) ds)

-- the records of one directive's parts as one run, and so those of all
each_joined : (each : ℕ → Body → List (List ℕ)) (words : ℕ → Directive → List ℕ) → ((o : ℕ) (d : Directive) → joined (each o d.body) ≡ words o d)
    → (o : ℕ) (ds : List Directive) → joined (each_from each o ds) ≡ words_of words directive_text o ds
unfolding each_from words_of joined
each_joined each words one o [] = refl
each_joined each words one o (d ∷ ds) =
    let n = o + length (directive_text d) in
    joined_append (each o d.body) (each_from each n ds)
    ∙ ap₂ (λ (a b : List ℕ). a ++ b) (one o d) (each_joined each words one n ds)

listed_joined : (o : ℕ) (d : Directive) → joined (listed_each o d.body) ≡ variable_records o d
listed_joined o d =
    let n = name_end o d.body in
    let vs = (listed_in d.body).variables in
    let es = (listed_in d.body).exclusions in
    let k = n + length (Targets.selection_texts vs) in
    joined_append (records_of Targets.variable_whole Targets.variable_text n vs) (records_of Targets.exclusion_whole Targets.exclusion_text k es)
    ∙ ap₂ (λ (a b : List ℕ). a ++ b) (records_joined Targets.variable_text Targets.variable_whole n vs) (records_joined Targets.exclusion_text Targets.exclusion_whole k es)

acted_joined : (o : ℕ) (d : Directive) → joined (acted_each o d.body) ≡ action_records o d
acted_joined o d = records_joined full_text full_record (argument_end o d.body) (actions_in d.body)

pub variables_joined : (o : ℕ) (ds : List Directive) → joined (each_from listed_each o ds) ≡ variables_from o ds
variables_joined = each_joined listed_each variable_records listed_joined

pub actions_joined : (o : ℕ) (ds : List Directive) → joined (each_from acted_each o ds) ≡ actions_from o ds
actions_joined = each_joined acted_each action_records acted_joined

-- ---- how many words

pub directive_each_long : (r : Reached) (ds : List Directive) → length (joined (directive_each r ds)) ≡ length ds * directive_words
directive_each_long r ds = ap length (directives_joined r ds) ∙ directives_long r ds

pub listed_each_long : (o : ℕ) (ds : List Directive) → length (joined (each_from listed_each o ds)) ≡ listed_counts ds * variable_words
listed_each_long o ds = ap length (variables_joined o ds) ∙ variables_long o ds

pub acted_each_long : (o : ℕ) (ds : List Directive) → length (joined (each_from acted_each o ds)) ≡ action_counts ds * action_words
acted_each_long o ds = ap length (actions_joined o ds) ∙ actions_long o ds
