-- Records and texts of directives that are one more, and how many words they take.
use mathlib.Core.Path.{◌≡◌, refl, sym, ap, ◌∙◌}
use Prim.Native.Nat.{ℕ, ◌+◌, ◌*◌}
use native.Mathlib.Omega.{arith}
use native.Mathlib.Nat.{add_assoc}
use mathlib.Core.List.{List, [], ◌∷◌, ◌++◌, append_assoc, append-nil}
use lib.ListN.{length, length-append}
use Rattle.lent.specs.Layout.{texts_of, words_of}
use Rattle.lent.specs.Sizes.{variable_words, action_words, directive_words}
use Rattle.lent.proofs.LayoutLaws as Lent
use Rattle.variables.specs.Layout as Targets
use Rattle.records.specs.Layout.{action_record, full_record, full_text}
use Rattle.directives.specs.Directives.{Directive}
use Rattle.directives.specs.Layout.{Reached, reached, past_body, name_end, listed_in, actions_in, argument_end, directive_text, directive_record, variable_records, action_records, texts, listed_count, action_count, listed_counts, action_counts, directives_from, variables_from, actions_from}

-- ---- one more

-- What is reached past all of them.
unfoldable pub past_all : Reached → List Directive → Reached
past_all r [] = r
past_all r (d ∷ ds) = past_all (past_body r d.body) ds

pub texts_more : (ds : List Directive) (d : Directive) → texts (ds ++ d ∷ []) ≡ texts ds ++ directive_text d
texts_more = Lent.texts_more directive_text

pub variables_more : (o : ℕ) (ds : List Directive) (d : Directive) → variables_from o (ds ++ d ∷ []) ≡ variables_from o ds ++ variable_records (o + length (texts ds)) d
variables_more = Lent.words_more directive_text variable_records

pub actions_more : (o : ℕ) (ds : List Directive) (d : Directive) → actions_from o (ds ++ d ∷ []) ≡ actions_from o ds ++ action_records (o + length (texts ds)) d
actions_more = Lent.words_more directive_text action_records

pub directives_more : (r : Reached) (ds : List Directive) (d : Directive) → directives_from r (ds ++ d ∷ []) ≡ directives_from r ds ++ directive_record (past_all r ds) d
unfolding directives_from past_all
directives_more r [] d = append-nil (directive_record r d)
directives_more r (e ∷ ds) d =
    ap (λ (l : List ℕ). directive_record r e ++ l) (directives_more (past_body r e.body) ds d)
    ∙ sym (append_assoc (directive_record r e) (directives_from (past_body r e.body) ds) (directive_record (past_all (past_body r e.body) ds) d))

pub listed_more : (ds : List Directive) (d : Directive) → listed_counts (ds ++ d ∷ []) ≡ listed_counts ds + listed_count d.body
unfolding listed_counts
listed_more [] d = omega arith
listed_more (e ∷ ds) d = omega (arith, listed_more ds d)

pub acted_more : (ds : List Directive) (d : Directive) → action_counts (ds ++ d ∷ []) ≡ action_counts ds + action_count d.body
unfolding action_counts
acted_more [] d = omega arith
acted_more (e ∷ ds) d = omega (arith, acted_more ds d)

-- what is reached is told by the counts
pub past_is : (o v a : ℕ) (ds : List Directive) → past_all (reached o v a) ds ≡ reached (o + length (texts ds)) (v + listed_counts ds) (a + action_counts ds)
unfolding past_all texts_of listed_counts action_counts
past_is o v a [] =
    let x : o ≡ o + 0 = omega arith in
    let y : v ≡ v + 0 = omega arith in
    let z : a ≡ a + 0 = omega arith in
    rw (sym x, sym y, sym z)
past_is o v a (d ∷ ds) =
    past_is (o + length (directive_text d)) (v + listed_count d.body) (a + action_count d.body) ds
    ∙ rw (length-append (directive_text d) (texts ds)) (simp add_assoc)

-- ---- how many words

pub directives_long : (r : Reached) (ds : List Directive) → length (directives_from r ds) ≡ length ds * directive_words
unfolding directives_from
directives_long r [] = omega arith
directives_long r (d ∷ ds) = omega (arith, directives_long (past_body r d.body) ds, length-append (directive_record r d) (directives_from (past_body r d.body) ds))

variable_long : (o : ℕ) (d : Directive) → length (variable_records o d) ≡ listed_count d.body * variable_words
variable_long o d =
    let vs = (listed_in d.body).variables in
    let es = (listed_in d.body).exclusions in
    let n = name_end o d.body in
    length-append (words_of Targets.variable_whole Targets.variable_text n vs) (words_of Targets.exclusion_whole Targets.exclusion_text (n + length (Targets.selection_texts vs)) es)
    ∙ omega (arith, Lent.words_length Targets.variable_text Targets.variable_whole variable_words (λ o v. refl) n vs, Lent.words_length Targets.exclusion_text Targets.exclusion_whole variable_words (λ o e. refl) (n + length (Targets.selection_texts vs)) es)

action_long : (o : ℕ) (d : Directive) → length (action_records o d) ≡ action_count d.body * action_words
unfolding action_record
action_long o d = Lent.words_length full_text full_record action_words (λ o x. refl) (argument_end o d.body) (actions_in d.body)

pub variables_long : (o : ℕ) (ds : List Directive) → length (variables_from o ds) ≡ listed_counts ds * variable_words
unfolding words_of listed_counts
variables_long o [] = omega arith
variables_long o (d ∷ ds) =
    omega (arith, variable_long o d, variables_long (o + length (directive_text d)) ds, length-append (variable_records o d) (variables_from (o + length (directive_text d)) ds))

pub actions_long : (o : ℕ) (ds : List Directive) → length (actions_from o ds) ≡ action_counts ds * action_words
unfolding words_of action_counts
actions_long o [] = omega arith
actions_long o (d ∷ ds) =
    omega (arith, action_long o d, actions_long (o + length (directive_text d)) ds, length-append (action_records o d) (actions_from (o + length (directive_text d)) ds))
