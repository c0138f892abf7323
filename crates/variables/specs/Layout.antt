-- How targets become records and texts: variables first, then the exclusions, and their texts in that order.
use Rattle.std.specs.Prelude.{ℕ, ◌+◌, List, [], ◌∷◌, ◌++◌, length}
use Rattle.ascii.specs.Choice.{bit}
use Rattle.lent.specs.Sizes.{span_word}
use Rattle.lent.specs.Sources.{Sourced, sourced_text, sourced_record}
use Rattle.lent.specs.Layout.{texts_of, words_of}
use Rattle.variables.specs.Variables.{Selection, none, key, regex, Variable}

-- The number of a selection's kind, and its text.
abbrev pub selection_code : Selection → ℕ
selection_code none = 0
selection_code (key t) = 1
selection_code (regex t) = 2

abbrev pub selection_text : Selection → List ℕ
selection_text none = []
selection_text (key t) = t
selection_text (regex t) = t

-- Its span, at the offset reached; with no selection 0.
abbrev pub selection_span : ℕ → Selection → ℕ
selection_span o none = 0
selection_span o (key t) = span_word o (length t)
selection_span o (regex t) = span_word o (length t)

-- A record but for its last word, the span of what it was read from.
abbrev pub variable_record : ℕ → Variable → List ℕ
variable_record o v = 1 ∷ v.code ∷ bit v.counts ∷ selection_code v.chosen ∷ selection_span o v.chosen ∷ []

abbrev pub exclusion_record : ℕ → List ℕ → List ℕ
exclusion_record o e = 2 ∷ 0 ∷ 0 ∷ 0 ∷ span_word o (length e) ∷ []

-- A variable's text is its selection's, and an exclusion's is itself.
abbrev pub chosen_text : Variable → List ℕ
chosen_text v = selection_text v.chosen

abbrev pub itself : List ℕ → List ℕ
itself e = e

-- The same with the part that each was read from: the text is as it was, and the record whole.
abbrev pub variable_text : Sourced Variable → List ℕ
variable_text = sourced_text chosen_text

abbrev pub exclusion_text : Sourced (List ℕ) → List ℕ
exclusion_text = sourced_text itself

abbrev pub variable_whole : ℕ → Sourced Variable → List ℕ
variable_whole = sourced_record variable_record

abbrev pub exclusion_whole : ℕ → Sourced (List ℕ) → List ℕ
exclusion_whole = sourced_record exclusion_record

abbrev pub selection_texts : List (Sourced Variable) → List ℕ
selection_texts vs = texts_of variable_text vs

abbrev pub texts : List (Sourced Variable) → List (Sourced (List ℕ)) → List ℕ
texts vs es = selection_texts vs ++ texts_of exclusion_text es

abbrev pub words_from : ℕ → List (Sourced Variable) → List (Sourced (List ℕ)) → List ℕ
words_from o vs es = words_of variable_whole variable_text o vs ++ words_of exclusion_whole exclusion_text (o + length (selection_texts vs)) es
