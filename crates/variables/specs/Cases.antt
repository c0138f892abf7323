-- The worked lists of document 01, and a few more.
use Rattle.std.specs.Prelude.{◌≡◌, refl, ℕ, Bool, true, false, List, [], ◌∷◌}
use Prim.Native.String.{String}
use Rattle.ascii.specs.Text.{bytes}
use Rattle.ascii.specs.Classes.{white}
use Rattle.ascii.specs.Fold.{upper, same}
use Rattle.ascii.specs.Trim.{strip_start, strip_end, leading}
use Rattle.ascii.specs.Splits.{split}
use Rattle.lent.specs.Sizes.{span_word}
use Rattle.lent.specs.Sources.{part, Sourced, sourced}
use Rattle.lent.specs.Layout.{texts_of, words_of}
use Rattle.names.specs.Tables.{find}
use Rattle.names.specs.Variables.{variables, variable_code}
use Rattle.variables.specs.Parts.{cut, filled_from, pieces_from, pieces}
use Rattle.variables.specs.Variables.{Selection, none, key, regex, Variable, Targets, targets, refused, Excluding, as_written, looked_up, selection, single, read_all}
use Rattle.variables.specs.Layout.{words_from}

-- A list read. To unfold it is to unfold every definition that a list is read by.
unfoldable pub Reads : Excluding → String → Targets → Type 0
unfolding bytes white upper same strip_start strip_end leading find variables variable_code cut filled_from pieces_from split selection single read_all
Reads ex s t = read_all ex (pieces (bytes s)) ≡ t

-- A variable, by the part that it was read from.
abbrev pub at : ℕ → ℕ → ℕ → Bool → Selection → Sourced Variable
at first past code counts chosen = sourced (record { code = code; counts = counts; chosen = chosen }) (part first past)

-- P: two variables, and the exclusion `ARGS:p`; the marks `!` and `&` stand in the spans
pub excluded : Reads as_written "!ARGS:p|args|&TX:/^a/"
    (targets (at 8 12 0 false none ∷ at 13 21 35 true (regex (bytes "^a")) ∷ []) (sourced (bytes "ARGS:p") (part 0 7) ∷ []))
unfolding Reads
excluded = refl

-- P: the bar cuts in a regex too
pub barred : Reads as_written "ARGS:/a|b/" (refused 1 (bytes "b/") (part 8 10))
unfolding Reads
barred = refl

-- two slashes are no regex
pub slashes : Reads as_written "ARGS://" (targets (at 0 7 0 false (key (bytes "//")) ∷ []) [])
unfolding Reads
slashes = refl

-- an exclusion's name is looked up by update targets alone
pub unknown_exclusion : Reads as_written "!x" (targets [] (sourced (bytes "x") (part 0 2) ∷ []))
unfolding Reads
unknown_exclusion = refl

pub unknown_update : Reads looked_up "!x" (refused 0 (bytes "x") (part 0 2))
unfolding Reads
unknown_update = refl

-- ---- what is underlined

-- blanks around a piece are outside its span, and parts that are empty have none
pub blanks_outside : Reads as_written "  TX:a\t" (targets (at 2 6 35 false (key (bytes "a")) ∷ []) [])
unfolding Reads
blanks_outside = refl

pub empty_before : Reads as_written "| | args" (targets (at 4 8 0 false none ∷ []) [])
unfolding Reads
empty_before = refl

-- a blank behind a mark is within the piece
pub blank_behind_mark : Reads as_written " TX | ! x" (targets (at 1 3 35 false none ∷ []) (sourced (bytes " x") (part 6 9) ∷ []))
unfolding Reads
blank_behind_mark = refl

-- of a name that is none, the whole piece is underlined, its mark and its selection with it
pub unknown_whole : Reads as_written "TX| &x:y " (refused 1 (bytes "x") (part 4 8))
unfolding Reads
unknown_whole = refl

pub unknown_marked : Reads looked_up "TX| !x:y|z" (refused 1 (bytes "x") (part 4 8))
unfolding Reads
unknown_marked = refl

-- Targets laid out in words.
unfoldable pub Words : Targets → List ℕ → Type 0
unfolding bytes texts_of words_of span_word
Words (targets vs es) ws = words_from 0 vs es ≡ ws
Words (refused i name x) ws = ⊥

-- of `!ARGS:p|args|&TX:/^a/`: the last word of each record is the span that it was read from
pub excluded_words : Words (targets (at 8 12 0 false none ∷ at 13 21 35 true (regex (bytes "^a")) ∷ []) (sourced (bytes "ARGS:p") (part 0 7) ∷ []))
    (1 ∷ 0 ∷ 0 ∷ 0 ∷ 0 ∷ span_word 8 4
    ∷ 1 ∷ 35 ∷ 1 ∷ 2 ∷ span_word 0 2 ∷ span_word 13 8
    ∷ 2 ∷ 0 ∷ 0 ∷ 0 ∷ span_word 2 6 ∷ span_word 0 7
    ∷ [])
unfolding Words
excluded_words = refl
