-- Which words of action records are texts. A run of records is a run of words with a mark for each.
use Rattle.std.specs.Prelude.{ℕ, zero, suc, ◌+◌, ◌-◌, ◌^◌, Bool, true, false, List, [], ◌∷◌, ◌++◌, take, drop, get_or, replicate, leb}
use Rattle.ascii.specs.Choice.{and}
use Rattle.lent.specs.Sizes.{action_words, span_offset, span_length}
use Rattle.records.specs.Codes.{shape_of, known_by, has_a, has_b, has_c}

-- The marks of one record: code, number, a, b, value kind, c, and what follows in a wider record.
unfoldable pub marks_for : ℕ → ℕ → List Bool
marks_for code kind =
    false ∷ false ∷ has_a (shape_of code) ∷ has_b (shape_of code) ∷ false ∷ has_c (shape_of code) kind ∷
    replicate (action_words - 6) false

-- Of the record that the words start with.
unfoldable pub marks_of : List ℕ → List Bool
marks_of words = marks_for (get_or words 0 0) (get_or words 4 0)

unfoldable pub known : List ℕ → Bool
known words = known_by (shape_of (get_or words 0 0)) (get_or words 4 0)

-- Of so many records.
unfoldable pub marks_all : ℕ → List ℕ → List Bool
marks_all zero words = []
marks_all (suc n) words = marks_of words ++ marks_all n (drop action_words words)

-- The marked words.
abbrev pub onto : Bool → ℕ → List ℕ → List ℕ
onto true w ws = w ∷ ws
onto false w ws = ws

unfoldable pub spans_by : List Bool → List ℕ → List ℕ
spans_by [] words = []
spans_by (m ∷ ms) [] = []
spans_by (m ∷ ms) (w ∷ ws) = onto m w (spans_by ms ws)

-- Those of the record that the words start with.
unfoldable pub spans_of : List ℕ → List ℕ
spans_of words = spans_by (marks_of words) words

-- Where a text ends, and the last place where one may.
unfoldable pub span_end : ℕ → ℕ
span_end w = span_offset w + span_length w

abbrev pub end_most : ℕ
end_most = 2 ^ 32 - 1

-- A text is in a buffer of n bytes.
unfoldable pub inside : ℕ → ℕ → Bool
inside n w = and (leb (span_end w) n) (leb (span_end w) end_most)

unfoldable pub inside_all : ℕ → List ℕ → Bool
inside_all n [] = true
inside_all n (w ∷ ws) = and (inside n w) (inside_all n ws)

-- The text that a span word shows.
unfoldable pub cut : List ℕ → ℕ → List ℕ
cut text w = take (span_length w) (drop (span_offset w) text)
