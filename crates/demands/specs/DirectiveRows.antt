-- The table of numbers as document 02 has it for whole directives, in plain words: what is given back, and what is left of all lent memory.
use Rattle.std.specs.Prelude.{◌≡◌, List, [], ◌∷◌, ℕ, ◌*◌, length}
use Rattle.lent.specs.Sizes.{limit, directive_words, variable_words, action_words}
use Rattle.lent.specs.Buffers.{zeros, padded}
use Rattle.lent.specs.Sources.{Part, part_word}
use Rattle.lent.specs.Table.{Given, given, Naming, naming_number}
use Rattle.directives.specs.Promises.{Lent, lent_of}

-- The text starts with these bytes, and all else is zero.
abbrev pub zero_but : List ℕ → Lent → Lent
zero_but name m =
    lent_of (padded (length m.text) name) (zeros (length m.scratch)) (zeros (length m.directives)) (zeros (length m.variables)) (zeros (length m.actions))

-- All is zero.
abbrev pub all_zero : Lent → Lent
all_zero m =
    lent_of (zeros (length m.text)) (zeros (length m.scratch)) (zeros (length m.directives)) (zeros (length m.variables)) (zeros (length m.actions))

-- of a call on the memory m, which leaves it as m'
module _ (g : Given) (m m' : Lent) where
  -- The row that it came to.
  pub data Row : Type 0 where
    -- 0: how many directive, variable and action records, and bytes of text; as many stand in the buffers, with zeros beyond, and scratch is zero
    read : (d v a : ℕ) (texts ds vs ks : List ℕ) → g ≡ given 0 (d ∷ v ∷ a ∷ length texts ∷ [])
        → length ds ≡ d * directive_words → length vs ≡ v * variable_words → length ks ≡ a * action_words
        → m' ≡ lent_of (padded (length m.text) texts) (zeros (length m.scratch)) (padded (length m.directives) ds) (padded (length m.variables) vs) (padded (length m.actions) ks)
        → Row
    -- 1: the limit, 1,048,576; untouched
    too_long_row : g ≡ given 1 (limit ∷ []) → m' ≡ m → Row
    -- 2: the place of the first byte that is 128 or more; untouched
    not_ascii_row : (place : ℕ) → g ≡ given 2 (place ∷ []) → m' ≡ m → Row
    -- 3: 0; untouched
    short : g ≡ given 3 (0 ∷ []) → m' ≡ m → Row
    -- 4: the records needed of each kind; all zero
    no_room_row : (d v a : ℕ) → g ≡ given 4 (d ∷ v ∷ a ∷ []) → m' ≡ all_zero m → Row
    -- 5, 7 and 10 to 12: the line, the piece, the name's length and the span of the piece in the package; the text starts with the name, and all else is zero
    named : (why : Naming) (line piece : ℕ) (name : List ℕ) (source : Part) → g ≡ given (naming_number why) (line ∷ piece ∷ length name ∷ part_word source ∷ [])
        → m' ≡ zero_but name m → Row
    -- 8: the line, the name's place in the argument, its length and its span in the package; all zero
    no_operator : (line place len : ℕ) (source : Part) → g ≡ given 8 (line ∷ place ∷ len ∷ part_word source ∷ []) → m' ≡ all_zero m → Row
    -- 13, 14, 15 and 18: the line; all zero
    wrong_count_lem : (line : ℕ) → g ≡ given 13 (line ∷ []) → m' ≡ all_zero m → Row
    untaken : (line : ℕ) → g ≡ given 14 (line ∷ []) → m' ≡ all_zero m → Row
    stopped : (line : ℕ) → g ≡ given 15 (line ∷ []) → m' ≡ all_zero m → Row
    id_missing_lem : (line : ℕ) → g ≡ given 18 (line ∷ []) → m' ≡ all_zero m → Row
