-- What the functions below the two parsers promise.
use Rattle.std.specs.Prelude.{◌⊎◌, ◌≡◌, ℕ, ◌+◌, ◌-◌, ◌*◌, ◌≤◌, ◌<◌, List, [], ◌∷◌, ◌++◌, length, take, drop, eqb, Option, Some, None, Result, Ok, Err}
use Rattle.ascii.specs.Choice.{pick, bit}
use Rattle.lent.specs.Sizes.{limit, span_word, variable_words}
use Rattle.lent.specs.Sources.{Part, part as placed, Sourced, sourced}
use Rattle.lent.specs.Buffers.{stored_each}
use Rattle.lent.specs.Gates.{gate_of}
use Rattle.lent.specs.Table.{Outcome, past_gate, Filled}
use Rattle.lent.specs.Layout.{texts_of, each_text, records_of}
use Rattle.variables.specs.Parts.{Piece, piece_at, pieces_from, pieces}
use Rattle.variables.specs.Variables.{Selection, none, selection, Variable, Single, variable, unknown, Targets, targets, refused, with_variable, with_exclusion, Excluding, as_written, looked_up, piece, read_all}
use Rattle.variables.specs.Layout.{selection_code, selection_text, selection_span, variable_record, variable_text, exclusion_text, variable_whole, exclusion_whole, texts}
use Rattle.variables.specs.Promises.{updated}
use Rattle.variables.specs.declared.finding.Piece.{Piece as Place}
use Rattle.variables.specs.declared.singles.Exclusions.{Exclusions}
use Rattle.variables.specs.declared.singles.Exclusions.TheVariants.{AsWritten, LookedUp}
use Rattle.variables.specs.declared.singles.Chosen.{Chosen}
use Rattle.variables.specs.declared.singles.Chosen.TheVariants.{Key, Regex}
use Rattle.variables.specs.declared.singles.Entry.{Entry}
use Rattle.variables.specs.declared.singles.Entry.TheVariants.{Variable as Var, Exclusion}
use Rattle.variables.specs.declared.singles.UnknownName.{UnknownName}
use Rattle.variables.specs.declared.writing.Tally.{Tally}
use Rattle.variables.specs.declared.writing.UnknownPiece.{UnknownPiece}

-- ---- places

-- from one place up to another
abbrev pub part : List ℕ → ℕ → ℕ → List ℕ
part s from past = take (past - from) (drop from s)

-- the next piece from `at` on, and where the parts after it start
pub record NextPiece (s : List ℕ) (at first past next : ℕ) : Type 0 where
  pub list : pieces_from at (drop at s) ≡ piece_at s first past ∷ pieces_from next (drop next s)
  pub begun : at ≤ first
  pub some : first < past
  pub before : past < next
  pub inside : next ≤ length s + 1

abbrev pub Nexts : List ℕ → ℕ → Option Place → Type 0
Nexts s at (Some p) = NextPiece s at p.first p.past p.next
Nexts s at None = pieces_from at (drop at s) ≡ []

-- ---- one piece

abbrev pub excluding_of : Exclusions → Excluding
excluding_of AsWritten = as_written
excluding_of LookedUp = looked_up

-- what is chosen by the text from a name's end on
abbrev pub selection_after : List ℕ → Selection
selection_after [] = none
selection_after (b ∷ r) = selection r

-- what is chosen: its number, and the part of the piece that is its text
abbrev pub chosen_number : Option Chosen → ℕ
chosen_number None = 0
chosen_number (Some (Key x)) = 1
chosen_number (Some (Regex x)) = 2

abbrev pub chosen_part : Option Chosen → Option Part
chosen_part None = None
chosen_part (Some (Key x)) = Some x
chosen_part (Some (Regex x)) = Some x

-- the same of an entry
abbrev pub entry_part : Entry → Option Part
entry_part (Var v) = chosen_part v.chosen
entry_part (Exclusion x) = Some x

-- a part's span where its text is put at the offset o, and its text; with no part 0 and none
abbrev pub span_at : ℕ → Option Part → ℕ
span_at o None = 0
span_at o (Some x) = span_word o (x.past - x.first)

abbrev pub text_at : List ℕ → Option Part → List ℕ
text_at p None = []
text_at p (Some x) = part p x.first x.past

-- it lies in the piece p
abbrev pub Lies : List ℕ → Option Part → Type 0
Lies p None = Unit {0}
Lies p (Some x) = (x.first ≤ x.past) × (x.past ≤ length p)

-- the text of a record, by its part of the piece p, which is longer
pub record Shown (p : List ℕ) (x : Option Part) (text : List ℕ) : Type 0 where
  pub is : text_at p x ≡ text
  pub lies : Lies p x
  pub short : length text < length p

pub record Chose (p : List ℕ) (c : Selection) (r : Option Chosen) : Type 0 where
  pub number : chosen_number r ≡ selection_code c
  pub span : (o : ℕ) → span_at o (chosen_part r) ≡ selection_span o c
  pub text : Shown p (chosen_part r) (selection_text c)

-- the words of an entry whose text starts at the offset o
abbrev pub entry_words : ℕ → Entry → List ℕ
entry_words o (Var v) = 1 ∷ v.code ∷ bit v.counts ∷ chosen_number v.chosen ∷ span_at o (chosen_part v.chosen) ∷ []
entry_words o (Exclusion x) = 2 ∷ 0 ∷ 0 ∷ 0 ∷ span_word o (x.past - x.first) ∷ []

-- with the last one, for a piece of so many bytes that stands at k
abbrev pub whole_words : ℕ → Entry → ℕ → ℕ → List ℕ
whole_words o e k n = entry_words o e ++ (span_word k n ∷ [])

-- an entry of the piece p for a variable
pub record Held (p : List ℕ) (e : Entry) (v : Variable) : Type 0 where
  pub words : (o : ℕ) → entry_words o e ≡ variable_record o v
  pub text : Shown p (entry_part e) (selection_text v.chosen)

pub record Found (p : List ℕ) (x : Single) (e : Entry) : Type 0 where
  pub v : Variable
  pub is : x ≡ variable v
  pub held : Held p e v

pub record Missed (p : List ℕ) (x : Single) (begin end : ℕ) : Type 0 where
  pub is : x ≡ unknown (part p begin end)
  pub ordered : begin ≤ end
  pub inside : end ≤ length p

-- a variable as it was read from a piece that has no mark
abbrev pub Singles : List ℕ → Single → Result Entry UnknownName → Type 0
Singles p x (Ok (Var v)) = Found p x (Var v)
Singles p x (Ok (Exclusion t)) = ⊥
Singles p x (Err u) = Missed p x u.begin u.end

-- the texts behind `!`, of pieces that stand at x
abbrev pub behind_mark : Part → List ℕ → List (Sourced (List ℕ)) → List (Sourced (List ℕ))
behind_mark x [] es = es
behind_mark x (b ∷ r) es = pick (eqb b 33) (sourced r x ∷ es) es

unfoldable pub excluded_of : List Piece → List (Sourced (List ℕ))
excluded_of [] = []
excluded_of (p ∷ ps) = behind_mark p.place p.text (excluded_of ps)

-- a piece, wherever it stands and whatever stands behind it
pub record IsVariable (ex : Excluding) (p : List ℕ) (e : Entry) : Type 0 where
  pub v : Variable
  pub is : (x : Part) (ts : Targets) → piece ex x p ts ≡ with_variable x (variable v) ts
  pub plain : (x : Part) (es : List (Sourced (List ℕ))) → behind_mark x p es ≡ es
  pub held : Held p e v

pub record IsExclusion (ex : Excluding) (p : List ℕ) : Type 0 where
  pub is : (x : Part) (ts : Targets) → piece ex x p ts ≡ with_exclusion x (drop 1 p) ts
  pub mark : (x : Part) (es : List (Sourced (List ℕ))) → behind_mark x p es ≡ sourced (drop 1 p) x ∷ es

pub record IsUnknown (ex : Excluding) (p : List ℕ) (begin end : ℕ) : Type 0 where
  pub is : (x : Part) (ts : Targets) → piece ex x p ts ≡ refused 0 (part p begin end) x
  pub ordered : begin ≤ end
  pub inside : end ≤ length p

abbrev pub Pieced : Excluding → List ℕ → Result Entry UnknownName → Type 0
Pieced ex p (Ok (Var v)) = IsVariable ex p (Var v)
Pieced ex p (Ok (Exclusion t)) = IsExclusion ex p
Pieced ex p (Err u) = IsUnknown ex p u.begin u.end

-- ---- a list

-- numbers that a span word takes
abbrev pub Narrow : Option Part → ℕ → Type 0
Narrow None offset = Unit {0}
Narrow (Some x) offset = (x.first ≤ x.past) × (x.past ≤ limit) × (offset ≤ 4 * limit)

-- a list's texts are written from `offset` on and its records from the place `place` on, up to `used` and to `count`, each where it fits
pub record Wrote {A : Type 0} (words : ℕ → A → List ℕ) (text_of : A → List ℕ) (offset place : ℕ) (text text' records records' : List ℕ)
    (xs : List A) (used count : ℕ) : Type 0 where
  pub used_is : used ≡ offset + length (texts_of text_of xs)
  pub count_is : count ≡ place + length xs
  pub text_laid : text' ≡ stored_each text offset (each_text text_of xs)
  pub words_laid : records' ≡ stored_each records (place * variable_words) (records_of words text_of offset xs)

abbrev pub WroteVariables : ℕ → ℕ → List ℕ → List ℕ → List ℕ → List ℕ → List (Sourced Variable) → ℕ → ℕ → Type 0
WroteVariables = Wrote variable_whole variable_text

abbrev pub WroteExclusions : ℕ → ℕ → List ℕ → List ℕ → List ℕ → List ℕ → List (Sourced (List ℕ)) → ℕ → ℕ → Type 0
WroteExclusions = Wrote exclusion_whole exclusion_text

-- every piece was read, and the variables are written
pub record AllRead (n : Exclusions) (s : List ℕ) (offset place : ℕ) (text text' records records' : List ℕ) (variables excluded used : ℕ) : Type 0 where
  pub vs : List (Sourced Variable)
  pub read : read_all (excluding_of n) (pieces s) ≡ targets vs (excluded_of (pieces s))
  pub excluded_are : excluded ≡ length (excluded_of (pieces s))
  pub fits : length (texts vs (excluded_of (pieces s))) ≤ length s
  pub few : variables + excluded ≤ limit
  pub wrote : WroteVariables offset place text text' records records' vs used (place + variables)

-- or a name was none, which runs from `begin` up to `end`, in a piece from `first` up to `past`
pub record Stopped (n : Exclusions) (s : List ℕ) (piece begin end first past : ℕ) : Type 0 where
  pub read : read_all (excluding_of n) (pieces s) ≡ refused piece (part s begin end) (placed first past)
  pub ordered : begin ≤ end
  pub inside : end ≤ length s

abbrev pub Scanned : Exclusions → List ℕ → ℕ → ℕ → List ℕ → List ℕ → List ℕ → List ℕ → Result Tally UnknownPiece → Type 0
Scanned n s offset place text text' records records' (Ok t) = AllRead n s offset place text text' records records' t.variables t.excluded t.used
Scanned n s offset place text text' records records' (Err u) = Stopped n s u.piece u.begin u.end u.first u.past

-- exclusions are written
abbrev pub Added : List (Sourced (List ℕ)) → ℕ → ℕ → List ℕ → List ℕ → List ℕ → List ℕ → ℕ → Type 0
Added es offset place text text' records records' r = WroteExclusions offset place text text' records records' es r (place + length es)

-- ---- what a call comes to, for both parsers

-- how many exclusions are kept, and which
abbrev pub kept_count : Exclusions → ℕ → ℕ → ℕ
kept_count AsWritten variables excluded = pick (eqb variables 0) 0 excluded
kept_count LookedUp variables excluded = excluded

-- all of these, or none
abbrev pub AllOrNone : ℕ → List (Sourced (List ℕ)) → Type 0
AllOrNone kept es = (kept ≡ 0) ⊎ (kept ≡ length es)

abbrev pub kept_of : ℕ → List (Sourced (List ℕ)) → List (Sourced (List ℕ))
kept_of kept es = pick (eqb kept 0) [] es

abbrev pub hanging : Exclusions → Targets → Targets
hanging AsWritten (targets [] es) = targets [] []
hanging AsWritten (targets (v ∷ vs) es) = targets (v ∷ vs) es
hanging AsWritten (refused i name x) = refused i name x
hanging LookedUp ts = ts

-- what a list is read to, with the exclusions that are kept
unfoldable pub targets_of : Exclusions → List ℕ → Targets
targets_of n s = hanging n (read_all (excluding_of n) (pieces s))

unfoldable pub read_outcome : Exclusions → List ℕ → ℕ → Outcome Filled
read_outcome n s m = updated m (targets_of n s)

unfoldable pub outcome_of : Exclusions → List ℕ → ℕ → ℕ → Outcome Filled
outcome_of n s k m = past_gate (gate_of s k (length s)) (read_outcome n s m)
