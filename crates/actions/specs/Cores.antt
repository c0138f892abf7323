-- What a caller may use between its own gate and its own ending: normalising, and reading a normalised text, each from anywhere and on anything.
use Rattle.std.specs.Prelude.{◌≡◌, Bool, false, List, [], ◌∷◌, ◌++◌, ℕ, ◌+◌, ◌*◌, length, drop, get_or, eqb, ltb, Option, Some, None, Result, Ok, Err}
use Rattle.ascii.specs.Choice.{pick}
use Rattle.lent.specs.Sizes.{action_words}
use Rattle.lent.specs.Buffers.{stored, stored_each}
use Rattle.lent.specs.Endings.{starts}
use Rattle.lent.specs.Sources.{Sourced}
use Rattle.lent.specs.Table.{Given, given, flaw_of, short_buffer, refused, refused_text, refused_records, Outcome, refuses, reads}
use Rattle.records.specs.Codes.{id_code, chain_code}
use Rattle.single_action.specs.Actions.{Action}
use Rattle.actions.specs.Having.{has}
use Rattle.actions.specs.Normal.{normalised}
use Rattle.actions.specs.Lists.{listed}
use Rattle.actions.specs.Layout.{records_from, texts}
use Rattle.actions.specs.declared.Reached.{Reached}
use Rattle.actions.specs.declared.PieceError.{PieceError}
use Rattle.actions.specs.declared.PieceError.TheVariants.{Bad, Unknown, Unfit}

-- ---- normalising

-- The buffer is shorter than the text, so that the normalised text may not fit.
abbrev pub tight : List ℕ → List ℕ → Bool
tight s out = ltb (length out) (length s)

-- The normalised text stands first and what stood beyond is kept; or nothing is touched.
pub record Normalise (s out out' : List ℕ) (r : Option ℕ) : Type 0 where
  pub answer : r ≡ pick (tight s out) None (Some (length (normalised s)))
  pub text : out' ≡ pick (tight s out) out (normalised s ++ drop (length (normalised s)) out)

-- ---- reading a normalised text

-- What a normalised text comes to with n bytes of text lent: where it does not place, a buffer is too short for it.
unfoldable pub core_outcome : List ℕ → ℕ → ℕ → ℕ → Outcome (List (Sourced Action))
core_outcome s n offset place = pick (starts (length s) n offset place) (listed s) (refuses short_buffer)

-- Its number and values; those of 0 are how many records, and the offset past the last text.
abbrev pub core_given : ℕ → Outcome (List (Sourced Action)) → Given
core_given offset (refuses f) = refused f
core_given offset (reads xs) = given 0 (length xs ∷ (offset + length (texts xs)) ∷ [])

-- Whether an action of that code was read.
abbrev pub core_has : ℕ → Outcome (List (Sourced Action)) → Bool
core_has code (refuses f) = false
core_has code (reads xs) = has code xs

-- The answer for a number and its values, and whether an id and `chain` were read: 0, 5 and 10 to 12 are a list's, and 3 is that it does
-- not place.
abbrev pub reached_from : Bool → Bool → Given → Result Reached PieceError
reached_from id chain g =
    pick (eqb g.number 0) (Ok (record { count = get_or g.values 0 0; offset = get_or g.values 1 0; id = id; chain = chain }))
    (pick (eqb g.number 3) (Err Unfit)
    (pick (eqb g.number 5) (Err (Unknown (get_or g.values 0 0) (get_or g.values 1 0) (get_or g.values 2 0)))
    (Err (Bad (flaw_of g.number) (get_or g.values 0 0) (get_or g.values 1 0) (get_or g.values 2 0)))))

abbrev pub core_reached : ℕ → Outcome (List (Sourced Action)) → Result Reached PieceError
core_reached offset o = reached_from (core_has id_code o) (core_has chain_code o) (core_given offset o)

-- The text buffer afterwards: the texts at the offset, or what the refusal's row states.
abbrev pub core_text : ℕ → List ℕ → Outcome (List (Sourced Action)) → List ℕ
core_text offset old (refuses f) = refused_text f old
core_text offset old (reads xs) = stored old offset (texts xs)

-- And the record buffer: each record behind those before it, where it fits whole.
abbrev pub core_records : ℕ → ℕ → List ℕ → Outcome (List (Sourced Action)) → List ℕ
core_records offset place old (refuses f) = refused_records f old
core_records offset place old (reads xs) = stored_each old (place * action_words) (records_from offset xs)

-- The promise of read_actions: the answer, and text and records afterwards.
pub record ReadActions (s : List ℕ) (offset place : ℕ) (text text' records records' : List ℕ) (r : Result Reached PieceError) : Type 0 where
  pub answer : r ≡ core_reached offset (core_outcome s (length text) offset place)
  pub texts : text' ≡ core_text offset text (core_outcome s (length text) offset place)
  pub words : records' ≡ core_records offset place records (core_outcome s (length text) offset place)
