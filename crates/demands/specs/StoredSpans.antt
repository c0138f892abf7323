-- The theorem of M-105: span words that hosts have stored. A word is refused exactly when its offset or its length is above 65,535; one
-- that is not comes back as it was, from either form; and no word is refused that a reader gave when an input had 16,384 bytes at most.
use Rattle.std.specs.Prelude.{◌≡◌, Bool, true, false, ◌↔◌, List, [], ◌∷◌, ℕ, zero, suc, ◌/◌, ◌%◌, ◌≤◌, length, drop, get_or, Ok, Err}
use Rattle.lent.specs.Sizes.{span_offset, span_length}
use Rattle.lent.specs.Sources.{part_word}
use Rattle.lent.specs.Table.{Refusal, too_long, not_ascii, short_buffer, no_room, named, unknown_operator, bad_cursor, Outcome, refuses, reads, Filled}
use Rattle.lexer.specs.Promises.{tokens_outcome}
use Rattle.actions.specs.Promises.{actions_outcome, setvar_outcome}
use Rattle.variables.specs.Promises.{variables_outcome, update_outcome}
use Rattle.operators.specs.Operators.{Spec}
use Rattle.operators.specs.Promises.{operator_outcome}
use Rattle.directives.specs.Directives as Whole
use Rattle.directives.specs.declared.Version.{Version}
use Rattle.directives.specs.Table as Directing
use Rattle.directives.specs.Promises.{Lent, outcome_on}
use Rattle.spans.specs.Conversion.{old_base, old_word, from_old, to_old, Far}
use Rattle.spans.specs.Conversion.{too_far}

-- The longest input then.
abbrev pub old_limit : ℕ
old_limit = 16384

-- What stood then in the place of a span word of today: the same offset and length in the old form.
abbrev pub old_form : ℕ → ℕ
old_form w = old_word (span_offset w) (span_length w)

-- Neither conversion refuses it, and each gives the other.
pub record Kept (w : ℕ) : Type 0 where
  pub there : from_old (old_form w) ≡ Ok w
  pub back : to_old w ≡ Ok (old_form w)

-- ---- what readers give

-- Which words of a record are spans. A word that is not used is 0, which is 0 in both forms.
abbrev pub token_spans : List Bool
token_spans = false ∷ false ∷ false ∷ true ∷ true ∷ []

abbrev pub action_spans : List Bool
action_spans = false ∷ false ∷ true ∷ true ∷ false ∷ true ∷ true ∷ []

abbrev pub variable_spans : List Bool
variable_spans = false ∷ false ∷ false ∷ false ∷ true ∷ true ∷ []

abbrev pub directive_spans : List Bool
directive_spans = false ∷ false ∷ true ∷ true ∷ false ∷ false ∷ true ∷ false ∷ false ∷ false ∷ false ∷ []

-- The spans of the record that the words start with, and of so many records.
abbrev pub RecordKept : List Bool → List ℕ → Type 0
RecordKept [] words = Unit {0}
RecordKept (m ∷ ms) [] = Unit {0}
RecordKept (true ∷ ms) (w ∷ words) = Kept w × RecordKept ms words
RecordKept (false ∷ ms) (w ∷ words) = RecordKept ms words

unfoldable pub RecordsKept : List Bool → ℕ → List ℕ → Type 0
RecordsKept spans zero words = Unit {0}
RecordsKept spans (suc n) words = RecordKept spans words × RecordsKept spans n (drop (length spans) words)

-- The span that a refusal gives last.
abbrev pub RefusalKept : Refusal → Type 0
RefusalKept (named why piece name source) = Kept (part_word source)
RefusalKept (unknown_operator place len source) = Kept (part_word source)
RefusalKept too_long = Unit {0}
RefusalKept (not_ascii place) = Unit {0}
RefusalKept short_buffer = Unit {0}
RefusalKept (no_room needed) = Unit {0}
RefusalKept bad_cursor = Unit {0}

-- What a call comes to: as many records as its first value says, or a refusal.
abbrev pub FilledKept : List Bool → Outcome Filled → Type 0
FilledKept spans (refuses f) = RefusalKept f
FilledKept spans (reads x) = RecordsKept spans (get_or x.values 0 0) x.words

abbrev pub OperatorKept : Outcome Spec → Type 0
OperatorKept (refuses f) = RefusalKept f
OperatorKept (reads x) = Unit {0}

abbrev pub FaultKept : Whole.Fault → Type 0
FaultKept (Whole.wrong_count l) = Unit {0}
FaultKept (Whole.untaken l) = Unit {0}
FaultKept (Whole.stopped l) = Unit {0}
FaultKept (Whole.id_missing l) = Unit {0}
FaultKept (Whole.within l f) = RefusalKept f

-- Of a package: three lists of records, whose counts are the first three values.
pub record PackageKept (x : Directing.Filled) : Type 0 where
  pub directives : RecordsKept directive_spans (get_or x.values 0 0) x.directives
  pub variables : RecordsKept variable_spans (get_or x.values 1 0) x.variables
  pub actions : RecordsKept action_spans (get_or x.values 2 0) x.actions

abbrev pub DirectivesKept : Directing.Outcome → Type 0
DirectivesKept (Directing.shut f) = RefusalKept f
DirectivesKept (Directing.faulty f) = FaultKept f
DirectivesKept (Directing.overfull d v a) = Unit {0}
DirectivesKept (Directing.filled x) = PackageKept x

-- ---- the theorem

pub record StoredSpans : Type 0 where
  pub from_refused : (v : ℕ) → (from_old v ≡ Err too_far) ↔ Far (v / old_base) (v % old_base)
  pub to_refused : (w : ℕ) → (to_old w ≡ Err too_far) ↔ Far (span_offset w) (span_length w)
  pub from_and_back : (v w : ℕ) → from_old v ≡ Ok w → to_old w ≡ Ok v
  pub to_and_back : (v w : ℕ) → to_old w ≡ Ok v → from_old v ≡ Ok w
  -- whatever is lent to the reader of an input that was within the limit then
  pub tokens : (s : List ℕ) (n m : ℕ) → length s ≤ old_limit → FilledKept token_spans (tokens_outcome s n m)
  pub parse_actions : (s : List ℕ) (n k m : ℕ) → length s ≤ old_limit → FilledKept action_spans (actions_outcome s n k m)
  pub parse_setvar : (s : List ℕ) (n m : ℕ) → length s ≤ old_limit → FilledKept action_spans (setvar_outcome s n m)
  pub parse_variables : (s : List ℕ) (n m : ℕ) → length s ≤ old_limit → FilledKept variable_spans (variables_outcome s n m)
  pub parse_update_targets : (s : List ℕ) (n m : ℕ) → length s ≤ old_limit → FilledKept variable_spans (update_outcome s n m)
  pub parse_operator : (s : List ℕ) → length s ≤ old_limit → OperatorKept (operator_outcome s)
  pub directives : (v : Version) (s : List ℕ) (m : Lent) → length s ≤ old_limit → DirectivesKept (outcome_on v s m)
