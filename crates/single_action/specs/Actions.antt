-- One action of a list: parse_single_action.
use Rattle.ascii.specs.declared.numbers.NumberError.TheVariants.{Unreadable, TooLarge}
use Rattle.ascii.specs.declared.numbers.NumberError.{NumberError}
use Rattle.std.specs.Prelude.{ℕ, Bool, List, [], take, drop, Option, Some, None, Result, Ok, Err}
use Rattle.ascii.specs.Choice.{pick}
use Rattle.ascii.specs.Text.{bytes}
use Rattle.ascii.specs.Fold.{lowered, same}
use Rattle.ascii.specs.Numbers.{unsigned_by}
use Rattle.ascii.specs.Splits.{Split, whole, halves, split}
use Rattle.lent.specs.declared.refusing.Flaw.{Flaw}
use Rattle.names.specs.Severities.{severity_code}
use Rattle.records.specs.Codes.{string_kind, int_kind, increment_kind, decrement_kind, delete_kind, macro_kind, transformation_code}
pub use Rattle.records.specs.Actions.{Slot, absent, present, Action, slot_text}
unfoldable pub use Rattle.records.specs.Actions.{action_text}
use Rattle.single_action.specs.Marks.{stripped}
use Rattle.single_action.specs.Setvar.{SetValue, text, int, increment, decrement, delete, macro, Setvar, setvar}
use Rattle.single_action.specs.Table.{Rule, plain, wanted, unmarked, up_to, severity, equation, expiry, setting, Row, largest, rows, Found, found, missing, find}

-- An action with this code, number, a and b, and no value.
abbrev pub action : ℕ → ℕ → Slot → Slot → Action
action k n a b = record { code = k; number = n; a = a; b = b; kind = 0; c = absent }

-- An action with a number only, or with none where that is 0.
abbrev pub numbered : ℕ → ℕ → Action
numbered k n = action k n absent absent

-- An action with one text.
abbrev pub worded : ℕ → List ℕ → Action
worded k t = action k 0 (present t) absent

-- What one piece comes to: an action, or InvalidActionArgument, with why it is given, or UnknownAction, each with the name.
pub data Single : Type 0 where
  done : Action → Single
  bad : Flaw → List ℕ → Single
  unknown : List ℕ → Single

-- The value kind: the variants of SetVarValue in their order, from 1.
abbrev pub kind_of : SetValue → ℕ
kind_of (text t) = string_kind
kind_of (int n) = int_kind
kind_of (increment n) = increment_kind
kind_of (decrement n) = decrement_kind
kind_of delete = delete_kind
kind_of (macro t) = macro_kind

-- The amount of a SetVarValue, or 0.
abbrev pub number_of : SetValue → ℕ
number_of (text t) = 0
number_of (int n) = n
number_of (increment n) = n
number_of (decrement n) = n
number_of delete = 0
number_of (macro t) = 0

-- The text of a SetVarValue, if it has one.
abbrev pub text_of : SetValue → Slot
text_of (text t) = present t
text_of (int n) = absent
text_of (increment n) = absent
text_of (decrement n) = absent
text_of delete = absent
text_of (macro t) = present t

-- A setvar as an action: a is the collection and b the key.
abbrev pub setvar_action : ℕ → Setvar → Action
setvar_action k v = record { code = k; number = number_of v.value; a = present v.name.collection; b = present v.name.key; kind = kind_of v.value; c = text_of v.value }

-- A number that was read, or why it was not: `parse().ok()` and `ok_or_else` of parse_single_action.
abbrev pub number_by : Row → Result ℕ NumberError → Single
number_by r (Ok n) = done (numbered r.code n)
number_by r (Err Unreadable) = bad Flaw.Unreadable r.name
number_by r (Err TooLarge) = bad Flaw.TooLarge r.name

-- The number that a severity word stands for; one that is not in the table says none.
abbrev pub word_number : Option ℕ → Result ℕ NumberError
word_number (Some n) = Ok n
word_number None = (Err Unreadable)

-- What is read of it, or else its word: only a text that says no number is looked for among the words.
abbrev pub or_word : Result ℕ NumberError → List ℕ → Result ℕ NumberError
or_word (Ok n) t = Ok n
or_word (Err Unreadable) t = word_number (severity_code t)
or_word (Err TooLarge) t = (Err TooLarge)

-- parse_severity: a number of the width u8 first, then the words.
unfoldable pub severity_number : List ℕ → Result ℕ NumberError
severity_number t = or_word (unsigned_by (largest 8) t) t

-- Both halves as texts, as for ctl and initcol in parse_single_action; without `=` the second one is empty.
abbrev pub both_by : ℕ → Split → Action
both_by k (whole a) = action k 0 (present a) (present [])
both_by k (halves a b) = action k 0 (present a) (present b)

-- Seconds, 0 where they are unreadable or too large: `unwrap_or(0)` of parse_single_action.
abbrev pub seconds : Result ℕ NumberError → ℕ
seconds (Ok n) = n
seconds (Err e) = 0

-- A variable and its seconds, as for expirevar in parse_single_action; without `=` they are 0.
abbrev pub expiry_by : ℕ → Split → Action
expiry_by k (whole a) = action k 0 (present a) absent
expiry_by k (halves a b) = action k (seconds (unsigned_by (largest 64) b)) (present a) absent

-- A row's rule on the argument that is there: an arm of parse_single_action.
unfoldable pub with_text : Rule → Row → List ℕ → Single
with_text plain r t = done (numbered r.code 0)
with_text wanted r t = done (worded r.code t)
with_text unmarked r t = done (worded r.code (stripped t))
with_text (up_to most) r t = number_by r (unsigned_by most t)
with_text severity r t = number_by r (severity_number (stripped t))
with_text equation r t = done (both_by r.code (split 61 t))
with_text expiry r t = done (expiry_by r.code (split 61 t))
with_text setting r t = done (setvar_action r.code (setvar t))

-- And where there is none: `unwrap_or_default` takes the empty text, and `ok_or_else` gives the error.
unfoldable pub with_none : Rule → Row → Single
with_none plain r = done (numbered r.code 0)
with_none wanted r = bad Flaw.Absent r.name
with_none unmarked r = done (worded r.code [])
with_none (up_to most) r = bad Flaw.Absent r.name
with_none severity r = bad Flaw.Absent r.name
with_none equation r = bad Flaw.Absent r.name
with_none expiry r = done (action r.code 0 (present []) absent)
with_none setting r = bad Flaw.Absent r.name

-- A row's rule on an argument that may be absent.
abbrev pub ruled : Row → Slot → Single
ruled r absent = with_none r.rule r
ruled r (present t) = with_text r.rule r t

-- What the row says, or UnknownAction where there is none.
abbrev pub found_by : Found → List ℕ → Slot → Single
found_by (found r) name arg = ruled r arg
found_by missing name arg = unknown name

-- The `match` of parse_single_action on the lower-cased name.
unfoldable pub named : List ℕ → Slot → Single
named name arg = found_by (find rows name) name arg

-- By the split at the first `:` of parse_single_action: the name is lower-cased and not trimmed.
abbrev pub split_by : Split → Single
split_by (whole n) = named (lowered n) absent
split_by (halves n t) = named (lowered n) (present t)

-- `t:` stands first, in small letters: the first test of parse_single_action.
abbrev pub transforms : List ℕ → Bool
transforms s = same (take 2 s) (bytes "t:")

-- parse_single_action on a piece, which is trimmed.
unfoldable pub single : List ℕ → Single
single s = pick (transforms s) (done (worded transformation_code (drop 2 s))) (split_by (split 58 s))
