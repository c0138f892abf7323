-- Why an action's argument is refused, in plain words, and the Rust's one error for all of it.
-- proofs/FlawLaws.antt: a piece is refused for a flaw exactly where this says so.
use Rattle.ascii.specs.declared.numbers.NumberError.TheVariants.{Unreadable, TooLarge}
use Rattle.ascii.specs.declared.numbers.NumberError.{NumberError}
use Rattle.std.specs.Prelude.{◌≡◌, List, ℕ, ◌<◌, Option, Some, None, Result, Ok, Err}
use Rattle.ascii.specs.Fold.{lowered}
use Rattle.ascii.specs.Numbers.{unsigned_by}
use Rattle.ascii.specs.Numerals.{Unsigned}
use Rattle.ascii.specs.Splits.{Split, whole, halves, split}
use Rattle.lent.specs.declared.refusing.Flaw.{Flaw}
use Rattle.names.specs.Severities.{severity_code}
use Rattle.single_action.specs.Marks.{stripped}
use Rattle.single_action.specs.Table.{Rule, wanted, up_to, severity, equation, setting, Row, largest, rows, found, find}
use Rattle.single_action.specs.Actions.{Slot, absent, present, Action, numbered, Single, done, bad, unknown, with_text}

-- ---- exactly when

-- A rule that wants an argument: a text, a number, a severity, two texts or a setvar.
pub data Wants : Rule → Type 0 where
  a_text : Wants wanted
  a_number : {most : ℕ} → Wants (up_to most)
  a_severity : Wants severity
  an_equation : Wants equation
  a_setting : Wants setting

-- Where a rule reads a number from an argument, and the largest of its width: from the argument itself, or from a severity's without its marks.
pub data Numeral : Rule → List ℕ → List ℕ → ℕ → Type 0 where
  itself : {most : ℕ} {t : List ℕ} → Numeral (up_to most) t t most
  bared : {t : List ℕ} → Numeral severity t (stripped t) (largest 8)

-- What is amiss with an argument, or with its absence, by the action's rule. A text denotes a number by ascii's relation `Unsigned`.
pub data Amiss (rule : Rule) : Slot → Flaw → Type 0 where
  none_there : Wants rule → Amiss rule absent Flaw.Absent
  -- it denotes none; nor is a severity a word of the table
  no_number : {t u : List ℕ} {most : ℕ} → Numeral rule t u most → ((v : ℕ) → Unsigned u v → ⊥) → (rule ≡ severity → severity_code u ≡ None)
      → Amiss rule (present t) Flaw.Unreadable
  -- it denotes one past the width
  past_width : {t u : List ℕ} {most : ℕ} → Numeral rule t u most → (v : ℕ) → Unsigned u v → most < v → Amiss rule (present t) Flaw.TooLarge

-- A piece's name, which ends at the first `:`, and the argument behind it.
abbrev pub name_in : Split → List ℕ
name_in (whole n) = n
name_in (halves n t) = n

abbrev pub argument_in : Split → Slot
argument_in (whole n) = absent
argument_in (halves n t) = present t

-- A piece is an action's, by its name in any letter case, and its argument is amiss by that action's rule.
pub record Flawed (piece name : List ℕ) (flaw : Flaw) : Type 0 where
  pub row : Row
  pub there : find rows (lowered (name_in (split 58 piece))) ≡ found row
  pub spelled : row.name ≡ name
  pub amiss : Amiss row.rule (argument_in (split 58 piece)) flaw

-- ---- the Rust's one error

-- What parse_single_action returns: InvalidActionArgument, whatever the flaw.
pub data Parsed : Type 0 where
  action : Action → Parsed
  invalid_action_argument : List ℕ → Parsed
  unknown_action : List ℕ → Parsed

abbrev pub parsed : Single → Parsed
parsed (done x) = action x
parsed (bad flaw name) = invalid_action_argument name
parsed (unknown name) = unknown_action name

-- parse_severity to the letter: a word is looked for wherever no number of the width u8 was read, be it too large.
abbrev pub severity_by : Result ℕ NumberError → List ℕ → Option ℕ
severity_by (Ok n) t = Some n
severity_by (Err Unreadable) t = severity_code t
severity_by (Err TooLarge) t = severity_code t

-- And its arm of parse_single_action.
abbrev pub severity_parsed : Row → Option ℕ → Parsed
severity_parsed r (Some n) = action (numbered r.code n)
severity_parsed r None = invalid_action_argument r.name

-- A severity by our rule, and by the Rust's.
abbrev pub severity_ours : Row → List ℕ → Parsed
severity_ours r t = parsed (with_text severity r t)

abbrev pub severity_theirs : Row → List ℕ → Parsed
severity_theirs r t = severity_parsed r (severity_by (unsigned_by (largest 8) (stripped t)) (stripped t))
