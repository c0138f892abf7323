-- The rules of parse_operator (operator.rs), over the list of the input's bytes.
use Rattle.std.specs.Prelude.{ℕ, Bool, true, false, List, [], ◌∷◌, take, drop, eqb, Option, Some, None}
use Rattle.ascii.specs.Choice.{pick}
use Rattle.ascii.specs.Classes.{operator_name_end}
use Rattle.ascii.specs.Trim.{trim_start, trim_ends, leading}
use Rattle.names.specs.Operators.{operator_code}

-- OperatorSpec: the name is its place in the enum OperatorName, from 0
pub record Spec : Type 0 where
  pub negated : Bool
  pub name : ℕ
  pub argument : List ℕ

-- Result<OperatorSpec>: Error::UnknownOperator has the name as written
pub data Reading : Type 0 where
  accepted : Spec → Reading
  unknown : List ℕ → Reading

abbrev pub spec : Bool → ℕ → List ℕ → Reading
spec negated name argument = accepted (record { negated = negated; name = name; argument = argument })

-- whether that byte stands first: bytes.first() == Some(&b'!'), and strip_prefix('@')
abbrev pub starts : ℕ → List ℕ → Bool
starts b [] = false
starts b (x ∷ r) = eqb x b

-- position(is_ascii_whitespace), and the length where there is none: so a vertical tab ends no name
abbrev pub in_name : ℕ → Bool
in_name b = pick (operator_name_end b) false true

abbrev pub name_length : List ℕ → ℕ
name_length = leading in_name

-- the rest past the `@`, cut there: rest[..pos] and rest[pos..]
abbrev pub name_of : List ℕ → List ℕ
name_of rest = take (name_length rest) rest

abbrev pub after_name : List ℕ → List ℕ
after_name rest = drop (name_length rest) rest

-- `!` and the whitespace after it taken off: input[1..].trim_start()
abbrev pub unsigned : List ℕ → List ℕ
unsigned text = pick (starts 33 text) (trim_start (drop 1 text)) text

-- by what OperatorName::from_str finds
abbrev pub named : Bool → List ℕ → Option ℕ → Reading
named negated rest (Some code) = spec negated code (trim_start (after_name rest))
named negated rest None = unknown (name_of rest)

-- with `@`, a name and its argument; with none, Rx and the text itself
abbrev pub prefixed : Bool → List ℕ → Reading
prefixed negated text = pick (starts 64 text) (named negated (drop 1 text) (operator_code (name_of (drop 1 text)))) (spec negated 0 text)

-- parse_operator
unfoldable pub operator : List ℕ → Reading
operator s = prefixed (starts 33 (trim_ends s)) (unsigned (trim_ends s))
