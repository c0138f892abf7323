-- Where the parts of an operator stand in the input. The Rust hands back texts; here they are parts of the caller's own.
use Rattle.std.specs.Prelude.{ℕ, ◌+◌, Bool, List, length, drop, Some, None}
use Rattle.ascii.specs.Choice.{pick}
use Rattle.ascii.specs.Trim.{trim_ends, leading_white}
use Rattle.lent.specs.Sources.{part}
use Rattle.operators.specs.Operators.{starts, name_length, after_name, unsigned}
use Rattle.operators.specs.declared.finding.Found.{Found}

-- the bytes of `!` and of the whitespace after it
abbrev pub sign_width : List ℕ → ℕ
sign_width text = pick (starts 33 text) (1 + leading_white (drop 1 text)) 0

-- past the last byte of the trimmed text
abbrev pub text_end : List ℕ → ℕ
text_end s = leading_white s + length (trim_ends s)

-- past `!` and the whitespace after it, where `@` is looked for
abbrev pub body_place : List ℕ → ℕ
body_place s = leading_white s + sign_width (trim_ends s)

-- what follows the `@`
abbrev pub after_at : List ℕ → List ℕ
after_at s = drop 1 (unsigned (trim_ends s))

-- the name: past the `@`, up to its end
abbrev pub name_place : List ℕ → ℕ
name_place s = body_place s + 1

abbrev pub name_past : List ℕ → ℕ
name_past s = name_place s + name_length (after_at s)

-- whether a name is written
abbrev pub is_named : List ℕ → Bool
is_named s = starts 64 (unsigned (trim_ends s))

-- The argument runs from here to the trimmed text's end. An empty one is the empty part at that end.
abbrev pub argument_place : List ℕ → ℕ
argument_place s = pick (is_named s) (name_past s + leading_white (after_name (after_at s))) (body_place s)

-- the same in one piece
abbrev pub found_by : Bool → List ℕ → Found
found_by named s = record {
  negated = starts 33 (trim_ends s);
  name = pick named (Some (part (name_place s) (name_past s))) None;
  argument = part (pick named (name_past s + leading_white (after_name (after_at s))) (body_place s)) (text_end s);
}

unfoldable pub found_of : List ℕ → Found
found_of s = found_by (is_named s) s
