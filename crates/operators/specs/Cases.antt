-- The operator texts of document 01, and a few more.
use Rattle.std.specs.Prelude.{◌≡◌, refl, ℕ, true, false, [], ◌∷◌}
use Prim.Native.String.{String}
use Rattle.ascii.specs.Text.{bytes}
use Rattle.ascii.specs.Classes.{white, operator_name_end}
use Rattle.ascii.specs.Fold.{lower, same}
use Rattle.ascii.specs.Trim.{strip_start, strip_end, leading}
use Rattle.lent.specs.Sizes.{span_word}
use Rattle.lent.specs.Table.{Given, given}
use Rattle.names.specs.Tables.{find}
use Rattle.names.specs.Operators.{operators, operator_code}
use Rattle.operators.specs.Operators.{Reading, spec, unknown, operator}
use Rattle.operators.specs.Places.{name_place, argument_place}
use Rattle.operators.specs.Promises.{outcome_of, given_by}

-- A text's operator. To unfold it is to unfold every definition that a text is read by.
unfoldable pub Reads : String → Reading → Type 0
unfolding bytes white operator_name_end lower same strip_start strip_end leading find operators operator_code operator
Reads s r = operator (bytes s) ≡ r

-- The place of an unknown name, and that of an argument.
unfoldable pub NamePlace : String → ℕ → Type 0
unfolding bytes white strip_start strip_end leading
NamePlace s p = name_place (bytes s) ≡ p

unfoldable pub ArgumentPlace : String → ℕ → Type 0
unfolding bytes white operator_name_end strip_start strip_end leading
ArgumentPlace s p = argument_place (bytes s) ≡ p

-- The number and the values that a text's operator is given back with.
unfoldable pub Gives : String → Given → Type 0
unfolding bytes white operator_name_end lower same strip_start strip_end leading find operators operator_code operator span_word
Gives s g = given_by (bytes s) (outcome_of (bytes s) (operator (bytes s))) ≡ g

-- P: one `!` only is taken off, and what follows has no `@` first
pub twice_negated : Reads "!!@rx a" (spec true 0 (bytes "!@rx a"))
unfolding Reads
twice_negated = refl

-- a name with no argument
pub bare : Reads "@rx" (spec false 0 [])
unfolding Reads
bare = refl

-- `@` alone has the empty name
pub at_alone : Reads "@" (unknown [])
unfolding Reads
at_alone = refl

-- a vertical tab ends no name
pub upright : Reads "@rx\u{b}a" (unknown (bytes "rx\u{b}a"))
unfolding Reads
upright = refl

-- but it is trimmed, before the name is looked for and before the argument
pub upright_last : Reads "@rx\u{b}" (spec false 0 [])
unfolding Reads
upright_last = refl

pub upright_before : Reads "@rx \u{b}a" (spec false 0 (bytes "a"))
unfolding Reads
upright_before = refl

-- the empty text, and `!` alone
pub empty : Reads "" (spec false 0 [])
unfolding Reads
empty = refl

pub negated_empty : Reads " ! " (spec true 0 [])
unfolding Reads
negated_empty = refl

-- whitespace after `!`, any letter case, and the argument's own place
pub spaced : Reads " ! @EndsWith  .php " (spec true 8 (bytes ".php"))
unfolding Reads
spaced = refl

pub spaced_place : ArgumentPlace " ! @EndsWith  .php " 14
unfolding ArgumentPlace
spaced_place = refl

-- the empty name before a space, at place 1; a longer one behind `!`
pub empty_name : Reads "@ rx" (unknown [])
unfolding Reads
empty_name = refl

pub empty_name_place : NamePlace "@ rx" 1
unfolding NamePlace
empty_name_place = refl

pub unknown_place : NamePlace " ! @rxx a" 4
unfolding NamePlace
unknown_place = refl

-- what is underlined is the name; an empty one stands where it would begin
pub unknown_gives : Gives " ! @rxx a" (given 8 (4 ∷ 3 ∷ span_word 4 3 ∷ []))
unfolding Gives
unknown_gives = refl

pub at_alone_gives : Gives "@" (given 8 (1 ∷ 0 ∷ span_word 1 0 ∷ []))
unfolding Gives
at_alone_gives = refl
