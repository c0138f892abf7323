-- What a fault's number tells: of a line or of an argument, and of which argument.
use mathlib.Core.Path.{◌≡◌, refl}
use Prim.Native.Nat.{◌≤◌}
use native.Mathlib.Omega.{arith}
use Rattle.lent.specs.Table.{flaw_number, Refusal, too_long, not_ascii, short_buffer, no_room, named, no_action, no_argument, no_variable, unknown_operator, bad_cursor, refused}
use Rattle.lent.specs.declared.refusing.Flaw.{Flaw}
use Rattle.directives.specs.Promises.{line_number, argument_number}
use Rattle.directives.specs.declared.ArgumentFault.{ArgumentFault}
use Rattle.directives.specs.declared.ArgumentFault.TheVariants.{UnknownVariable, UnknownOperator, UnknownAction, BadArgument}
use Rattle.directives.specs.declared.LineFault.{LineFault}
use Rattle.directives.specs.declared.LineFault.TheVariants.{WrongCount, Untaken, Stopped, IdMissing}

pub flaw_high : (flaw : Flaw) → 10 ≤ flaw_number flaw
flaw_high Flaw.Absent = omega arith
flaw_high Flaw.Unreadable = omega arith
flaw_high Flaw.TooLarge = omega arith

flaw_low : (flaw : Flaw) → flaw_number flaw ≤ 12
flaw_low Flaw.Absent = omega arith
flaw_low Flaw.Unreadable = omega arith
flaw_low Flaw.TooLarge = omega arith

pub argument_low : (why : ArgumentFault) → argument_number why ≤ 12
argument_low UnknownVariable = omega arith
argument_low UnknownOperator = omega arith
argument_low UnknownAction = omega arith
argument_low (BadArgument flaw) = flaw_low flaw

pub line_high : (why : LineFault) → 13 ≤ line_number why
line_high WrongCount = omega arith
line_high Untaken = omega arith
line_high Stopped = omega arith
line_high IdMissing = omega arith

pub refused_low : (f : Refusal) → (refused f).number ≤ 12
refused_low too_long = omega arith
refused_low (not_ascii p) = omega arith
refused_low short_buffer = omega arith
refused_low (no_room p) = omega arith
refused_low (named no_action p n x) = omega arith
refused_low (named (no_argument flaw) p n x) = flaw_low flaw
refused_low (named no_variable p n x) = omega arith
refused_low (unknown_operator p l x) = omega arith
refused_low bad_cursor = omega arith

-- the number tells the fault
pub why_variable : (why : ArgumentFault) → argument_number why ≡ 7 → why ≡ UnknownVariable
why_variable UnknownVariable e = refl
why_variable UnknownOperator e = absurd (omega arith)
why_variable UnknownAction e = absurd (omega arith)
why_variable (BadArgument Flaw.Absent) e = absurd (omega arith)
why_variable (BadArgument Flaw.Unreadable) e = absurd (omega arith)
why_variable (BadArgument Flaw.TooLarge) e = absurd (omega arith)

pub why_operator : (why : ArgumentFault) → argument_number why ≡ 8 → why ≡ UnknownOperator
why_operator UnknownVariable e = absurd (omega arith)
why_operator UnknownOperator e = refl
why_operator UnknownAction e = absurd (omega arith)
why_operator (BadArgument Flaw.Absent) e = absurd (omega arith)
why_operator (BadArgument Flaw.Unreadable) e = absurd (omega arith)
why_operator (BadArgument Flaw.TooLarge) e = absurd (omega arith)

-- a fault of the list of actions
abbrev pub OfList : ArgumentFault → Type 0
OfList UnknownVariable = ⊥
OfList UnknownOperator = ⊥
OfList UnknownAction = Unit {0}
OfList (BadArgument flaw) = Unit {0}

pub why_list : (why : ArgumentFault) → (argument_number why ≡ 7 → ⊥) → (argument_number why ≡ 8 → ⊥) → OfList why
why_list UnknownVariable h g = absurd (h refl)
why_list UnknownOperator h g = absurd (g refl)
why_list UnknownAction h g = tt
why_list (BadArgument flaw) h g = tt
