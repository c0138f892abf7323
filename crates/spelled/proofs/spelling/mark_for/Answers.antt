-- By the rule, and whether a single mark is among the texts.
use mathlib.Core.Path.{sym}
use borrow.Enum.Refused.{opened}
use Rattle.spelled.proofs.SpellLaws.{mark_none}
use Rattle.spelled.proofs.spelling.mark_for.Goals as goal

pub returns-then-has_byte : goal.returns-then-has_byte
returns-then-has_byte c = rw (c.in-Unmarked.is, sym c.has_byte.ensures, c.if-has_byte.true)

pub returns-else-has_byte : goal.returns-else-has_byte
returns-else-has_byte c = rw (c.in-Unmarked.is, sym c.has_byte.ensures, c.if-has_byte.false)

pub returns-then-has_byte-2 : goal.returns-then-has_byte-2
returns-then-has_byte-2 c = rw (c.in-Setting.is, sym c.has_byte-in-Setting.ensures, c.if-has_byte-2.true)

pub returns-else-has_byte-2 : goal.returns-else-has_byte-2
returns-else-has_byte-2 c = rw (c.in-Setting.is, sym c.has_byte-in-Setting.ensures, c.if-has_byte-2.false)

pub returns-in_default : goal.returns-in_default
returns-in_default c = mark_none c.args.rule c.args.texts.now (opened c.in_default.in_default-own.keys3)
