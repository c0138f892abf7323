-- Each answer's row holds where it is returned: the largest byte tells whether there is a first high one.
use Rattle.lent.specs.declared.gating.GateError.TheVariants.{TooLong, Short, NotAscii}
use Rattle.std.specs.Prelude.{Ok, Err}
use mathlib.Core.Path.{sym}
use native.Mathlib.Omega.{arith}
use borrow.Author.Tests.{ltb-true, ltb-false}
use Rattle.lent.specs.Admission.{Low}
use Rattle.lent.proofs.HighLaws.{highest_low, highest_first}
use Rattle.lent.proofs.GateLaws.{row_gate}
use Rattle.lent.proofs.gating.admit.Goals as goal
use Rattle.lent.proofs.gating.admit.Goals.{Else-not-is_ascii}

pub returns-then-input-gt-LIMIT : goal.returns-then-input-gt-LIMIT
returns-then-input-gt-LIMIT c = sym (row_gate _ _ _ (Err TooLong) c.if-input-gt-LIMIT.true)

pub returns-then-not-is_ascii : goal.returns-then-not-is_ascii
returns-then-not-is_ascii c =
    let s = c.args.input.now in
    let h = highest_first s (omega (arith, ltb-false _ 128 (sym c.if-not-is_ascii.ensures), c.highest_byte.ensures)) in
    rw c.first_high.ensures (sym (row_gate s _ _ (Err (NotAscii _)) (omega arith, h)))

-- all bytes are in ASCII
low : (c : Else-not-is_ascii) → Low c.args.input.now
low c = highest_low c.args.input.now (omega (arith, ltb-true _ 128 (sym c.if-not-is_ascii.ensures), c.highest_byte.ensures))

pub returns-then-lent-asked : goal.returns-then-lent-asked
returns-then-lent-asked c =
    sym (row_gate c.args.input.now _ _ (Err Short) (record { within = omega arith; ascii = low (goal.at.returns-then-lent-asked c).Else-not-is_ascii; less = c.if-lent-asked.true }))

pub returns : goal.returns
returns c =
    sym (row_gate c.args.input.now _ _ (Ok tt) (record { within = omega arith; ascii = low (goal.at.returns c).Else-not-is_ascii; room = c.if-lent-asked.false }))
