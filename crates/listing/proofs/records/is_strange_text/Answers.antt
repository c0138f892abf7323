-- The numbers of the span are the definition's; each way out is a law of RecordLaws.
use Prim.Native.Nat.{◌+◌}
use native.Mathlib.Omega.{arith}
use Rattle.listing.proofs.RecordLaws.{Cut, halves_low, cut_is, text_outside, text_inside}
use Rattle.listing.proofs.records.is_strange_text.Goals as goal

pub overflow_add-past : goal.overflow_add-past
overflow_add-past c = omega (arith, c.span_offset-first.ensures, c.span_length.ensures, halves_low c.args.span)

pub returns-then-text-past : goal.returns-then-text-past
returns-then-text-past c = text_outside (record { first_is = c.span_offset-first.ensures; past_is = omega (arith, c.span_length.ensures) }) c.args.text.now c.if-text-past.true

pub returns : goal.returns
returns c = let x : Cut c.args.span c.span_offset-first.result (c.span_offset-first.result + c.span_length.result) = record { first_is = c.span_offset-first.ensures; past_is = omega (arith, c.span_length.ensures) } in text_inside x c.args.text.now c.if-text-past.false _ (cut_is x c.args.text.now) _ c.first_high.ensures
