-- The runs of an element, one after another; that its text is inside is a law of RecordLaws.
use mathlib.Core.Path.{◌∙◌, sym}
use Prim.Native.Nat.{◌-◌}
use lib.ListN.{take, drop}
use Prim.Native.Nat.{◌+◌, ◌<◌}
use native.Mathlib.Omega.{arith}
use lib.ListN.{length}
use Rattle.lent.specs.Sizes.{span_base}
use Rattle.lexer.specs.Decoding.{spanned}
use Rattle.listing.proofs.RecordLaws.{Cut, spanned_short, halves_low, cut_is, text_fits}
use Rattle.listing.proofs.TextLaws.{quoted_length}
use Rattle.listing.proofs.ElementLaws.{opened_length, pair_length, put_hidden, put_shown}
use Rattle.listing.proofs.elements.put_element.Goals as goal

pub put_pair-past-requires : goal.put_pair-past-requires
put_pair-past-requires c = omega (arith, c.put_kind-named.ensures.next_is, opened_length c.args.kind)

pub put_byte-requires : goal.put_byte-requires
put_byte-requires c = omega (arith, c.put_kind-named.ensures.next_is, opened_length c.args.kind, c.put_pair-past.ensures.next_is, pair_length c.args.line c.args.column)

pub returns-then-not-shows_text : goal.returns-then-not-shows_text
returns-then-not-shows_text c = put_hidden c.args.kind c.args.line c.args.column (spanned c.args.text.now c.args.span) c.shows_text.ensures c.if-not-shows_text.true c.put_kind-named.ensures c.put_pair-past.ensures c.put_byte.ensures

pub overflow_add-end : goal.overflow_add-end
overflow_add-end c = omega (arith, c.span_offset-first.ensures, c.span_length.ensures, halves_low c.args.span)

pub put_byte-next-requires : goal.put_byte-next-requires
put_byte-next-requires c = omega (arith, c.put_kind-named.ensures.next_is, opened_length c.args.kind, c.put_pair-past.ensures.next_is, pair_length c.args.line c.args.column)

pub slice_bounds-put_text-end : goal.slice_bounds-put_text-end
slice_bounds-put_text-end c = let x : Cut c.args.span c.span_offset-first.result (c.span_offset-first.result + c.span_length.result) = record { first_is = c.span_offset-first.ensures; past_is = omega (arith, c.span_length.ensures) } in omega (arith, text_fits x c.args.text.now (c.requires.text_value (sym c.shows_text.ensures ∙ c.if-not-shows_text.false)))

pub put_text-told-requires : goal.put_text-told-requires
put_text-told-requires c = let x : Cut c.args.span c.span_offset-first.result (c.span_offset-first.result + c.span_length.result) = record { first_is = c.span_offset-first.ensures; past_is = omega (arith, c.span_length.ensures) } in rw (cut_is x c.args.text.now) (omega (arith, c.put_kind-named.ensures.next_is, opened_length c.args.kind, c.put_pair-past.ensures.next_is, pair_length c.args.line c.args.column, c.put_byte-next.ensures.next_is, spanned_short c.args.text.now c.args.span))

pub put_byte-requires-2 : goal.put_byte-requires-2
put_byte-requires-2 c = let x : Cut c.args.span c.span_offset-first.result (c.span_offset-first.result + c.span_length.result) = record { first_is = c.span_offset-first.ensures; past_is = omega (arith, c.span_length.ensures) } in let l : length (take (c.span_offset-first.result + c.span_length.result - c.span_offset-first.result) (drop c.span_offset-first.result c.args.text.now)) < span_base = rw (cut_is x c.args.text.now) (spanned_short c.args.text.now c.args.span) in omega (arith, c.put_kind-named.ensures.next_is, opened_length c.args.kind, c.put_pair-past.ensures.next_is, pair_length c.args.line c.args.column, c.put_byte-next.ensures.next_is, c.put_text-told.ensures.next_is, quoted_length (take (c.span_offset-first.result + c.span_length.result - c.span_offset-first.result) (drop c.span_offset-first.result c.args.text.now)))

pub returns : goal.returns
returns c =
    let x : Cut c.args.span c.span_offset-first.result (c.span_offset-first.result + c.span_length.result) = record { first_is = c.span_offset-first.ensures; past_is = omega (arith, c.span_length.ensures) } in
    put_shown c.args.kind c.args.line c.args.column (spanned c.args.text.now c.args.span) c.shows_text.ensures c.if-not-shows_text.false c.put_kind-named.ensures c.put_pair-past.ensures
    c.put_byte-next.ensures (rw (cut_is x c.args.text.now) at c.put_text-told.ensures) c.put_byte-2.ensures
