-- Four runs, one after another; that the array is whole where all records are listed is a law of EndLaws.
use native.Mathlib.Omega.{arith}
use Rattle.listing.proofs.EndLaws.{room_fits, as_listed, laid}
use Rattle.listing.proofs.ElementLaws.{stop_length}
use Rattle.listing.proofs.writing.put_listing.Goals as goal

pub put_records-rows-requires : goal.put_records-rows-requires
put_records-rows-requires c = record { token_words_in_bounds = omega (arith, room_fits c.args.records.now, c.min-most.ensures, c.room-whole.ensures); most_le_limit = omega (arith, c.min-most.ensures); from_bound = omega (arith, c.put_byte-inside.ensures.next_is) }

pub put_stop-past-requires : goal.put_stop-past-requires
put_stop-past-requires c = omega (arith, c.put_byte-inside.ensures.next_is, c.put_records-rows.ensures.near, c.min-most.ensures)

pub put_byte-end-requires : goal.put_byte-end-requires
put_byte-end-requires c = omega (arith, c.put_byte-inside.ensures.next_is, c.put_records-rows.ensures.near, c.min-most.ensures, c.put_stop-past.ensures.next_is, stop_length c.put_records-rows.result.count c.args.stop)

pub returns : goal.returns
returns c = laid c.put_byte-inside.ensures (as_listed c.room-whole.ensures c.min-most.ensures c.put_records-rows.ensures) _ c.put_stop-past.ensures c.put_byte-end.ensures
