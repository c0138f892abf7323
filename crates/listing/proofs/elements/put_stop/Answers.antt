-- Four runs, one after another, or none.
use native.Mathlib.Omega.{arith}
use Rattle.ascii.specs.Text.{bytes}
use Rattle.listing.specs.Json.{escapes, escaped}
use Rattle.listing.proofs.PutLaws.{put_more}
use Rattle.listing.proofs.ElementLaws.{pair_length, comma_length}
use Rattle.listing.proofs.elements.put_stop.Goals as goal

pub put_byte-requires : goal.put_byte-requires
put_byte-requires c = omega (arith, c.put_comma-next.ensures.next_is, comma_length c.args.before, c.put_bytes-named.ensures.next_is, c.put_pair-past.ensures.next_is, pair_length c.in-Some.stop.line.0 c.in-Some.stop.column.0)

pub returns : goal.returns
unfolding bytes escapes escaped
returns c = rw c.in-Some.is (put_more c.put_comma-next.ensures (put_more c.put_bytes-named.ensures (put_more c.put_pair-past.ensures c.put_byte.ensures)))
