-- A small amount is its decimal, a large one that of its complement behind a minus.
use native.Mathlib.Omega.{arith}
use Rattle.listing.proofs.PutLaws.{put_more}
use Rattle.spelled.proofs.PutLaws.{signed_low, signed_high}
use Rattle.spelled.proofs.putting.put_step.Goals as goal

pub put_number-requires : goal.put_number-requires
put_number-requires c = omega (arith, c.put_byte-next.ensures.next_is)

pub returns-then-n : goal.returns-then-n
returns-then-n c =
    let d = c in
    rw (signed_low _ d.if-n.true) (put_more d.put_byte-next.ensures c.put_number.ensures)

pub put_byte-signed-requires : goal.put_byte-signed-requires
put_byte-signed-requires c = omega (arith, c.put_byte-next.ensures.next_is)

pub put_number-requires-2 : goal.put_number-requires-2
put_number-requires-2 c = omega (arith, c.put_byte-next.ensures.next_is, c.put_byte-signed.ensures.next_is)

pub returns : goal.returns
returns c =
    let d = c in
    let s = d in
    rw (signed_high s.args.n d.if-n.false (omega (arith, s.ranges.n))) (put_more d.put_byte-next.ensures (put_more c.put_byte-signed.ensures c.put_number-2.ensures))
