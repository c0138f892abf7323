-- Three runs, one after another.
use native.Mathlib.Omega.{arith}
use Rattle.listing.proofs.PutLaws.{put_more}
use Rattle.listing.proofs.DigitLaws.{decimal_length}
use Rattle.listing.proofs.numbers.put_pair.Goals as goal

pub put_byte-next-requires : goal.put_byte-next-requires
put_byte-next-requires c = omega (arith, c.put_number-past.ensures.next_is, decimal_length c.args.a)

pub put_number-requires : goal.put_number-requires
put_number-requires c = omega (arith, c.put_number-past.ensures.next_is, decimal_length c.args.a, c.put_byte-next.ensures.next_is)

pub returns : goal.returns
returns c = put_more c.put_number-past.ensures (put_more c.put_byte-next.ensures c.put_number.ensures)
