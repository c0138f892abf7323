-- What was put, a line feed, and the end.
use native.Mathlib.Omega.{arith}
use Rattle.listing.proofs.PutLaws.{put_more}
use Rattle.listing.proofs.EndLaws.{finished, refusal_length}
use Rattle.listing.proofs.writing.write_refusal_line.Goals as goal

pub put_byte-end-requires : goal.put_byte-end-requires
put_byte-end-requires c = omega (arith, c.put_refusal-past.ensures.next_is, refusal_length c.args.number c.args.place)

pub returns : goal.returns
returns c = finished (put_more c.put_refusal-past.ensures c.put_byte-end.ensures) c.finish.ensures
