-- Three runs, one after another.
use native.Mathlib.Omega.{arith}
use Rattle.listing.proofs.PutLaws.{put_more}
use Rattle.listing.proofs.TextLaws.{escapes_length}
use Rattle.listing.proofs.texts.put_text.Goals as goal

pub put_byte-requires : goal.put_byte-requires
put_byte-requires c = omega (arith, c.put_byte-inside.ensures.next_is, c.put_escapes-past.ensures.next_is, escapes_length c.args.text.now)

pub returns : goal.returns
returns c = put_more c.put_byte-inside.ensures (put_more c.put_escapes-past.ensures c.put_byte.ensures)
