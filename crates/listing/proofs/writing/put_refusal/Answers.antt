-- Three runs, one after another.
use native.Mathlib.Omega.{arith}
use Rattle.listing.proofs.EndLaws.{refusal_put}
use Rattle.listing.proofs.ElementLaws.{pair_length}
use Rattle.listing.proofs.writing.put_refusal.Goals as goal

pub put_byte-requires : goal.put_byte-requires
put_byte-requires c = omega (arith, c.put_byte-inside.ensures.next_is, c.put_pair-past.ensures.next_is, pair_length c.args.number c.args.place)

pub returns : goal.returns
returns c = refusal_put _ _ c.put_byte-inside.ensures c.put_pair-past.ensures c.put_byte.ensures
