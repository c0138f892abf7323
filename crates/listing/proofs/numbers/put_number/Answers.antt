-- The digits are put as they stand at the end of their array.
use native.Mathlib.Omega.{arith}
use Prim.Native.Nat.{◌-◌}
use Rattle.listing.proofs.DigitLaws.{digits_shown}
use Rattle.listing.proofs.PutLaws.{put_rest}
use Rattle.listing.specs.Json.{decimal}
use Rattle.listing.proofs.numbers.put_number.Goals as goal

pub returns : goal.returns
unfolding decimal
returns c = put_rest c.digits_into-first.new.digits c.digits_into-first.result (20 - c.digits_into-first.result) _ (omega arith) (digits_shown c.digits_into-first.ensures) c.put_bytes.ensures
