-- The digits are put as they stand at the end of their array.
use native.Mathlib.Omega.{arith}
use Prim.Native.Nat.{◌-◌}
use Rattle.listing.specs.Json.{decimal}
use Rattle.listing.proofs.DigitLaws.{digits_shown}
use Rattle.spelled.proofs.PutLaws.{put_behind}
use Rattle.spelled.proofs.putting.put_number.Goals as goal

pub returns : goal.returns
unfolding decimal
returns c =
    let d = c in
    put_behind _ d.digits_into-first.new.digits d.digits_into-first.result (20 - d.digits_into-first.result) _ (omega (arith, d.digits_into-first.auto)) (digits_shown d.digits_into-first.ensures) c.put_after.ensures
