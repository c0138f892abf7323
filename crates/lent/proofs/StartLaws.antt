-- Where a reader may start: what the test says.
use mathlib.Core.Path.{◌≡◌}
use mathlib.Core.Bool.{true}
use mathlib.Core.Logic.{◌↔◌}
use Prim.Native.Nat.{ℕ, ◌+◌, ◌≤◌}
use lib.Dec.{leb}
use borrow.Author.Tests.{le-leb, leb-true}
use Rattle.ascii.proofs.SameLaws.{and_left, and_right}
use Rattle.lent.specs.Sizes.{limit}
use Rattle.lent.specs.Endings.{starts}

pub record Started (len lent offset count : ℕ) : Type 0 where
  pub within : len ≤ limit
  pub offset_low : offset ≤ limit
  pub count_low : count ≤ limit
  pub room : offset + len ≤ lent

module _ (len lent offset count : ℕ) where
  pub starts_is : (starts len lent offset count ≡ true) ↔ Started len lent offset count
  unfolding starts
  starts_is = (
    λ e.
        let two = and_right (leb len limit) _ e in
        let three = and_right (leb offset limit) _ two in
        record {
          within = leb-true len limit (and_left (leb len limit) _ e);
          offset_low = leb-true offset limit (and_left (leb offset limit) _ two);
          count_low = leb-true count limit (and_left (leb count limit) _ three);
          room = leb-true (offset + len) lent (and_right (leb count limit) _ three);
        },
    λ x. rw (le-leb len limit x.within, le-leb offset limit x.offset_low, le-leb count limit x.count_low, le-leb (offset + len) lent x.room),
  )
