-- What the program writes.
use Rattle.std.specs.Prelude.{◌≡◌, ℕ, ◌≤◌, List, length, take, Result}
use Rattle.listing.specs.Listings.{printed}
use Rattle.listing.specs.Promises.{fitted, Leaves}
use Rattle.listing.specs.declared.ListingError.{ListingError}

-- what a call that lists a text leaves in the buffer: its line, where that fits
abbrev pub Lists : List ℕ → List ℕ → List ℕ → Result ℕ ListingError → Type 0
Lists s old new r = Leaves (fitted (length old) (printed s)) old new r

-- the line of a text stands at the front of a buffer, in n bytes
pub record Prints (s out : List ℕ) (n : ℕ) : Type 0 where
  pub inside : n ≤ length out
  pub line : take n out ≡ printed s
