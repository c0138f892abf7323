-- A part as the code makes it is the part that a definition names.
use mathlib.Core.Path.{◌≡◌, ap₂}
use mathlib.Core.List.{List}
use Prim.Native.Nat.{ℕ, ◌+◌}
use native.Mathlib.Omega.{arith}
use Rattle.ascii.specs.Handed.{Standing, part_at}

pub part_is : (s : Standing) {i j : ℕ} {xs ys : List ℕ} → i ≡ j → xs ≡ ys → part_at s i xs ≡ part_at s j ys
part_is s p q = ap₂ (part_at s) p q

-- the same for a part from the front on
pub front_is : (s : Standing) {xs ys : List ℕ} → xs ≡ ys → record { block = s.block; offset = s.offset; bytes = xs } ≡ part_at s 0 ys
front_is s q =
    let z : s.offset ≡ 0 + s.offset = omega arith in
    ap₂ (λ (n : ℕ) (l : List ℕ). record { block = s.block; offset = n; bytes = l }) z q
