-- The scratch buffer: the normalised text at its front, and zeros beyond.
use mathlib.Core.Path.{◌≡◌, ap}
use mathlib.Core.List.{List}
use Prim.Native.Nat.{ℕ, ◌-◌, ◌≤◌}
use native.Mathlib.Omega.{arith}
use lib.ListN.{length, take, drop}
use borrow.Rule.Slice.PartMut.{mid_of, put_mid}
use Rattle.lent.specs.Buffers.{zeros, padded}
use Rattle.lent.proofs.BufferLaws.{cleared, front_fits, padded_length, padded_front}
use Rattle.actions.specs.Normal.{normalised}
use Rattle.actions.specs.Steps.{Normalises}
use Rattle.actions.proofs.NormalLaws.{normalised_length}

-- the normalised text was written to its front, and the rest cleared
module _ (s old new : List ℕ) {n : ℕ} (x : Normalises s old new n) (long : length new ≡ length old) where
  pub scratch_fits : n ≤ length new
  scratch_fits = omega (arith, x.count, front_fits new (normalised s) _ x.text)

  pub scratch_filled : {got : List ℕ} → got ≡ zeros (length (mid_of n (length new - n) new)) → put_mid n (length new - n) new got ≡ padded (length old) (normalised s)
  scratch_filled g = cleared old new (normalised s) (drop (length (normalised s)) old) n long x.text x.count g

-- its front, as a part, is the normalised text
module _ (s work : List ℕ) {work' : List ℕ} {n : ℕ} (e : work' ≡ padded (length work) (normalised s)) (c : n ≡ length (normalised s)) (h : length s ≤ length work) where
  pub part_fits : n ≤ length work'
  part_fits =
      let l : length (normalised s) ≤ length work = omega (arith, h, normalised_length s) in
      omega (arith, c, ap length e, padded_length (length work) (normalised s) l)

  pub part_is : take n work' ≡ normalised s
  part_is = rw (e, c) (padded_front (length work) (normalised s))
