-- A text without marks at its ends is no longer than with them.
use mathlib.Core.Bool.{Bool, true, false}
use mathlib.Core.List.{List}
use Prim.Native.Nat.{ℕ, ◌-◌, ◌≤◌}
use native.Mathlib.Omega.{arith}
use lib.ListN.{length, take, drop, length-take, length-drop}
use Rattle.ascii.specs.Choice.{pick}
use Rattle.ascii.proofs.TrimLaws.{ends_fit}
use Rattle.single_action.specs.Marks.{quotation, stripped, paired, unpaired}

pub stripped_short : (s : List ℕ) → length (stripped s) ≤ length s
stripped_short s = omega (arith, ends_fit quotation s)

pub unpaired_short : (s : List ℕ) → length (unpaired s) ≤ length s
unfolding unpaired
unpaired_short s = go (paired s)
  where
    go : (t : Bool) → length (pick t (take (length s - 2) (drop 1 s)) s) ≤ length s
    go true = omega (arith, length-take (length s - 2) (drop 1 s), length-drop 1 s)
    go false = omega arith
