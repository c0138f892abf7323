-- An action takes two bytes at least: no row has a shorter name, and `t:` has two.
use Rattle.std.specs.Prelude.{None}
use mathlib.Core.Path.{◌≡◌, refl}
use mathlib.Core.Bool.{Bool, true, false}
use mathlib.Core.List.{List, [], ◌∷◌}
use Prim.Native.Nat.{ℕ, ◌≤◌}
use native.Mathlib.Omega.{arith}
use lib.ListN.{length}
use lib.Dec.{eqb}
use Rattle.ascii.specs.Choice.{pick, and}
use Rattle.ascii.specs.Text.{bytes}
use Rattle.ascii.specs.Fold.{lowered, same}
use Rattle.ascii.specs.Splits.{whole, halves, split}
use Rattle.names.proofs.Tests.{every}
use Rattle.records.specs.Codes.{transformation_code}
use Rattle.single_action.specs.Table.{rows, find, missing}
use Rattle.single_action.specs.Actions.{Slot, absent, present, Single, done, bad, unknown, worded, named, split_by, single}
use Rattle.single_action.proofs.RowLaws.{member, covers, between, is_between, placed_by}

-- what comes of n bytes: an action of two at least
abbrev pub Wide : ℕ → Single → Type 0
Wide n (done x) = 2 ≤ n
Wide n (bad flaw name) = Unit {0}
Wide n (unknown name) = Unit {0}

no_row : every (covers (between 0 1) []) 41 ≡ true
unfolding every covers member rows bytes
no_row = refl

pub no_name : (name : List ℕ) → length name ≤ 1 → find rows (lowered name) ≡ missing
no_name name h =
    placed_by (between 0 1) [] name no_row (is_between 0 1 (length name) (omega arith) h) None tt

unnamed : (n : ℕ) (name : List ℕ) (arg : Slot) → length name ≤ 1 → Wide n (named (lowered name) arg)
unfolding named
unnamed n name arg h = rw (no_name name h) tt

wide_enough : (n : ℕ) (x : Single) → 2 ≤ n → Wide n x
wide_enough n (done x) h = h
wide_enough n (bad flaw name) h = tt
wide_enough n (unknown name) h = tt

pub wide : (p : List ℕ) → Wide (length p) (single p)
unfolding single split same bytes
wide [] = unnamed 0 [] absent (omega arith)
wide (b ∷ []) = go (eqb b 116) (eqb b 58)
  where
    go : (t u : Bool) → Wide 1 (pick (and t false) (done (worded transformation_code [])) (split_by (pick u (halves [] []) (whole (b ∷ [])))))
    go true true = unnamed 1 [] (present []) (omega arith)
    go true false = unnamed 1 (b ∷ []) absent (omega arith)
    go false true = unnamed 1 [] (present []) (omega arith)
    go false false = unnamed 1 (b ∷ []) absent (omega arith)
wide (b ∷ c ∷ r) = wide_enough (length (b ∷ c ∷ r)) (single (b ∷ c ∷ r)) (omega arith)
