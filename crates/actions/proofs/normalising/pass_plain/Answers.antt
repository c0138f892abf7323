-- The span is found, and stored at once.
use mathlib.Core.Path.{◌≡◌, ◌∙◌, ap}
use Prim.Native.Nat.{ℕ, ◌+◌, ◌≤◌}
use native.Mathlib.Omega.{arith}
use lib.ListN.{length, drop, length-drop}
use Rattle.ascii.specs.Splits.{first_of}
use Rattle.ascii.proofs.ListLaws.{rest_is}
use Rattle.ascii.proofs.SplitLaws.{first_fits}
use Rattle.actions.proofs.normalising.pass_plain.Goals as goal
use Rattle.actions.proofs.normalising.pass_plain.Goals.{After-first_of}

-- the bytes up to the next backslash
span_is : (c : After-first_of) → let a = c.args in c.first_of.result ≡ first_of 92 (drop a.i a.s.now)
span_is c = let a = c.args in c.first_of.ensures ∙ ap (first_of 92) (rest_is a.s.now a.i)

fits : (c : After-first_of) → let a = c.args in a.i + c.first_of.result ≤ length a.s.now
fits c =
    let a = c.args in
    omega (arith, c.requires, span_is c, first_fits 92 (drop a.i a.s.now), length-drop a.i a.s.now)

pub overflow_add-past : goal.overflow_add-past
overflow_add-past c = omega (arith, fits (goal.at.overflow_add-past c).After-first_of)

pub slice_bounds-store-end : goal.slice_bounds-store-end
slice_bounds-store-end c = omega (arith, fits (goal.at.slice_bounds-store-end c).After-first_of)

pub returns : goal.returns
returns c =
    record { place = ap (λ (k : ℕ). c.args.i + k) (span_is (goal.at.returns c).After-first_of); text = c.store.ensures }
