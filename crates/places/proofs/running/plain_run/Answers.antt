-- The search is among as many bytes as are asked for and there.
use mathlib.Core.Path.{◌≡◌, ◌∙◌, ap}
use Prim.Native.Nat.{ℕ, ◌+◌, ◌-◌}
use native.Mathlib.Omega.{arith}
use lib.ListN.{take, drop}
use Rattle.ascii.specs.Splits.{first_of}
use Rattle.places.proofs.WalkLaws.{run_plain}
use Rattle.places.proofs.running.plain_run.Goals as goal

pub returns : goal.returns
returns c =
    let a = c.args in
    let n = c.min.result in
    let e : a.place + n - a.place ≡ n = omega arith in
    run_plain a.s.now a.place a.most n _ (omega (arith, c.min.ensures)) (omega (arith, c.min.ensures))
    (c.first_of.ensures ∙ ap (λ (m : ℕ). first_of 92 (take m (drop a.place a.s.now))) e)
