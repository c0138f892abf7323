use mathlib.Core.Path.{◌≡◌}
use Prim.Native.Nat.{◌+◌, ◌-◌}
use native.Mathlib.Omega.{arith}
use Rattle.names.proofs.WordLaws.{part_few, part_none, part_before}
use Rattle.names.proofs.wording.up_to_eight.Goals as goal

pub loop-k-init : goal.loop-k-init
loop-k-init c =
    let s = c.args in
    let e : s.n - s.n ≡ 0 = omega arith in
    (omega arith, rw e (part_none s.s.now (s.at + s.n)))

pub overflow_mul-word : goal.overflow_mul-word
overflow_mul-word c =
    let s = c.args in
    let l = c.loop-k in
    omega (arith, part_few s.s.now (s.at + l.k) (s.n - l.k) (omega arith) (omega arith) l.invariant.1)

pub overflow_add-word : goal.overflow_add-word
overflow_add-word c =
    let s = c.args in
    let l = c.loop-k in
    omega (arith, c.from.ensures, c.type_inv.s (s.at + (l.k - 1)), part_few s.s.now (s.at + l.k) (s.n - l.k) (omega arith) (omega arith) l.invariant.1)

pub loop-k-preserved : goal.loop-k-preserved
loop-k-preserved c =
    let s = c.args in
    let l = c.loop-k in
    (omega arith, rw c.from.ensures (part_before s.s.now s.at s.n l.k (omega arith) l.invariant.0 (omega arith) (c.type_inv.s (s.at + (l.k - 1))).fits l.invariant.1))
