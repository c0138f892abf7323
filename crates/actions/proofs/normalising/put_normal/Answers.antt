use mathlib.Core.Path.{◌∙◌, subst}
use mathlib.Core.Logic.{⊎_elim}
use Prim.Native.Nat.{◌+◌, ◌-◌, ◌≤◌}
use native.Mathlib.Omega.{arith}
use borrow.Author.Rules.{rules}
use borrow.Enum.Refused.{opened}
use lib.ListN.{length-set}
use Rattle.actions.specs.Normal.{Mode}
use Rattle.actions.proofs.NormalLoop.{Normalising, normalising_none}
use Rattle.actions.proofs.PlainLaws.{passed_on}
use Rattle.actions.proofs.NormalActLaws.{acted_none, acted_one, room_one, acted_two, room_two, held_room, held_all, ended_all}
use Rattle.actions.proofs.normalising.put_normal.Goals as goal
use Rattle.actions.proofs.normalising.put_normal.Goals.{After-pass_plain-past, Joined-mode, in-Plain, in_default}

-- past a plain span
spanned : (c : After-pass_plain-past) →
    let l = c.loop-mode in let a = c.args in let r = c.pass_plain-past.result in (l.i ≤ r) × Normalising a.s.now a.out.now c.pass_plain-past.new.out l.mode r (l.n + (r - l.i))
spanned c =
    let l = c.loop-mode in
    let a = c.args in
    let e = c.in-Plain.is in
    let x = subst (λ (m : Mode). Normalising a.s.now a.out.now l.out m l.i l.n) e l.invariant in
    rw e (passed_on c.requires x c.pass_plain-past.ensures)

-- where the two ways meet
passed : (c : Joined-mode) →
    let a = c.args in (c.loop-mode.i ≤ c.match-mode.i) × Normalising a.s.now a.out.now c.match-mode.out c.loop-mode.mode c.match-mode.i c.match-mode.n
passed c =
    let a = c.args in
    let l = c.loop-mode in
    elim c.match-mode.branch [
      | in-Plain w ↦
          let e = w.in-Plain.is in
          let x = subst (λ (m : Mode). Normalising a.s.now a.out.now l.out m l.i l.n) e l.invariant in
          rw (w.out-is, w.i-is, w.n-is, e) (passed_on c.requires x w.pass_plain-past.ensures)
      | in_default w ↦ rw (w.out-is, w.i-is, w.n-is) (omega arith, l.invariant)
    ]

pub loop-mode-init : goal.loop-mode-init
loop-mode-init c = normalising_none _ _

pub enum_told-1 : goal.enum_told-1
enum_told-1 c = search rules

pub pass_plain-past-requires : goal.pass_plain-past-requires
pass_plain-past-requires c = c.loop-mode.invariant.inside

pub overflow_sub-n : goal.overflow_sub-n
overflow_sub-n c = (spanned (goal.at.overflow_sub-n c).After-pass_plain-past).0

pub overflow_add-n : goal.overflow_add-n
overflow_add-n c = omega (arith, (spanned (goal.at.overflow_add-n c).After-pass_plain-past).1.paid, (spanned (goal.at.overflow_add-n c).After-pass_plain-past).1.inside)

pub bounds-s-i : goal.bounds-s-i
bounds-s-i c = omega arith

pub bounds-out-n : goal.bounds-out-n
bounds-out-n c =
    let p = passed (goal.at.bounds-out-n c).Joined-mode in
    room_one c.requires p.1 c.if-s-i.false c.act_of.ensures c.in-Gives.is

pub overflow_add-n-in-Gives : goal.overflow_add-n-in-Gives
overflow_add-n-in-Gives c =
    let p = passed (goal.at.overflow_add-n-in-Gives c).Joined-mode in
    omega (arith, room_one c.requires p.1 c.if-s-i.false c.act_of.ensures c.in-Gives.is, p.1.paid, p.1.inside)

pub bounds-out-n-in-Keeps : goal.bounds-out-n-in-Keeps
bounds-out-n-in-Keeps c =
    let p = passed (goal.at.bounds-out-n-in-Keeps c).Joined-mode in
    omega (arith, room_two c.requires p.1 c.if-s-i.false c.act_of.ensures c.in-Keeps.is)

pub overflow_add-out : goal.overflow_add-out
overflow_add-out c =
    let p = passed (goal.at.overflow_add-out c).Joined-mode in
    omega (arith, p.1.paid, c.if-s-i.false)

pub bounds-out-n-in-Keeps-2 : goal.bounds-out-n-in-Keeps-2
bounds-out-n-in-Keeps-2 c =
    let p = passed (goal.at.bounds-out-n-in-Keeps-2 c).Joined-mode in
    simp length-set (room_two c.requires p.1 c.if-s-i.false c.act_of.ensures c.in-Keeps.is)

pub overflow_add-n-in-Keeps : goal.overflow_add-n-in-Keeps
overflow_add-n-in-Keeps c =
    let p = passed (goal.at.overflow_add-n-in-Keeps c).Joined-mode in
    omega (arith, (acted_two c.requires p.1 c.if-s-i.false c.act_of.ensures c.in-Keeps.is).written.fits)

pub overflow_add-i : goal.overflow_add-i
overflow_add-i c = omega (arith, c.if-s-i.false)

pub loop-mode-smaller : goal.loop-mode-smaller
loop-mode-smaller c = omega (arith, c.if-s-i.false, (passed (goal.at.loop-mode-smaller c).Joined-mode).0)

pub loop-mode-preserved : goal.loop-mode-preserved
loop-mode-preserved c =
    let p = passed (goal.at.loop-mode-preserved c).Joined-mode in
    let r = c.requires in
    let x = p.1 in
    let k = c.if-s-i.false in
    let e = c.act_of.ensures in
    ⊎_elim
    (λ w. rw (w.out-is, w.n-is, w.mode-is) (acted_none r x k e w.in-Vanishes.is))
    (⊎_elim
    (λ w. rw (w.out-is, w.n-is, w.mode-is) (acted_one r x k e w.in-Gives.is))
    (λ w. rw (w.out-is, w.n-is, w.mode-is) (acted_two r x k e w.in-Keeps.is)))
    c.match-act_of.branch-raw

pub bounds-out-n-in-Held : goal.bounds-out-n-in-Held
bounds-out-n-in-Held c =
    let p = passed (goal.at.bounds-out-n-in-Held c).Joined-mode in
    held_room c.requires p.1 c.if-s-i.true c.in-Held.is

pub overflow_add-n-in-Held : goal.overflow_add-n-in-Held
overflow_add-n-in-Held c =
    let p = passed (goal.at.overflow_add-n-in-Held c).Joined-mode in
    omega (arith, p.1.paid, p.1.inside, held_room c.requires p.1 c.if-s-i.true c.in-Held.is)

pub shape_of-out-in-Held : goal.shape_of-out-in-Held
shape_of-out-in-Held c =
    let p = passed (goal.at.shape_of-out-in-Held c).Joined-mode in
    length-set c.match-mode.out c.match-mode.n 92 ∙ p.1.written.long

pub returns-in-Held : goal.returns-in-Held
returns-in-Held c =
    let p = passed (goal.at.returns-in-Held c).Joined-mode in
    held_all c.requires p.1 c.if-s-i.true c.in-Held.is

pub shape_of-out-in_default-mode : goal.shape_of-out-in_default-mode
shape_of-out-in_default-mode c = (passed (goal.at.shape_of-out-in_default-mode c).Joined-mode).1.written.long

pub returns-in_default-mode : goal.returns-in_default-mode
returns-in_default-mode c =
    let p = passed (goal.at.returns-in_default-mode c).Joined-mode in
    ended_all c.requires p.1 c.if-s-i.true (opened c.in_default-mode.in_default-mode-own.keys2)
