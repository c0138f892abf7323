-- Four runs, one after another; the first is there for Delete alone.
use mathlib.Core.List.{List, []}
use mathlib.Core.Logic.{⊎_elim}
use Prim.Native.Nat.{ℕ, ◌+◌, ◌≤◌}
use native.Mathlib.Omega.{arith}
use Rattle.listing.specs.Steps.{Puts}
use Rattle.listing.proofs.PutLaws.{put_none}
use Rattle.spelled.specs.Spelling.{value_in, bang}
use Rattle.spelled.proofs.SettingLaws.{bang_delete, bang_none, bang_length, texts_length, put_setting}
use Rattle.spelled.proofs.spelling.put_setvar.Goals as goal
use Rattle.spelled.proofs.spelling.put_setvar.Goals.{Joined-e-eq-DELETE_KIND}

-- what stands before the collection
begun : (c : Joined-e-eq-DELETE_KIND) (t : List ℕ) → let a = c.args in Puts a.out.now c.if-e-eq-DELETE_KIND.out a.at c.if-e-eq-DELETE_KIND.inside (bang (value_in a.e.kind a.e.number t))
begun c t =
    let s = c in
    ⊎_elim
    (λ w. rw (w.out-is, w.inside-is, bang_delete s.args.e.number t w.if-e-eq-DELETE_KIND.true) w.put_byte-inside.ensures)
    (λ w. rw (w.out-is, w.inside-is, bang_none s.args.e.number t w.if-e-eq-DELETE_KIND.false s.requires.kind_value) (put_none _ _))
    c.if-e-eq-DELETE_KIND.branch-raw

near : (c : Joined-e-eq-DELETE_KIND) → c.if-e-eq-DELETE_KIND.inside ≤ c.args.at + 1
near c =
    let e = c.args.e in
    omega (arith, (begun c []).next_is, bang_length (value_in e.kind e.number []))

pub put_bytes-dot-requires : goal.put_bytes-dot-requires
put_bytes-dot-requires c =
    let j = c in
    let s = j in
    omega (arith, near (goal.at.put_bytes-dot-requires c).Joined-e-eq-DELETE_KIND, texts_length s.requires.placed, s.requires.broad_bound)

pub put_after-past-requires : goal.put_after-past-requires
put_after-past-requires c =
    let b = c in
    let j = b in
    let s = j in
    omega (arith, near (goal.at.put_after-past-requires c).Joined-e-eq-DELETE_KIND, b.put_bytes-dot.ensures.next_is, texts_length s.requires.placed, s.requires.broad_bound)

pub put_value-requires : goal.put_value-requires
put_value-requires c =
    let f = c in
    let b = f in
    let j = b in
    let s = j in
    omega (arith, near (goal.at.put_value-requires c).Joined-e-eq-DELETE_KIND, b.put_bytes-dot.ensures.next_is, f.put_after-past.ensures.next_is, texts_length s.requires.placed, s.requires.broad_bound)

pub returns : goal.returns
returns c =
    let v = c in
    let f = v in
    let b = f in
    let j = b in
    let s = j in
    put_setting s.requires.placed (begun (goal.at.returns c).Joined-e-eq-DELETE_KIND _) b.put_bytes-dot.ensures f.put_after-past.ensures v.put_value.ensures

pub shape_of-out : goal.shape_of-out
shape_of-out c = (returns c).long
