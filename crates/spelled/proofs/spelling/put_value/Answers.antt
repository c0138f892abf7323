-- By the kind: each arm's run is what stands behind the key.
use mathlib.Core.Path.{◌∙◌, sym}
use Rattle.listing.proofs.PutLaws.{put_none}
use Rattle.spelled.proofs.SettingLaws.{tail_one, tail_text, tail_int, tail_up, tail_down, tail_macro, tail_none}
use Rattle.spelled.proofs.spelling.put_value.Goals as goal

pub returns-then-is_same : goal.returns-then-is_same
returns-then-is_same c =
    let m = c in
    let s = m in
    rw (tail_one s.args.number s.args.value.now m.in-1.is (sym c.is_same.ensures ∙ c.if-is_same.true)) (put_none _ _)

pub returns-else-is_same : goal.returns-else-is_same
returns-else-is_same c =
    let i = c in
    let m = i in
    let s = m in
    rw (tail_text s.args.number s.args.value.now m.in-1.is (sym i.is_same.ensures ∙ i.if-is_same.false)) c.put_after.ensures

pub returns-in-2 : goal.returns-in-2
returns-in-2 c = rw (tail_int c.args.number c.args.value.now c.in-2.is) c.put_number.ensures

pub returns-in-3 : goal.returns-in-3
returns-in-3 c = rw (tail_up c.args.number c.args.value.now c.in-3.is) c.put_step.ensures

pub returns-in-4 : goal.returns-in-4
returns-in-4 c = rw (tail_down c.args.number c.args.value.now c.in-4.is) c.put_step-in-4.ensures

pub returns-in-6 : goal.returns-in-6
returns-in-6 c = rw (tail_macro c.args.number c.args.value.now c.in-6.is) c.put_after-in-6.ensures

pub returns-in_default : goal.returns-in_default
returns-in_default c =
    let s = c in
    let r = c.in_default.in_default-own.rest in
    rw (tail_none s.args.number s.args.value.now r.0.0.0.0.1 r.0.0.0.1 r.0.0.1 r.0.1 r.1) (put_none _ _)
