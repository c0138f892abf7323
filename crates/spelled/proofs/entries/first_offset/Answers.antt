use mathlib.Core.Path.{◌≡◌, ◌∙◌, refl, sym}
use Prim.Native.Nat.{◌+◌, ◌*◌}
use native.Mathlib.Omega.{arith}
use Rattle.lent.specs.Sizes.{action_words}
use Rattle.spelled.proofs.StartLaws.{start_found, start_passed, start_ended, texts_mark, whole_at, past_whole}
use Rattle.spelled.proofs.entries.first_offset.Goals as goal

pub loop-count-init : goal.loop-count-init
loop-count-init c = record { inside = omega arith; left = refl }

pub bounds-words-at : goal.bounds-words-at
bounds-words-at c = omega (arith, whole_at _ c.loop-count.count c.loop-count-test.true c.room-count-end.ensures)

pub bounds-words-at-in-loop-count : goal.bounds-words-at-in-loop-count
bounds-words-at-in-loop-count c = omega (arith, whole_at _ c.loop-count.count c.loop-count-test.true c.room-count-end.ensures)

pub bounds-words-at-then-is_text : goal.bounds-words-at-then-is_text
bounds-words-at-then-is_text c = omega (arith, whole_at _ c.loop-count.count c.loop-count-test.true c.room-count-end.ensures)

pub returns-then-is_text : goal.returns-then-is_text
returns-then-is_text c =
    let h = whole_at _ c.loop-count.count c.loop-count-test.true c.room-count-end.ensures in
    let f = start_found c.loop-count.invariant (omega (arith, h)) (sym (texts_mark _ _) ∙ sym c.is_text.ensures ∙ c.if-is_text.true) in
    omega (arith, f, c.span_offset.ensures, c.min.ensures)

pub loop-count-preserved : goal.loop-count-preserved
loop-count-preserved c =
    let h = whole_at _ c.loop-count.count c.loop-count-test.true c.room-count-end.ensures in
    let p : (c.loop-count.count + 1) * action_words ≡ c.loop-count.count * action_words + action_words = omega arith in
    record {
      inside = omega (arith, h);
      left = rw p (start_passed c.loop-count.invariant (omega (arith, h)) (sym (texts_mark _ _) ∙ sym c.is_text.ensures ∙ c.if-is_text.false));
    }

pub returns : goal.returns
returns c = omega (arith, start_ended c.loop-count.invariant (omega (arith, past_whole _ c.loop-count.count c.loop-count-test.false c.room-count-end.ensures)))
