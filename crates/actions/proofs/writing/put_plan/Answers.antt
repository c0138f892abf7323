-- Three texts one behind the other, and the record with their spans.
use native.Mathlib.Omega.{arith}
use Rattle.actions.proofs.WritingLaws.{plan_length, put_all}
use Rattle.actions.proofs.writing.put_plan.Goals as goal

pub put_text-b-requires : goal.put_text-b-requires
put_text-b-requires c = record { lies = c.requires.inside.a; origin_in_bounds = omega (arith, plan_length c.args.s.now c.args.plan, c.requires.plan_in_bounds) }

pub put_text-c-requires : goal.put_text-c-requires
put_text-c-requires c = record { lies = c.requires.inside.b; origin_in_bounds = omega (arith, plan_length c.args.s.now c.args.plan, c.requires.plan_in_bounds, c.put_text-b.ensures.value, c.put_text-b.auto) }

pub put_text-end-requires : goal.put_text-end-requires
put_text-end-requires c = record { lies = c.requires.inside.c; origin_in_bounds = omega (arith, plan_length c.args.s.now c.args.plan, c.requires.plan_in_bounds, c.put_text-b.ensures.value, c.put_text-b.auto, c.put_text-c.ensures.value, c.put_text-c.auto) }

pub word_of-requires : goal.word_of-requires
word_of-requires c = record { at_le_end = omega (arith, plan_length c.args.s.now c.args.plan, c.requires, c.put_text-b.ensures.value); end_lt_span_base = omega (arith, plan_length c.args.s.now c.args.plan, c.requires, c.put_text-b.ensures.value) }

pub word_of-requires-2 : goal.word_of-requires-2
word_of-requires-2 c = record { at_le_end = omega (arith, plan_length c.args.s.now c.args.plan, c.requires, c.put_text-b.ensures.value, c.put_text-c.ensures.value); end_lt_span_base = omega (arith, plan_length c.args.s.now c.args.plan, c.requires, c.put_text-b.ensures.value, c.put_text-c.ensures.value) }

pub word_of-requires-3 : goal.word_of-requires-3
word_of-requires-3 c = record { at_le_end = omega (arith, plan_length c.args.s.now c.args.plan, c.requires, c.put_text-b.ensures.value, c.put_text-c.ensures.value, c.put_text-end.ensures.value); end_lt_span_base = omega (arith, plan_length c.args.s.now c.args.plan, c.requires, c.put_text-b.ensures.value, c.put_text-c.ensures.value, c.put_text-end.ensures.value) }

pub returns : goal.returns
returns c =
    put_all c.args.s.now c.args.plan c.args.text.now c.args.used c.requires.plan_in_bounds
    c.put_text-b.ensures.text_after c.put_text-b.ensures.value c.put_text-c.ensures.text_after c.put_text-c.ensures.value c.put_text-end.ensures.text_after c.put_text-end.ensures.value
    _ _ _ c.word_of.ensures c.word_of-2.ensures c.word_of-3.ensures c.store.ensures
