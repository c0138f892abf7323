-- Trimmed, and without a pair of marks.
use mathlib.Core.Path.{◌∙◌, sym}
use native.Mathlib.Omega.{arith}
use Rattle.single_action.proofs.SettingLaws.{Held, Room, held, held_long, setvar_paired, setvar_unpaired}
use Rattle.single_action.proofs.settings.setvar_plan.Goals as goal
use Rattle.single_action.proofs.settings.setvar_plan.Goals.{After-trimmed-part, Then-is_paired}

part_held : (c : After-trimmed-part) → Held c.args.s.now c.args.from c.trimmed-part.result
part_held c = let s = c in held s.args.s.now s.args.from c.trimmed-part.result s.requires c.trimmed-part.ensures

pub overflow_add-first : goal.overflow_add-first
overflow_add-first c = let h = part_held (goal.at.overflow_add-first c).After-trimmed-part in omega (arith, h.ordered, h.inside)

pub overflow_add-past : goal.overflow_add-past
overflow_add-past c = let h = part_held (goal.at.overflow_add-past c).After-trimmed-part in omega (arith, h.inside)

pub slice_bounds-is_paired-count : goal.slice_bounds-is_paired-count
slice_bounds-is_paired-count c = (part_held (goal.at.slice_bounds-is_paired-count c).After-trimmed-part).ordered

pub slice_bounds-is_paired-start : goal.slice_bounds-is_paired-start
slice_bounds-is_paired-start c = (part_held (goal.at.slice_bounds-is_paired-start c).After-trimmed-part).ordered

pub slice_bounds-is_paired-end : goal.slice_bounds-is_paired-end
slice_bounds-is_paired-end c = (part_held (goal.at.slice_bounds-is_paired-end c).After-trimmed-part).inside

-- there is room between the marks
marked : (c : Then-is_paired) → Room c.args.from c.trimmed-part.result
marked c =
    let s = c in
    held_long s.args.s.now s.args.from c.trimmed-part.result (held s.args.s.now s.args.from c.trimmed-part.result s.requires c.trimmed-part.ensures) (sym c.is_paired.ensures ∙ c.if-is_paired.true)

pub overflow_add-first-then-is_paired : goal.overflow_add-first-then-is_paired
overflow_add-first-then-is_paired c = let h = part_held (goal.at.overflow_add-first-then-is_paired c).After-trimmed-part in omega (arith, marked (goal.at.overflow_add-first-then-is_paired c).Then-is_paired, h.inside)

pub overflow_sub-past : goal.overflow_sub-past
overflow_sub-past c = omega (arith, marked (goal.at.overflow_sub-past c).Then-is_paired)

pub bare_plan-requires : goal.bare_plan-requires
bare_plan-requires c = let h = part_held (goal.at.bare_plan-requires c).After-trimmed-part in record { first_le_past = omega (arith, marked (goal.at.bare_plan-requires c).Then-is_paired); past_in_bounds = omega (arith, h.inside) }

pub returns-then-is_paired : goal.returns-then-is_paired
returns-then-is_paired c =
    let s = c in
    let h = part_held (goal.at.returns-then-is_paired c).After-trimmed-part in
    rw (setvar_paired s.args.s.now s.args.from c.trimmed-part.result h (sym c.is_paired.ensures ∙ c.if-is_paired.true)) c.bare_plan.ensures

pub bare_plan-requires-2 : goal.bare_plan-requires-2
bare_plan-requires-2 c = let h = part_held (goal.at.bare_plan-requires-2 c).After-trimmed-part in record { first_le_past = h.ordered; past_in_bounds = h.inside }

pub returns : goal.returns
returns c =
    let s = c in
    let h = part_held (goal.at.returns c).After-trimmed-part in
    rw (setvar_unpaired s.args.s.now s.args.from c.trimmed-part.result h (sym c.is_paired.ensures ∙ c.if-is_paired.false)) c.bare_plan-2.ensures
