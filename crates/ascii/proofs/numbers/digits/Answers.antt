use mathlib.Core.Path.{◌∙◌, sym}
use Prim.Native.Nat.{◌≤◌}
use native.Mathlib.Omega.{arith}
use borrow.Author.Tests.{eqb-true, eqb-false}
use lib.ListN.{get_or}
use Rattle.ascii.proofs.NumberLaws.{begun, turned, refused, accepted, past_bound, past_word, no_digits, digit_bounds}
use Rattle.ascii.proofs.numbers.digits.Goals as goal
use Rattle.ascii.proofs.numbers.digits.Goals.{Else-not-is_digit}

pub returns-then-is_empty : goal.returns-then-is_empty
returns-then-is_empty c = sym (no_digits _ c.args.s.now (eqb-true _ 0 (sym c.is_empty.ensures ∙ c.if-is_empty.true)))

pub loop-b-init : goal.loop-b-init
loop-b-init c = begun c.args.s.now (eqb-false _ 0 (sym c.is_empty.ensures ∙ c.if-is_empty.false))

pub returns-then-not-is_digit : goal.returns-then-not-is_digit
returns-then-not-is_digit c =
    let l = c.loop-b in
    let w = sym c.is_digit.ensures ∙ c.if-not-is_digit.true in
    sym (refused _ c.args.s.now l.sum l.b-index l.invariant c.loop-b-test.true w)

-- the byte is a digit
digit_at : (c : Else-not-is_digit) → (48 ≤ get_or c.args.s.now c.loop-b.b-index 0) × (get_or c.args.s.now c.loop-b.b-index 0 ≤ 57)
digit_at c = digit_bounds _ (sym c.is_digit.ensures ∙ c.if-not-is_digit.false)

pub overflow_sub-b : goal.overflow_sub-b
overflow_sub-b c = omega (arith, digit_at (goal.at.overflow_sub-b c).Else-not-is_digit)

pub with_digit-sum-requires : goal.with_digit-sum-requires
with_digit-sum-requires c = omega (arith, digit_at (goal.at.with_digit-sum-requires c).Else-not-is_digit)

pub loop-b-preserved : goal.loop-b-preserved
loop-b-preserved c =
    let l = c.loop-b in
    let w = sym c.is_digit.ensures ∙ c.if-not-is_digit.false in
    turned c.args.s.now l.sum _ l.b-index l.invariant c.loop-b-test.true w c.with_digit-sum.ensures

pub returns-in-Some : goal.returns-in-Some
returns-in-Some c =
    let l = c.loop-b in
    sym (accepted _ c.args.s.now l.sum l.b-index l.invariant _ c.loop-b-test.false c.in-Some.is c.if-v-most.true)

pub returns-in_default : goal.returns-in_default
returns-in_default c =
    let l = c.loop-b in
    sym (past_bound _ c.args.s.now l.sum l.b-index l.invariant _ c.loop-b-test.false c.in-Some.is c.if-v-most.false)

pub returns-in_default-2 : goal.returns-in_default-2
returns-in_default-2 c =
    let l = c.loop-b in
    sym (past_word _ c.args.s.now l.sum l.b-index l.invariant c.loop-b-test.false c.in_default.is (omega arith))
