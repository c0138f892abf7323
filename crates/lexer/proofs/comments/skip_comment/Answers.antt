use mathlib.Core.Path.{◌≡◌, refl}
use mathlib.Core.List.{List, []}
use Prim.Native.Nat.{ℕ}
use native.Mathlib.Omega.{arith}
use lib.ListN.{length}
use borrow.Author.Tests.{ne_eqb}
use Rattle.lexer.specs.Runs.{closes, takes}
use Rattle.lexer.specs.Rules.{comment}
use Rattle.lexer.proofs.LoopLaws.{counted_none, counted_flat, counted_feed, going_on, going_close, going_end, ran}
use Rattle.lexer.proofs.comments.skip_comment.Goals as goal

comment_feed : (b : ℕ) (r : List ℕ) → b ≡ 10 → comment 0 b r ≡ closes
unfolding comment
comment_feed b r e = rw e

comment_other : (b : ℕ) (r : List ℕ) → (b ≡ 10 → ⊥) → comment 0 b r ≡ takes [] 0
unfolding comment
comment_other b r n = rw (ne_eqb b 10 n)

pub loop-at-init : goal.loop-at-init
loop-at-init c = (counted_none _ _ c.requires, refl)

pub returns-then-s-at-eq10 : goal.returns-then-s-at-eq10
returns-then-s-at-eq10 c =
    let a = c.args in
    let i = c.loop-at.invariant in
    let k = c.loop-at-test.true in
    ran comment 0 a.s.now a.from _ (going_close comment 0 a.s.now a.from k (comment_feed _ _ c.if-s-at-eq10.true) i.1) (counted_feed i.0 k c.if-s-at-eq10.true)

pub loop-at-preserved : goal.loop-at-preserved
loop-at-preserved c =
    let a = c.args in
    let i = c.loop-at.invariant in
    let k = c.loop-at-test.true in
    (counted_flat i.0 k c.if-s-at-eq10.false, going_on comment 0 a.s.now a.from k (comment_other _ _ c.if-s-at-eq10.false) i.1)

pub returns : goal.returns
returns c =
    let a = c.args in
    let l = c.loop-at in
    let e : length a.s.now ≡ l.at = omega arith in
    rw e (ran comment 0 a.s.now a.from _ (going_end comment 0 a.s.now a.from 0 l.at (omega arith) l.invariant.1) l.invariant.0)
