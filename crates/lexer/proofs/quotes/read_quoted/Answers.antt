use mathlib.Core.Logic.{⊎_elim}
use Prim.Native.Nat.{◌+◌, ◌≤◌}
use native.Mathlib.Omega.{arith}
use borrow.Enum.Refused.{opened}
use Rattle.lexer.proofs.LoopLaws.{counted_few, Counted, counted_flat, counted_feed}
use Rattle.lexer.proofs.QuoteLaws.{Quoting, quoting_none, quoting_end}
use Rattle.lexer.proofs.QuoteSpanLaws.{quoting_span}
use Rattle.lexer.proofs.QuoteActLaws.{acted_room, acted_on, acted_end}
use Rattle.lexer.proofs.quotes.read_quoted.Goals as goal
use Rattle.lexer.proofs.quotes.read_quoted.Goals.{After-pass_span-reach, Joined-b-eq10}

-- past the span
spanned : (c : After-pass_span-reach) →
    let a = c.args in let l = c.loop-at in let r = c.pass_span-reach.result in (l.reach.at ≤ r.at) × Quoting a.q a.s.now a.from a.text.now r.at r.len l.feeds l.last r.mode c.pass_span-reach.new.text
spanned c = quoting_span c.requires.s_len_bound c.pass_span-reach.result c.loop-at.reach.mode c.loop-at.invariant c.pass_span-reach.ensures

-- the byte behind it is counted
counted_on : (c : Joined-b-eq10) → let a = c.args in let r = c.pass_span-reach.result in
    Counted a.s.now a.from r.at c.loop-at.feeds c.loop-at.last → Counted a.s.now a.from (r.at + 1) c.if-b-eq10.feeds c.if-b-eq10.last
counted_on c x =
    let k = c.if-s-at.false in
    ⊎_elim (λ w. rw (w.feeds-is, w.last-is) (counted_feed x k w.if-b-eq10.true)) (λ w. rw (w.feeds-is, w.last-is) (counted_flat x k w.if-b-eq10.false)) c.if-b-eq10.branch-raw

pub loop-at-init : goal.loop-at-init
loop-at-init c = quoting_none _ _ _ _ c.requires.from_in_bounds

pub overflow_add-feeds : goal.overflow_add-feeds
overflow_add-feeds c = omega (arith, c.if-s-at.false, counted_few (spanned (goal.at.overflow_add-feeds c).After-pass_span-reach).1.counted)

pub write_act-reach-requires : goal.write_act-reach-requires
write_act-reach-requires c = acted_room (spanned (goal.at.write_act-reach-requires c).After-pass_span-reach).1 c.if-s-at.false c.requires.s_len_bound (counted_on (goal.at.write_act-reach-requires c).Joined-b-eq10 (spanned (goal.at.write_act-reach-requires c).After-pass_span-reach).1.counted) c.act_of-act.result c.act_of-act.ensures

pub loop-at-preserved : goal.loop-at-preserved
loop-at-preserved c = (acted_on (spanned (goal.at.loop-at-preserved c).After-pass_span-reach).1 c.if-s-at.false c.requires.s_len_bound (counted_on (goal.at.loop-at-preserved c).Joined-b-eq10 (spanned (goal.at.loop-at-preserved c).After-pass_span-reach).1.counted) c.act_of-act.result c.act_of-act.ensures c.write_act-reach.result (opened c.in_default.in_default-own.keys2) c.write_act-reach.ensures).1

pub returns-then-s-at : goal.returns-then-s-at
returns-then-s-at c = let whole = quoting_end (spanned (goal.at.returns-then-s-at c).After-pass_span-reach).1 c.if-s-at.true in record { ran = whole.0; wrote = whole.1 }

pub returns-in-Closes : goal.returns-in-Closes
returns-in-Closes c = let whole = acted_end (spanned (goal.at.returns-in-Closes c).After-pass_span-reach).1 c.if-s-at.false c.requires.s_len_bound (counted_on (goal.at.returns-in-Closes c).Joined-b-eq10 (spanned (goal.at.returns-in-Closes c).After-pass_span-reach).1.counted) c.act_of-act.result c.act_of-act.ensures c.write_act-reach.result c.in-Closes.is c.write_act-reach.ensures in record { ran = whole.0; wrote = whole.1 }
