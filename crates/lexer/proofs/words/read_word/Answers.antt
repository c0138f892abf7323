use mathlib.Core.Path.{◌∙◌, sym}
use Prim.Native.Nat.{◌+◌, ◌≤◌}
use native.Mathlib.Omega.{arith}
use lib.ListN.{length}
use borrow.Enum.Refused.{opened}
use Rattle.lexer.specs.Rules.{word}
use Rattle.lexer.proofs.ClassLaws.{slash_dark, other_dark, not_feed, word_other, word_lone, word_stop}
use Rattle.lexer.proofs.LineEndLaws.{line_end_fits}
use Rattle.lexer.proofs.LoopLaws.{going_stop, going_end, text_stop, text_end_lem}
use Rattle.lexer.proofs.WordLaws.{begun, kept, cut, ended}
use Rattle.lexer.proofs.words.read_word.Goals as goal
use Rattle.lexer.proofs.words.read_word.Goals.{Else-owed-eq0}

pub loop-at-init : goal.loop-at-init
loop-at-init c = begun _ _ _ c.requires.from_in_bounds

pub loop-at-preserved-in-Other : goal.loop-at-preserved-in-Other
loop-at-preserved-in-Other c =
    let k = c.class_of in
    let e = sym k.ensures ∙ c.in-Other.is in
    kept c.loop-at.invariant c.loop-at-test.true c.requires.s_len_bound (word_other _ _ e) (not_feed _ (other_dark _ e))

pub loop-at-preserved-then-owed-eq0 : goal.loop-at-preserved-then-owed-eq0
loop-at-preserved-then-owed-eq0 c =
    let k = c.class_of in
    let e = sym k.ensures ∙ c.in-Slash.is in
    kept c.loop-at.invariant c.loop-at-test.true c.requires.s_len_bound (word_lone _ _ e (sym c.line_end-owed.ensures ∙ c.if-owed-eq0.true)) (not_feed _ (slash_dark _ e))

-- the line end behind a backslash stands inside the text
owed_fits : (c : Else-owed-eq0) → c.loop-at.at + 1 + c.line_end-owed.result ≤ length c.args.s.now
owed_fits c = rw c.line_end-owed.ensures (line_end_fits _ _ (omega arith))

pub overflow_add-at-else-owed-eq0 : goal.overflow_add-at-else-owed-eq0
overflow_add-at-else-owed-eq0 c = omega (arith, owed_fits (goal.at.overflow_add-at-else-owed-eq0 c).Else-owed-eq0)

pub overflow_add-at-else-owed-eq0-2 : goal.overflow_add-at-else-owed-eq0-2
overflow_add-at-else-owed-eq0-2 c = omega (arith, owed_fits (goal.at.overflow_add-at-else-owed-eq0-2 c).Else-owed-eq0)

pub loop-at-preserved : goal.loop-at-preserved
loop-at-preserved c =
    let k = c.class_of in
    let e = sym k.ensures ∙ c.in-Slash.is in
    cut c.loop-at.invariant c.loop-at-test.true e c.line_end-owed.ensures c.if-owed-eq0.false

pub returns-after-loop-at : goal.returns-after-loop-at
returns-after-loop-at c =
    let a = c.args in
    let l = c.loop-at in
    let h = c.loop-at-test.false in let whole = ended _ l.invariant (going_end word 0 a.s.now a.from 0 l.at h l.invariant.going) (text_end_lem word 0 a.s.now a.from 0 l.at h) in record { ran = whole.0; wrote = whole.1 }

pub returns-in_default : goal.returns-in_default
returns-in_default c =
    let a = c.args in
    let l = c.loop-at in
    let k = c.loop-at-test.true in
    let e = word_stop _ _ c.class_of.result c.class_of.ensures (opened c.in_default.in_default-own.keys3) in let whole = ended _ l.invariant (going_stop word 0 a.s.now a.from k e l.invariant.going) (text_stop word 0 a.s.now a.from k e) in record { ran = whole.0; wrote = whole.1 }
