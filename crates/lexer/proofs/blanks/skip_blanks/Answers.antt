use mathlib.Core.Path.{◌≡◌, ◌∙◌, sym, refl}
use Prim.Native.Nat.{◌+◌, ◌≤◌}
use native.Mathlib.Omega.{arith}
use mathlib.Core.List.{[], ◌∷◌}
use lib.ListN.{length, drop}
use borrow.Enum.Refused.{opened}
use Rattle.lexer.specs.Bytes.{Feed, Return, Gap, Upright, Hash, Quote, Slash, Other}
use Rattle.lexer.specs.Cursors.{cursor}
use Rattle.lexer.specs.Rules.{before_by, line_end}
use Rattle.lexer.specs.Steps.{Skipped}
use Rattle.lexer.proofs.BlankLaws.{Skipping, skip_gap, skip_return, skip_slash, skip_end, skip_stop, skip_past}
use Rattle.lexer.proofs.ClassLaws.{class_at, arm}
use Rattle.lexer.proofs.LineEndLaws.{Ending, ending, line_end_fits}
use Rattle.lexer.proofs.blanks.skip_blanks.Goals as goal
use Rattle.lexer.proofs.blanks.skip_blanks.Goals.{After-line_end-owed}

pub loop-place-preserved-in-Gap : goal.loop-place-preserved-in-Gap
loop-place-preserved-in-Gap c =
    let s = c.args.s.now in
    let l = c.loop-place in
    let d = cursor l.place l.line.0 l.column.0 l.mark in
    arm (λ k. class_at s l.place ≡ k → Skipping s c.args.c 0 (cursor (l.place + 1) l.line.0 (l.column.0 + 1) l.mark)) (Gap ∷ Return ∷ []) _ c.in-Gap.in-Gap-own.keys1
    (λ e. skip_gap s _ d l.invariant c.loop-place-test.true e, (λ e. skip_return s _ d l.invariant c.loop-place-test.true e, tt))
    (sym c.class_of.ensures)

-- the byte is a backslash
is_slash : (c : After-line_end-owed) → class_at c.args.s.now c.loop-place.place ≡ Slash
is_slash c = sym c.class_of.ensures ∙ c.in-Slash.is

-- its line end is inside the text
owed_fits : (c : After-line_end-owed) → c.loop-place.place + 1 + line_end (drop (c.loop-place.place + 1) c.args.s.now) ≤ length c.args.s.now
owed_fits c = line_end_fits c.args.s.now (c.loop-place.place + 1) (omega (arith, c.loop-place-test))

pub loop-place-preserved-then-owed-eq0 : goal.loop-place-preserved-then-owed-eq0
loop-place-preserved-then-owed-eq0 c =
    let l = c.loop-place in
    skip_slash c.args.s.now _ (cursor l.place l.line.0 l.column.0 l.mark) l.invariant c.loop-place-test.true (is_slash (goal.at.loop-place-preserved-then-owed-eq0 c).After-line_end-owed) (sym c.line_end-owed.ensures ∙ c.if-owed-eq0.true)

pub overflow_add-place-else-owed-eq0 : goal.overflow_add-place-else-owed-eq0
overflow_add-place-else-owed-eq0 c = omega (arith, owed_fits (goal.at.overflow_add-place-else-owed-eq0 c).After-line_end-owed, c.line_end-owed.ensures)

pub overflow_add-place-else-owed-eq0-2 : goal.overflow_add-place-else-owed-eq0-2
overflow_add-place-else-owed-eq0-2 c = omega (arith, owed_fits (goal.at.overflow_add-place-else-owed-eq0-2 c).After-line_end-owed, c.line_end-owed.ensures)

pub loop-place-preserved : goal.loop-place-preserved
loop-place-preserved c =
    let s = c.args.s.now in
    let l = c.loop-place in
    let f = c.line_end-owed.ensures in
    let a : Ending s (l.place + 1) c.line_end-owed.result = rw f (ending s (l.place + 1)) in
    skip_end s _ (cursor l.place l.line.0 l.column.0 l.mark) l.invariant c.loop-place-test.true (is_slash (goal.at.loop-place-preserved c).After-line_end-owed) a c.if-owed-eq0.false (sym f)

pub returns-after-loop-place : goal.returns-after-loop-place
returns-after-loop-place c =
    let l = c.loop-place in
    skip_past c.args.s.now _ (cursor l.place l.line.0 l.column.0 l.mark) l.invariant c.requires c.loop-place-test.false

pub returns-in_default : goal.returns-in_default
unfolding before_by
returns-in_default c =
    let s = c.args.s.now in
    let l = c.loop-place in
    let d = cursor l.place l.line.0 l.column.0 l.mark in
    let stops = skip_stop s _ d l.invariant c.loop-place-test.true in
    let w = c.requires in
    arm (λ k. class_at s l.place ≡ k → Skipped s c.args.c d) (Feed ∷ Upright ∷ Hash ∷ Quote ∷ Other ∷ []) _ (opened c.in_default.in_default-own.keys3)
    (λ e. stops Feed e (λ r. refl) w, (λ e. stops Upright e (λ r. refl) w, (λ e. stops Hash e (λ r. refl) w, (λ e. stops Quote e (λ r. refl) w, (λ e. stops Other e (λ r. refl) w, tt)))))
    (sym c.class_of.ensures)
