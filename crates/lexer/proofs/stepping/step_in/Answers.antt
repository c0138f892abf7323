-- By the length, the cursor and the buffer's length, then what stands there; each way is one law of AnswerLaws.
use mathlib.Core.Path.{◌≡◌, ◌∙◌, sym}
use mathlib.Core.Bool.{false}
use Rattle.lexer.specs.Promises.{cursor_refused}
use Rattle.lexer.proofs.AnswerLaws.{step_too_long, step_bad, step_short, step_found}
use Rattle.lexer.proofs.stepping.step_in.Goals as goal
use Rattle.lexer.proofs.stepping.step_in.Goals.{Else-refuses_cursor}

-- a cursor that is not refused
fits : (c : Else-refuses_cursor) → cursor_refused c.args.input.now c.args.from ≡ false
fits c = sym c.refuses_cursor.ensures ∙ c.if-refuses_cursor.false

pub returns-then-input-gt-LIMIT : goal.returns-then-input-gt-LIMIT
returns-then-input-gt-LIMIT c = step_too_long c.args.input.now c.args.from c.args.text.now c.if-input-gt-LIMIT.true

pub returns-then-refuses_cursor : goal.returns-then-refuses_cursor
returns-then-refuses_cursor c = step_bad c.args.input.now c.args.from c.args.text.now c.if-input-gt-LIMIT.false (sym c.refuses_cursor.ensures ∙ c.if-refuses_cursor.true)

pub returns-then-text-input : goal.returns-then-text-input
returns-then-text-input c = step_short c.args.input.now c.args.from c.args.text.now c.if-input-gt-LIMIT.false (fits (goal.at.returns-then-text-input c).Else-refuses_cursor) c.if-text-input.true

pub returns : goal.returns
returns c =
    step_found c.args.input.now c.args.from c.args.text.now c.if-input-gt-LIMIT.false (fits (goal.at.returns c).Else-refuses_cursor) c.if-text-input.false _ _ c.find.ensures
