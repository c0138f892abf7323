-- A number decides first, then the words.
use Rattle.std.specs.Prelude.{Err}
use mathlib.Core.Path.{◌∙◌, sym, ap}
use Rattle.single_action.specs.Actions.{word_number}
use Rattle.single_action.proofs.JudgedLaws.{severity_read, word_or}
use Rattle.single_action.proofs.singles.severity_number.Goals as goal

pub returns-in-Ok : goal.returns-in-Ok
returns-in-Ok c = severity_read c.args.text.now (sym c.unsigned.ensures ∙ c.in-Ok.is)

pub returns-in-Err-TooLarge : goal.returns-in-Err-TooLarge
returns-in-Err-TooLarge c = severity_read c.args.text.now (sym c.unsigned.ensures ∙ c.in-Err-TooLarge.is ∙ ap Err c.in-Err-TooLarge.field-0-is)

pub returns-in-Err-Unreadable : goal.returns-in-Err-Unreadable
returns-in-Err-Unreadable c =
    c.ok_or.ensures.value ∙ word_or c.severity_code.result ∙ ap word_number c.severity_code.ensures
    ∙ severity_read c.args.text.now (sym c.unsigned.ensures ∙ c.in-Err-Unreadable.is ∙ ap Err c.in-Err-Unreadable.field-0-is)
