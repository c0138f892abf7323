-- Each rule by its own law.
use Rattle.single_action.specs.Table.{row_at}
use Rattle.single_action.proofs.JudgedLaws.{Ruled, text_plain, text_wanted, text_unmarked, text_number_lem, text_severity, text_equation, text_expiry, text_setting}
use Rattle.single_action.proofs.singles.with_text.Goals as goal
use Rattle.single_action.proofs.singles.with_text.Goals.{After-rule_of}

told : (c : After-rule_of) → let s = c.args in Ruled s.s.now s.from (row_at s.row) c.code_of-code.result c.rule_of.result
told c = record { within = c.requires.from_in_bounds; coded = c.code_of-code.ensures; ruled = c.rule_of.ensures }

pub returns-in-Plain : goal.returns-in-Plain
returns-in-Plain c = rw c.text_plan.ensures (text_plain (told (goal.at.returns-in-Plain c).After-rule_of) c.in-Plain.is)

pub returns-in-Wanted : goal.returns-in-Wanted
returns-in-Wanted c = rw c.text_plan-in-Wanted.ensures (text_wanted (told (goal.at.returns-in-Wanted c).After-rule_of) c.in-Wanted.is)

pub returns-in-Unmarked : goal.returns-in-Unmarked
returns-in-Unmarked c = rw c.text_plan-in-Unmarked.ensures (text_unmarked (told (goal.at.returns-in-Unmarked c).After-rule_of) c.in-Unmarked.is c.unmarked-part.ensures)

pub returns-in-UpTo : goal.returns-in-UpTo
returns-in-UpTo c =
    rw (text_number_lem (told (goal.at.returns-in-UpTo c).After-rule_of) c.in-UpTo.is, ← c.unsigned.ensures)
    (c.number_verdict.ensures c.args.s.now)

pub returns-in-Severity : goal.returns-in-Severity
returns-in-Severity c =
    rw (text_severity (told (goal.at.returns-in-Severity c).After-rule_of) c.in-Severity.is c.unmarked-part-in-Severity.ensures, ← c.severity_number.ensures)
    (c.number_verdict-in-Severity.ensures c.args.s.now)

pub returns-in-Equation : goal.returns-in-Equation
returns-in-Equation c = text_equation (told (goal.at.returns-in-Equation c).After-rule_of) c.in-Equation.is c.both_plan.ensures

pub returns-in-Expiry : goal.returns-in-Expiry
returns-in-Expiry c = text_expiry (told (goal.at.returns-in-Expiry c).After-rule_of) c.in-Expiry.is c.expiry_plan.ensures

pub returns-in-Setting : goal.returns-in-Setting
returns-in-Setting c = text_setting (told (goal.at.returns-in-Setting c).After-rule_of) c.in-Setting.is c.setvar_plan.ensures
