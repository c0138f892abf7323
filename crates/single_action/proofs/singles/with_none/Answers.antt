-- Each rule by its own law.
use borrow.Enum.Refused.{opened}
use Rattle.lent.specs.declared.refusing.Flaw.TheVariants as Flaw
use Rattle.single_action.specs.Table.{row_at}
use Rattle.single_action.proofs.JudgedLaws.{none_plain, none_unmarked, none_expiry, none_bad, bad_row}
use Rattle.single_action.proofs.singles.with_none.Goals as goal

pub returns-in-Plain : goal.returns-in-Plain
returns-in-Plain c = λ s. rw c.text_plan.ensures (none_plain s (row_at c.args.row) c.code_of-code.ensures c.rule_of.ensures c.in-Plain.is)

pub returns-in-Unmarked : goal.returns-in-Unmarked
returns-in-Unmarked c = λ s. rw c.text_plan-in-Unmarked.ensures (none_unmarked s (row_at c.args.row) c.code_of-code.ensures c.rule_of.ensures c.in-Unmarked.is)

pub returns-in-Expiry : goal.returns-in-Expiry
returns-in-Expiry c = λ s. rw c.text_plan-in-Expiry.ensures (none_expiry s (row_at c.args.row) c.code_of-code.ensures c.rule_of.ensures c.in-Expiry.is)

pub returns-in_default : goal.returns-in_default
returns-in_default c =
    λ s.
    let r = c.args.row in
    rw (none_bad (row_at r).rule (row_at r) (rw c.rule_of.ensures at (opened c.in_default.in_default-own.keys4))) (bad_row s Flaw.Absent r c.requires)
