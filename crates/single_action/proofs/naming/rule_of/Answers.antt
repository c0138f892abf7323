-- The numbers are the table's column of rules.
use mathlib.Core.Path.{◌∙◌}
use Rattle.single_action.proofs.NamingLaws.{rule_numbers, rule_at_lem}
use Rattle.single_action.proofs.naming.rule_of.Goals as goal

pub returns : goal.returns
unfolding rule_numbers
returns c = c.numbered_rule.ensures ∙ rule_at_lem c.args.row c.requires
