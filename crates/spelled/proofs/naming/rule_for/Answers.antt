-- The numbers are the column of rules.
use mathlib.Core.Path.{◌∙◌}
use Rattle.spelled.proofs.NamingLaws.{rule_numbers, rule_at_lem}
use Rattle.spelled.proofs.naming.rule_for.Goals as goal

pub returns : goal.returns
unfolding rule_numbers
returns c = c.numbered_rule.ensures ∙ rule_at_lem c.args.code c.requires
