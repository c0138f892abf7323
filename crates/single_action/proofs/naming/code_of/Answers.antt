-- The codes are the table's column.
use Rattle.single_action.specs.Table.{rows}
use Rattle.single_action.proofs.NamingLaws.{code_at}
use Rattle.single_action.proofs.naming.code_of.Goals as goal

pub returns : goal.returns
unfolding rows
returns c = code_at c.args.row c.requires
