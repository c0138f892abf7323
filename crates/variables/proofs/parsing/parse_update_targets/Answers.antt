-- The outcome is the shared one with exclusions looked up.
use lib.ListN.{length}
use Rattle.variables.proofs.AnswerLaws.{as_update}
use Rattle.variables.proofs.parsing.parse_update_targets.Goals as goal

pub returns : goal.returns
returns c =
    rw (as_update c.args.input.now (length c.args.text.now) (length c.args.records.now)) c.parse.ensures
