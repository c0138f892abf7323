-- The outcome is the shared one with exclusions as written.
use lib.ListN.{length}
use Rattle.variables.proofs.AnswerLaws.{as_variables}
use Rattle.variables.proofs.parsing.parse_variables.Goals as goal

pub returns : goal.returns
returns c =
    rw (as_variables c.args.input.now (length c.args.text.now) (length c.args.records.now)) c.parse.ensures
