-- As ArgumentLaws says of no arguments.
use Rattle.directives.proofs.ArgumentLaws.{no_arguments}
use Rattle.directives.proofs.arguments.none_yet.Goals as goal

pub returns : goal.returns
returns c = no_arguments c.args.held c.args.past
