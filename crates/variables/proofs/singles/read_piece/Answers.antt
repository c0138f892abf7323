-- By the first byte; each way out is one law.
use Rattle.variables.specs.Steps.{excluding_of}
use Rattle.variables.proofs.SingleLaws.{pieced_counts, pieced_plain}
use Rattle.variables.proofs.singles.read_piece.Goals as goal

pub marked-requires : goal.marked-requires
marked-requires c = record { p_nonzero = c.requires; p_value = c.if-b-eq33.true }

pub returns-then-b-eq33 : goal.returns-then-b-eq33
returns-then-b-eq33 c = c.marked.ensures

pub returns-then-b-eq38 : goal.returns-then-b-eq38
returns-then-b-eq38 c =
    pieced_counts (excluding_of c.args.exclusions) c.args.p.now c.requires c.if-b-eq33.false c.if-b-eq38.true c.named.result c.named.ensures

pub returns : goal.returns
returns c =
    pieced_plain (excluding_of c.args.exclusions) c.args.p.now c.requires c.if-b-eq33.false c.if-b-eq38.false c.named-2.result c.named-2.ensures
