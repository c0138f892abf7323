use Rattle.lexer.proofs.WholeLaws.{begun, turned, ended}
use Rattle.lexer.proofs.writing.write_all.Goals as goal

pub loop-stop-init : goal.loop-stop-init
loop-stop-init c = begun c.args.s.now _ _ _ c.start-here.ensures c.requires.s_len_bound

pub returns-in-Nothing : goal.returns-in-Nothing
returns-in-Nothing c = ended c.loop-stop.invariant _ _ (rw c.in-Nothing.is at c.find.ensures)

pub loop-stop-preserved : goal.loop-stop-preserved
loop-stop-preserved c = turned c.loop-stop.invariant _ _ c.requires.s_in_bounds (rw c.in-Token.is at c.find.ensures) _ c.put.ensures
