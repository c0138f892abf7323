-- By whether every record is written; each way is one law of EachLaws.
use Rattle.spelled.proofs.EachLaws.{each_failed, each_written}
use Rattle.spelled.proofs.writing.write_actions.Goals as goal

pub returns-in-Err : goal.returns-in-Err
returns-in-Err c = each_failed c.put_records.ensures c.in-Err.is (c.fill.ensures.after (λ y e. e))

pub returns-in-Ok : goal.returns-in-Ok
returns-in-Ok c = each_written c.put_records.ensures c.in-Ok.is c.finish.ensures
