use borrow.Author.Rules.{rules}
use Rattle.std.proofs.Common.{of_calls}
use Rattle.std.proofs.lemmas.List.Sorted.{IsPartitionPoint-from_clause}
use Rattle.index.proofs.SeekLaws.{smaller_id, ids_partitioned, point_below}
use Rattle.index.proofs.seeking.smaller.Goals as goal

pub returns : goal.returns
returns c =
    let id = c.args.id in
    let p = c.partition_point.ensures in
    let e = c.as_chunks.ensures.front in
    point_below {w = c.args.words.now} c.requires id e c.partition_point.result p.bound
    (IsPartitionPoint-from_clause (smaller_id id) _ _ p.partitioned (ids_partitioned c.requires id e) (λ a r f k. search (rules, of_calls)))
