-- The loop keeps the elements put so far; each need is one law of RowsLaws.
use Rattle.listing.proofs.RowsLaws.{Sofar}
use Rattle.listing.proofs.writing.put_records.Given as goal

abbrev pub invariant-loop-count : goal.invariant-loop-count
invariant-loop-count l = Sofar l.records l.text l.most l.initial.out l.out l.from l.to l.count
