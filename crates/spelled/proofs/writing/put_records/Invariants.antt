-- The loop keeps the actions written so far; each need is one law of EachLaws.
use Prim.Native.Nat.{◌*◌}
use Rattle.lent.specs.Sizes.{action_words}
use Rattle.spelled.proofs.EachLaws.{Sofar}
use Rattle.spelled.proofs.writing.put_records.Given as goal

abbrev pub invariant-loop-count : goal.invariant-loop-count
invariant-loop-count l = Sofar l.words l.text l.initial.out l.out l.offset l.to l.count (l.count * action_words)
