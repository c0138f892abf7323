-- The loop keeps that no record before has a text; each need is one law of StartLaws.
use Prim.Native.Nat.{◌*◌}
use Rattle.lent.specs.Sizes.{action_words}
use Rattle.spelled.proofs.StartLaws.{Sofar}
use Rattle.spelled.proofs.entries.first_offset.Given as goal

abbrev pub invariant-loop-count : goal.invariant-loop-count
invariant-loop-count l = Sofar l.words (l.count * action_words)
