-- The grade is that of what is left, by whether an id was passed.
use mathlib.Core.Path.{◌≡◌}
use Rattle.std.specs.Slice.Iter.{chunks_exact_rest, chunks_exact_size}
use Rattle.lent.specs.Sizes.{action_words}
use Rattle.rules.specs.Entries.{entries}
use Rattle.rules.specs.Grades.{grades}
use Rattle.rules.proofs.GradeLaws.{ahead}
use Rattle.rules.proofs.grading.grade.Given as goal

abbrev pub invariant-loop-record : goal.invariant-loop-record
invariant-loop-record l = (chunks_exact_size l.record-iterator ≡ action_words) × (grades (entries l.words) ≡ ahead l.named (entries (chunks_exact_rest l.record-iterator)))
