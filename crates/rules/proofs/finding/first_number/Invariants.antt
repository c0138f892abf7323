-- None of the code was passed.
use mathlib.Core.Path.{◌≡◌}
use Rattle.std.specs.Slice.Iter.{chunks_exact_rest, chunks_exact_size}
use Rattle.lent.specs.Sizes.{action_words}
use Rattle.rules.specs.Entries.{entries, first_of}
use Rattle.rules.proofs.finding.first_number.Given as goal

abbrev pub invariant-loop-record : goal.invariant-loop-record
invariant-loop-record l = (chunks_exact_size l.record-iterator ≡ action_words) × (first_of l.code (entries l.words) ≡ first_of l.code (entries (chunks_exact_rest l.record-iterator)))
