use mathlib.Core.Path.{◌≡◌}
use Rattle.index.specs.Words.{all_zero}
use Rattle.index.proofs.CheckLaws.{zeroing}
use Rattle.index.proofs.checking.are_zero.Given as goal

abbrev pub invariant-loop-word : goal.invariant-loop-word
invariant-loop-word l = all_zero l.words ≡ zeroing l.words l.bits l.word-index
