use mathlib.Core.Path.{◌≡◌}
use lib.ListN.{drop}
use Rattle.index.specs.Standing.{from}
use Rattle.index.specs.Words.{rules_of}
use Rattle.index.proofs.CheckLaws.{climbing}
use Rattle.index.proofs.checking.ascends.Given as goal

abbrev pub invariant-loop-i : goal.invariant-loop-i
invariant-loop-i l = from 0 (rules_of l.count (drop 1 l.words)) ≡ climbing l.words l.count l.i
