-- Every rule from the place on up to here is taken.
use mathlib.Core.Path.{◌≡◌}
use Prim.Native.Nat.{◌+◌}
use lib.ListN.{drop}
use Rattle.rules.specs.Selectors.{matched}
use Rattle.index.specs.Words.{rules_of}
use Rattle.index.specs.Steps.{run}
use Rattle.index.proofs.seeking.past_taken.Given as goal

abbrev pub invariant-loop-at : goal.invariant-loop-at
invariant-loop-at l = l.place + run (matched l.selector) (drop l.place (rules_of l.count (drop 1 l.words))) ≡ l.at + run (matched l.selector) (drop l.at (rules_of l.count (drop 1 l.words)))
