-- The loop of `first_number`: what each record does to the number still to be found.
use mathlib.Core.Path.{◌≡◌}
use mathlib.Core.List.{List, ◌++◌}
use mathlib.Core.Logic.{◌≢◌}
use Prim.Native.Nat.{ℕ, ◌<◌}
use lib.ListN.{length, get_or}
use borrow.Author.Tests.{eq-eqb, ne_eqb}
use Rattle.std.specs.Prelude.{Some, None}
use Rattle.lent.specs.Sizes.{action_words}
use Rattle.rules.specs.Entries.{entries, first_of}
use Rattle.rules.proofs.EntryLaws.{entries_joined, entries_none}

module _ (code : ℕ) where
  module _ (x r : List ℕ) (h : length x ≡ action_words) where
    pub number_found : get_or x 0 0 ≡ code → first_of code (entries (x ++ r)) ≡ Some (get_or x 1 0)
    unfolding first_of
    number_found e = rw (entries_joined x r h, eq-eqb (get_or x 0 0) code e)

    pub number_passed : get_or x 0 0 ≢ code → first_of code (entries (x ++ r)) ≡ first_of code (entries r)
    unfolding first_of
    number_passed e = rw (entries_joined x r h, ne_eqb (get_or x 0 0) code e)

  pub number_none : (r : List ℕ) → length r < action_words → first_of code (entries r) ≡ None
  unfolding first_of
  number_none r h = rw (entries_none r h)

pub ruleset found = (number_found, number_passed, number_none)
