-- What the C functions of the index promise: the number and values of the answer, and every word of the slice.
use Rattle.std.specs.Prelude.{◌≡◌, ℕ, List}
use Rattle.rules.specs.declared.selecting.RuleIdSelector.{RuleIdSelector}
use Rattle.index.specs.Promises.{added_given, removed_given, add_answer, add_leaves, remove_answer, remove_leaves}
use Rattle.seclang.specs.Told.{Told}

pub record AddsTold (actions : List ℕ) (line : ℕ) (index index' old new : List ℕ) (r : ℕ) : Type 0 where
  pub told : Told (added_given (add_answer index actions line)) old new r
  pub left : index' ≡ add_leaves index actions line

pub record RemovesTold (selector : RuleIdSelector) (index index' old new : List ℕ) (r : ℕ) : Type 0 where
  pub told : Told (removed_given (remove_answer index selector)) old new r
  pub left : index' ≡ remove_leaves index selector
