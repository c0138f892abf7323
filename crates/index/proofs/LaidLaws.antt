-- On an index that is laid out, what is promised is about the rules.
use Rattle.std.specs.Prelude.{Ok, Result}
use mathlib.Core.Path.{◌≡◌, ◌∙◌, ap}
use mathlib.Core.List.{List}
use Prim.Native.Nat.{ℕ, ◌-◌}
use lib.ListN.{length}
use Rattle.rules.specs.Entries.{entries}
use Rattle.rules.specs.Selectors.{matched}
use Rattle.rules.specs.declared.selecting.RuleIdSelector.{RuleIdSelector}
use Rattle.index.specs.Standing.{Rule, name_of, without, verdict}
use Rattle.index.specs.Words.{laid, places_in}
use Rattle.index.specs.Promises.{Added, AddError, Removed, Broken, gone, Adds, Removes, added_by, left_by, judged, add_answer, add_leaves, remove_answer, remove_leaves}
use Rattle.index.proofs.WordLaws.{Holds, laid_length, laid_count, laid_rules, laid_sound}

module _ {n : ℕ} {rs : List Rule} (x : Holds n rs) where
  module _ {actions : List ℕ} {line : ℕ} {new : List ℕ} {r : Result Added AddError} (a : Adds actions line (laid n rs) new r) where
    on_rules : judged (laid n rs) actions line ≡ verdict (places_in n) rs (name_of (entries actions)) line
    on_rules = rw (laid_rules x, laid_length x)

    pub laid_answer : r ≡ added_by (laid n rs) (verdict (places_in n) rs (name_of (entries actions)) line)
    unfolding add_answer
    laid_answer = a.answer ∙ rw (laid_sound x) (ap (added_by (laid n rs)) on_rules)

    pub laid_leaves : new ≡ left_by (laid n rs) (verdict (places_in n) rs (name_of (entries actions)) line)
    unfolding add_leaves
    laid_leaves = a.index ∙ rw (laid_sound x) (ap (left_by (laid n rs)) on_rules)

  module _ {selector : RuleIdSelector} {new : List ℕ} {r : Result Removed Broken} (a : Removes selector (laid n rs) new r) where
    pub laid_removed : r ≡ Ok (gone (length rs - length (without (matched selector) rs)) (length (without (matched selector) rs)))
    unfolding remove_answer
    laid_removed = a.answer ∙ rw (laid_sound x, laid_rules x, laid_count x)

    pub laid_kept : new ≡ laid n (without (matched selector) rs)
    unfolding remove_leaves
    laid_kept = a.index ∙ rw (laid_sound x, laid_rules x, laid_length x)
