-- Runs of calls on a slice, and the history of each.
use Rattle.std.specs.Prelude.{ℕ, zero, suc, List, [], ◌∷◌, Result}
use Rattle.rules.specs.Entries.{entries}
use Rattle.rules.specs.declared.selecting.RuleIdSelector.{RuleIdSelector}
use Rattle.index.specs.Standing.{name_of}
use Rattle.index.specs.Promises.{Added, AddError, Removed, Broken, Adds, Removes, added_given, removed_given}
use Rattle.index.specs.Histories.{Event, accepted, removed, refused}

-- what a call did, by the number it answered: all but 0 are refusals
abbrev pub unless : ℕ → Event → Event
unless zero e = e
unless (suc n) e = refused

abbrev pub add_event : List ℕ → ℕ → Result Added AddError → Event
add_event actions line r = unless (added_given r).number (accepted (name_of (entries actions)) line)

abbrev pub remove_event : RuleIdSelector → Result Removed Broken → Event
remove_event selector r = unless (removed_given r).number (removed selector)

-- Calls one after another on one slice, each as its function promises.
pub data Ran : List ℕ → List Event → List ℕ → Type 0 where
  done : {s : List ℕ} → Ran s [] s
  added : {actions : List ℕ} {line : ℕ} {old new last : List ℕ} {r : Result Added AddError} {h : List Event} → Adds actions line old new r → Ran new h last → Ran old (add_event actions line r ∷ h) last
  took : {selector : RuleIdSelector} {old new last : List ℕ} {r : Result Removed Broken} {h : List Event} → Removes selector old new r → Ran new h last → Ran old (remove_event selector r ∷ h) last
