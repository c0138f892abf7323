-- What the public calls promise: the answer and every word of the slice, on every path.
use Rattle.std.specs.Prelude.{◌≡◌, ℕ, ◌+◌, ◌-◌, List, [], ◌∷◌, length, Result, Ok, Err}
use Rattle.ascii.specs.Choice.{pick}
use Rattle.lent.specs.Table.{Given, given}
use Rattle.rules.specs.Entries.{entries}
use Rattle.rules.specs.Selectors.{matched}
use Rattle.rules.specs.declared.selecting.RuleIdSelector.{RuleIdSelector}
use Rattle.index.specs.Standing.{Rule, Verdict, passes, taken, full, enters, name_of, verdict, insert, without}
use Rattle.index.specs.Words.{laid, places_in, count_of, rules_in, sound}
pub use Rattle.index.specs.declared.adding.Added.{Added}
pub use Rattle.index.specs.declared.adding.AddError.{AddError}
pub use Rattle.index.specs.declared.removing.Removed.{Removed}
pub use Rattle.index.specs.declared.removing.Broken.{Broken}

-- so many rules removed and so many left, and the refusal of what is no index
abbrev pub gone : ℕ → ℕ → Removed
gone removed left = record { removed = removed; left = left }

abbrev pub broken : Broken
broken = record {}

-- The number and values for each answer.
abbrev pub added_given : Result Added AddError → Given
added_given (Ok (Added.Entered count)) = given 0 (1 ∷ count ∷ [])
added_given (Ok (Added.Passed count)) = given 0 (0 ∷ count ∷ [])
added_given (Err (AddError.Taken line)) = given 16 (line ∷ [])
added_given (Err (AddError.Full places)) = given 17 (places ∷ [])
added_given (Err AddError.Broken) = given 20 (0 ∷ [])

abbrev pub removed_given : Result Removed Broken → Given
removed_given (Ok r) = given 0 (r.removed ∷ r.left ∷ [])
removed_given (Err e) = given 20 (0 ∷ [])

-- ---- add

-- what adding comes to, for words that are an index
abbrev pub judged : List ℕ → List ℕ → ℕ → Verdict
judged s actions line = verdict (places_in (length s)) (rules_in s) (name_of (entries actions)) line

abbrev pub added_by : List ℕ → Verdict → Result Added AddError
added_by s passes = Ok (Added.Passed (count_of s))
added_by s (taken l) = Err (AddError.Taken l)
added_by s full = Err (AddError.Full (places_in (length s)))
added_by s (enters x) = Ok (Added.Entered (count_of s + 1))

abbrev pub left_by : List ℕ → Verdict → List ℕ
left_by s passes = s
left_by s (taken l) = s
left_by s full = s
left_by s (enters x) = laid (length s) (insert x (rules_in s))

unfoldable pub add_answer : List ℕ → List ℕ → ℕ → Result Added AddError
add_answer s actions line = pick (sound s) (added_by s (judged s actions line)) (Err AddError.Broken)

unfoldable pub add_leaves : List ℕ → List ℕ → ℕ → List ℕ
add_leaves s actions line = pick (sound s) (left_by s (judged s actions line)) s

pub record Adds (actions : List ℕ) (line : ℕ) (old new : List ℕ) (r : Result Added AddError) : Type 0 where
  pub answer : r ≡ add_answer old actions line
  pub index : new ≡ add_leaves old actions line

-- ---- remove

abbrev pub kept : List ℕ → RuleIdSelector → List Rule
kept s selector = without (matched selector) (rules_in s)

unfoldable pub remove_answer : List ℕ → RuleIdSelector → Result Removed Broken
remove_answer s selector = pick (sound s) (Ok (gone (count_of s - length (kept s selector)) (length (kept s selector)))) (Err broken)

unfoldable pub remove_leaves : List ℕ → RuleIdSelector → List ℕ
remove_leaves s selector = pick (sound s) (laid (length s) (kept s selector)) s

pub record Removes (selector : RuleIdSelector) (old new : List ℕ) (r : Result Removed Broken) : Type 0 where
  pub answer : r ≡ remove_answer old selector
  pub index : new ≡ remove_leaves old selector
