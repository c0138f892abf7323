-- The theorem of M-106: after any calls from an index of zeros, the slice is the index built afresh from the rules then standing, those
-- accepted and not since removed; each call answers by those rules alone; and no two of them have one id, at the full width of an id.
use Rattle.std.specs.Prelude.{◌≡◌, ◌↔◌, List, [], ◌∷◌, ◌++◌, ℕ, ◌+◌, ◌≤◌, length, Result, Some, None}
use Rattle.lent.specs.Buffers.{zeros}
use Rattle.lent.specs.Table.{given}
use Rattle.rules.specs.Entries.{entries}
use Rattle.rules.specs.declared.selecting.RuleIdSelector.{RuleIdSelector}
use Rattle.index.specs.Standing.{name_of, line_of, Distinct, afresh, verdict}
use Rattle.index.specs.Words.{laid, places_in, rules_in, Index}
use Rattle.index.specs.Promises.{Adds, Removes, added_given, removed_given}
use Rattle.index.specs.declared.adding.Added.{Added}
use Rattle.index.specs.declared.adding.AddError.{AddError}
use Rattle.index.specs.declared.removing.Removed.{Removed}
use Rattle.index.specs.declared.removing.Broken.{Broken}
use Rattle.index.specs.Histories.{Event, accepted, removed, standing, accepting, added_told, removed_told}
use Rattle.index.specs.Runs.{unless, Ran}
use Rattle.demands.specs.Calls.{Wrote, Adding, Removing}
use Rattle.demands.specs.Library.{With, adds_promise, removes_promise}

-- The same calls through the C functions: what each did is told by the number that it returned.
pub data Called : List ℕ → List Event → List ℕ → Type 0 where
  done : {s : List ℕ} → Called s [] s
  added : {h : List Event} {last : List ℕ} (i : With Adding) (o : With (Wrote ℕ)) → adds_promise i o → Called o.0.buffer h last
      → Called i.0.index (unless o.0.answer (accepted (name_of (entries i.0.actions)) i.0.line) ∷ h) last
  took : {h : List Event} {last : List ℕ} (i : With Removing) (o : With (Wrote ℕ)) → removes_promise i o → Called o.0.buffer h last
      → Called i.0.index (unless o.0.answer (removed i.0.selector) ∷ h) last

-- After calls on n words of zeros that left s.
pub record After (n : ℕ) (h : List Event) (s : List ℕ) : Type 0 where
  -- the index of the rules that stand, zeros beyond
  pub index : s ≡ laid n (afresh (standing h))
  pub long : length s ≡ n
  pub fits : length (standing h) ≤ places_in n
  -- adding just those rules leaves it too, and refuses none
  pub built : Ran (zeros n) (accepting (standing h)) s
  -- on more zeros too, which are more places
  pub grown : (m : ℕ) → Ran (zeros (n + m)) (accepting (standing h)) (s ++ zeros m)
  pub stand : standing (accepting (standing h)) ≡ standing h
  -- and so do any calls after which the same rules stand, in whatever order they came
  pub only : (t : List ℕ) (k : List Event) → Ran (zeros n) k t → ((id : ℕ) → line_of id (standing h) ≡ line_of id (standing k)) → s ≡ t
  -- no two of them have one id
  pub apart : Distinct (standing h)
  -- the next call's number and values are by the rules that stand
  pub adding : (actions new : List ℕ) (line : ℕ) (r : Result Added AddError) → Adds actions line s new r
      → added_given r ≡ added_told (places_in n) (length (standing h)) (verdict (places_in n) (standing h) (name_of (entries actions)) line)
  pub removing : (selector : RuleIdSelector) (new : List ℕ) (r : Result Removed Broken) → Removes selector s new r → removed_given r ≡ removed_told selector (standing h)
  -- a new id is refused exactly if as many rules with ids stand as there are places; one that is there, with the line it has
  pub full : (actions new : List ℕ) (line id : ℕ) (r : Result Added AddError) → Adds actions line s new r → name_of (entries actions) ≡ Some id → line_of id (standing h) ≡ None
      → ((added_given r).number ≡ 17) ↔ (length (standing h) ≡ places_in n)
  pub taken : (actions new : List ℕ) (line id l : ℕ) (r : Result Added AddError) → Adds actions line s new r → name_of (entries actions) ≡ Some id
      → (added_given r ≡ given 16 (l ∷ [])) ↔ (line_of id (standing h) ≡ Some l)

-- Of any words that are lent.
pub record OnAny : Type 0 where
  pub add_broken : (s actions new : List ℕ) (line : ℕ) (r : Result Added AddError) → Adds actions line s new r → ((added_given r).number ≡ 20) ↔ (Index s → ⊥)
  pub remove_broken : (s new : List ℕ) (selector : RuleIdSelector) (r : Result Removed Broken) → Removes selector s new r → ((removed_given r).number ≡ 20) ↔ (Index s → ⊥)
  pub add_unchanged : (s actions new : List ℕ) (line : ℕ) (r : Result Added AddError) → Adds actions line s new r → ((added_given r).number ≡ 0 → ⊥) → new ≡ s
  pub remove_unchanged : (s new : List ℕ) (selector : RuleIdSelector) (r : Result Removed Broken) → Removes selector s new r → ((removed_given r).number ≡ 0 → ⊥) → new ≡ s
  pub apart : (s : List ℕ) → Index s → Distinct (rules_in s)

pub record StandingRules : Type 0 where
  pub after : (n : ℕ) (h : List Event) (s : List ℕ) → 1 ≤ n → Ran (zeros n) h s → After n h s
  pub no_words : (h : List Event) (s : List ℕ) → Ran [] h s → (s ≡ []) × (standing h ≡ [])
  pub on_any : OnAny
  -- the C functions are no other calls
  pub of_library : (s t : List ℕ) (h : List Event) → Called s h t → Ran s h t
