-- What the private functions ask and promise.
use Rattle.std.specs.Prelude.{◌≡◌, Bool, true, ℕ, suc, ◌+◌, ◌-◌, ◌*◌, ◌≤◌, List, [], ◌∷◌, ◌++◌, length, take, drop, ltb, Option, Some, None, Result, Ok, Err}
use Rattle.ascii.specs.Choice.{pick}
use Rattle.rules.specs.Selectors.{matched}
use Rattle.rules.specs.declared.selecting.RuleIdSelector.{RuleIdSelector}
use Rattle.rules.specs.declared.selecting.RuleIdSelector.TheVariants.{Single, Range}
use Rattle.index.specs.Standing.{Rule, line_of, from, without, verdict}
use Rattle.index.specs.Words.{pairs, places_in, rules_of, rules_in}
use Rattle.index.specs.Promises.{Added, AddError, added_by, left_by}

-- so many rules stand in the words, and a place among them
pub record Placed (count place : ℕ) (s : List ℕ) : Type 0 where
  pub room : 1 + count * 2 ≤ length s
  pub inside : place ≤ count

-- so many, and their ids ascend
pub record Sorted (count : ℕ) (s : List ℕ) : Type 0 where
  pub room : 1 + count * 2 ≤ length s
  pub sorted : from 0 (rules_of count (drop 1 s)) ≡ true

-- how many rules at the front have ids that a test takes
unfoldable pub run : (ℕ → Bool) → List Rule → ℕ
run t [] = 0
run t (x ∷ r) = pick (t x.id) (suc (run t r)) 0

-- how many have ids smaller than this
abbrev pub below : ℕ → List Rule → ℕ
below id rs = run (λ i. ltb i id) rs

abbrev pub seen_at : ℕ → Option ℕ → Result ℕ ℕ
seen_at place (Some l) = Ok l
seen_at place None = Err place

abbrev pub seen : ℕ → List Rule → Result ℕ ℕ
seen id rs = seen_at (below id rs) (line_of id rs)

-- a place among so many rules, and room for one more
pub record Enterable (count place : ℕ) (s : List ℕ) : Type 0 where
  pub room : 3 + count * 2 ≤ length s
  pub inside : place ≤ count

-- the words with a pair more at a place of the rules, and the two words less behind them
pub record Entered (count place id line : ℕ) (old new : List ℕ) : Type 0 where
  pub index : new ≡ take (1 + place * 2) old ++ id ∷ line ∷ (take ((count - place) * 2) (drop (1 + place * 2) old) ++ drop (3 + count * 2) old)

-- a rule with an id, added to words that are an index
pub record AddsNamed (id line : ℕ) (old new : List ℕ) (r : Result Added AddError) : Type 0 where
  pub answer : r ≡ added_by old (verdict (places_in (length old)) (rules_in old) (Some id) line)
  pub index : new ≡ left_by old (verdict (places_in (length old)) (rules_in old) (Some id) line)

-- the smallest id that a selector may take
abbrev pub least_of : RuleIdSelector → ℕ
least_of (Single s) = s
least_of (Range start end) = start

-- words from `past` up to the last, moved down to `first`
pub record Closable (first past last : ℕ) (s : List ℕ) : Type 0 where
  pub order : first ≤ past
  pub ends : past ≤ last
  pub room : last ≤ length s

abbrev pub kept_of : ℕ → RuleIdSelector → List ℕ → List Rule
kept_of count selector s = without (matched selector) (rules_of count (drop 1 s))

pub record Compacted (count : ℕ) (selector : RuleIdSelector) (old new : List ℕ) (r : ℕ) : Type 0 where
  pub number : r ≡ length (kept_of count selector old)
  pub least : r ≤ count
  pub long : length new ≡ length old
  pub front : take (1 + r * 2) new ≡ take 1 old ++ pairs (kept_of count selector old)
  pub back : drop (1 + count * 2) new ≡ drop (1 + count * 2) old
