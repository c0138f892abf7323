-- The rules that a selector takes stand together, where ids ascend.
use mathlib.Core.Path.{◌≡◌, ◌∙◌, refl, sym, ap}
use mathlib.Core.Bool.{Bool, true, false}
use mathlib.Core.List.{List, [], ◌∷◌, ◌++◌, append_assoc}
use Prim.Native.Nat.{ℕ, suc, ◌+◌, ◌-◌, ◌*◌, ◌≤◌, ◌<◌}
use native.Mathlib.Omega.{arith}
use lib.ListN.{length, take, drop, get_or, length-append, length-drop, drop_of_length-le}
use lib.Seq.{take-add, drop-drop, length-take-le, length-paste, take-paste, drop-paste}
use lib.Dec.{leb, ltb}
use borrow.Author.Tests.{ne_eqb, eqb-false, le-leb, leb-false, lt-leb, ltb-true, ltb-false}
use Rattle.ascii.specs.Choice.{pick, and}
use Rattle.std.specs.List.{copy_within}
use Rattle.rules.specs.Selectors.{matched}
use Rattle.rules.specs.declared.selecting.RuleIdSelector.{RuleIdSelector}
use Rattle.rules.specs.declared.selecting.RuleIdSelector.TheVariants.{Single, Range}
use Rattle.index.specs.Standing.{Rule, from, without}
use Rattle.index.specs.Words.{pairs, rules_of}
use Rattle.index.specs.Steps.{Sorted, Placed, below, least_of, run, Compacted, kept_of}
use Rattle.index.proofs.RuleLaws.{from_head, from_tail, from_less, from_cons}
use Rattle.index.proofs.WordLaws.{rule_at_lem, length_rules, pairs_append, pairs_rules, take_rules, drop_rules}
use Rattle.index.proofs.SeekLaws.{run_most, below_most}

-- ---- which ids a selector leaves

-- those before its smallest
low_left : (selector : RuleIdSelector) (i : ℕ) → i < least_of selector → matched selector i ≡ false
low_left (Single s) i h = ne_eqb i s (λ e. omega arith)
low_left (Range start end) i h = rw (lt-leb start i (omega arith))

-- those behind one that is not before its smallest and that it leaves
high_left : (selector : RuleIdSelector) (k i : ℕ) → least_of selector ≤ k → matched selector k ≡ false → k < i → matched selector i ≡ false
high_left (Single s) k i h m l = let n = eqb-false k s m in ne_eqb i s (λ e. omega (arith, n))
high_left (Range start end) k i h m l =
    let e : leb k end ≡ false = rw (le-leb start k h) at m in
    let f = leb-false k end e in
    rw (lt-leb i end (omega arith)) (last (leb start i))
  where
    last : (b : Bool) → and b false ≡ false
    last true = refl
    last false = refl

-- a test that takes none leaves all
without_high : (t : ℕ → Bool) (n : ℕ) (rs : List Rule) → from n rs ≡ true → ((i : ℕ) → n ≤ i → t i ≡ false) → without t rs ≡ rs
unfolding without
without_high t n [] f h = refl
without_high t n (x ∷ r) f h =
    let k = from_head n x r f in
    rw (h x.id k, without_high t (suc x.id) r (from_tail n x r f) (λ i l. h i (omega arith)))

module _ (selector : RuleIdSelector) where
  -- from its smallest on: those it takes, and then all others
  run_rest : (rs : List Rule) → from (least_of selector) rs ≡ true → without (matched selector) rs ≡ drop (run (matched selector) rs) rs
  unfolding without run
  run_rest [] f = refl
  run_rest (x ∷ r) f = go (run_rest r) (matched selector x.id) refl
    where
      go : (from (least_of selector) r ≡ true → without (matched selector) r ≡ drop (run (matched selector) r) r) → (b : Bool) → matched selector x.id ≡ b →
          pick b (without (matched selector) r) (x ∷ without (matched selector) r) ≡ drop (pick b (suc (run (matched selector) r)) 0) (x ∷ r)
      go ih true m = let k = from_head (least_of selector) x r f in ih (from_less (least_of selector) (suc x.id) r (omega arith) (from_tail (least_of selector) x r f))
      go ih false m =
          let k = from_head (least_of selector) x r f in
          rw (without_high (matched selector) (suc x.id) r (from_tail (least_of selector) x r f) (λ i l. high_left selector x.id i k m l))

  -- what it leaves: the rules before those it takes, and the rules behind them
  pub left_rules : (n : ℕ) (rs : List Rule) → from n rs ≡ true →
      without (matched selector) rs ≡ take (below (least_of selector) rs) rs ++ drop (run (matched selector) (drop (below (least_of selector) rs) rs)) (drop (below (least_of selector) rs) rs)
  unfolding without run
  left_rules n [] f = refl
  left_rules n (x ∷ r) f = go (left_rules (suc x.id) r (from_tail n x r f)) (ltb x.id (least_of selector)) refl
    where
      go : without (matched selector) r ≡ take (below (least_of selector) r) r ++ drop (run (matched selector) (drop (below (least_of selector) r) r)) (drop (below (least_of selector) r) r) →
          (b : Bool) → ltb x.id (least_of selector) ≡ b →
          without (matched selector) (x ∷ r) ≡ take (pick b (suc (below (least_of selector) r)) 0) (x ∷ r) ++ drop (run (matched selector) (drop (pick b (suc (below (least_of selector) r)) 0) (x ∷ r))) (drop (pick b (suc (below (least_of selector) r)) 0) (x ∷ r))
      go ih true l = let k = ltb-true x.id (least_of selector) l in rw (low_left selector x.id k, ih)
      go ih false l = let k = ltb-false x.id (least_of selector) l in run_rest (x ∷ r) (from_cons (least_of selector) x r k (from_tail n x r f))

-- ---- one rule after another that a selector takes

module _ (w : List ℕ) (count : ℕ) (selector : RuleIdSelector) (at : ℕ) where
  rules : List Rule
  rules = rules_of count (drop 1 w)

  module _ (h : at < count) where
    pub pass_next : matched selector (get_or w (1 + at * 2) 0) ≡ true →
        at + run (matched selector) (drop at (rules_of count (drop 1 w))) ≡ at + 1 + run (matched selector) (drop (at + 1) (rules_of count (drop 1 w)))
    unfolding run rules
    pass_next m =
        let e : at + 1 ≡ suc at = omega arith in
        let r : run (matched selector) (drop at rules) ≡ suc (run (matched selector) (drop (suc at) rules)) = rw (rule_at_lem w count at h, m) in
        rw (r, e) (omega arith)

    pub pass_found : matched selector (get_or w (1 + at * 2) 0) ≡ false → at + run (matched selector) (drop at (rules_of count (drop 1 w))) ≡ at
    unfolding run rules
    pass_found m =
        let r : run (matched selector) (drop at rules) ≡ 0 = rw (rule_at_lem w count at h, m) in
        omega (arith, r)

  pub pass_end : count ≤ at → at + run (matched selector) (drop at (rules_of count (drop 1 w))) ≡ at
  unfolding run rules
  pass_end h =
      let d : drop at rules ≡ [] = drop_of_length-le rules {i = at} (let l = length_rules count (drop 1 w) in omega arith) in
      let r : run (matched selector) (drop at rules) ≡ 0 = rw d in
      omega (arith, r)

-- ---- the pairs before them and the pairs behind them, moved together

pub low_inside : (old : List ℕ) (count id : ℕ) {low : ℕ} → low ≡ below id (rules_of count (drop 1 old)) → low ≤ count
low_inside old count id l = let a = below_most id (rules_of count (drop 1 old)) in let b = length_rules count (drop 1 old) in omega (arith, l)

pub low_placed : (old : List ℕ) (count id : ℕ) {low : ℕ} → Sorted count old → low ≡ below id (rules_of count (drop 1 old)) → Placed count low old
low_placed old count id s l = record { room = s.room; inside = low_inside old count id l }

module _ {old : List ℕ} {count : ℕ} (selector : RuleIdSelector) (s : Sorted count old) {low high : ℕ}
    (l : low ≡ below (least_of selector) (rules_of count (drop 1 old))) (h : high ≡ low + run (matched selector) (drop low (rules_of count (drop 1 old)))) where
  rs : List Rule
  rs = rules_of count (drop 1 old)

  front_inside : low ≤ count
  front_inside = low_inside old count (least_of selector) l

  pub high_behind : low ≤ high
  high_behind = omega (arith, h)

  pub high_inside : high ≤ count
  unfolding rs
  high_inside =
      let a = run_most (matched selector) (drop low rs) in
      let b : length (drop low rs) ≡ count - low = length-drop low rs ∙ rw (length_rules count (drop 1 old)) in
      omega (arith, h, a, b, front_inside)

  kept_parts : kept_of count selector old ≡ take low rs ++ drop high rs
  unfolding rs
  kept_parts = rw (← l) at (left_rules selector 0 rs s.sorted) ∙ rw (drop-drop, ← h)

  kept_count_lem : length (kept_of count selector old) ≡ count - (high - low)
  unfolding rs
  kept_count_lem =
      let n = length_rules count (drop 1 old) in
      let a : length (take low rs) ≡ low = length-take-le low rs (omega (arith, n, front_inside)) in
      let b : length (drop high rs) ≡ count - high = length-drop high rs ∙ rw n in
      ap length kept_parts ∙ length-append (take low rs) (drop high rs) ∙ omega (arith, a, b, front_inside, high_inside, high_behind)

  kept_pairs : pairs (kept_of count selector old) ≡ take (low * 2) (drop 1 old) ++ take ((count - high) * 2) (drop (high * 2) (drop 1 old))
  unfolding rs
  kept_pairs =
      let v : List ℕ = drop 1 old in
      let p : pairs (rules_of low v) ≡ take (low * 2) v = pairs_rules low v (rw length-drop (omega (arith, s.room, front_inside))) in
      let q : pairs (rules_of (count - high) (drop (high * 2) v)) ≡ take ((count - high) * 2) (drop (high * 2) v) = pairs_rules (count - high) (drop (high * 2) v) (rw (length-drop, length-drop) (omega (arith, s.room, high_inside))) in
      ap pairs kept_parts ∙ pairs_append (take low rs) (drop high rs) ∙ rw (take_rules low count v front_inside, drop_rules high count v, p, q)

  pub compact_end : {new : List ℕ} → new ≡ copy_within old (1 + high * 2) (1 + count * 2) (1 + low * 2) → Compacted count selector old new (count - (high - low))
  unfolding rs
  compact_end {new} x =
      let n : ℕ = 1 + count * 2 - (1 + high * 2) in
      let k : ℕ = (high - low) * 2 in
      let a : n ≡ (count - high) * 2 = omega (arith, high_inside) in
      let b : 1 + low * 2 + (count - high) * 2 ≡ 1 + (count - (high - low)) * 2 = omega (arith, front_inside, high_inside, high_behind) in
      let c : 1 + low * 2 + n + k ≡ 1 + count * 2 = omega (arith, front_inside, high_inside, high_behind) in
      let i : 1 + low * 2 ≤ length old = omega (arith, s.room, front_inside) in
      let j : n ≤ length (drop (1 + high * 2) old) = rw length-drop (omega (arith, s.room)) in
      let f : take (1 + low * 2 + n) new ≡ take (1 + low * 2) old ++ take n (drop (1 + high * 2) old) = rw x (take-paste old (1 + low * 2) (drop (1 + high * 2) old) n i j) in
      let d : drop (1 + low * 2 + n) new ≡ drop (1 + low * 2 + n) old = rw x (drop-paste old (1 + low * 2) (drop (1 + high * 2) old) n i j) in
      record {
        number = sym kept_count_lem;
        least = omega arith;
        long = rw x (length-paste old (1 + low * 2) (drop (1 + high * 2) old) n (omega (arith, s.room, front_inside, high_inside, high_behind)) j);
        front = rw (a, b) at f ∙ rw (kept_pairs, take-add 1 (low * 2) old, ← drop-drop (high * 2) 1 old) (append_assoc (take 1 old) (take (low * 2) (drop 1 old)) (take ((count - high) * 2) (drop (high * 2) (drop 1 old))));
        back = rw (drop-drop, drop-drop, c) at (ap (drop k) d);
      }

pub ruleset passing = (pass_next, pass_found, pass_end)

pub ruleset bounds = (low_inside, low_placed, high_behind, high_inside)
