-- Each way out of the public functions is what they promise.
use Rattle.std.specs.Prelude.{Option, Some, None, Ok, Err, Result}
use mathlib.Core.Path.{◌≡◌, ◌∙◌, refl, sym, ap}
use mathlib.Core.Bool.{Bool, true, false}
use mathlib.Core.List.{List, [], ◌∷◌, ◌++◌, append_assoc}
use mathlib.Core.Logic.{◌↔◌}
use Prim.Native.Nat.{ℕ, suc, ◌+◌, ◌-◌, ◌*◌, ◌≤◌, ◌<◌}
use native.Mathlib.Omega.{arith}
use lib.ListN.{length, take, drop, set, length-drop, length-replicate, replicate-append-replicate}
use lib.Seq.{length-take-le, drop-drop}
use borrow.Author.Tests.{lt-ltb, le-ltb}
use borrow.Rule.Slice.PartMut.{mid_of, put_mid, same_len_mid}
use Rattle.ascii.specs.Choice.{pick}
use Rattle.lent.specs.Buffers.{zeros}
use Rattle.rules.specs.Entries.{entries}
use Rattle.rules.specs.declared.selecting.RuleIdSelector.{RuleIdSelector}
use Rattle.index.specs.Standing.{Rule, name_of, line_of, insert, Verdict, passes, taken, full, enters}
use Rattle.index.specs.Words.{pairs, laid, places_in, rules_of, count_of, rules_in, sound}
use Rattle.index.specs.Steps.{Sorted, below, seen_at, seen, Enterable, Entered, AddsNamed, Compacted, kept_of}
use Rattle.index.specs.Promises.{Added, AddError, Removed, Broken, gone, broken, Adds, Removes, added_given, removed_given, added_by, left_by, judged, kept, add_answer, add_leaves, remove_answer, remove_leaves}
use Rattle.index.proofs.RuleLaws.{length_insert}
use Rattle.index.proofs.WordLaws.{length_pairs, pairs_append, length_rules, pairs_rules, take_rules, drop_rules, sound_some, sound_room, sound_order, sound_zeros, sound_beyond}
use Rattle.index.proofs.SeekLaws.{below_most, insert_at}

-- ---- a rule with an id

seen_line : (p l : ℕ) (f : Option ℕ) → Ok l ≡ seen_at p f → f ≡ Some l
seen_line p l (Some k) e = let q : ◌≡◌ {A = ℕ} k l = cc in ap Some q
seen_line p l None e = let z : ◌≡◌ {A = ℕ} 0 1 = cc in absurd (omega arith)

seen_missing : (p q : ℕ) (f : Option ℕ) → Err q ≡ seen_at p f → (f ≡ None) × (q ≡ p)
seen_missing p q (Some k) e = let z : ◌≡◌ {A = ℕ} 0 1 = cc in absurd (omega arith)
seen_missing p q None e = let r : ◌≡◌ {A = ℕ} q p = cc in (refl, r)

-- the words with the pair more are the pairs with the rule more
enter_pairs : (x : Rule) (v : List ℕ) (count : ℕ) → count * 2 ≤ length v → line_of x.id (rules_of count v) ≡ None →
    pairs (insert x (rules_of count v)) ≡ take (below x.id (rules_of count v) * 2) v ++ x.id ∷ x.line ∷ take ((count - below x.id (rules_of count v)) * 2) (drop (below x.id (rules_of count v) * 2) v)
unfolding pairs
enter_pairs x v count h m =
    let k : ℕ = below x.id (rules_of count v) in
    let l : k ≤ count = (let a = below_most x.id (rules_of count v) in let b = length_rules count v in omega arith) in
    let p : pairs (rules_of k v) ≡ take (k * 2) v = pairs_rules k v (omega arith) in
    let q : pairs (rules_of (count - k) (drop (k * 2) v)) ≡ take ((count - k) * 2) (drop (k * 2) v) = pairs_rules (count - k) (drop (k * 2) v) (rw length-drop (omega arith)) in
    rw (insert_at x (rules_of count v) m, pairs_append, take_rules k count v l, drop_rules k count v, p, q)

-- the count stored in the first word
front_set : (n v : ℕ) (s z : List ℕ) → 1 ≤ length s → set (take (1 + n) s ++ z) 0 v ≡ v ∷ (take n (drop 1 s) ++ z)
front_set n v [] z h = absurd (omega arith)
front_set n v (w ∷ s) z h = let e : 1 + n ≡ suc n = omega arith in rw e

module _ (s : List ℕ) (e : sound s ≡ true) where
  pub add_sorted : Sorted (count_of s) s
  add_sorted = record { room = sound_room s e; sorted = sound_order s e }

  module _ (id line : ℕ) where
    abbrev pub it : Rule
    it = record { id = id; line = line }

    pub named_taken : (l : ℕ) → Ok l ≡ seen id (rules_of (count_of s) (drop 1 s)) → AddsNamed id line s s (Err (AddError.Taken l))
    unfolding rules_in
    named_taken l q = let m = seen_line (below id (rules_of (count_of s) (drop 1 s))) l (line_of id (rules_of (count_of s) (drop 1 s))) q in record { answer = rw m; index = rw m }

    module _ (place : ℕ) (q : Err place ≡ seen id (rules_of (count_of s) (drop 1 s))) where
      absent : line_of id (rules_of (count_of s) (drop 1 s)) ≡ None
      absent = (seen_missing (below id (rules_of (count_of s) (drop 1 s))) place (line_of id (rules_of (count_of s) (drop 1 s))) q).0

      at : place ≡ below id (rules_of (count_of s) (drop 1 s))
      at = (seen_missing (below id (rules_of (count_of s) (drop 1 s))) place (line_of id (rules_of (count_of s) (drop 1 s))) q).1

      pub named_full : (most : ℕ) → most ≡ places_in (length s) → most ≤ count_of s → AddsNamed id line s s (Err (AddError.Full most))
      unfolding rules_in
      named_full most p h = let t = le-ltb (count_of s) (places_in (length s)) (omega arith) in record { answer = rw (absent, length_rules, t, p); index = rw (absent, length_rules, t) }

      module _ (h : count_of s < places_in (length s)) where
        pub named_enterable : Enterable (count_of s) place s
        unfolding places_in
        named_enterable =
            let a = below_most id (rules_of (count_of s) (drop 1 s)) in
            let b = length_rules (count_of s) (drop 1 s) in
            record { room = omega (arith, h, sound_some s e); inside = omega (arith, at) }

        entered_laid : {new : List ℕ} → Entered (count_of s) place id line s new → set new 0 (count_of s + 1) ≡ laid (length s) (insert it (rules_in s))
        unfolding laid rules_in
        entered_laid x =
            let c : ℕ = count_of s in
            let v : List ℕ = drop 1 s in
            let rs : List Rule = rules_of c v in
            let k : length (insert it rs) ≡ c + 1 = (let a = length_insert it rs in let b = length_rules c v in omega arith) in
            let n : length (length (insert it rs) ∷ pairs (insert it rs)) ≡ 3 + c * 2 = omega (arith, k, length_pairs (insert it rs)) in
            let r : c * 2 ≤ length v = rw length-drop (omega (arith, sound_room s e)) in
            let p : pairs (insert it rs) ≡ take (place * 2) v ++ id ∷ line ∷ take ((c - place) * 2) (drop (place * 2) v) = rw (← at) at (enter_pairs it v c r absent) in
            ap (λ (l : List ℕ). set l 0 (c + 1)) x.index
            ∙ front_set (place * 2) (c + 1) s _ (sound_some s e)
            ∙ rw (n, k, p, sound_zeros s e, ← drop-drop (place * 2) 1 s) (ap (λ (l : List ℕ). (c + 1) ∷ l) (sym (append_assoc (take (place * 2) v) (id ∷ line ∷ take ((c - place) * 2) (drop (place * 2) v)) (zeros (length s - (3 + c * 2))))))

        pub named_entered : {new : List ℕ} → Entered (count_of s) place id line s new → AddsNamed id line s (set new 0 (count_of s + 1)) (Ok (Added.Entered (count_of s + 1)))
        unfolding rules_in
        named_entered x = let t = lt-ltb (count_of s) (places_in (length s)) h in record { answer = rw (absent, length_rules, t); index = rw (absent, length_rules, t) (entered_laid x) }

-- ---- add

module _ (s actions : List ℕ) (line : ℕ) where
  pub add_broken : sound s ≡ false → Adds actions line s s (Err AddError.Broken)
  unfolding add_answer add_leaves
  add_broken e = record { answer = rw e; index = rw e }

  module _ (e : sound s ≡ true) where
    pub add_passed : name_of (entries actions) ≡ None → Adds actions line s s (Ok (Added.Passed (count_of s)))
    unfolding add_answer add_leaves
    add_passed n = record { answer = rw (e, n); index = rw (e, n) }

    pub add_named : (id : ℕ) → name_of (entries actions) ≡ Some id → {new : List ℕ} {r : Result Added AddError} → AddsNamed id line s new r → Adds actions line s new r
    unfolding add_answer add_leaves
    add_named id n x = record { answer = rw (e, n) x.answer; index = rw (e, n) x.index }

-- ---- remove

module _ (s : List ℕ) (selector : RuleIdSelector) where
  pub remove_broken : sound s ≡ false → Removes selector s s (Err broken)
  unfolding remove_answer remove_leaves
  remove_broken e = record { answer = rw e; index = rw e }

  module _ (e : sound s ≡ true) {new : List ℕ} {r : ℕ} (x : Compacted (count_of s) selector s new r) where
    K : List Rule
    K = kept_of (count_of s) selector s

    -- the words to clear stand within the words
    pub remove_first : 1 + r * 2 ≤ 1 + count_of s * 2
    remove_first = omega (arith, x.least)

    pub remove_last : 1 + count_of s * 2 ≤ length new
    remove_last = omega (arith, x.long, sound_room s e)

    -- what is cleared, and the zeros behind it
    cleared : {got : List ℕ} → got ≡ zeros (length (mid_of (1 + r * 2) (1 + count_of s * 2 - (1 + r * 2)) new)) →
        put_mid (1 + r * 2) (1 + count_of s * 2 - (1 + r * 2)) new got ≡ take 1 s ++ (pairs K ++ zeros (length s - (1 + r * 2)))
    unfolding K
    cleared g =
        let c : ℕ = 1 + count_of s * 2 - (1 + r * 2) in
        let a : 1 + r * 2 + c ≡ 1 + count_of s * 2 = omega (arith, x.least) in
        let b : drop c (drop (1 + r * 2) new) ≡ zeros (length s - (1 + count_of s * 2)) = drop-drop c (1 + r * 2) new ∙ rw a (x.back ∙ sound_beyond s e) in
        let m : length (mid_of (1 + r * 2) c new) ≡ c = length-take-le c (drop (1 + r * 2) new) (rw length-drop (omega (arith, remove_last))) in
        let t : c + (length s - (1 + count_of s * 2)) ≡ length s - (1 + r * 2) = omega (arith, x.least, sound_room s e) in
        rw (x.front, g, m, b, replicate-append-replicate, t) (append_assoc (take 1 s) (pairs K) (zeros (length s - (1 + r * 2))))

    pub remove_length : {got : List ℕ} → got ≡ zeros (length (mid_of (1 + r * 2) (1 + count_of s * 2 - (1 + r * 2)) new)) →
        length (put_mid (1 + r * 2) (1 + count_of s * 2 - (1 + r * 2)) new got) ≡ length s
    remove_length {got} g = same_len_mid (1 + r * 2) (1 + count_of s * 2 - (1 + r * 2)) new got (rw (g, length-replicate)) ∙ x.long

    pub remove_done : {got : List ℕ} → got ≡ zeros (length (mid_of (1 + r * 2) (1 + count_of s * 2 - (1 + r * 2)) new)) →
        Removes selector s (set (put_mid (1 + r * 2) (1 + count_of s * 2 - (1 + r * 2)) new got) 0 r) (Ok (gone (count_of s - r) r))
    unfolding remove_answer remove_leaves rules_in laid K
    remove_done g =
        let p : length (length K ∷ pairs K) ≡ 1 + r * 2 = omega (arith, length_pairs K, x.number) in
        record {
          answer = rw (e, x.number);
          index = rw (e, cleared g, front_set 0 r s (pairs K ++ zeros (length s - (1 + r * 2))) (sound_some s e), p, x.number);
        }

-- ---- 20, and what a refusal leaves

never_broken : (s : List ℕ) (v : Verdict) → (added_given (added_by s v)).number ≡ 20 → ⊥
never_broken s passes f = omega arith
never_broken s (taken l) f = omega arith
never_broken s full f = omega arith
never_broken s (enters x) f = omega arith

module _ {s actions : List ℕ} {line : ℕ} {new : List ℕ} {r : Result Added AddError} (a : Adds actions line s new r) where
  -- 20 exactly if the words are no index
  pub add_broken_exactly : ((added_given r).number ≡ 20) ↔ (sound s ≡ false)
  unfolding add_answer
  add_broken_exactly = rw a.answer (λ f. there (sound s) refl f, λ e. rw e)
    where
      there : (b : Bool) → sound s ≡ b → (added_given (pick b (added_by s (judged s actions line)) (Err AddError.Broken))).number ≡ 20 → sound s ≡ false
      there true e f = absurd (never_broken s (judged s actions line) f)
      there false e f = e

  -- whatever number but 0 is answered, every word is as it was
  pub add_refused : ((added_given r).number ≡ 0 → ⊥) → new ≡ s
  unfolding add_answer add_leaves
  add_refused n = a.index ∙ go (sound s) (judged s actions line) (rw a.answer at n)
    where
      go : (b : Bool) (v : Verdict) → ((added_given (pick b (added_by s v) (Err AddError.Broken))).number ≡ 0 → ⊥) → pick b (left_by s v) s ≡ s
      go false v n = refl
      go true passes n = refl
      go true (taken l) n = refl
      go true full n = refl
      go true (enters x) n = absurd (n refl)

module _ {s : List ℕ} {selector : RuleIdSelector} {new : List ℕ} {r : Result Removed Broken} (a : Removes selector s new r) where
  pub remove_broken_exactly : ((removed_given r).number ≡ 20) ↔ (sound s ≡ false)
  unfolding remove_answer
  remove_broken_exactly = rw a.answer (λ f. there (sound s) refl f, λ e. rw e)
    where
      there : (b : Bool) → sound s ≡ b → (removed_given (pick b (Ok (gone (count_of s - length (kept s selector)) (length (kept s selector)))) (Err broken))).number ≡ 20 → sound s ≡ false
      there true e f = absurd (omega arith)
      there false e f = e

  pub remove_refused : ((removed_given r).number ≡ 0 → ⊥) → new ≡ s
  unfolding remove_answer remove_leaves
  remove_refused n = a.index ∙ go (sound s) (rw a.answer at n)
    where
      go : (b : Bool) → ((removed_given (pick b (Ok (gone (count_of s - length (kept s selector)) (length (kept s selector)))) (Err broken))).number ≡ 0 → ⊥) → pick b (laid (length s) (kept s selector)) s ≡ s
      go false n = refl
      go true n = absurd (n refl)
