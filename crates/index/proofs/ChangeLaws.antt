-- Words moved over themselves, one word a turn: up by two for a pair more, and the pair in their place; down for pairs less.
use mathlib.Core.Path.{◌≡◌, ◌∙◌, sym, ap}
use mathlib.Core.List.{List, [], ◌∷◌, ◌++◌, append_assoc}
use Prim.Native.Nat.{ℕ, suc, ◌+◌, ◌-◌, ◌*◌, ◌≤◌, ◌<◌}
use native.Mathlib.Numerals.{add-one}
use native.Mathlib.Omega.{arith}
use lib.ListN.{length, take, drop, set, get_or, length-drop, length-set, take-append-drop}
use lib.Seq.{take-suc, take-suc-set, take-take, drop-cons, drop-set-lt, get_or-take, get_or-drop, set_at, paste, paste-zero, paste-suc, length-paste, drop-paste, drop-append_seam, length-take-le, take-append-le}
use Rattle.std.specs.List.{copy_within}
use Rattle.std.proofs.lemmas.List.{get_or_append_left}
use Rattle.index.specs.Steps.{Enterable, Entered, Closable}

-- ---- one word a turn

-- down, the first word first: what is read was not written yet
module _ {first past last i : ℕ} {old new : List ℕ} (g : Closable first past last old) (e : new ≡ paste old first (drop past old) i) (h : i < last - past) where
  fall_read : get_or new (past + i) 0 ≡ get_or (drop past old) i 0
  fall_read =
      let n : past + i ≡ first + i + (past - first) = omega (arith, g.order) in
      let a : first ≤ length old = omega (arith, g.order, g.ends, g.room) in
      let b : i ≤ length (drop past old) = rw length-drop (omega (arith, g.room)) in
      let d : drop (first + i) new ≡ drop (first + i) old = rw e (drop-paste old first (drop past old) i a b) in
      rw (get_or-drop past old i 0, n) (sym (get_or-drop (first + i) new (past - first) 0) ∙ ap (λ (l : List ℕ). get_or l (past - first) 0) d ∙ get_or-drop (first + i) old (past - first) 0)

  pub fall_next : set new (first + i) (get_or new (past + i) 0) ≡ paste old first (drop past old) (i + 1)
  fall_next =
      let a : first + i < length old = omega (arith, g.order, g.ends, g.room) in
      let b : i < length (drop past old) = rw length-drop (omega (arith, g.room)) in
      rw (fall_read, add-one i) (rw e (paste-suc old first (drop past old) i 0 a b))

-- up by two, the last word first
module _ (old : List ℕ) (n k : ℕ) (h : n + 3 + k ≤ length old) where
  rise_one : set (paste old (n + 3) (drop (n + 1) old) k) (n + 2) (get_or old n 0) ≡ paste old (n + 2) (drop n old) (k + 1)
  rise_one =
      let a = take (n + 2) old in
      let v = get_or old n 0 in
      let r = take k (drop (n + 1) old) ++ drop (n + 3 + k) old in
      let m : n + 3 ≡ suc (n + 2) = omega arith in
      let p : n + 1 ≡ suc n = omega arith in
      let q : k + 1 ≡ suc k = omega arith in
      let j : n + 2 + (k + 1) ≡ n + 3 + k = omega arith in
      let f : take (n + 3) old ≡ a ++ get_or old (n + 2) 0 ∷ [] = rw m (take-suc old (n + 2) 0 (omega arith)) in
      let d : drop n old ≡ v ∷ drop (n + 1) old = rw p (drop-cons old n 0 (omega arith)) in
      rw f (simp append_assoc (set_at a (get_or old (n + 2) 0) r v (n + 2) (length-take-le (n + 2) old (omega arith)) ∙ rw (j, d, q)))

-- the words from `at` up to the last stand two further
pub record Rising (old : List ℕ) (first last : ℕ) (new : List ℕ) (at : ℕ) : Type 0 where
  pub begun : first ≤ at
  pub ahead : at ≤ last
  pub room : last + 2 ≤ length old
  pub so_far : new ≡ copy_within old at last (at + 2)

pub rise_begun : (old : List ℕ) (first last : ℕ) → first ≤ last → last + 2 ≤ length old → Rising old first last old last
rise_begun old first last h r =
    let e : last - last ≡ 0 = omega arith in
    record { begun = h; ahead = omega arith; room = r; so_far = rw e (paste-zero old (last + 2) (drop last old)) }

module _ {old : List ℕ} {first last : ℕ} {new : List ℕ} {at : ℕ} (x : Rising old first last new at) where
  pub rise_next : first < at → Rising old first last (set new (at - 1 + 2) (get_or new (at - 1) 0)) (at - 1)
  rise_next h = record {
    begun = omega arith;
    ahead = omega (arith, x.ahead);
    room = x.room;
    so_far = turn (at - 1) (omega arith);
  }
    where
      turn : (n : ℕ) → at ≡ n + 1 → set new (n + 2) (get_or new n 0) ≡ copy_within old n last (n + 2)
      turn n p =
          let a = take (at + 2) old in
          let k = last - at in
          let l : length a ≡ at + 2 = length-take-le (at + 2) old (omega (arith, x.ahead, x.room)) in
          let m : new ≡ a ++ (take k (drop at old) ++ drop (at + 2 + k) old) = x.so_far ∙ append_assoc a (take k (drop at old)) (drop (at + 2 + k) old) in
          let v : get_or new n 0 ≡ get_or old n 0 = rw m (get_or_append_left a (take k (drop at old) ++ drop (at + 2 + k) old) 0 n (omega arith) ∙ get_or-take (at + 2) old n 0 (omega arith)) in
          let f : at + 2 ≡ n + 3 = omega arith in
          let e : new ≡ paste old (n + 3) (drop (n + 1) old) (last - (n + 1)) = rw (f, p) at x.so_far in
          let j : last - n ≡ last - (n + 1) + 1 = omega (arith, x.ahead) in
          rw (v, j) (rw e (rise_one old n (last - (n + 1)) (omega (arith, x.ahead, x.room))))

  pub rise_end : at ≤ first → new ≡ copy_within old first last (first + 2)
  rise_end h = let e : at ≡ first = omega (arith, x.begun) in rw e at x.so_far

-- ---- two words at a place

abbrev put : List ℕ → ℕ → ℕ → ℕ → List ℕ
put l at a b = set (set l at a) (at + 1) b

module _ (l : List ℕ) (at : ℕ) where
  put_ahead : (a b n : ℕ) → at + 1 < n → drop n (put l at a b) ≡ drop n l
  put_ahead a b n h = drop-set-lt n (set l at a) (at + 1) b h ∙ drop-set-lt n l at a (omega arith)

  module _ (h : at + 1 < length l) where
    put_take : (a b : ℕ) → take (at + 2) (put l at a b) ≡ take at l ++ (a ∷ b ∷ [])
    put_take a b =
        let e : at + 2 ≡ suc (at + 1) = omega arith in
        let f : at + 1 ≡ suc at = omega arith in
        let k : at + 1 < length (set l at a) = rw length-set h in
        let i : at < length l = omega arith in
        rw e (take-suc-set (set l at a) (at + 1) b k ∙ ap (λ (t : List ℕ). t ++ (b ∷ [])) (ap (λ (k : ℕ). take k (set l at a)) f ∙ take-suc-set l at a i) ∙ append_assoc (take at l) (a ∷ []) (b ∷ []))

    put_front : (a b : ℕ) (r : List ℕ) → take (at + 2) (put l at a b) ++ r ≡ take at l ++ a ∷ b ∷ r
    put_front a b r = rw (put_take a b) (append_assoc (take at l) (a ∷ b ∷ []) r)

-- ---- the words moved up

module _ (old : List ℕ) (first last : ℕ) (h : first ≤ last) (r : last + 2 ≤ length old) where
  moved : List ℕ
  moved = copy_within old first last (first + 2)

  moved_parts : moved ≡ take (first + 2) old ++ (take (last - first) (drop first old) ++ drop (last + 2) old)
  unfolding moved
  moved_parts =
      let e : first + 2 + (last - first) ≡ last + 2 = omega arith in
      rw e (append_assoc (take (first + 2) old) (take (last - first) (drop first old)) (drop (last + 2) old))

  moved_front : take first moved ≡ take first old
  moved_front =
      let n : length (take (first + 2) old) ≡ first + 2 = length-take-le (first + 2) old (omega arith) in
      ap (take first) moved_parts
      ∙ take-append-le first (take (first + 2) old) (take (last - first) (drop first old) ++ drop (last + 2) old) (omega arith)
      ∙ take-take first (first + 2) old (omega arith)

  moved_back : drop (first + 2) moved ≡ take (last - first) (drop first old) ++ drop (last + 2) old
  moved_back =
      let n : length (take (first + 2) old) ≡ first + 2 = length-take-le (first + 2) old (omega arith) in
      ap (drop (first + 2)) moved_parts ∙ rw n at (drop-append_seam (take (first + 2) old) (take (last - first) (drop first old) ++ drop (last + 2) old))

  moved_length : length moved ≡ length old
  unfolding moved
  moved_length = length-paste old (first + 2) (drop first old) (last - first) (omega arith) (rw length-drop (omega arith))

  pub moved_put : (id line : ℕ) → put (copy_within old first last (first + 2)) first id line ≡ take first old ++ id ∷ line ∷ (take (last - first) (drop first old) ++ drop (last + 2) old)
  unfolding moved
  moved_put id line =
      let i : first + 1 < length moved = rw moved_length (omega arith) in
      sym (take-append-drop (first + 2) (put moved first id line))
      ∙ put_front moved first i id line (drop (first + 2) (put moved first id line))
      ∙ rw (put_ahead moved first id line (first + 2) (omega arith), moved_front, moved_back)

-- what was written is the words with the pair more
module _ {count place : ℕ} {old new : List ℕ} (g : Enterable count place old) (e : new ≡ copy_within old (1 + place * 2) (1 + count * 2) (1 + place * 2 + 2)) where
  pub enter_end : (id line : ℕ) → Entered count place id line old (put new (1 + place * 2) id line)
  enter_end id line =
      let a : 1 + count * 2 - (1 + place * 2) ≡ (count - place) * 2 = omega arith in
      let b : 1 + count * 2 + 2 ≡ 3 + count * 2 = omega arith in
      let m = moved_put old (1 + place * 2) (1 + count * 2) (omega (arith, g.inside)) (omega (arith, g.room)) id line in
      record { index = ap (λ (l : List ℕ). put l (1 + place * 2) id line) e ∙ m ∙ rw (a, b) }
