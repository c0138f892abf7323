-- The loop that normalises: what it keeps, and how a byte that gives no text, one byte or two keeps it.
-- The bytes written and the backslash held back are no more than the bytes read, so a buffer as long as the input never ends too soon.
use mathlib.Core.Path.{◌≡◌, refl, sym, ap, ◌∙◌}
use mathlib.Core.List.{List, [], ◌∷◌, ◌++◌, append-nil}
use Prim.Native.Nat.{ℕ, ◌+◌, ◌≤◌, ◌<◌}
use native.Mathlib.Omega.{arith}
use lib.ListN.{length, take, drop, get_or, set}
use Rattle.lent.proofs.BufferLaws.{Written, written_none, written_one, front_one}
use Rattle.actions.specs.Normal.{Mode, plain, mode_after, text_given, text_held, normalised_from, normalised}
use Rattle.actions.proofs.NormalLaws.{byte_paid, normal_next, normal_end}

-- i bytes of s are read and n of `new` are written, and the mode is m
pub record Normalising (s old new : List ℕ) (m : Mode) (i n : ℕ) : Type 0 where
  pub inside : i ≤ length s
  pub paid : n + length (text_held m) ≤ i
  pub written : Written old new n
  pub front : take n new ++ normalised_from m (drop i s) ≡ normalised s

pub normalising_none : (s old : List ℕ) → Normalising s old old plain 0 0
unfolding normalised text_held
normalising_none s old = record { inside = omega arith; paid = omega arith; written = written_none old; front = refl }

module _ {s old new : List ℕ} {m : Mode} {i n : ℕ} (x : Normalising s old new m i n) (room : length s ≤ length old) where
  -- the next byte leads to the mode m'
  module _ (k : i < length s) {m' : Mode} (f : mode_after m (get_or s i 0) ≡ m') where
    to_come : (w : List ℕ) → text_given m (get_or s i 0) ≡ w → normalised_from m (drop i s) ≡ w ++ normalised_from m' (drop (i + 1) s)
    to_come w e = normal_next m s i k ∙ rw (e, f)

    still_paid : (w : List ℕ) → text_given m (get_or s i 0) ≡ w → n + length w + length (text_held m') ≤ i + 1
    still_paid w e = omega (arith, byte_paid m (get_or s i 0), ap length e, ap (λ (m : Mode). length (text_held m)) f, x.paid)

    pub turn_none : text_given m (get_or s i 0) ≡ [] → Normalising s old new m' (i + 1) n
    turn_none e = record {
      inside = omega arith;
      paid = omega (arith, still_paid [] e);
      written = x.written;
      front = ap (λ (l : List ℕ). take n new ++ l) (sym (to_come [] e)) ∙ x.front;
    }

    pub turn_one : (b : ℕ) → text_given m (get_or s i 0) ≡ b ∷ [] → Normalising s old (set new n b) m' (i + 1) (n + 1)
    turn_one b e =
        let h : n < length old = omega (arith, still_paid (b ∷ []) e) in
        record {
          inside = omega arith;
          paid = omega (arith, still_paid (b ∷ []) e);
          written = written_one x.written b h;
          front = front_one x.written b (normalised_from m' (drop (i + 1) s)) h ∙ ap (λ (l : List ℕ). take n new ++ l) (sym (to_come (b ∷ []) e)) ∙ x.front;
        }

    pub turn_two : (a b : ℕ) → text_given m (get_or s i 0) ≡ a ∷ b ∷ [] → Normalising s old (set (set new n a) (n + 1) b) m' (i + 1) (n + 2)
    turn_two a b e =
        let j : n + 2 ≡ n + 1 + 1 = omega arith in
        let h : n + 1 < length old = omega (arith, still_paid (a ∷ b ∷ []) e) in
        let v = written_one x.written a (omega arith) in
        let r = normalised_from m' (drop (i + 1) s) in
        rw j (record {
          inside = omega arith;
          paid = omega (arith, still_paid (a ∷ b ∷ []) e);
          written = written_one v b h;
          front = front_one v b r h ∙ front_one x.written a (b ∷ r) (omega arith) ∙ ap (λ (l : List ℕ). take n new ++ l) (sym (to_come (a ∷ b ∷ []) e)) ∙ x.front;
        })

  -- all is read: the text stands written, but for a backslash that is held back
  module _ (k : length s ≤ i) where
    last : take n new ++ text_held m ≡ normalised s
    last = ap (λ (l : List ℕ). take n new ++ l) (sym (normal_end m s i k)) ∙ x.front

    pub ended : text_held m ≡ [] → take n new ≡ normalised s
    ended e = sym (append-nil (take n new)) ∙ ap (λ (l : List ℕ). take n new ++ l) (sym e) ∙ last

    module _ (e : text_held m ≡ 92 ∷ []) where
      held_fits : n < length old
      held_fits = omega (arith, ap length e, x.paid, x.inside)

      pub held_written : Written old (set new n 92) (n + 1)
      held_written = written_one x.written 92 held_fits

      pub held_ended : take (n + 1) (set new n 92) ≡ normalised s
      held_ended = sym (append-nil _) ∙ front_one x.written 92 [] held_fits ∙ ap (λ (l : List ℕ). take n new ++ l) (sym e) ∙ last
