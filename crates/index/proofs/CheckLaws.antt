-- The loops of the check: what holds where a loop begins, what each turn does, and what holds at the end.
use mathlib.Core.Path.{◌≡◌, refl}
use mathlib.Core.Bool.{Bool, true, false}
use mathlib.Core.List.{List}
use Prim.Native.Nat.{ℕ, zero, suc, ◌+◌, ◌-◌, ◌*◌, ◌≤◌, ◌<◌}
use native.Mathlib.Omega.{arith}
use lib.Bits.{bit_or, and_le_l, and_le_r, or_add_and}
use lib.Dec.{eqb}
use lib.ListN.{length, drop, get_or, drop_of_length-le}
use borrow.Author.Tests.{eqb-true, eqb-false, ne_eqb, le-leb, lt-leb}
use Rattle.ascii.specs.Choice.{and}
use Rattle.ascii.proofs.ListLaws.{next_byte}
use Rattle.index.specs.Standing.{from}
use Rattle.index.specs.Words.{rules_of, all_zero}
use Rattle.index.proofs.WordLaws.{next_rule, no_rule}

-- ---- zeros

-- the bits of two words are none exactly if both words are 0
or_none : (a b : ℕ) → eqb (bit_or a b) 0 ≡ and (eqb a 0) (eqb b 0)
or_none a b = go (eqb a 0) refl (eqb b 0) refl
  where
    u : bit_or a b ≡ 0 → (a ≡ 0) × (b ≡ 0)
    u e = let s = or_add_and a b in let l = and_le_l a b in let r = and_le_r a b in (omega arith, omega arith)

    go : (c : Bool) → eqb a 0 ≡ c → (d : Bool) → eqb b 0 ≡ d → eqb (bit_or a b) 0 ≡ and c d
    go true e true f = rw (eqb-true a 0 e, eqb-true b 0 f)
    go true e false f = ne_eqb (bit_or a b) 0 (λ z. eqb-false b 0 f (u z).1)
    go false e d f = ne_eqb (bit_or a b) 0 (λ z. eqb-false a 0 e (u z).0)

-- the bits of the words so far, and the words still to be read, decide
unfoldable pub zeroing : List ℕ → ℕ → ℕ → Bool
zeroing w bits i = and (eqb bits 0) (all_zero (drop i w))

module _ (w : List ℕ) where
  pub zero_begun : all_zero w ≡ zeroing w 0 0
  unfolding zeroing
  zero_begun = refl

  pub zero_next : (bits i : ℕ) → i < length w → zeroing w bits i ≡ zeroing w (bit_or bits (get_or w i 0)) (i + 1)
  unfolding zeroing all_zero
  zero_next bits i h = rw (next_byte w i h, or_none bits (get_or w i 0)) (assoc (eqb bits 0) (eqb (get_or w i 0) 0) (all_zero (drop (i + 1) w)))
    where
      assoc : (a b c : Bool) → and a (and b c) ≡ and (and a b) c
      assoc true b c = refl
      assoc false b c = refl

  pub zero_end : (bits i : ℕ) → length w ≤ i → zeroing w bits i ≡ eqb bits 0
  unfolding zeroing all_zero
  zero_end bits i h = rw (drop_of_length-le w {i = i} h) (last (eqb bits 0))
    where
      last : (a : Bool) → and a true ≡ a
      last true = refl
      last false = refl

-- ---- ascending ids

-- whether the ids from a rule on ascend, from above the one before it
unfoldable pub climbing : List ℕ → ℕ → ℕ → Bool
climbing w count i = from (suc (get_or w (i * 2 - 1) 0)) (rules_of (count - i) (drop (1 + i * 2) w))

module _ (w : List ℕ) (count : ℕ) where
  pub climb_begun : from 0 (rules_of count (drop 1 w)) ≡ climbing w count 1
  unfolding climbing from
  climb_begun = go count
    where
      go : (n : ℕ) → from 0 (rules_of n (drop 1 w)) ≡ from (suc (get_or w 1 0)) (rules_of (n - 1) (drop 3 w))
      go zero = rw (no_rule (drop 1 w) 0 (omega arith), no_rule (drop 3 w) (0 - 1) (omega arith))
      go (suc n) = rw (next_rule w 1 (suc n) (omega arith), le-leb 0 (get_or w 1 0) (omega arith))

  module _ (i : ℕ) where
    pub climb_falls : i < count → get_or w (1 + i * 2) 0 ≤ get_or w (i * 2 - 1) 0 → climbing w count i ≡ false
    unfolding climbing from
    climb_falls h l = rw (next_rule w (1 + i * 2) (count - i) (omega arith), lt-leb (suc (get_or w (i * 2 - 1) 0)) (get_or w (1 + i * 2) 0) (omega arith))

    pub climb_next : i < count → get_or w (i * 2 - 1) 0 < get_or w (1 + i * 2) 0 → climbing w count i ≡ climbing w count (i + 1)
    unfolding climbing from
    climb_next h l =
        let a : (i + 1) * 2 - 1 ≡ 1 + i * 2 = omega arith in
        let b : 1 + (i + 1) * 2 ≡ 1 + i * 2 + 2 = omega arith in
        let c : count - (i + 1) ≡ count - i - 1 = omega arith in
        rw (next_rule w (1 + i * 2) (count - i) (omega arith), le-leb (suc (get_or w (i * 2 - 1) 0)) (get_or w (1 + i * 2) 0) (omega arith), a, b, c)

    pub climb_end : count ≤ i → climbing w count i ≡ true
    unfolding climbing from
    climb_end h = rw (no_rule (drop (1 + i * 2) w) (count - i) (omega arith))

pub ruleset climbs = (climb_begun, climb_falls, climb_next, climb_end)

pub ruleset zeros = (zero_begun, zero_next, zero_end)
