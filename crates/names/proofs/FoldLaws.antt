-- Letters folded in a word: what is done to the word is done to each of its bytes, and there it is the fold.
use mathlib.Core.Path.{◌≡◌, ◌∙◌, refl, sym, ap, ap₂}
use mathlib.Core.Bool.{Bool, true, false}
use mathlib.Core.List.{List, [], ◌∷◌, ◌++◌, map}
use Prim.Native.Nat.{ℕ, zero, suc, ◌+◌, ◌-◌, ◌*◌, ◌/◌, ◌<◌, ◌≤◌}
use native.Mathlib.Nat.{mul-div_cancel, zero-lt-suc}
use native.Mathlib.Omega.{arith}
use lib.ListN.{length, get_or, replicate, length-replicate, length-append, get_or-map}
use lib.Bits.{bit_and, bit_xor, and_block, xor_block, and_lt, xor_lt, and_le_r}
use lib.Dec.{eqb}
use Rattle.ascii.specs.Choice.{and}
use Rattle.ascii.proofs.SameLaws.{and_left, and_right}
use borrow.Author.Tests.{eqb-true}
use Rattle.ascii.specs.Fold.{lower, upper}
use Rattle.names.specs.Words.{little, Packed, Folds, turned_by, turned, sevens, tops}
use Rattle.names.proofs.Tests.{every, at}

abbrev Small : List ℕ → Type 0
Small xs = (k : ℕ) → get_or xs k 0 < 256

-- an operation that works on the low byte and on the rest apart
module _ (op : ℕ → ℕ → ℕ) (none : op 0 0 ≡ 0)
    (block : (a b r s : ℕ) → r < 256 → s < 256 → op (a * 256 + r) (b * 256 + s) ≡ op a b * 256 + op r s) where
  through : (f g : ℕ → ℕ) → ((x : ℕ) → x < 256 → (f x < 256) × (g x < 256)) → (xs : List ℕ) → Small xs
      → op (little (map f xs)) (little (map g xs)) ≡ little (map (λ (x : ℕ). op (f x) (g x)) xs)
  unfolding little
  through f g h [] s = none
  through f g h (x ∷ xs) s =
      let b = h x (s 0) in
      block (little (map f xs)) (little (map g xs)) (f x) (g x) b.0 b.1
      ∙ ap (λ (w : ℕ). w * 256 + op (f x) (g x)) (through f g h xs (λ k. s (suc k)))

and_through : (f g : ℕ → ℕ) → ((x : ℕ) → x < 256 → (f x < 256) × (g x < 256)) → (xs : List ℕ) → Small xs
    → bit_and (little (map f xs)) (little (map g xs)) ≡ little (map (λ (x : ℕ). bit_and (f x) (g x)) xs)
and_through = through bit_and refl (and_block 8)

xor_through : (f g : ℕ → ℕ) → ((x : ℕ) → x < 256 → (f x < 256) × (g x < 256)) → (xs : List ℕ) → Small xs
    → bit_xor (little (map f xs)) (little (map g xs)) ≡ little (map (λ (x : ℕ). bit_xor (f x) (g x)) xs)
xor_through = through bit_xor refl (xor_block 8)

add_through : (f g : ℕ → ℕ) → ((x : ℕ) → x < 256 → (f x < 256) × (g x < 256)) → (xs : List ℕ) → Small xs
    → little (map f xs) + little (map g xs) ≡ little (map (λ (x : ℕ). f x + g x) xs)
add_through = through ◌+◌ refl (λ a b r s h k. omega arith)

fourfold : (f : ℕ → ℕ) → ((x : ℕ) → x < 256 → f x / 4 * 4 ≡ f x) → (xs : List ℕ) → Small xs
    → little (map f xs) ≡ little (map (λ (x : ℕ). f x / 4) xs) * 4
unfolding little
fourfold f h [] s = refl
fourfold f h (x ∷ xs) s = let e = fourfold f h xs (λ k. s (suc k)) in let b = h x (s 0) in omega arith

-- the fourth part of a word each of whose bytes has one
quarter : (f : ℕ → ℕ) → ((x : ℕ) → x < 256 → f x / 4 * 4 ≡ f x) → (xs : List ℕ) → Small xs
    → little (map f xs) / 4 ≡ little (map (λ (x : ℕ). f x / 4) xs)
quarter f h xs s =
    ap (λ (w : ℕ). w / 4) (fourfold f h xs s) ∙ mul-div_cancel (little (map (λ (x : ℕ). f x / 4) xs)) (zero-lt-suc 3)

-- ---- what is done to a byte

abbrev sum : ℕ → ℕ → ℕ
sum a x = bit_and x 127 + a

abbrev marks : ℕ → ℕ → ℕ → ℕ
marks a z x = bit_and (bit_and (bit_xor (sum a x) (sum z x)) (bit_xor x 128)) 128

abbrev turn : ℕ → ℕ → ℕ → ℕ
turn a z x = bit_xor x (marks a z x / 4)

sum_fits : (a x : ℕ) → a ≤ 128 → sum a x < 256
sum_fits a x h = omega (arith, and_le_r x 127)

map_self : (xs : List ℕ) → map (λ (x : ℕ). x) xs ≡ xs
map_self [] = refl
map_self (x ∷ xs) = ap (λ (l : List ℕ). x ∷ l) (map_self xs)

abbrev word : (ℕ → ℕ) → List ℕ → ℕ
word f xs = little (map f xs)

small_turn : (a z : ℕ) → a ≤ 128 → z ≤ 128 → (x : ℕ) → x < 256 → (bit_xor (sum a x) (sum z x) < 256) × (bit_xor x 128 < 256)
small_turn a z ha hz x h = (xor_lt 8 (sum a x) (sum z x) (sum_fits a x ha) (sum_fits z x hz), xor_lt 8 x 128 h (omega arith))

module _ (a z : ℕ) (ha : a ≤ 128) (hz : z ≤ 128) (even : (x : ℕ) → x < 256 → marks a z x / 4 * 4 ≡ marks a z x) (xs : List ℕ) (s : Small xs) where
  self : little xs ≡ word (λ (x : ℕ). x) xs
  self = ap little (sym (map_self xs))

  summed : (b : ℕ) → b ≤ 128 → bit_and (little xs) (word (λ (x : ℕ). 127) xs) + word (λ (x : ℕ). b) xs ≡ word (sum b) xs
  summed b h =
      ap (λ (w : ℕ). bit_and w (word (λ (x : ℕ). 127) xs) + word (λ (x : ℕ). b) xs) self
      ∙ ap (λ (w : ℕ). w + word (λ (x : ℕ). b) xs) (and_through (λ x. x) (λ x. 127) (λ x l. (l, omega arith)) xs s)
      ∙ add_through (λ x. bit_and x 127) (λ x. b) (λ x l. (omega (arith, and_le_r x 127), omega arith)) xs s

  crossed : bit_xor (little xs) (word (λ (x : ℕ). 128) xs) ≡ word (λ (x : ℕ). bit_xor x 128) xs
  crossed =
      ap (λ (w : ℕ). bit_xor w (word (λ (x : ℕ). 128) xs)) self
      ∙ xor_through (λ x. x) (λ x. 128) (λ x l. (l, omega arith)) xs s

  marked : bit_and (bit_and (bit_xor (word (sum a) xs) (word (sum z) xs)) (word (λ (x : ℕ). bit_xor x 128) xs)) (word (λ (x : ℕ). 128) xs) ≡ word (marks a z) xs
  marked =
      ap (λ (w : ℕ). bit_and (bit_and w (word (λ (x : ℕ). bit_xor x 128) xs)) (word (λ (x : ℕ). 128) xs))
      (xor_through (sum a) (sum z) (λ x l. (sum_fits a x ha, sum_fits z x hz)) xs s)
      ∙ ap (λ (w : ℕ). bit_and w (word (λ (x : ℕ). 128) xs))
      (and_through (λ x. bit_xor (sum a x) (sum z x)) (λ x. bit_xor x 128) (small_turn a z ha hz) xs s)
      ∙ and_through (λ x. bit_and (bit_xor (sum a x) (sum z x)) (bit_xor x 128)) (λ x. 128)
      (λ x l. (and_lt 8 (bit_xor (sum a x) (sum z x)) (bit_xor x 128) (small_turn a z ha hz x l).0 (small_turn a z ha hz x l).1, omega arith)) xs s

  quartered : (x : ℕ) → x < 256 → marks a z x / 4 < 256
  quartered x l = omega (arith, and_le_r (bit_and (bit_xor (sum a x) (sum z x)) (bit_xor x 128)) 128)

  word_turn : turned_by (word (λ (x : ℕ). 127) xs) (word (λ (x : ℕ). 128) xs) (little xs) (word (λ (x : ℕ). a) xs) (word (λ (x : ℕ). z) xs) ≡ word (turn a z) xs
  word_turn =
      rw (summed a ha, summed z hz, crossed, marked)
      (ap (λ (w : ℕ). bit_xor (little xs) w) (quarter (marks a z) even xs s)
      ∙ ap (λ (w : ℕ). bit_xor w (word (λ (x : ℕ). marks a z x / 4) xs)) self
      ∙ xor_through (λ x. x) (λ x. marks a z x / 4) (λ x l. (l, quartered x l)) xs s)

-- ---- the word of up to eight bytes is that of eight, zeros behind

zeros_behind : (n : ℕ) (xs : List ℕ) → little (xs ++ replicate n 0) ≡ little xs
unfolding little
zeros_behind zero [] = refl
zeros_behind (suc n) [] = ap (λ (w : ℕ). w * 256 + 0) (zeros_behind n [])
zeros_behind n (x ∷ xs) = ap (λ (w : ℕ). w * 256 + x) (zeros_behind n xs)

map_zeros : (f : ℕ → ℕ) → f 0 ≡ 0 → (n : ℕ) (xs : List ℕ) → map f (xs ++ replicate n 0) ≡ map f xs ++ replicate n 0
map_zeros f h zero [] = refl
map_zeros f h (suc n) [] = ap₂ (λ (x : ℕ) (l : List ℕ). x ∷ l) h (map_zeros f h n [])
map_zeros f h n (x ∷ xs) = ap (λ (l : List ℕ). f x ∷ l) (map_zeros f h n xs)

small_zeros : (n : ℕ) (xs : List ℕ) → Small xs → Small (xs ++ replicate n 0)
small_zeros zero [] s k = omega arith
small_zeros (suc n) [] s zero = omega arith
small_zeros (suc n) [] s (suc k) = small_zeros n [] s k
small_zeros n (x ∷ xs) s zero = s 0
small_zeros n (x ∷ xs) s (suc k) = small_zeros n xs (λ j. s (suc j)) k

constant : (c : ℕ) (xs : List ℕ) → map (λ (x : ℕ). c) xs ≡ replicate (length xs) c
constant c [] = refl
constant c (x ∷ xs) = ap (λ (l : List ℕ). c ∷ l) (constant c xs)

-- a byte eight times, in a word
eights : (xs : List ℕ) → length xs ≡ 8 → (c : ℕ) → little (replicate 8 c) ≡ word (λ (x : ℕ). c) xs
eights xs h c = ap little (sym (constant c xs ∙ ap (λ (n : ℕ). replicate n c) h))

sevens_is : sevens ≡ little (replicate 8 127)
unfolding little
sevens_is = refl

tops_is : tops ≡ little (replicate 8 128)
unfolding little
tops_is = refl

same_map : (f g : ℕ → ℕ) → ((x : ℕ) → x < 256 → f x ≡ g x) → (xs : List ℕ) → Small xs → map f xs ≡ map g xs
same_map f g h [] s = refl
same_map f g h (x ∷ xs) s = ap₂ (λ (y : ℕ) (l : List ℕ). y ∷ l) (h x (s 0)) (same_map f g h xs (λ k. s (suc k)))

-- ---- a rule for one byte that holds for each of the 256

unfoldable pub fine : ℕ → ℕ → (ℕ → ℕ) → ℕ → Bool
fine a z f x = and (eqb (marks a z x / 4 * 4) (marks a z x)) (eqb (turn a z x) (f x))

module _ (a z : ℕ) (f : ℕ → ℕ) (ha : a ≤ 128) (hz : z ≤ 128) (none : f 0 ≡ 0) (t : every (fine a z f) 256 ≡ true) where
  even_marks : (x : ℕ) → x < 256 → marks a z x / 4 * 4 ≡ marks a z x
  unfolding fine
  even_marks x h = eqb-true _ _ (and_left (eqb (marks a z x / 4 * 4) (marks a z x)) (eqb (turn a z x) (f x)) (at (fine a z f) 256 t x h))

  turn_is : (x : ℕ) → x < 256 → turn a z x ≡ f x
  unfolding fine
  turn_is x h = eqb-true _ _ (and_right (eqb (marks a z x / 4 * 4) (marks a z x)) (eqb (turn a z x) (f x)) (at (fine a z f) 256 t x h))

  turn_fits : (x : ℕ) → x < 256 → f x < 256
  turn_fits x h = rw (sym (turn_is x h)) (xor_lt 8 x (marks a z x / 4) h (omega (arith, and_le_r (bit_and (bit_xor (sum a x) (sum z x)) (bit_xor x 128)) 128)))

  small_folded : (xs : List ℕ) → Small xs → Small (map f xs)
  small_folded xs s k =
      let e : get_or (map f xs) k 0 ≡ f (get_or xs k 0) = rw none at (get_or-map f xs k 0) in
      rw e (turn_fits (get_or xs k 0) (s k))

  eight_folded : (xs : List ℕ) → length xs ≡ 8 → Small xs
      → turned (little xs) (little (replicate 8 a)) (little (replicate 8 z)) ≡ little (map f xs)
  eight_folded xs h s =
      let p : ℕ = little (replicate 8 a) in
      let q : ℕ = little (replicate 8 z) in
      ap (λ (m : ℕ). turned_by m tops (little xs) p q) (sevens_is ∙ eights xs h 127)
      ∙ ap (λ (m : ℕ). turned_by (word (λ (x : ℕ). 127) xs) m (little xs) p q) (tops_is ∙ eights xs h 128)
      ∙ ap₂ (λ (m n : ℕ). turned_by (word (λ (x : ℕ). 127) xs) (word (λ (x : ℕ). 128) xs) (little xs) m n) (eights xs h a) (eights xs h z)
      ∙ word_turn a z ha hz even_marks xs s
      ∙ ap little (same_map (turn a z) f turn_is xs s)

  pub word_folded : (xs : List ℕ) → length xs ≤ 8 → {w : ℕ} → Packed xs w
      → Packed (map f xs) (turned w (little (replicate 8 a)) (little (replicate 8 z)))
  word_folded xs h p = record {
    is = ap (λ (v : ℕ). turned v (little (replicate 8 a)) (little (replicate 8 z))) (p.is ∙ sym (zeros_behind (8 - length xs) xs))
        ∙ eight_folded (xs ++ replicate (8 - length xs) 0) long (small_zeros (8 - length xs) xs p.small)
        ∙ ap little (map_zeros f none (8 - length xs) xs)
        ∙ zeros_behind (8 - length xs) (map f xs);
    small = small_folded xs p.small;
  }
    where
      long : length (xs ++ replicate (8 - length xs) 0) ≡ 8
      long = rw (length-append, length-replicate) (omega arith)

-- ---- all capitals, and all small

capital_bytes : every (fine 31 5 upper) 256 ≡ true
unfolding every fine upper
capital_bytes = refl

small_bytes : every (fine 63 37 lower) 256 ≡ true
unfolding every fine lower
small_bytes = refl

pub capitals_fold : (word : ℕ) → Folds true word (turned word 2242545357980376863 361700864190383365)
unfolding little
capitals_fold word = record { folds = λ xs h p. word_folded 31 5 upper (omega arith) (omega arith) (unfold upper in refl) capital_bytes xs h p }

pub small_fold : (word : ℕ) → Folds false word (turned word 4557430888798830399 2676586395008836901)
unfolding little
small_fold word = record { folds = λ xs h p. word_folded 63 37 lower (omega arith) (omega arith) (unfold lower in refl) small_bytes xs h p }
