-- Bytes in a word: put together one by one or in two halves, and told by it.
use mathlib.Core.Path.{◌≡◌, ◌∙◌, refl, sym, ap}
use mathlib.Core.List.{List, [], ◌∷◌, ◌++◌}
use Prim.Native.Nat.{ℕ, zero, suc, ◌+◌, ◌-◌, ◌*◌, ◌^◌, ◌<◌, ◌≤◌}
use native.Mathlib.Nat.{pow-suc, mul_assoc, mul-one, zero-add, le_of_suc-le-suc, not-suc-le-zero}
use native.Mathlib.Omega.{arith}
use lib.ListN.{length, take, drop, get_or, length-drop}
use lib.Seq.{take-add, drop-drop, length-take-le}
use Rattle.ascii.proofs.ListLaws.{next_byte}
use Rattle.names.specs.Words.{little, Packed}

pub packed_none : Packed [] 0
unfolding little
packed_none = record { is = refl; small = λ k. omega arith }

pub packed_more : {bytes : List ℕ} {word : ℕ} (b : ℕ) → b < 256 → Packed bytes word → Packed (b ∷ bytes) (word * 256 + b)
unfolding little
packed_more {bytes} b h p = record { is = ap (λ (w : ℕ). w * 256 + b) p.is; small = go }
  where
    go : (k : ℕ) → get_or (b ∷ bytes) k 0 < 256
    go zero = h
    go (suc k) = p.small k

-- n bytes are below the n-th power of 256
bound : (n : ℕ) (bytes : List ℕ) → length bytes ≤ n → ((k : ℕ) → get_or bytes k 0 < 256) → little bytes < 256 ^ n
unfolding little
bound zero [] h s = omega arith
bound zero (b ∷ bytes) h s = absurd (not-suc-le-zero h)
bound (suc n) [] h s = let q = bound n [] (omega arith) s in rw (pow-suc 256 n) (omega arith)
bound (suc n) (b ∷ bytes) h s =
    let q = bound n bytes (le_of_suc-le-suc h) (λ k. s (suc k)) in
    let z = s 0 in
    rw (pow-suc 256 n) (omega arith)

pub packed_bound : (n : ℕ) {bytes : List ℕ} {word : ℕ} → length bytes ≤ n → Packed bytes word → word < 256 ^ n
packed_bound n {bytes} h p = rw p.is (bound n bytes h p.small)

-- two halves
joined : (xs ys : List ℕ) → little (xs ++ ys) ≡ little xs + little ys * 256 ^ length xs
unfolding little
joined [] ys = sym (zero-add (little ys * 1) ∙ mul-one (little ys))
joined (x ∷ xs) ys =
    let p : ℕ = little ys * 256 ^ length xs in
    let e : little ys * 256 ^ suc (length xs) ≡ p * 256 = rw (pow-suc 256 (length xs), mul_assoc (little ys) (256 ^ length xs) 256) in
    rw (joined xs ys, e) (omega arith)

small_append : (xs ys : List ℕ) → ((k : ℕ) → get_or xs k 0 < 256) → ((k : ℕ) → get_or ys k 0 < 256) → (k : ℕ) → get_or (xs ++ ys) k 0 < 256
small_append [] ys s t k = t k
small_append (x ∷ xs) ys s t zero = s 0
small_append (x ∷ xs) ys s t (suc k) = small_append xs ys (λ j. s (suc j)) t k

pub packed_join : {xs ys : List ℕ} {a b : ℕ} (n : ℕ) → length xs ≡ n → Packed xs a → Packed ys b → Packed (xs ++ ys) (a + b * 256 ^ n)
packed_join {xs} {ys} n h p q = record { is = rw (p.is, q.is, joined xs ys, h); small = small_append xs ys p.small q.small }

-- as many bytes with the same word are the same
same_bytes : (xs ys : List ℕ) → length xs ≡ length ys → ((k : ℕ) → get_or xs k 0 < 256) → ((k : ℕ) → get_or ys k 0 < 256) → little xs ≡ little ys → xs ≡ ys
unfolding little
same_bytes [] [] h s t e = refl
same_bytes [] (y ∷ ys) h s t e = absurd (omega arith)
same_bytes (x ∷ xs) [] h s t e = absurd (omega arith)
same_bytes (x ∷ xs) (y ∷ ys) h s t e =
    let p = s 0 in
    let q = t 0 in
    let b : x ≡ y = omega arith in
    let w : little xs ≡ little ys = omega arith in
    rw (b, same_bytes xs ys (omega arith) (λ k. s (suc k)) (λ k. t (suc k)) w)

pub packed_same : {xs ys : List ℕ} {a b : ℕ} → Packed xs a → Packed ys b → length xs ≡ length ys → a ≡ b → xs ≡ ys
packed_same {xs} {ys} p q h e = same_bytes xs ys h p.small q.small (sym p.is ∙ e ∙ q.is)

-- ---- parts of a text

module _ (s : List ℕ) (at : ℕ) where
  part_length : (n : ℕ) → at + n ≤ length s → length (take n (drop at s)) ≡ n
  part_length n h = length-take-le n (drop at s) (rw (length-drop at s) (omega arith))

  pub part_bound : (n : ℕ) {word : ℕ} → at + n ≤ length s → Packed (take n (drop at s)) word → word < 256 ^ n
  part_bound n h p = packed_bound n (rw (part_length n h) (omega arith)) p

  pub part_halves : (n m : ℕ) {a b : ℕ} → at + n ≤ length s
      → Packed (take n (drop at s)) a
      → Packed (take m (drop (at + n) s)) b
      → Packed (take (n + m) (drop at s)) (a + b * 256 ^ n)
  part_halves n m h p q = rw (take-add n m (drop at s), drop-drop n at s) (packed_join n (part_length n h) p q)

  -- up to seven bytes leave room for one more
  pub part_few : (n : ℕ) {word : ℕ} → at + n ≤ length s → n ≤ 7 → Packed (take n (drop at s)) word → word < 72057594037927936
  part_few n h l p = packed_bound 7 (rw (part_length n h) l) p

  pub part_none : Packed (take 0 (drop at s)) 0
  part_none = packed_none

  -- one byte more before a part
  pub part_more : (n : ℕ) {word : ℕ} → at + 1 + n ≤ length s → get_or s at 0 < 256
      → Packed (take n (drop (at + 1) s)) word
      → Packed (take (suc n) (drop at s)) (word * 256 + get_or s at 0)
  part_more n h b p = rw (next_byte s at (omega arith)) (packed_more (get_or s at 0) b p)

pub part_four : (s : List ℕ) (at : ℕ) → at + 4 ≤ length s → ((k : ℕ) → get_or s k 0 < 256)
    → Packed (take 4 (drop at s)) (get_or s at 0 + get_or s (at + 1) 0 * 256 + get_or s (at + 2) 0 * 65536 + get_or s (at + 3) 0 * 16777216)
part_four s at h b = rw (sym sum) whole
  where
    last : Packed (take 1 (drop (at + 3) s)) (get_or s (at + 3) 0)
    last = rw (zero-add (get_or s (at + 3) 0)) at (part_more s (at + 3) 0 (omega arith) (b (at + 3)) (part_none s (at + 3 + 1)))

    next : (i j n : ℕ) {word : ℕ} → i + 1 ≡ j → i + 1 + n ≤ length s → Packed (take n (drop j s)) word → Packed (take (suc n) (drop i s)) (word * 256 + get_or s i 0)
    next i j n e l p = part_more s i n l (b i) (rw (sym e) at p)

    whole : Packed (take 4 (drop at s)) (((get_or s (at + 3) 0 * 256 + get_or s (at + 2) 0) * 256 + get_or s (at + 1) 0) * 256 + get_or s at 0)
    whole =
        part_more s at 3 (omega arith) (b at)
        (next (at + 1) (at + 2) 2 (omega arith) (omega arith) (next (at + 2) (at + 3) 1 (omega arith) (omega arith) last))

    sum : ((get_or s (at + 3) 0 * 256 + get_or s (at + 2) 0) * 256 + get_or s (at + 1) 0) * 256 + get_or s at 0
        ≡ get_or s at 0 + get_or s (at + 1) 0 * 256 + get_or s (at + 2) 0 * 65536 + get_or s (at + 3) 0 * 16777216
    sum = omega arith

-- a part that is read from its end: with k bytes before it to come, one byte more
pub part_before : (s : List ℕ) (at n k : ℕ) {word : ℕ} → 0 < k → k ≤ n → at + n ≤ length s → get_or s (at + (k - 1)) 0 < 256
    → Packed (take (n - k) (drop (at + k) s)) word
    → Packed (take (n - (k - 1)) (drop (at + (k - 1)) s)) (word * 256 + get_or s (at + (k - 1)) 0)
part_before s at n k h l m b p =
    let e : at + k ≡ at + (k - 1) + 1 = omega arith in
    let f : n - (k - 1) ≡ suc (n - k) = omega arith in
    rw f (part_more s (at + (k - 1)) (n - k) (omega arith) b (rw e at p))

pub part_whole : (s : List ℕ) (at n k : ℕ) {word : ℕ} → k ≡ 0 → Packed (take (n - k) (drop (at + k) s)) word → Packed (take n (drop at s)) word
part_whole s at n k h p =
    let e : at + k ≡ at = omega arith in
    let f : n - k ≡ n = omega arith in
    rw (e, f) at p
