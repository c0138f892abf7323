-- The source's tables are those of the definitions: one computed test for each, over all rows and columns.
use mathlib.Core.Path.{◌≡◌, refl, sym, ap, ◌∙◌}
use mathlib.Core.Bool.{Bool, true, false}
use mathlib.Core.List.{List, [], ◌∷◌}
use Prim.Native.Nat.{ℕ, zero, suc, ◌+◌, ◌*◌, ◌/◌, ◌%◌, ◌≤◌, ◌<◌}
use native.Mathlib.Omega.{arith}
use lib.Dec.{eqb, leb}
use lib.ListN.{get_or}
use borrow.Author.Tests.{eqb-true, eqb-false, leb-true}
use Rattle.ascii.specs.Choice.{and, bit}
use Rattle.ascii.proofs.SameLaws.{and_left, and_right}
use Rattle.plain.specs.Table.{State, S, SB, SC, W, WB, WC, K, D, DB, DC, DM, Q, QB, QC, QM, Class, feed, return, blank, stop, slash, double, single, hash, letter, other, over, class_of, Ends, stays, here, earlier, with_it, Joins, nothing, itself, control, Next, goes, halts, Cell, cell}
use Rattle.plain.specs.Coding.{code, class_code, ends_code, joins_code, next_code, encode, keeps_in, ends_by, ends_in, feeds_in, begins_in, joins_by, joins_in, column_digits, cell_numbers}

-- ---- a test at every row and every column

abbrev all : List Bool → Bool
all [] = true
all (t ∷ ts) = and t (all ts)

all_at : (ts : List Bool) → all ts ≡ true → (i : ℕ) → get_or ts i true ≡ true
all_at [] e i = refl
all_at (t ∷ ts) e zero = and_left t (all ts) e
all_at (t ∷ ts) e (suc i) = all_at ts (and_right t (all ts) e) i

abbrev in_columns : (Class → Bool) → List Bool
in_columns f = f feed ∷ f return ∷ f blank ∷ f stop ∷ f slash ∷ f double ∷ f single ∷ f hash ∷ f letter ∷ f other ∷ f over ∷ []

abbrev in_rows : (State → Bool) → List Bool
in_rows f = f S ∷ f SB ∷ f SC ∷ f W ∷ f WB ∷ f WC ∷ f K ∷ f D ∷ f DB ∷ f DC ∷ f DM ∷ f Q ∷ f QB ∷ f QC ∷ f QM ∷ []

abbrev pub columns : (Class → Bool) → Bool
columns f = all (in_columns f)

abbrev pub rows : (State → Bool) → Bool
rows f = all (in_rows f)

column_is : (f : Class → Bool) (k : Class) → get_or (in_columns f) (class_code k) true ≡ f k
column_is f feed = refl
column_is f return = refl
column_is f blank = refl
column_is f stop = refl
column_is f slash = refl
column_is f double = refl
column_is f single = refl
column_is f hash = refl
column_is f letter = refl
column_is f other = refl
column_is f over = refl

row_is : (f : State → Bool) (q : State) → get_or (in_rows f) (code q / 11) true ≡ f q
row_is f S = refl
row_is f SB = refl
row_is f SC = refl
row_is f W = refl
row_is f WB = refl
row_is f WC = refl
row_is f K = refl
row_is f D = refl
row_is f DB = refl
row_is f DC = refl
row_is f DM = refl
row_is f Q = refl
row_is f QB = refl
row_is f QC = refl
row_is f QM = refl

pub column_at : (f : Class → Bool) → columns f ≡ true → (k : Class) → f k ≡ true
column_at f e k = sym (column_is f k) ∙ all_at (in_columns f) e (class_code k)

pub row_at : (f : State → Bool) → rows f ≡ true → (q : State) → f q ≡ true
row_at f e q = sym (row_is f q) ∙ all_at (in_rows f) e (code q / 11)

-- a test at every cell
pub cell_at : (f : State → Class → Bool) → rows (λ q. columns (f q)) ≡ true → (q : State) (k : Class) → f q k ≡ true
cell_at f e q k = column_at (f q) (row_at (λ q. columns (f q)) e q) k

-- ---- the source's lists

abbrev every : (ℕ → Bool) → ℕ → Bool
every f zero = true
every f (suc n) = and (f n) (every f n)

at : (f : ℕ → Bool) (n : ℕ) → every f n ≡ true → (k : ℕ) → k < n → f k ≡ true
at f zero e k h = absurd (omega arith)
at f (suc n) e k h = go (at f n (and_right (f n) (every f n) e) k) (eqb k n) refl
  where
    go : (k < n → f k ≡ true) → (x : Bool) → eqb k n ≡ x → f k ≡ true
    go r true p = ap f (eqb-true k n p) ∙ and_left (f n) (every f n) e
    go r false p = let m = eqb-false k n p in r (omega arith)

pub class_is : (b : ℕ) → b < 256 → get_or column_digits b 0 ≡ class_code (class_of b) + 48
unfolding column_digits class_of
class_is b h = eqb-true _ _ (at (λ i. eqb (get_or column_digits i 0) (class_code (class_of i) + 48)) 256 refl b h)

pub cell_is : (q : State) (k : Class) → get_or cell_numbers (code q + class_code k) 0 ≡ encode (cell q k)
unfolding cell_numbers cell
cell_is q k = eqb-true _ _ (cell_at (λ q k. eqb (get_or cell_numbers (code q + class_code k) 0) (encode (cell q k))) refl q k)

pub code_low : (q : State) → code q ≤ 154
code_low q = leb-true _ _ (row_at (λ q. leb (code q) 154) refl q)

-- ---- a cell's acts, read off its number

bit_low : (x : Bool) → bit x ≤ 1
bit_low true = omega arith
bit_low false = omega arith

bit_is : (x : Bool) → eqb (bit x) 1 ≡ x
bit_is true = refl
bit_is false = refl

ends_low : (x : Ends) → ends_code x ≤ 3
ends_low stays = omega arith
ends_low here = omega arith
ends_low earlier = omega arith
ends_low with_it = omega arith

ends_is : (x : Ends) → ends_by (ends_code x) ≡ x
ends_is stays = refl
ends_is here = refl
ends_is earlier = refl
ends_is with_it = refl

pub joins_is : (x : Joins) → joins_by (joins_code x) ≡ x
joins_is nothing = refl
joins_is itself = refl
joins_is control = refl

joins_low : (x : Joins) → joins_code x ≤ 2
joins_low nothing = omega arith
joins_low itself = omega arith
joins_low control = omega arith

-- where reading goes on, and whether it stops
abbrev pub row_of : Next → ℕ
row_of (goes q) = code q
row_of halts = 0

abbrev pub stops_at : Next → ℕ
stops_at (goes q) = 0
stops_at halts = 1

record Parts (n : Next) : Type 0 where
  pub sum : next_code n ≡ row_of n + 32768 * stops_at n
  pub row_low : row_of n ≤ 154
  pub stops_low : stops_at n ≤ 1

parts : (n : Next) → Parts n
parts (goes q) = record { sum = omega arith; row_low = code_low q; stops_low = omega arith }
parts halts = record { sum = omega arith; row_low = omega arith; stops_low = omega arith }

-- the digits of a number
record Digits (x r j k e f b h : ℕ) : Type 0 where
  pub d0 : x % 256 ≡ r
  pub d1 : x / 256 % 4 ≡ j
  pub d2 : x / 1024 % 2 ≡ k
  pub d3 : x / 2048 % 4 ≡ e
  pub d4 : x / 8192 % 2 ≡ f
  pub d5 : x / 16384 % 2 ≡ b
  pub d6 : x / 32768 ≡ h

digits : (x n r j k e f b h : ℕ) → x ≡ n + 256 * j + 1024 * k + 2048 * e + 8192 * f + 16384 * b → n ≡ r + 32768 * h → r ≤ 154 → j ≤ 2 → k ≤ 1 → e ≤ 3 → f ≤ 1 → b ≤ 1 → h ≤ 1
    → Digits x r j k e f b h
digits x n r j k e f b h s m p q t u v w z = record { d0 = omega arith; d1 = omega arith; d2 = omega arith; d3 = omega arith; d4 = omega arith; d5 = omega arith; d6 = omega arith }

module _ (y : Cell) where
  d : Digits (encode y) (row_of y.next) (joins_code y.joins) (bit y.keeps) (ends_code y.ends) (bit y.feeds) (bit y.begins) (stops_at y.next)
  d =
      let m = parts y.next in
      digits _ (next_code y.next) _ _ _ _ _ _ _ refl m.sum m.row_low (joins_low y.joins) (bit_low y.keeps) (ends_low y.ends) (bit_low y.feeds) (bit_low y.begins) m.stops_low

  pub next_in : encode y % 256 ≡ row_of y.next
  next_in = d.d0

  pub stops_in : encode y / 32768 ≡ stops_at y.next
  stops_in = d.d6

  pub keeps_in_lem : keeps_in (encode y) ≡ y.keeps
  keeps_in_lem = ap (λ (n : ℕ). eqb n 1) d.d2 ∙ bit_is y.keeps

  pub ends_in_lem : ends_in (encode y) ≡ y.ends
  ends_in_lem = ap ends_by d.d3 ∙ ends_is y.ends

  pub feeds_in_lem : feeds_in (encode y) ≡ y.feeds
  feeds_in_lem = ap (λ (n : ℕ). eqb n 1) d.d4 ∙ bit_is y.feeds

  pub begins_in_lem : begins_in (encode y) ≡ y.begins
  begins_in_lem = ap (λ (n : ℕ). eqb n 1) d.d5 ∙ bit_is y.begins

  pub joins_in_lem : joins_in (encode y) ≡ y.joins
  joins_in_lem = ap joins_by d.d1 ∙ joins_is y.joins
