-- How long a listing gets: an element takes so many bytes with its comma, by how many digits lines and columns have, and six for each byte
-- of its text, and a text has no more tokens, and no longer texts, than bytes.
use Rattle.std.specs.Prelude.{None}
use mathlib.Core.Bool.{Bool, true, false}
use mathlib.Core.List.{List, [], ◌∷◌, ◌++◌}
use Prim.Native.Nat.{ℕ, zero, suc, ◌+◌, ◌*◌, ◌/◌, ◌%◌, ◌≤◌, ◌<◌}
use native.Mathlib.Omega.{arith}
use native.Mathlib.Nat.{suc-mul}
use lib.ListN.{length, take, length-append, length-take}
use lib.Dec.{ltb}
use borrow.Author.Tests.{lt-ltb}
use Rattle.ascii.specs.Choice.{pick}
use Rattle.lent.specs.Sizes.{limit}
use Rattle.lexer.specs.declared.Kind.{Kind}
use Rattle.lexer.specs.declared.Line.{Line}
use Rattle.lexer.specs.declared.Column.{Column}
use Rattle.lexer.specs.Tokens.{Token, reading}
use Rattle.lexer.specs.Places.{Placed, All, nil, cons, total}
use Rattle.lexer.proofs.LoopLaws.{feeds_few, since_few}
use Rattle.lexer.proofs.BoundLaws.{tokens_most}
use Rattle.lexer.proofs.PlaceLaws.{all_map, places, texts_fit_lem}
use Rattle.lexer.proofs.StopLaws.{stop_line, stop_column}
use Rattle.listing.specs.Json.{onto, decimal, trail, joined}
use Rattle.listing.specs.Listings.{early, row_of, element, elements, stop_at, stop_of, listing, list_limit}
use Rattle.listing.specs.Steps.{pair, stop_tail}
use Rattle.listing.proofs.ElementLaws.{row_length, early_length, joined_stopped}

-- ---- digits

-- Numbers below a bound have so many digits at most, and one more below ten times it.
abbrev Digits : ℕ → ℕ → Type 0
Digits bound k = (j n : ℕ) (r : List ℕ) → n < bound → length (onto j n r) ≤ k + length r

digit_more : (bound k : ℕ) → Digits bound k → Digits (10 * bound) (suc k)
unfolding onto
digit_more bound k ih zero n r h = omega arith
digit_more bound k ih (suc j) n r h = go (ltb n 10)
  where
    go : (t : Bool) → length (pick t ((48 + n) ∷ r) (onto j (n / 10) ((48 + n % 10) ∷ r))) ≤ suc k + length r
    go true = omega arith
    go false = omega (arith, ih j (n / 10) ((48 + n % 10) ∷ r) (omega arith))

one : Digits 10 1
unfolding onto
one zero n r h = omega arith
one (suc j) n r h = rw (lt-ltb n 10 h) (omega arith)

-- those of a text that the program takes, and that the library takes
five : Digits 100000 5
five = digit_more 10000 4 (digit_more 1000 3 (digit_more 100 2 (digit_more 10 1 one)))

seven : Digits 10000000 7
seven = digit_more 1000000 6 (digit_more 100000 5 five)

-- ---- with lines and columns below a bound

module _ (bound k : ℕ) (digits : Digits bound k) where
  decimal_short : (n : ℕ) → n < bound → length (decimal n) ≤ k
  unfolding decimal
  decimal_short n h = omega (arith, digits 20 n [] h)

  pair_short : (a b : ℕ) → a < bound → b < bound → length (pair a b) ≤ 2 * k + 1
  pair_short a b h g = omega (arith, length-append (decimal a) (44 ∷ decimal b), decimal_short a h, decimal_short b g)

  row_short : (kind : Kind) (l c : ℕ) (t : List ℕ) → l < bound → c < bound → length (row_of kind l c t) ≤ 6 * length t + (2 * k + 18)
  row_short kind l c t h g = omega (arith, row_length kind l c t (2 * k + 1) (pair_short l c h g))

  record Near (t : Token) : Type 0 where
    lined : t.line.0 < bound
    columned : t.column.0 < bound

  -- `per` bytes for an element with its comma
  trail_short : (per : ℕ) → 2 * k + 19 ≤ per → {ts : List Token} → All Near ts → length (trail (elements ts)) ≤ length ts * per + 6 * total ts
  unfolding trail elements total
  trail_short per w nil = omega arith
  trail_short per w (cons {t = t} {ts = ts} p ps) =
      omega (
        arith,
        w,
        suc-mul (length ts) per,
        length-append (element t) (trail (elements ts)),
        row_short t.kind t.line.0 t.column.0 t.text p.lined p.columned,
        trail_short per w ps,
      )

  tail_short : (n place len : ℕ) (line : Line) (column : Column) → line.0 < bound → column.0 < bound → length (stop_tail n (stop_at place len line column)) ≤ 2 * k + 14
  unfolding stop_at
  tail_short n place len line column h g = go (ltb place len)
    where
      go : (t : Bool) → length (stop_tail n (pick t (early line column) None)) ≤ 2 * k + 14
      go true = omega (arith, early_length n line column (2 * k + 1) (pair_short line.0 column.0 h g))
      go false = omega arith

joined_short : (xs : List (List ℕ)) → length (joined xs) ≤ length (trail xs)
unfolding joined trail
joined_short [] = omega arith
joined_short (x ∷ r) = omega arith

-- ---- the lines and columns of a reading

module _ (s : List ℕ) where
  front : (n : ℕ) → length (take n s) ≤ length s
  front n = rw length-take (omega arith)

  pub line_low : (t : Token) → Placed s t → t.line.0 ≤ length s + 1
  line_low t p = rw p.lined (omega (arith, feeds_few (take t.first s), front t.first))

  pub column_low : (t : Token) → Placed s t → t.column.0 ≤ length s + 1
  column_low t p = rw p.columned (omega (arith, since_few 0 (take t.first s), front t.first))

  pub stop_line_low : (reading s).stop.line.0 ≤ length s + 1
  stop_line_low = let n = (reading s).stop.place in omega (arith, stop_line s, feeds_few (take n s), front n)

  pub stop_column_low : (reading s).stop.column.0 ≤ length s + 1
  stop_column_low = let n = (reading s).stop.place in omega (arith, stop_column s, since_few 0 (take n s), front n)

module _ (bound k : ℕ) (digits : Digits bound k) (s : List ℕ) (h : length s + 1 < bound) where
  near : (t : Token) → Placed s t → Near bound k digits t
  near t p = record { lined = omega (arith, line_low s t p); columned = omega (arith, column_low s t p) }

  listing_bound : (per : ℕ) → 2 * k + 19 ≤ per → length (listing (reading s).tokens (stop_of s)) ≤ length (reading s).tokens * per + 6 * total (reading s).tokens + (2 * k + 16)
  unfolding listing
  listing_bound per w =
      let es = elements (reading s).tokens in
      rw (joined_stopped es (stop_of s))
      (omega (
        arith,
        length-append (joined es ++ stop_tail (length es) (stop_of s)) (93 ∷ []),
        length-append (joined es) (stop_tail (length es) (stop_of s)),
        joined_short es,
        trail_short bound k digits per w (all_map near (places s)),
        tail_short bound k digits (length es) (reading s).stop.place (length s) (reading s).stop.line (reading s).stop.column (omega (arith, stop_line_low s)) (omega (arith, stop_column_low s)),
      ))

-- 35 bytes of listing for a byte of a text that the program takes, and 26 more; of one that the library takes 39, and 30 more.
pub listing_short : (s : List ℕ) → length s ≤ list_limit → length (listing (reading s).tokens (stop_of s)) ≤ 35 * length s + 26
listing_short s h = omega (arith, listing_bound 100000 5 five s (omega arith) 29 (omega arith), tokens_most s, texts_fit_lem s)

pub listing_most : (s : List ℕ) → length s ≤ limit → length (listing (reading s).tokens (stop_of s)) ≤ 39 * length s + 30
listing_most s h = omega (arith, listing_bound 10000000 7 seven s (omega arith) 33 (omega arith), tokens_most s, texts_fit_lem s)
