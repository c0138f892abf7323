-- Bytes read as one number, the first lowest, letters folded in it, and a name in such words beside a part of a table.
use Rattle.std.specs.Prelude.{ℕ, ◌+◌, ◌-◌, ◌*◌, ◌/◌, ◌<◌, ◌≤◌, ◌≡◌, Bool, List, [], ◌∷◌, map, length, get_or, take, drop}
use Rattle.std.specs.Int.Bits.{bit_and, bit_xor}
use Rattle.ascii.specs.Fold.{same}
use Rattle.names.specs.Tables.{casing}
use Rattle.names.specs.declared.spelling.Words.{Words}

unfoldable pub little : List ℕ → ℕ
little [] = 0
little (b ∷ bytes) = little bytes * 256 + b

-- the word of these bytes
pub record Packed (bytes : List ℕ) (word : ℕ) : Type 0 where
  pub is : word ≡ little bytes
  pub small : (k : ℕ) → get_or bytes k 0 < 256

-- 127 in each byte, and 128
abbrev pub sevens : ℕ
sevens = 9187201950435737471

abbrev pub tops : ℕ
tops = 9259542123273814144

-- the bytes that `from` brings to 128 or more and `past` does not, with the bit of 32 changed
abbrev pub turned_by : ℕ → ℕ → ℕ → ℕ → ℕ → ℕ
turned_by low top word from past =
    bit_xor word (bit_and (bit_and (bit_xor (bit_and word low + from) (bit_and word low + past)) (bit_xor word top)) top / 4)

abbrev pub turned : ℕ → ℕ → ℕ → ℕ
turned = turned_by sevens tops

-- whatever bytes the word has, r has them folded
pub record Folds (capitals : Bool) (word r : ℕ) : Type 0 where
  pub folds : (bytes : List ℕ) → length bytes ≤ 8 → Packed bytes word → Packed (map (casing capitals) bytes) r

-- eight bytes from a place on, if a byte stands behind them
pub record Eighth (name : List ℕ) (at r : ℕ) : Type 0 where
  pub there : at + 8 < length name → Packed (take 8 (drop at name)) r

-- how many bytes stand before the last word, of one byte to eight
abbrev pub before : ℕ → ℕ
before n = (n - 1) / 8 * 8

-- the words of a name of up to 32 bytes
pub record Worded (name : List ℕ) (x : Words) : Type 0 where
  pub last : Packed (drop (before (length name)) name) x.last
  pub first : Eighth name 0 x.first
  pub second : Eighth name 8 x.second
  pub third : Eighth name 16 x.third

-- r says of the name whose words these are, if it has n bytes, whether they stand in the table
pub record Spelled (table : List ℕ) (at n : ℕ) (x : Words) (r : Bool) : Type 0 where
  pub tells : (name : List ℕ) → length name ≡ n → Worded name x → r ≡ same (take n (drop at table)) name
