-- When each answer of the gate is right, in plain words: what a reader of the demands takes 'within the limit', 'in ASCII' and
-- 'long enough' to mean.
use Rattle.std.specs.Prelude.{List, ℕ, ◌≤◌, ◌<◌, length, get_or}
use Rattle.lent.specs.Sizes.{limit}

-- every byte is below 128
abbrev pub Low : List ℕ → Type 0
Low s = (i : ℕ) → i < length s → get_or s i 0 < 128

-- the byte at p is 128 or more, and is the first such
pub record FirstAt (s : List ℕ) (p : ℕ) : Type 0 where
  pub inside : p < length s
  pub high : 128 ≤ get_or s p 0
  pub before : (i : ℕ) → i < p → get_or s i 0 < 128

-- of an input, the length of the shortest buffer lent, and the length asked of it
module _ (s : List ℕ) (lent asked : ℕ) where
  pub record Opened : Type 0 where
    pub within : length s ≤ limit
    pub ascii : Low s
    pub room : asked ≤ lent

  pub record Shortened : Type 0 where
    pub within : length s ≤ limit
    pub ascii : Low s
    pub less : lent < asked
