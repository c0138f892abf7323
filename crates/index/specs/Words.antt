-- The index as words: a count, then id and line of each rule by turns, and zeros beyond.
use Rattle.std.specs.Prelude.{◌≡◌, ℕ, zero, suc, ◌+◌, ◌-◌, ◌*◌, ◌/◌, ◌≤◌, ◌<◌, Bool, true, List, [], ◌∷◌, length, drop, get_or, eqb, leb}
use Rattle.ascii.specs.Choice.{and}
use Rattle.lent.specs.Buffers.{padded}
use Rattle.index.specs.Standing.{Rule, from}

unfoldable pub pairs : List Rule → List ℕ
pairs [] = []
pairs (x ∷ r) = x.id ∷ x.line ∷ pairs r

-- The index of these rules in n words.
unfoldable pub laid : ℕ → List Rule → List ℕ
laid n rs = padded n (length rs ∷ pairs rs)

-- how many rules n words have a place for: the whole pairs behind the first word
unfoldable pub places_in : ℕ → ℕ
places_in n = (n - 1) / 2

-- so many rules, out of the words
unfoldable pub rules_of : ℕ → List ℕ → List Rule
rules_of zero w = []
rules_of (suc n) w = record { id = get_or w 0 0; line = get_or w 1 0 } ∷ rules_of n (drop 2 w)

abbrev pub count_of : List ℕ → ℕ
count_of s = get_or s 0 0

unfoldable pub rules_in : List ℕ → List Rule
rules_in s = rules_of (count_of s) (drop 1 s)

unfoldable pub all_zero : List ℕ → Bool
all_zero [] = true
all_zero (w ∷ r) = and (eqb w 0) (all_zero r)

-- Whether words are an index: there is a count, no more than the places, ids ascend strictly, and all beyond is 0.
unfoldable pub sound : List ℕ → Bool
sound s =
    and (leb 1 (length s))
    (and (leb (count_of s) (places_in (length s)))
    (and (from 0 (rules_in s))
    (all_zero (drop (1 + count_of s * 2) s))))

-- Document 02's words for it: what an index is, word by word.
pub record Index (s : List ℕ) : Type 0 where
  pub some : 1 ≤ length s
  pub fits : count_of s ≤ places_in (length s)
  pub ascends : (i : ℕ) → suc i < count_of s → get_or s (1 + i * 2) 0 < get_or s (3 + i * 2) 0
  pub beyond : (i : ℕ) → 1 + count_of s * 2 ≤ i → get_or s i 0 ≡ 0
