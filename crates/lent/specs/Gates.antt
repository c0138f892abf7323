-- The gate: numbers 1, 2 and 3, tried in that order.
use Rattle.std.specs.Prelude.{ℕ, ◌+◌, max, List, [], ◌∷◌, length, leb, ltb, Result, Ok, Err}
use Rattle.ascii.specs.Choice.{pick}
use Rattle.lent.specs.Sizes.{limit}
use Rattle.lent.specs.declared.gating.GateError.{GateError}
use Rattle.lent.specs.declared.gating.GateError.TheVariants.{TooLong, NotAscii, Short}

-- the place of the first byte that is 128 or more, and the length where there is none
unfoldable pub first_high : List ℕ → ℕ
first_high [] = 0
first_high (b ∷ r) = pick (leb 128 b) 0 (1 + first_high r)

unfoldable pub highest : List ℕ → ℕ
highest [] = 0
highest (b ∷ r) = max b (highest r)

-- for an input, the length of the shortest buffer lent, and the length asked of it
unfoldable pub gate_of : List ℕ → ℕ → ℕ → Result Unit GateError
gate_of s lent asked =
    pick (ltb limit (length s)) (Err TooLong)
    (pick (ltb (first_high s) (length s)) (Err (NotAscii (first_high s)))
    (pick (ltb lent asked) (Err Short)
    (Ok tt)))
