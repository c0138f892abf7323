-- The number and the value of each answer.
use Rattle.std.specs.Prelude.{ℕ, [], ◌∷◌, Result, Ok, Err}
use Rattle.lent.specs.Table.{Given, given}
use Rattle.spans.specs.Conversion.{TooFar}

abbrev pub answer_given : Result ℕ TooFar → Given
answer_given (Ok w) = given 0 (w ∷ [])
answer_given (Err e) = given 21 (0 ∷ [])
