-- What reads come to.
use Rattle.std.specs.Prelude.{◌≡◌, ℕ, zero, suc, ◌≤◌, ◌<◌, min, Option, Some, None, Result, Ok, Err}

-- So many more bytes, or the input's end.
abbrev pub counted : ℕ → Option ℕ
counted zero = None
counted (suc n) = Some (suc n)

module _ {E : Type 0} where
  -- An answer of `read` into room for so many bytes: a failure stays the failure that it was.
  abbrev pub took_of : Result ℕ E → ℕ → Result (Option ℕ) E
  took_of (Ok n) most = Ok (counted (min n most))
  took_of (Err e) most = Err e

  -- More bytes are one or more, and fit.
  abbrev pub Fits : ℕ → Result (Option ℕ) E → Type 0
  Fits most (Ok None) = Unit {0}
  Fits most (Ok (Some n)) = (0 < n) × (n ≤ most)
  Fits most (Err e) = Unit {0}

  pub record Told (got : Result ℕ E) (most : ℕ) (r : Result (Option ℕ) E) : Type 0 where
    pub answer : r ≡ took_of got most
    pub fits : Fits most r

  -- What was read fits the buffer that it was read into.
  abbrev pub Within : ℕ → Result ℕ E → Type 0
  Within most (Ok n) = n ≤ most
  Within most (Err e) = Unit {0}
