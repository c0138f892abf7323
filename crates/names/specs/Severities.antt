-- The severity words (action.rs, and the ModSecurity Reference Manual).
use Rattle.std.specs.Prelude.{ℕ, List, [], ◌∷◌, Option}
use Rattle.ascii.specs.Fold.{lowered}
use Rattle.names.specs.Tables.{Row, row, find}

-- the words of parse_severity, with their numbers
unfoldable pub severities : List Row
severities =
    row "emergency" 0 ∷
    row "alert" 1 ∷
    row "critical" 2 ∷
    row "error" 3 ∷
    row "warning" 4 ∷
    row "notice" 5 ∷
    row "info" 6 ∷
    row "debug" 7 ∷
    []

-- parse_severity where no number was read: letter case ignored, in ASCII as all input is
unfoldable pub severity_code : List ℕ → Option ℕ
severity_code word = find severities (lowered word)
