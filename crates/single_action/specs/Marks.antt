-- Quotation marks, and texts without those at their ends.
use Rattle.std.specs.Prelude.{ℕ, ◌-◌, Bool, false, List, length, take, drop, get_or, leb, eqb}
use Rattle.ascii.specs.Choice.{pick, and, or}
use Rattle.ascii.specs.Trim.{strip_ends}

-- Either quotation mark.
unfoldable pub quotation : ℕ → Bool
quotation b = or (eqb b 34) (eqb b 39)

-- Without all quotation marks at both ends: the `trim_matches` of parse_single_action.
abbrev pub stripped : List ℕ → List ℕ
stripped = strip_ends quotation

-- It begins with a mark and ends with the same one: the first test of parse_setvar.
unfoldable pub paired : List ℕ → Bool
paired s = pick (leb 2 (length s)) (and (quotation (get_or s 0 0)) (eqb (get_or s (length s - 1) 0) (get_or s 0 0))) false

-- One matching pair of marks dropped.
unfoldable pub unpaired : List ℕ → List ℕ
unpaired s = pick (paired s) (take (length s - 2) (drop 1 s)) s
