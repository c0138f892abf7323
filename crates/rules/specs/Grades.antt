-- The house grade (document 01, module 6; phase 5 by document 02, M-101), which the Rust has not.
use Rattle.std.specs.Prelude.{◌≡◌, ℕ, ◌+◌, ◌≤◌, Bool, true, List, [], ◌∷◌, eqb, leb}
use Rattle.ascii.specs.Choice.{pick, and}
use Rattle.rules.specs.Entries.{Entry, id_code, phase_code, severity_code, maturity_code, accuracy_code}

abbrev pub between : ℕ → ℕ → ℕ → Bool
between least most n = and (leb least n) (leb n most)

-- what the house asks of an action's number: ids 1 or more, phases 1 to 5, severities at most 7, maturity and accuracy 1 to 9
unfoldable pub fine : ℕ → ℕ → Bool
fine code n =
    pick (eqb code id_code) (leb 1 n)
    (pick (eqb code phase_code) (between 1 5 n)
    (pick (eqb code severity_code) (leb n 7)
    (pick (eqb code maturity_code) (between 1 9 n)
    (pick (eqb code accuracy_code) (between 1 9 n)
    true))))

unfoldable pub all_fine : List Entry → Bool
all_fine [] = true
all_fine (e ∷ r) = and (fine e.code e.number) (all_fine r)

-- how many ids there are
unfoldable pub ids : List Entry → ℕ
ids [] = 0
ids (e ∷ r) = pick (eqb e.code id_code) 1 0 + ids r

-- The house grade: every number is fine, and there is at most one id.
unfoldable pub grades : List Entry → Bool
grades es = and (all_fine es) (leb (ids es) 1)

-- The documents' words for it: what is asked of one action, by its code. Phases are the manual's five, of which the last is logging.
pub record Asked (e : Entry) : Type 0 where
  pub id : e.code ≡ id_code → 1 ≤ e.number
  pub phase : e.code ≡ phase_code → (1 ≤ e.number) × (e.number ≤ 5)
  pub severity : e.code ≡ severity_code → e.number ≤ 7
  pub maturity : e.code ≡ maturity_code → (1 ≤ e.number) × (e.number ≤ 9)
  pub accuracy : e.code ≡ accuracy_code → (1 ≤ e.number) × (e.number ≤ 9)

pub data Every (P : Entry → Type 0) : List Entry → Type 0 where
  none : Every P []
  more : {e : Entry} {r : List Entry} → P e → Every P r → Every P (e ∷ r)

-- A list passes with at most one id, and with what is asked of every action.
pub record Passes (es : List Entry) : Type 0 where
  pub one_id : ids es ≤ 1
  pub each : Every Asked es
