-- Graded records, worked: every edge of the grade, with phase 5 of document 02's M-101.
use Rattle.std.specs.Prelude.{◌≡◌, refl, ℕ, ◌^◌, ◌-◌, Bool, true, false, List, [], ◌∷◌, map}
use Rattle.lent.specs.Sizes.{room_for}
use Rattle.rules.specs.Entries.{Entry, entries_of, entries, id_code, phase_code, severity_code, maturity_code, accuracy_code}
use Rattle.rules.specs.Grades.{fine, all_fine, ids, grades}

-- an action's code and number
abbrev numbered : ℕ → ℕ → Entry
numbered code n = record { code = code; number = n }

-- The grades of actions that stand alone, one for each number.
unfoldable pub Alone : ℕ → List ℕ → List Bool → Type 0
unfolding fine all_fine ids grades
Alone code ns gs = map (λ (n : ℕ). grades (numbered code n ∷ [])) ns ≡ gs

-- M-101: phases 1 to 5, and no other that a record can have
pub phases : Alone phase_code (0 ∷ 1 ∷ 4 ∷ 5 ∷ 6 ∷ 100 ∷ 255 ∷ (2 ^ 64 - 1) ∷ []) (false ∷ true ∷ true ∷ true ∷ false ∷ false ∷ false ∷ false ∷ [])
unfolding Alone
phases = refl

pub lone_ids : Alone id_code (0 ∷ 1 ∷ (2 ^ 64 - 1) ∷ []) (false ∷ true ∷ true ∷ [])
unfolding Alone
lone_ids = refl

pub severities : Alone severity_code (0 ∷ 7 ∷ 8 ∷ []) (true ∷ true ∷ false ∷ [])
unfolding Alone
severities = refl

pub maturities : Alone maturity_code (0 ∷ 1 ∷ 9 ∷ 10 ∷ []) (false ∷ true ∷ true ∷ false ∷ [])
unfolding Alone
maturities = refl

pub accuracies : Alone accuracy_code (0 ∷ 1 ∷ 9 ∷ 10 ∷ []) (false ∷ true ∷ true ∷ false ∷ [])
unfolding Alone
accuracies = refl

-- The grade of words as they are lent.
unfoldable pub Graded : List ℕ → Bool → Type 0
unfolding Alone room_for entries_of entries
Graded words g = grades (entries words) ≡ g

-- `phase:5`, `phase:100`
pub logging : Graded (12 ∷ 5 ∷ 0 ∷ 0 ∷ 0 ∷ 0 ∷ 0 ∷ []) true
unfolding Graded
logging = refl

pub past_logging : Graded (12 ∷ 100 ∷ 0 ∷ 0 ∷ 0 ∷ 0 ∷ 0 ∷ []) false
unfolding Graded
past_logging = refl

-- `phase:5,phase:6`: every phase counts, and not the first alone
pub later_phase : Graded (12 ∷ 5 ∷ 0 ∷ 0 ∷ 0 ∷ 0 ∷ 9 ∷ 12 ∷ 6 ∷ 0 ∷ 0 ∷ 0 ∷ 0 ∷ 9 ∷ []) false
unfolding Graded
later_phase = refl

-- `id:1,id:1`: one id at most
pub two_ids : Graded (11 ∷ 1 ∷ 0 ∷ 0 ∷ 0 ∷ 0 ∷ 9 ∷ 11 ∷ 1 ∷ 0 ∷ 0 ∷ 0 ∷ 0 ∷ 9 ∷ []) false
unfolding Graded
two_ids = refl

-- nothing at all, and words that are no whole record
pub nothing : Graded [] true
unfolding Graded
nothing = refl

pub left_over : Graded (12 ∷ 0 ∷ 0 ∷ 0 ∷ 0 ∷ 0 ∷ []) true
unfolding Graded
left_over = refl
