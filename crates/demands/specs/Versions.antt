-- The demand of M-108, packages before and after 2.7. A rule is a SecRule or a SecAction; it continues the rule before it, whatever other
-- directives stand between, if that has `chain`. For 2.7 a rule that continues none must have an id.
-- Once over both: unless a call for 2.7 gives 18, it gives and leaves what a call for 2.6 does; so a package that is accepted for 2.7 is
-- accepted for 2.6 with equal records.
use Rattle.std.specs.Prelude.{◌≡◌, ◌↔◌, ◌⊎◌, true, false, List, [], ◌∷◌, ℕ, length, Ok, Err, Result}
use Rattle.lent.specs.Table.{given}
use Rattle.lent.specs.Admission.{Opened}
use Rattle.directives.specs.Directives.{Directive, id_missing, directives}
use Rattle.directives.specs.declared.Version.{Version}
use Rattle.directives.specs.declared.Version.TheVariants.{TwoSix, TwoSeven}
use Rattle.directives.specs.Versions.{directives_for}
use Rattle.directives.specs.Promises.{Lent, answer_given}
use Rattle.directives.specs.Calls.{FirstMissing, items_of}
use Rattle.directives.specs.declared.Read.{Read as DirectivesRead}
use Rattle.directives.specs.declared.DirectivesError.{DirectivesError}
use Rattle.seclang.specs.Codes.{version_of}
use Rattle.demands.specs.Calls.{package_of, directives_promise}
use Rattle.demands.specs.DirectiveRows.{all_zero}
use Rattle.demands.specs.Library.{With, fills_directives_promise}
use Rattle.demands.specs.WholeDirectives.{least}

-- In text order the first item with a fault is a rule that continues none and has no id: all before it are good, and have theirs.
abbrev pub MissingAt : List ℕ → ℕ → Type 0
MissingAt s l = FirstMissing s (items_of s) l

pub record Versions : Type 0 where
  -- ---- over the definitions
  pub older : (s : List ℕ) → directives_for TwoSix s ≡ directives s
  pub unless_missing : (v : Version) (s : List ℕ) → ((l : ℕ) × (directives_for v s ≡ Err (id_missing l))) ⊎ (directives_for v s ≡ directives_for TwoSix s)
  pub accepted : (s : List ℕ) (ds : List Directive) → directives_for TwoSeven s ≡ Ok ds → directives_for TwoSix s ≡ Ok ds
  pub exactly : (s : List ℕ) (l : ℕ) → (directives_for TwoSeven s ≡ Err (id_missing l)) ↔ MissingAt s l
  -- ---- over the promise of `directives`: two calls on the same package and the same memory
  pub same : (s : List ℕ) (m : Lent) (old new : (Result DirectivesRead DirectivesError) × Lent) → directives_promise (package_of s TwoSix m) old → directives_promise (package_of s TwoSeven m) new
      → ((answer_given new.0).number ≡ 18 → ⊥) → old ≡ new
  pub accepted_same : (s : List ℕ) (m : Lent) (old new : (Result DirectivesRead DirectivesError) × Lent) → directives_promise (package_of s TwoSix m) old → directives_promise (package_of s TwoSeven m) new
      → (answer_given new.0).number ≡ 0 → old ≡ new
  -- 18, exactly when; with the line, and all lent memory zero; and never for 2.6
  pub missing : (s : List ℕ) (m : Lent) (new : (Result DirectivesRead DirectivesError) × Lent) → directives_promise (package_of s TwoSeven m) new
      → ((answer_given new.0).number ≡ 18) ↔ (Opened s (least m) (length s) × ((l : ℕ) × MissingAt s l))
  pub told : (s : List ℕ) (m : Lent) (new : (Result DirectivesRead DirectivesError) × Lent) → directives_promise (package_of s TwoSeven m) new → Opened s (least m) (length s)
      → (l : ℕ) → MissingAt s l → (answer_given new.0 ≡ given 18 (l ∷ [])) × (new.1 ≡ all_zero m)
  pub never : (s : List ℕ) (m : Lent) (old : (Result DirectivesRead DirectivesError) × Lent) → directives_promise (package_of s TwoSix m) old → (answer_given old.0).number ≡ 18 → ⊥
  -- ---- in C: the number, all lent memory and the words for values
  pub same_in_c : (s : List ℕ) (m : Lent) (values : List ℕ) (old new : With (ℕ × Lent))
      → fills_directives_promise (package_of s (version_of false) m, values) old → fills_directives_promise (package_of s (version_of true) m, values) new
      → (new.0.0 ≡ 18 → ⊥) → old ≡ new
