-- The demand of whole directives (document 02, M-100, for each of M-108's versions). Directives, records and the first fault in text order
-- are what the definitions say, and each number is given exactly when document 02 says so. And for a text cut as in demand 3, whose line
-- is blank (spaces, tabs, CRs) or blanks and then a comment: another such line in its place changes no number, value, line, text or word
-- but spans in the input; of a refusal, nothing but the span.
use Rattle.std.specs.Prelude.{◌≡◌, List, ◌++◌, ◌⊎◌, ℕ, ◌≤◌, ◌<◌, min, length, Result}
use Rattle.lent.specs.Sizes.{directive_words, variable_words, action_words, room_for}
use Rattle.lent.specs.Table.{Given, no_action, no_argument, no_variable}
use Rattle.lent.specs.Admission.{Opened}
use Rattle.lent.specs.declared.refusing.Flaw.TheVariants as Flaw
use Rattle.lexer.specs.Parts.{Closed}
use Rattle.directives.specs.Directives.{Directive, wrong_count, untaken}
use Rattle.directives.specs.declared.Version.{Version}
use Rattle.directives.specs.Versions.{directives_for}
use Rattle.directives.specs.Layout.{listed_counts, action_counts}
use Rattle.directives.specs.Table.{Outcome, given_by}
use Rattle.directives.specs.Promises.{Lent, rooms_of, roomed, left_by, answer_given}
use Rattle.directives.specs.Calls.{Lined, Named, Unoperated, Missing, Early, Faultless}
use Rattle.directives.specs.Parts.{Idle, Unmoved, Called, Alike, SameTold}
use Rattle.directives.specs.declared.Read.{Read as DirectivesRead}
use Rattle.directives.specs.declared.DirectivesError.{DirectivesError}
use Rattle.demands.specs.Calls.{Package, directives_promise}
use Rattle.demands.specs.Demand2.{ByGate, Past}

-- The shorter of the two byte buffers: each is asked to be as long as the text.
abbrev pub least : Lent → ℕ
least m = min (length m.text) (length m.scratch)

-- ---- what is given back and left

-- A number and values, and all lent memory, as an outcome of the definitions has them.
pub record Equals (o : Outcome) (g : Given) (m m' : Lent) : Type 0 where
  pub answer : g ≡ given_by o
  pub lent : m' ≡ left_by o m

-- ---- each number exactly when

-- More records are needed than one of the three buffers has room for; or not.
abbrev pub Crowded : Lent → List Directive → Type 0
Crowded m ds =
    (room_for directive_words (length m.directives) < length ds)
    ⊎ ((room_for variable_words (length m.variables) < listed_counts ds) ⊎ (room_for action_words (length m.actions) < action_counts ds))

abbrev pub Roomy : Lent → List Directive → Type 0
Roomy m ds =
    (length ds ≤ room_for directive_words (length m.directives))
    × ((listed_counts ds ≤ room_for variable_words (length m.variables)) × (action_counts ds ≤ room_for action_words (length m.actions)))

-- The first fault in text order.
pub record Faults (v : Version) (s : List ℕ) (m : Lent) (n : ℕ) : Type 0 where
  pub thirteen : Past s (least m) (length s) n 13 (Lined v s wrong_count)
  pub five : Past s (least m) (length s) n 5 (Named v s no_action)
  pub seven : Past s (least m) (length s) n 7 (Named v s no_variable)
  pub eight : Past s (least m) (length s) n 8 (Unoperated v s)
  pub ten : Past s (least m) (length s) n 10 (Named v s (no_argument Flaw.Absent))
  pub eleven : Past s (least m) (length s) n 11 (Named v s (no_argument Flaw.Unreadable))
  pub twelve : Past s (least m) (length s) n 12 (Named v s (no_argument Flaw.TooLarge))
  pub fourteen : Past s (least m) (length s) n 14 (Lined v s untaken)
  pub eighteen : Past s (least m) (length s) n 18 (Missing v s)

-- 15 comes behind all of them, and 4 last.
pub record Exact (v : Version) (s : List ℕ) (m : Lent) (n : ℕ) : Type 0 where
  pub gate : ByGate s (least m) (length s) n
  pub faults : Faults v s m n
  pub fifteen : Past s (least m) (length s) n 15 (Early v s)
  pub four : Past s (least m) (length s) n 4 (Faultless v s (Crowded m))
  pub zero : Past s (least m) (length s) n 0 (Faultless v s (Roomy m))

-- ---- the demand

pub record WholeDirectives : Type 0 where
  -- within the limit, in ASCII, and with byte buffers as long as asked, whatever the record buffers
  pub equal : (i : Package) (o : (Result DirectivesRead DirectivesError) × Lent) → directives_promise i o → Opened i.input (least i.lent) (length i.input)
      → Equals (roomed (rooms_of i.lent) (directives_for i.version i.input)) (answer_given o.0) i.lent o.1
  pub exact : (i : Package) (o : (Result DirectivesRead DirectivesError) × Lent) → directives_promise i o → Exact i.version i.input i.lent (answer_given o.0).number
  -- over the definitions: another blank or comment line in such a line's place
  pub replaced : (front line line' rest : List ℕ) → Closed front → Idle line → Idle line' → Unmoved front line line' rest
  -- over the promise of `directives`: what two calls tell, on buffers of the same lengths
  pub two_calls : (front line line' rest : List ℕ) → Closed front → Idle line → Idle line' → {v : Version} {m n : Lent} → Alike m n
      → (k : Called v (front ++ line ++ rest) m) (k' : Called v (front ++ line' ++ rest) n) → SameTold k k'
