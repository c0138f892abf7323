-- Packages before and after 2.7 (document 02, M-108): which rule must have an id, and a text's directives for a version.
use Rattle.std.specs.Prelude.{ℕ, Bool, true, false, not, List, [], ◌∷◌, Result, Ok, Err}
use Rattle.ascii.specs.Choice.{pick, and}
use Rattle.lexer.specs.Tokens.{reading}
use Rattle.records.specs.Codes.{id_code, chain_code}
use Rattle.actions.specs.Having.{has}
use Rattle.directives.specs.Groups.{items}
use Rattle.directives.specs.Directives.{Body, rule, act, marker, defaults, unknown, Directive, id_missing, over, directives, Fault}
use Rattle.directives.specs.Layout.{actions_in}
pub use Rattle.directives.specs.declared.Version.{Version}
pub use Rattle.directives.specs.declared.Version.TheVariants.{TwoSix, TwoSeven}

-- ---- rules

-- A rule is a SecRule or a SecAction.
abbrev pub is_rule : Body → Bool
is_rule (rule vs o xs) = true
is_rule (act xs) = true
is_rule (marker m) = false
is_rule (defaults xs) = false
is_rule (unknown n) = false

-- Whether the next rule continues one: behind a rule if that has `chain`, behind any other directive as before it.
abbrev pub chained_on : Bool → Body → Bool
chained_on chained x = pick (is_rule x) (has chain_code (actions_in x)) chained

-- A rule that continues none and has no id.
abbrev pub lacks_id : Bool → Body → Bool
lacks_id chained x = and (is_rule x) (and (not chained) (not (has id_code (actions_in x))))

-- ---- directives asked for their ids

-- In order, before an answer o: the first that lacks one is the answer.
unfoldable pub asked : {A : Type 0} → Bool → List Directive → Result A Fault → Result A Fault
asked chained [] o = o
asked chained (d ∷ ds) o = pick (lacks_id chained d.body) (Err (id_missing d.line)) (asked (chained_on chained d.body) ds o)

-- Only from 2.7 on.
abbrev pub asked_for : {A : Type 0} → Version → Bool → List Directive → Result A Fault → Result A Fault
asked_for TwoSix chained ds o = o
asked_for TwoSeven chained ds o = asked chained ds o

-- ---- a whole text

-- A directive before the directives behind it: a fault cuts them off.
abbrev pub lead_by : Result Directive Fault → List Directive → List Directive
lead_by (Err f) ds = []
lead_by (Ok d) ds = d ∷ ds

-- The directives before the first fault.
unfoldable pub leading : List ℕ → List Directive
leading s = over lead_by s [] (items false (reading s).tokens)

-- The directives of a text for a version, or its first fault.
-- An id is asked for with its directive, in text order: behind that directive's own faults,
-- and before those of what follows and before 15.
unfoldable pub directives_for : Version → List ℕ → Result (List Directive) Fault
directives_for v s = asked_for v false (leading s) (directives s)
