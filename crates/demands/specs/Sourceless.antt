-- The Rust's loops over the pieces of a list, by the pieces' texts alone: they know of no places. Demand 2 holds against them all that a
-- call gives but what M-104 added, the last word of a record and the last value of a refusal.
use Rattle.std.specs.Prelude.{ℕ, suc, List, [], ◌∷◌, map, eqb, Option, Some, None}
use Rattle.ascii.specs.Choice.{pick}
use Rattle.ascii.specs.Trim.{trim_ends}
use Rattle.lent.specs.Sources.{Part, part, Sourced}
use Rattle.lent.specs.Table.{unknown_action, bad_argument, resited, Outcome, refuses, reads}
use Rattle.names.specs.Variables.{variable_code}
use Rattle.single_action.specs.Actions.{Action, Single, done, bad, unknown, single}
use Rattle.actions.specs.Pieces.{outside, parts_from}
use Rattle.variables.specs.Parts.{cut, Piece}
use Rattle.variables.specs.Variables as Of
use Rattle.variables.specs.declared.singles.Exclusions.{Exclusions}
use Rattle.variables.specs.declared.singles.Exclusions.TheVariants.{AsWritten, LookedUp}

-- ---- pieces

-- Parts trimmed, empty ones gone.
abbrev pub kept_text : List ℕ → List (List ℕ) → List (List ℕ)
kept_text [] ps = ps
kept_text (b ∷ p) ps = (b ∷ p) ∷ ps

unfoldable pub texts_in : List (List ℕ) → List (List ℕ)
texts_in [] = []
texts_in (p ∷ ps) = kept_text (trim_ends p) (texts_in ps)

-- Of a normalised list of actions, cut at its commas; and of a list of variables, cut at its bars.
abbrev pub action_texts : List ℕ → List (List ℕ)
action_texts s = texts_in (parts_from outside s)

abbrev pub variable_texts : List ℕ → List (List ℕ)
variable_texts s = texts_in (cut s)

-- ---- what was read, without where

abbrev pub things : {A : Type 0} → List (Sourced A) → List A
things {A} = map (λ (x : Sourced A). x.thing)

abbrev pub sources : {A : Type 0} → List (Sourced A) → List Part
sources {A} = map (λ (x : Sourced A). x.source)

abbrev pub nowhere : Part → Part
nowhere x = part 0 0

abbrev pub bare : {A : Type 0} → Outcome (List (Sourced A)) → Outcome (List A)
bare (refuses f) = refuses (resited nowhere f)
bare (reads xs) = reads (things xs)

-- ---- actions: the loop of parse_actions, with its `?`

abbrev pub action_before : Action → Outcome (List Action) → Outcome (List Action)
action_before x (refuses f) = refuses f
action_before x (reads xs) = reads (x ∷ xs)

abbrev pub single_before : ℕ → Single → Outcome (List Action) → Outcome (List Action)
single_before k (done x) o = action_before x o
single_before k (bad flaw name) o = refuses (bad_argument flaw k name (part 0 0))
single_before k (unknown name) o = refuses (unknown_action k name (part 0 0))

unfoldable pub rust_actions : ℕ → List (List ℕ) → Outcome (List Action)
rust_actions k [] = reads []
rust_actions k (p ∷ ps) = single_before k (single p) (rust_actions (suc k) ps)

-- ---- variables: the loops of parse_variables and parse_update_targets

pub data Targets : Type 0 where
  targets : List Of.Variable → List (List ℕ) → Targets
  refused : ℕ → List ℕ → Targets

abbrev pub bare_targets : Of.Targets → Targets
bare_targets (Of.targets vs es) = targets (things vs) (things es)
bare_targets (Of.refused i name x) = refused i name

abbrev pub variable_before : Of.Single → Targets → Targets
variable_before (Of.variable v) (targets vs es) = targets (v ∷ vs) es
variable_before (Of.variable v) (refused i n) = refused (suc i) n
variable_before (Of.unknown n) (targets vs es) = refused 0 n
variable_before (Of.unknown n) (refused i m) = refused 0 n

abbrev pub exclusion_before : List ℕ → Targets → Targets
exclusion_before e (targets vs es) = targets vs (e ∷ es)
exclusion_before e (refused i n) = refused (suc i) n

abbrev pub known_before : Option ℕ → List ℕ → Targets → Targets
known_before (Some c) n ts = ts
known_before None n ts = refused 0 n

abbrev pub marked_before : Exclusions → List ℕ → Targets → Targets
marked_before AsWritten e ts = exclusion_before e ts
marked_before LookedUp e ts = known_before (variable_code (Of.front_of (Of.at_colon e))) (Of.front_of (Of.at_colon e)) (exclusion_before e ts)

abbrev pub piece_before : Exclusions → List ℕ → Targets → Targets
piece_before n [] ts = variable_before (Of.single []) ts
piece_before n (b ∷ r) ts = pick (eqb b 33) (marked_before n r ts) (variable_before (Of.single (b ∷ r)) ts)

unfoldable pub rust_targets : Exclusions → List (List ℕ) → Targets
rust_targets n [] = targets [] []
rust_targets n (p ∷ ps) = piece_before n p (rust_targets n ps)

-- ---- where: the pieces' places, those with `!` and those without

-- One or the other, by whether a piece starts with `!`.
abbrev pub by_mark : List ℕ → List Part → List Part → List Part
by_mark [] plain marked = plain
by_mark (b ∷ r) plain marked = pick (eqb b 33) marked plain

unfoldable pub variable_places : List Piece → List Part
variable_places [] = []
variable_places (p ∷ ps) = by_mark p.text (p.place ∷ variable_places ps) (variable_places ps)

unfoldable pub exclusion_places : List Piece → List Part
exclusion_places [] = []
exclusion_places (p ∷ ps) = by_mark p.text (exclusion_places ps) (p.place ∷ exclusion_places ps)
