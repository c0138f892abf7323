-- What a call tells of what it underlines, from what holds of its definition: 1 to 3 come first, then refusals, and 4 last.
use Rattle.lent.specs.declared.gating.GateError.TheVariants.{TooLong, Short, NotAscii}
use Rattle.lent.specs.declared.gating.GateError.{GateError}
use Rattle.std.specs.Prelude.{Result, Ok, Err}
use mathlib.Core.Path.{◌≡◌, ap}
use mathlib.Core.Bool.{Bool, true, false}
use mathlib.Core.List.{List, [], ◌∷◌}
use Prim.Native.Nat.{ℕ, ◌+◌, ◌≤◌, min}
use native.Mathlib.Omega.{arith}
use lib.ListN.{length}
use lib.Dec.{ltb}
use Rattle.ascii.specs.Choice.{pick}
use Rattle.lent.specs.Sizes.{variable_words, action_words, room_for}
use Rattle.lent.specs.Buffers.{padded}
use Rattle.lent.specs.Sources.{Sourced}
use Rattle.lent.specs.Gates.{gate_of}
use Rattle.lent.specs.Table.{Given, given, no_room, no_variable, named, Outcome, refuses, reads, past_gate, Filled, given_by, records_by}
use Rattle.single_action.specs.Actions.{Action}
use Rattle.actions.specs.Normal.{normalised}
use Rattle.actions.specs.Lists.{actions_of}
use Rattle.actions.specs.Promises as Actions
use Rattle.actions.specs.declared.Read.{Read as ActionsRead}
use Rattle.actions.specs.declared.ActionsError.{ActionsError}
use Rattle.variables.specs.declared.Read.{Read as VariablesRead}
use Rattle.variables.specs.declared.VariablesError.{VariablesError}
use Rattle.directives.specs.declared.Read.{Read as DirectivesRead}
use Rattle.directives.specs.declared.DirectivesError.{DirectivesError}
use Rattle.variables.specs.Parts.{pieces}
use Rattle.variables.specs.Variables as Of
use Rattle.variables.specs.Promises as Targets
use Rattle.variables.specs.declared.singles.Exclusions.{Exclusions}
use Rattle.variables.specs.declared.singles.Exclusions.TheVariants.{AsWritten, LookedUp}
use Rattle.directives.specs.Directives as Whole
use Rattle.directives.specs.Versions.{directives_for}
use Rattle.directives.specs.Table as Rows
use Rattle.directives.specs.Promises as Package
use Rattle.demands.specs.Calls as Called
use Rattle.demands.specs.Calls.{Lent, Left, parse_actions_promise, parse_variables_promise, parse_update_targets_promise, directives_promise}
use Rattle.demands.specs.Underline.{whole, as_they_are, ActionsThere, TargetsThere, PackageIn, Tells, gated, crowded, refused_there, read_there, ActionsTold, TargetsTold, PackageTold}

-- ---- any call

numbered : {g : Given} (n : ℕ) (vs : List ℕ) → g ≡ given n vs → g.number ≡ n
numbered n vs e = ap (λ (g : Given). g.number) e

module _ {R A : Type 0} {F : R → Type 0} {told : R → Given} {P Kept : A → Type 0} {g : Given} where
  low : (n : ℕ) (vs : List ℕ) → g ≡ given n vs → 1 ≤ n → n ≤ 3 → Tells F told P Kept g
  low n vs e a b = let h = numbered n vs e in gated (omega arith) (omega arith)

  past : (records records' : List ℕ) (gate : Result Unit GateError) (o : Outcome Filled) → g ≡ given_by (past_gate gate o) → records' ≡ records_by (past_gate gate o) records
      → (g ≡ given_by o → records' ≡ records_by o records → Tells F told P Kept g) → Tells F told P Kept g
  past records records' (Ok tt) o e w go = go e w
  past records records' (Err TooLong) o e w go = low 1 _ e (omega arith) (omega arith)
  past records records' (Err (NotAscii place)) o e w go = low 2 _ e (omega arith) (omega arith)
  past records records' (Err Short) o e w go = low 3 _ e (omega arith) (omega arith)

  room : (records records' : List ℕ) (t : Bool) (n : ℕ) (f : Filled) (x : A) → P x → (records' ≡ padded (length records) f.words → Kept x)
      → g ≡ given_by (pick t (refuses (no_room n)) (reads f)) → records' ≡ records_by (pick t (refuses (no_room n)) (reads f)) records → Tells F told P Kept g
  room records records' true n f x p k e w = crowded (numbered 4 _ e)
  room records records' false n f x p k e w = read_there x p (numbered 0 _ e) (k w)

-- ---- a list of actions

module _ (i : Lent × List ℕ) (o : Left (Result ActionsRead ActionsError) × List ℕ) where
  listed : (x : Outcome (List (Sourced Action))) → ActionsThere normalised i.0.input (whole i.0.input) x
      → Actions.answer_given o.0.answer ≡ given_by (Actions.roomed (length i.0.records) x)
      → o.0.records ≡ records_by (Actions.roomed (length i.0.records) x) i.0.records → ActionsTold i o
  listed (refuses f) h e w = refused_there f h e
  listed (reads xs) h e w = room i.0.records o.0.records (ltb (room_for action_words (length i.0.records)) (length xs)) (length xs) (Actions.laid_out xs) xs h (λ k. k) e w

  pub actions_told : parse_actions_promise i o → ActionsThere normalised i.0.input (whole i.0.input) (actions_of i.0.input) → ActionsTold i o
  unfolding Actions.actions_outcome
  actions_told p h = past i.0.records o.0.records (Actions.actions_gate i.0.input (length i.0.text) (length i.1)) _ p.answer p.words (listed (actions_of i.0.input) h)

-- ---- a list of variables

module _ (n : Exclusions) (i : Lent) (o : Left (Result VariablesRead VariablesError)) where
  abbrev There : Of.Targets → Type 0
  There x = TargetsThere as_they_are i.input (whole i.input) n x

  abbrev Telling : Outcome Filled → Type 0
  Telling x = Targets.answer_given o.answer ≡ given_by x → o.records ≡ records_by x i.records → TargetsTold n i o

  spread : (vs : List (Sourced Of.Variable)) (es : List (Sourced (List ℕ))) → There (Of.targets vs es) → Telling (Targets.roomed (length i.records) vs es)
  spread vs es h =
      room i.records o.records (ltb (room_for variable_words (length i.records)) (length vs + length es)) (length vs + length es) (Targets.laid_out vs es) (vs, es) h (λ k. k)

  updated : (x : Of.Targets) → There x → Telling (Targets.updated (length i.records) x)
  updated (Of.targets vs es) h = spread vs es h
  updated (Of.refused k name x) h = λ e w. refused_there (named no_variable k name x) h e

  hung : (x : Of.Targets) → There x → Telling (Targets.hung (length i.records) x)
  hung (Of.targets [] es) h = spread [] [] (tt, tt)
  hung (Of.targets (v ∷ vs) es) h = spread (v ∷ vs) es h
  hung (Of.refused k name x) h = λ e w. refused_there (named no_variable k name x) h e

pub variables_told : (i : Lent) (o : Left (Result VariablesRead VariablesError)) → parse_variables_promise i o → There AsWritten i o (Of.read_all Of.as_written (pieces i.input)) → TargetsTold AsWritten i o
unfolding Targets.variables_outcome
variables_told i o p h = past i.records o.records (gate_of i.input (length i.text) (length i.input)) _ p.answer p.words (hung AsWritten i o (Of.read_all Of.as_written (pieces i.input)) h)

pub update_targets_told : (i : Lent) (o : Left (Result VariablesRead VariablesError)) → parse_update_targets_promise i o → There LookedUp i o (Of.read_all Of.looked_up (pieces i.input)) → TargetsTold LookedUp i o
unfolding Targets.update_outcome
update_targets_told i o p h = past i.records o.records (gate_of i.input (length i.text) (length i.input)) _ p.answer p.words (updated LookedUp i o (Of.read_all Of.looked_up (pieces i.input)) h)

-- ---- a package

module _ (i : Called.Package) (o : (Result DirectivesRead DirectivesError) × Package.Lent) where
  abbrev Told : Rows.Outcome → Type 0
  Told x =
      Package.answer_given o.0 ≡ Rows.given_by x → o.1.variables ≡ Rows.records_by (λ (f : Rows.Filled). f.variables) x i.lent.variables
      → o.1.actions ≡ Rows.records_by (λ (f : Rows.Filled). f.actions) x i.lent.actions → PackageTold i o

  full : (t : Bool) (ds : List Whole.Directive) → PackageIn i.input (Ok ds) → (d v a : ℕ)
      → Told (pick t (Rows.overfull d v a) (Rows.filled (Package.laid_out ds)))
  full true ds h d v a e l k = crowded (numbered 4 _ e)
  full false ds h d v a e l k = read_there ds h (numbered 0 _ e) (l, k)

  packed : (gate : Result Unit GateError) (x : Result (List Whole.Directive) Whole.Fault) → PackageIn i.input x → Told (Rows.past_gate gate (Package.roomed (Package.rooms_of i.lent) x))
  packed (Ok tt) (Err f) h e l k = refused_there f h e
  packed (Ok tt) (Ok ds) h e l k = full (Package.lacks (Package.rooms_of i.lent) ds) ds h _ _ _ e l k
  packed (Err TooLong) x h e l k = low 1 _ e (omega arith) (omega arith)
  packed (Err (NotAscii place)) x h e l k = low 2 _ e (omega arith) (omega arith)
  packed (Err Short) x h e l k = low 3 _ e (omega arith) (omega arith)

  pub directives_told : directives_promise i o → PackageIn i.input (directives_for i.version i.input) → PackageTold i o
  unfolding Package.directives_outcome
  directives_told p h =
      packed (gate_of i.input (min (length i.lent.text) (length i.lent.scratch)) (length i.input)) (directives_for i.version i.input) h p.answer p.variables p.actions
