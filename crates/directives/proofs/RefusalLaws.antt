-- What each argument can be refused for, and so where its refused piece stands in the package.
use mathlib.Core.Path.{◌≡◌, refl, subst}
use Prim.Native.Nat.{ℕ}
use mathlib.Core.List.{List}
use lib.ListN.{length}
use Rattle.lent.specs.Sources.{Sourced}
use Rattle.lent.specs.Table.{Refusal, too_long, not_ascii, short_buffer, no_room, named, no_action, no_argument, no_variable, unknown_operator, bad_cursor, resited, Outcome, refuses, reads}
use Rattle.lexer.specs.Tokens.{Token}
use Rattle.variables.specs.Variables.{Targets, targets, refused as unlisted}
use Rattle.variables.specs.Steps.{targets_of}
use Rattle.variables.specs.declared.singles.Exclusions.TheVariants.{AsWritten}
use Rattle.operators.specs.Operators as Op
use Rattle.operators.specs.Promises.{outcome_of}
use Rattle.records.specs.Actions.{Action}
use Rattle.actions.specs.Normal.{normalised}
use Rattle.actions.specs.Pieces as Pieces
use Rattle.actions.proofs.CountLaws.{Counted, from_counted}
use Rattle.directives.specs.Directives.{listed_by, variables_read, operator_read, actions_read, Shape, argument_site, list_site, list_number, refusal_site}

abbrev pub OfVariable : Refusal → Type 0
OfVariable too_long = ⊥
OfVariable (not_ascii p) = ⊥
OfVariable short_buffer = ⊥
OfVariable (no_room n) = ⊥
OfVariable (named no_action p name x) = ⊥
OfVariable (named (no_argument flaw) p name x) = ⊥
OfVariable (named no_variable p name x) = Unit {0}
OfVariable (unknown_operator p n x) = ⊥
OfVariable bad_cursor = ⊥

abbrev pub OfOperator : Refusal → Type 0
OfOperator too_long = ⊥
OfOperator (not_ascii p) = ⊥
OfOperator short_buffer = ⊥
OfOperator (no_room n) = ⊥
OfOperator (named why p name x) = ⊥
OfOperator (unknown_operator p n x) = Unit {0}
OfOperator bad_cursor = ⊥

abbrev pub OfAction : Refusal → Type 0
OfAction too_long = ⊥
OfAction (not_ascii p) = ⊥
OfAction short_buffer = ⊥
OfAction (no_room n) = ⊥
OfAction (named no_action p name x) = Unit {0}
OfAction (named (no_argument flaw) p name x) = Unit {0}
OfAction (named no_variable p name x) = ⊥
OfAction (unknown_operator p n x) = ⊥
OfAction bad_cursor = ⊥

abbrev pub Only : {A : Type 0} → (Refusal → Type 0) → Outcome A → Type 0
Only P (refuses f) = P f
Only P (reads x) = Unit {0}

pub variable_only : (v : List ℕ) → Only OfVariable (variables_read v)
variable_only v = go (targets_of AsWritten v)
  where
    go : (ts : Targets) → Only OfVariable (listed_by ts)
    go (targets vs es) = tt
    go (unlisted i name x) = tt

pub operator_only : (o : List ℕ) → Only OfOperator (operator_read o)
operator_only o = go (Op.operator o)
  where
    go : (x : Op.Reading) → Only OfOperator (outcome_of o x)
    go (Op.accepted x) = tt
    go (Op.unknown name) = tt

pub action_only : (a : List ℕ) → Only OfAction (actions_read a)
action_only a = go (actions_read a) (from_counted 0 (Pieces.pieces (normalised a)))
  where
    go : (o : Outcome (List (Sourced Action))) → Counted 0 (length (Pieces.pieces (normalised a))) o → Only OfAction o
    go (reads xs) h = tt
    go (refuses too_long) h = h
    go (refuses (not_ascii p)) h = h
    go (refuses short_buffer) h = h
    go (refuses (no_room p)) h = h
    go (refuses (named no_action p name x)) h = tt
    go (refuses (named (no_argument flaw) p name x)) h = tt
    go (refuses (named no_variable p name x)) h = h
    go (refuses (unknown_operator p l x)) h = h
    go (refuses bad_cursor) h = h

pub only_so : {A : Type 0} (P : Refusal → Type 0) {o : Outcome A} {f : Refusal} → o ≡ refuses f → Only P o → P f
only_so {A} P e h = subst (Only {A = A} P) e h

module _ (s : List ℕ) (shape : Shape) (args : List Token) where
  abbrev pub there_in : Refusal → Refusal
  there_in f = resited (refusal_site s shape args f) f

  pub variable_there : (f : Refusal) → OfVariable f → there_in f ≡ resited (argument_site s 0 args) f
  variable_there too_long h = absurd h
  variable_there (not_ascii p) h = absurd h
  variable_there short_buffer h = absurd h
  variable_there (no_room n) h = absurd h
  variable_there (named no_action p name x) h = absurd h
  variable_there (named (no_argument flaw) p name x) h = absurd h
  variable_there (named no_variable p name x) h = refl
  variable_there (unknown_operator p n x) h = absurd h
  variable_there bad_cursor h = absurd h

  pub operator_there : (f : Refusal) → OfOperator f → there_in f ≡ resited (argument_site s 1 args) f
  operator_there too_long h = absurd h
  operator_there (not_ascii p) h = absurd h
  operator_there short_buffer h = absurd h
  operator_there (no_room n) h = absurd h
  operator_there (named why p name x) h = absurd h
  operator_there (unknown_operator p n x) h = refl
  operator_there bad_cursor h = absurd h

  pub action_there : (f : Refusal) → OfAction f → there_in f ≡ resited (list_site s (list_number shape) args) f
  action_there too_long h = absurd h
  action_there (not_ascii p) h = absurd h
  action_there short_buffer h = absurd h
  action_there (no_room n) h = absurd h
  action_there (named no_action p name x) h = refl
  action_there (named (no_argument flaw) p name x) h = refl
  action_there (named no_variable p name x) h = absurd h
  action_there (unknown_operator p n x) h = absurd h
  action_there bad_cursor h = absurd h
