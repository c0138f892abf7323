-- What no site changes: a body's counts, texts and own words, and a refusal's number and name.
use mathlib.Core.Path.{◌≡◌, refl, ap, ap₂}
use Prim.Native.Nat.{ℕ, ◌+◌}
use mathlib.Core.List.{List, [], ◌∷◌, ◌++◌}
use lib.ListN.{length, length-map}
use lib.Dec.{eqb}
use Rattle.ascii.specs.Choice.{or}
use Rattle.lent.specs.Layout.{texts_of}
use Rattle.lent.specs.Sources.{Part, Sourced, sited_by, sited_all}
use Rattle.lent.specs.Table.{Refusal, too_long, not_ascii, short_buffer, no_room, named, unknown_operator, bad_cursor, refused, resited}
use Rattle.lent.proofs.LayoutLaws.{sited_texts}
use Rattle.lexer.specs.Tokens.{Token}
use Rattle.variables.specs.Variables.{Variable}
use Rattle.variables.specs.Layout as Targets
use Rattle.records.specs.Actions.{Action, action_text}
use Rattle.records.specs.Layout as Acts
use Rattle.actions.specs.Having.{has}
use Rattle.directives.specs.Directives.{Body, rule, act, marker, defaults, unknown, Fault, wrong_count, untaken, stopped, id_missing, within, Shape, argument_site, list_site, sited_body, refusal_site, sited_fault}
use Rattle.directives.specs.Layout.{shape_in, name_slot, listed_in, negated_word, operator_word, argument_slot, actions_in, listed_text, body_text, listed_count, action_count}
use Rattle.directives.specs.Table.{name_left, fault_given, fault_name}
use Rattle.directives.specs.Parts.{resited_body}

-- Two bodies that differ at most in where their parts were read from.
pub record SameBody (x y : Body) : Type 0 where
  pub kind : shape_in x ≡ shape_in y
  pub name : name_slot x ≡ name_slot y
  pub negated : negated_word x ≡ negated_word y
  pub operator : operator_word x ≡ operator_word y
  pub argument : argument_slot x ≡ argument_slot y
  pub listed : listed_count x ≡ listed_count y
  pub acted : action_count x ≡ action_count y
  pub listed_text_lem : listed_text x ≡ listed_text y
  pub selections : Targets.selection_texts (listed_in x).variables ≡ Targets.selection_texts (listed_in y).variables
  pub has_same : (code : ℕ) → has code (actions_in x) ≡ has code (actions_in y)
  pub acted_text : Acts.texts (actions_in x) ≡ Acts.texts (actions_in y)
  pub text : body_text x ≡ body_text y

pub same_body : (x : Body) → SameBody x x
same_body x = record { kind = refl; name = refl; negated = refl; operator = refl; argument = refl; listed = refl; acted = refl; listed_text_lem = refl; selections = refl; has_same = λ code. refl; acted_text = refl; text = refl }

-- ---- lists

pub sited_count : {A : Type 0} (f : Part → Part) (xs : List (Sourced A)) → length (sited_all f xs) ≡ length xs
sited_count f xs = length-map xs (sited_by f)

pub variables_text : (f : Part → Part) (vs : List (Sourced Variable)) → Targets.selection_texts (sited_all f vs) ≡ Targets.selection_texts vs
variables_text f vs = sited_texts f Targets.chosen_text vs

pub exclusions_text : (f : Part → Part) (es : List (Sourced (List ℕ))) → texts_of Targets.exclusion_text (sited_all f es) ≡ texts_of Targets.exclusion_text es
exclusions_text f es = sited_texts f Targets.itself es

pub listed_same : (f : Part → Part) (vs : List (Sourced Variable)) (es : List (Sourced (List ℕ))) → Targets.texts (sited_all f vs) (sited_all f es) ≡ Targets.texts vs es
listed_same f vs es = ap₂ (λ (a b : List ℕ). a ++ b) (variables_text f vs) (exclusions_text f es)

pub actions_text : (f : Part → Part) (xs : List (Sourced Action)) → Acts.texts (sited_all f xs) ≡ Acts.texts xs
actions_text f xs = sited_texts f action_text xs

has_sited : (code : ℕ) (f : Part → Part) (xs : List (Sourced Action)) → has code (sited_all f xs) ≡ has code xs
unfolding has
has_sited code f [] = refl
has_sited code f (x ∷ xs) = ap (or (eqb x.thing.code code)) (has_sited code f xs)

-- ---- bodies

-- each list in its own way
module _ (f g : Part → Part) where
  abbrev moved_body : Body → Body
  moved_body (rule vs o xs) = rule (record { variables = sited_all f vs.variables; exclusions = sited_all f vs.exclusions }) o (sited_all g xs)
  moved_body (act xs) = act (sited_all g xs)
  moved_body (marker m) = marker m
  moved_body (defaults xs) = defaults (sited_all g xs)
  moved_body (unknown n) = unknown n

  moved_same : (x : Body) → SameBody (moved_body x) x
  unfolding body_text texts_of
  moved_same (rule vs o xs) =
      let a = actions_text g xs in
      let l = listed_same f vs.variables vs.exclusions in
      record {
        kind = refl;
        name = refl;
        negated = refl;
        operator = refl;
        argument = refl;
        listed = ap₂ (λ (i j : ℕ). i + j) (sited_count f vs.variables) (sited_count f vs.exclusions);
        acted = sited_count g xs;
        listed_text_lem = l;
        selections = variables_text f vs.variables;
        has_same = λ code. has_sited code g xs;
        acted_text = a;
        text = ap₂ (λ (i j : List ℕ). i ++ (o.argument ++ j)) l a;
      }
  moved_same (act xs) = record {
    kind = refl;
    name = refl;
    negated = refl;
    operator = refl;
    argument = refl;
    listed = refl;
    acted = sited_count g xs;
    listed_text_lem = refl;
    selections = refl;
    has_same = λ code. has_sited code g xs;
    acted_text = actions_text g xs;
    text = actions_text g xs;
  }
  moved_same (marker m) = same_body (marker m)
  moved_same (defaults xs) = record {
    kind = refl;
    name = refl;
    negated = refl;
    operator = refl;
    argument = refl;
    listed = refl;
    acted = sited_count g xs;
    listed_text_lem = refl;
    selections = refl;
    has_same = λ code. has_sited code g xs;
    acted_text = actions_text g xs;
    text = actions_text g xs;
  }
  moved_same (unknown n) = same_body (unknown n)

pub sited_same : (s : List ℕ) (args : List Token) (x : Body) → SameBody (sited_body s args x) x
sited_same s args (rule vs o xs) = moved_same (argument_site s 0 args) (list_site s 2 args) (rule vs o xs)
sited_same s args (act xs) = moved_same (argument_site s 0 args) (list_site s 0 args) (act xs)
sited_same s args (marker m) = same_body (marker m)
sited_same s args (defaults xs) = moved_same (argument_site s 0 args) (list_site s 0 args) (defaults xs)
sited_same s args (unknown n) = same_body (unknown n)

pub resited_same : (f : Part → Part) (x : Body) → SameBody (resited_body f x) x
resited_same f (rule vs o xs) = moved_same f f (rule vs o xs)
resited_same f (act xs) = moved_same f f (act xs)
resited_same f (marker m) = same_body (marker m)
resited_same f (defaults xs) = moved_same f f (defaults xs)
resited_same f (unknown n) = same_body (unknown n)

-- ---- refusals and faults

module _ (f : Part → Part) where
  pub resited_name : (r : Refusal) → name_left (resited f r) ≡ name_left r
  resited_name too_long = refl
  resited_name (not_ascii p) = refl
  resited_name short_buffer = refl
  resited_name (no_room n) = refl
  resited_name (named why p name x) = refl
  resited_name (unknown_operator p l x) = refl
  resited_name bad_cursor = refl

  pub resited_number : (r : Refusal) → (refused (resited f r)).number ≡ (refused r).number
  resited_number too_long = refl
  resited_number (not_ascii p) = refl
  resited_number short_buffer = refl
  resited_number (no_room n) = refl
  resited_number (named why p name x) = refl
  resited_number (unknown_operator p l x) = refl
  resited_number bad_cursor = refl

module _ (s : List ℕ) (shape : Shape) (args : List Token) where
  pub fault_name_lem : (f : Fault) → fault_name (sited_fault s shape args f) ≡ fault_name f
  fault_name_lem (wrong_count l) = refl
  fault_name_lem (untaken l) = refl
  fault_name_lem (stopped l) = refl
  fault_name_lem (id_missing l) = refl
  fault_name_lem (within l f) = resited_name (refusal_site s shape args f) f

  pub fault_number : (f : Fault) → (fault_given (sited_fault s shape args f)).number ≡ (fault_given f).number
  fault_number (wrong_count l) = refl
  fault_number (untaken l) = refl
  fault_number (stopped l) = refl
  fault_number (id_missing l) = refl
  fault_number (within l f) = resited_number (refusal_site s shape args f) f
