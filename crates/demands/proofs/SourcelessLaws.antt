-- What is read, without where, is what the Rust's loops make of the pieces' texts; and where, is the pieces' places.
-- The idea: each loop passes a piece's text to what reads it and the place beside, so that either can be followed alone.
use Rattle.std.specs.Prelude.{Option, Some, None}
use mathlib.Core.Path.{◌≡◌, ◌∙◌, refl, ap, subst}
use mathlib.Core.Bool.{Bool, true, false}
use mathlib.Core.List.{List, [], ◌∷◌, map}
use Prim.Native.Nat.{ℕ, suc, ◌+◌}
use lib.ListN.{length}
use lib.Dec.{eqb}
use Rattle.ascii.specs.Choice.{pick}
use Rattle.ascii.specs.Trim.{trim_ends}
use Rattle.lent.specs.Sources.{Part, Sourced, sourced, sited_all}
use Rattle.lent.specs.Table.{Refusal, too_long, not_ascii, short_buffer, no_room, named, unknown_operator, bad_cursor, resited, Outcome, refuses, reads, sited_outcome}
use Rattle.names.specs.Variables.{variable_code}
use Rattle.single_action.specs.Actions.{Action, Single, done, bad, unknown, single}
use Rattle.actions.specs.Normal.{normalised}
use Rattle.actions.specs.Pieces as Act
use Rattle.actions.specs.Lists.{action_then, single_then, actions_from, listed, normal_site, actions_of}
use Rattle.variables.specs.Parts as Var
use Rattle.variables.specs.Variables as Of
use Rattle.variables.specs.Steps.{excluding_of}
use Rattle.variables.specs.declared.singles.Exclusions.{Exclusions}
use Rattle.variables.specs.declared.singles.Exclusions.TheVariants.{AsWritten, LookedUp}
use Rattle.demands.specs.Sourceless.{kept_text, texts_in, action_texts, variable_texts, things, sources, nowhere, bare, action_before, single_before, rust_actions, bare_targets, variable_before, exclusion_before, known_before, marked_before, piece_before, rust_targets, by_mark, variable_places, exclusion_places}

-- ---- actions, without where

refusal_bare : (g : Part → Part) (f : Refusal) → resited nowhere (resited g f) ≡ resited nowhere f
refusal_bare g too_long = refl
refusal_bare g (not_ascii p) = refl
refusal_bare g short_buffer = refl
refusal_bare g (no_room n) = refl
refusal_bare g (named why k name x) = refl
refusal_bare g (unknown_operator p n x) = refl
refusal_bare g bad_cursor = refl

things_sited : {A : Type 0} (g : Part → Part) (xs : List (Sourced A)) → things (sited_all g xs) ≡ things xs
things_sited g [] = refl
things_sited {A} g (x ∷ xs) = ap (λ (l : List A). x.thing ∷ l) (things_sited g xs)

sited_bare : {A : Type 0} (g : Part → Part) (o : Outcome (List (Sourced A))) → bare (sited_outcome g o) ≡ bare o
sited_bare g (refuses f) = ap refuses (refusal_bare g f)
sited_bare g (reads xs) = ap reads (things_sited g xs)

then_bare : (a : Sourced Action) (o : Outcome (List (Sourced Action))) → bare (action_then a o) ≡ action_before a.thing (bare o)
then_bare a (refuses f) = refl
then_bare a (reads xs) = refl

single_bare : (k : ℕ) (x : Part) (v : Single) (o : Outcome (List (Sourced Action))) → bare (single_then k x v o) ≡ single_before k v (bare o)
single_bare k x (done a) o = then_bare (sourced a x) o
single_bare k x (bad flaw name) o = refl
single_bare k x (unknown name) o = refl

abbrev act_text : Act.Piece → List ℕ
act_text p = p.text

from_bare : (k : ℕ) (ps : List Act.Piece) → bare (actions_from k ps) ≡ rust_actions k (map act_text ps)
unfolding actions_from rust_actions
from_bare k [] = refl
from_bare k (p ∷ ps) =
    single_bare k p.place (single p.text) (actions_from (suc k) ps) ∙ ap (single_before k (single p.text)) (from_bare (suc k) ps)

act_texts : (k : ℕ) (ps : List (List ℕ)) → map act_text (Act.pieces_of k ps) ≡ texts_in ps
unfolding Act.pieces_of texts_in
act_texts k [] = refl
act_texts k (p ∷ ps) = go (trim_ends p) (act_texts (k + length p + 1) ps)
  where
    go : (t : List ℕ) → map act_text (Act.pieces_of (k + length p + 1) ps) ≡ texts_in ps
        → map act_text (Act.keep t (Act.place_of k p) (Act.pieces_of (k + length p + 1) ps)) ≡ kept_text t (texts_in ps)
    go [] e = e
    go (b ∷ r) e = ap (λ (l : List (List ℕ)). (b ∷ r) ∷ l) e

pub actions_old : (s : List ℕ) → bare (actions_of s) ≡ rust_actions 0 (action_texts (normalised s))
unfolding actions_of Act.pieces_from
actions_old s =
    sited_bare (normal_site s) (listed (normalised s)) ∙ from_bare 0 (Act.pieces (normalised s))
    ∙ ap (rust_actions 0) (act_texts 0 (Act.parts_from Act.outside (normalised s)))

-- ---- actions, where

-- the sources of what is read
abbrev Stand : Outcome (List (Sourced Action)) → List Part → Type 0
Stand (refuses f) l = Unit {0}
Stand (reads xs) l = sources xs ≡ l

abbrev act_place : Act.Piece → Part
act_place p = p.place

then_stand : (a : Sourced Action) (o : Outcome (List (Sourced Action))) (l : List Part) → Stand o l → Stand (action_then a o) (a.source ∷ l)
then_stand a (refuses f) l h = tt
then_stand a (reads xs) l h = ap (λ (m : List Part). a.source ∷ m) h

single_stand : (k : ℕ) (x : Part) (v : Single) (o : Outcome (List (Sourced Action))) (l : List Part) → Stand o l → Stand (single_then k x v o) (x ∷ l)
single_stand k x (done a) o l h = then_stand (sourced a x) o l h
single_stand k x (bad flaw name) o l h = tt
single_stand k x (unknown name) o l h = tt

from_stand : (k : ℕ) (ps : List Act.Piece) → Stand (actions_from k ps) (map act_place ps)
unfolding actions_from
from_stand k [] = refl
from_stand k (p ∷ ps) = single_stand k p.place (single p.text) (actions_from (suc k) ps) (map act_place ps) (from_stand (suc k) ps)

sources_sited : (g : Part → Part) (xs : List (Sourced Action)) → sources (sited_all g xs) ≡ map g (sources xs)
sources_sited g [] = refl
sources_sited g (x ∷ xs) = ap (λ (l : List Part). g x.source ∷ l) (sources_sited g xs)

sited_stand : (g : Part → Part) (o : Outcome (List (Sourced Action))) (l : List Part) → Stand o l → Stand (sited_outcome g o) (map g l)
sited_stand g (refuses f) l h = tt
sited_stand g (reads xs) l h = sources_sited g xs ∙ ap (map g) h

places_sited : (g : Part → Part) (ps : List Act.Piece) → map g (map act_place ps) ≡ map (λ (p : Act.Piece). g p.place) ps
places_sited g [] = refl
places_sited g (p ∷ ps) = ap (λ (l : List Part). g p.place ∷ l) (places_sited g ps)

pub actions_new : (s : List ℕ) (xs : List (Sourced Action)) → actions_of s ≡ reads xs
    → sources xs ≡ map (λ (p : Act.Piece). normal_site s p.place) (Act.pieces (normalised s))
unfolding actions_of
actions_new s xs e =
    let ps = Act.pieces (normalised s) in
    subst (λ (o : Outcome (List (Sourced Action))). Stand o (map (normal_site s) (map act_place ps))) e
    (sited_stand (normal_site s) (listed (normalised s)) (map act_place ps) (from_stand 0 ps))
    ∙ places_sited (normal_site s) ps

-- ---- variables, without where

variable_bare : (x : Part) (v : Of.Single) (ts : Of.Targets) → bare_targets (Of.with_variable x v ts) ≡ variable_before v (bare_targets ts)
variable_bare x (Of.variable v) (Of.targets vs es) = refl
variable_bare x (Of.variable v) (Of.refused i n y) = refl
variable_bare x (Of.unknown n) (Of.targets vs es) = refl
variable_bare x (Of.unknown n) (Of.refused i m y) = refl

exclusion_bare : (x : Part) (e : List ℕ) (ts : Of.Targets) → bare_targets (Of.with_exclusion x e ts) ≡ exclusion_before e (bare_targets ts)
exclusion_bare x e (Of.targets vs es) = refl
exclusion_bare x e (Of.refused i n y) = refl

known_bare : (x : Part) (l : Option ℕ) (n : List ℕ) (ts : Of.Targets) → bare_targets (Of.if_known x l n ts) ≡ known_before l n (bare_targets ts)
known_bare x (Some c) n ts = refl
known_bare x None n ts = refl

marked_bare : (n : Exclusions) (x : Part) (e : List ℕ) (ts : Of.Targets) → bare_targets (excluding_of n x e ts) ≡ marked_before n e (bare_targets ts)
marked_bare AsWritten x e ts = exclusion_bare x e ts
marked_bare LookedUp x e ts =
    let front = Of.front_of (Of.at_colon e) in
    known_bare x (variable_code front) front (Of.with_exclusion x e ts) ∙ ap (known_before (variable_code front) front) (exclusion_bare x e ts)

piece_bare : (n : Exclusions) (x : Part) (t : List ℕ) (ts : Of.Targets) → bare_targets (Of.piece (excluding_of n) x t ts) ≡ piece_before n t (bare_targets ts)
piece_bare n x [] ts = variable_bare x (Of.single []) ts
piece_bare n x (b ∷ r) ts = go (eqb b 33)
  where
    go : (u : Bool) → bare_targets (pick u (excluding_of n x r ts) (Of.with_variable x (Of.single (b ∷ r)) ts)) ≡ pick u (marked_before n r (bare_targets ts)) (variable_before (Of.single (b ∷ r)) (bare_targets ts))
    go true = marked_bare n x r ts
    go false = variable_bare x (Of.single (b ∷ r)) ts

abbrev var_text : Var.Piece → List ℕ
var_text p = p.text

all_bare : (n : Exclusions) (ps : List Var.Piece) → bare_targets (Of.read_all (excluding_of n) ps) ≡ rust_targets n (map var_text ps)
unfolding Of.read_all rust_targets
all_bare n [] = refl
all_bare n (p ∷ ps) = piece_bare n p.place p.text (Of.read_all (excluding_of n) ps) ∙ ap (piece_before n p.text) (all_bare n ps)

var_texts : (k : ℕ) (ps : List (List ℕ)) → map var_text (Var.filled_from k ps) ≡ texts_in ps
unfolding Var.filled_from texts_in
var_texts k [] = refl
var_texts k (p ∷ ps) = go (trim_ends p) (var_texts (k + length p + 1) ps)
  where
    go : (t : List ℕ) → map var_text (Var.filled_from (k + length p + 1) ps) ≡ texts_in ps
        → map var_text (Var.kept t (Var.place_of k p) (Var.filled_from (k + length p + 1) ps)) ≡ kept_text t (texts_in ps)
    go [] e = e
    go (b ∷ r) e = ap (λ (l : List (List ℕ)). (b ∷ r) ∷ l) e

pub variables_old : (n : Exclusions) (s : List ℕ) → bare_targets (Of.read_all (excluding_of n) (Var.pieces s)) ≡ rust_targets n (variable_texts s)
unfolding Var.pieces_from
variables_old n s = all_bare n (Var.pieces s) ∙ ap (rust_targets n) (var_texts 0 (Var.cut s))

-- ---- variables, where

abbrev Stands : Of.Targets → List Part → List Part → Type 0
Stands (Of.targets vs es) a b = (sources vs ≡ a) × (sources es ≡ b)
Stands (Of.refused i n x) a b = Unit {0}

module _ (x : Part) (a b : List Part) where
  variable_stands : (v : Of.Single) (ts : Of.Targets) → Stands ts a b → Stands (Of.with_variable x v ts) (x ∷ a) b
  variable_stands (Of.variable v) (Of.targets vs es) h = (ap (λ (l : List Part). x ∷ l) h.0, h.1)
  variable_stands (Of.variable v) (Of.refused i n y) h = tt
  variable_stands (Of.unknown n) (Of.targets vs es) h = tt
  variable_stands (Of.unknown n) (Of.refused i m y) h = tt

  exclusion_stands : (e : List ℕ) (ts : Of.Targets) → Stands ts a b → Stands (Of.with_exclusion x e ts) a (x ∷ b)
  exclusion_stands e (Of.targets vs es) h = (h.0, ap (λ (l : List Part). x ∷ l) h.1)
  exclusion_stands e (Of.refused i n y) h = tt

  marked_stands : (n : Exclusions) (e : List ℕ) (ts : Of.Targets) → Stands ts a b → Stands (excluding_of n x e ts) a (x ∷ b)
  marked_stands AsWritten e ts h = exclusion_stands e ts h
  marked_stands LookedUp e ts h = go (variable_code (Of.front_of (Of.at_colon e)))
    where
      go : (l : Option ℕ) → Stands (Of.if_known x l (Of.front_of (Of.at_colon e)) (Of.with_exclusion x e ts)) a (x ∷ b)
      go (Some c) = exclusion_stands e ts h
      go None = tt

  piece_stands : (n : Exclusions) (t : List ℕ) (ts : Of.Targets) → Stands ts a b → Stands (Of.piece (excluding_of n) x t ts) (by_mark t (x ∷ a) a) (by_mark t b (x ∷ b))
  piece_stands n [] ts h = variable_stands (Of.single []) ts h
  piece_stands n (c ∷ r) ts h = go (eqb c 33)
    where
      go : (u : Bool) → Stands (pick u (excluding_of n x r ts) (Of.with_variable x (Of.single (c ∷ r)) ts)) (pick u a (x ∷ a)) (pick u (x ∷ b) b)
      go true = marked_stands n r ts h
      go false = variable_stands (Of.single (c ∷ r)) ts h

all_stand : (n : Exclusions) (ps : List Var.Piece) → Stands (Of.read_all (excluding_of n) ps) (variable_places ps) (exclusion_places ps)
unfolding Of.read_all variable_places exclusion_places
all_stand n [] = (refl, refl)
all_stand n (p ∷ ps) = piece_stands p.place (variable_places ps) (exclusion_places ps) n p.text (Of.read_all (excluding_of n) ps) (all_stand n ps)

pub variables_new : (n : Exclusions) (s : List ℕ) (vs : List (Sourced Of.Variable)) (es : List (Sourced (List ℕ)))
    → Of.read_all (excluding_of n) (Var.pieces s) ≡ Of.targets vs es
    → (sources vs ≡ variable_places (Var.pieces s)) × (sources es ≡ exclusion_places (Var.pieces s))
variables_new n s vs es e = subst (λ (ts : Of.Targets). Stands ts (variable_places (Var.pieces s)) (exclusion_places (Var.pieces s))) e (all_stand n (Var.pieces s))
