-- What makes an item's fault, in plain words: a token that no directive takes, a wrong count, or the first argument that is refused.
use Rattle.std.specs.Prelude.{Result, Ok, Err}
use mathlib.Core.Path.{◌≡◌, refl, sym, ap, ◌∙◌, subst}
use mathlib.Core.Logic.{◌↔◌}
use Prim.Native.Nat.{ℕ, ◌≤◌}
use native.Mathlib.Omega.{arith}
use mathlib.Core.List.{List, [], ◌∷◌, map}
use lib.ListN.{length}
use Rattle.lent.specs.Sources.{Part, Sourced}
use Rattle.lent.specs.Table.{Refusal, resited, Outcome, refuses, reads}
use Rattle.lexer.specs.Tokens.{Token}
use Rattle.lexer.specs.Layout.{text_of}
use Rattle.operators.specs.Operators.{Spec}
use Rattle.records.specs.Actions.{Action}
use Rattle.actions.specs.Lists.{normal_site}
use Rattle.directives.specs.Groups.{Item, joined, stray}
use Rattle.directives.specs.Directives.{Listed, Body, act, defaults, Directive, Fault, wrong_count, untaken, stopped, id_missing, within, variables_read, operator_read, actions_read, Shape, of_rule, of_action, of_marker, of_defaults, of_other, shape_of, rule_by, act_by, told, body_by, site_at, standing, argument_site, list_site, sited, last_past, placed, directive_of, item_read}
use Rattle.directives.proofs.RefusalLaws.{OfVariable, OfOperator, OfAction, variable_only, operator_only, action_only, only_so, there_in, variable_there, operator_there, action_there}

-- ---- the words

-- SecRule has two or three arguments, an Unknown any, the others one.
abbrev pub RightCount : Shape → ℕ → Type 0
RightCount of_rule n = (2 ≤ n) × (n ≤ 3)
RightCount of_action n = n ≡ 1
RightCount of_marker n = n ≡ 1
RightCount of_defaults n = n ≡ 1
RightCount of_other n = Unit {0}

-- Where a part of an argument's text stands in the package s; and one of a list of actions, which is read without its line continuations.
abbrev pub text_site : List ℕ → Token → Part → Part
text_site s t x = site_at s (standing t) x

abbrev pub action_site : List ℕ → Token → Part → Part
action_site s t x = site_at s (standing t) (normal_site t.text x)

-- The first argument that is refused, with the refused piece's place in the package: variables; with these read the operator;
-- with both read the actions.
pub data FirstRefused (s : List ℕ) : Shape → List Token → Refusal → Type 0 where
  variables : (v o : Token) (third : List Token) (f : Refusal) → length third ≤ 1 → variables_read v.text ≡ refuses f
      → FirstRefused s of_rule (v ∷ o ∷ third) (resited (text_site s v) f)
  operator : (v o : Token) (third : List Token) (f : Refusal) (x : Listed) → length third ≤ 1 → variables_read v.text ≡ reads x → operator_read o.text ≡ refuses f
      → FirstRefused s of_rule (v ∷ o ∷ third) (resited (text_site s o) f)
  actions : (v o a : Token) (f : Refusal) (x : Listed) (y : Spec) → variables_read v.text ≡ reads x → operator_read o.text ≡ reads y → actions_read a.text ≡ refuses f
      → FirstRefused s of_rule (v ∷ o ∷ a ∷ []) (resited (action_site s a) f)
  alone : (a : Token) (f : Refusal) → actions_read a.text ≡ refuses f → FirstRefused s of_action (a ∷ []) (resited (action_site s a) f)
  preset : (a : Token) (f : Refusal) → actions_read a.text ≡ refuses f → FirstRefused s of_defaults (a ∷ []) (resited (action_site s a) f)

-- A fault of an item of the package s, with the line of its token.
pub data Amiss (s : List ℕ) : Item → Fault → Type 0 where
  untaken_token : (t : Token) → Amiss s (stray t) (untaken t.line.0)
  miscounted : (t : Token) (args : List Token) → (RightCount (shape_of t.text) (length args) → ⊥) → Amiss s (joined t args) (wrong_count t.line.0)
  refused : (t : Token) (args : List Token) (f : Refusal) → FirstRefused s (shape_of t.text) args f → Amiss s (joined t args) (within t.line.0 f)

-- ---- what a body comes to

abbrev Comes : List ℕ → ℕ → Shape → List Token → Result Body Fault → Type 0
Comes s l k args (Ok x) = RightCount k (length args)
Comes s l k args (Err (wrong_count n)) = (n ≡ l) × (RightCount k (length args) → ⊥)
Comes s l k args (Err (untaken n)) = ⊥
Comes s l k args (Err (stopped n)) = ⊥
Comes s l k args (Err (id_missing n)) = ⊥
Comes s l k args (Err (within n f)) = (n ≡ l) × FirstRefused s k args f

module _ (s : List ℕ) (l : ℕ) (name : List ℕ) where
  -- the sites of the three arguments, by their tokens
  variable_in : (v o : Token) (third : List Token) (f : Refusal) → length third ≤ 1 → variables_read v.text ≡ refuses f → FirstRefused s of_rule (v ∷ o ∷ third) (there_in s of_rule (v ∷ o ∷ third) f)
  unfolding argument_site
  variable_in v o third f n e =
      subst (FirstRefused s of_rule (v ∷ o ∷ third)) (sym (variable_there s of_rule (v ∷ o ∷ third) f (only_so OfVariable e (variable_only v.text)))) (variables v o third f n e)

  operator_in : (v o : Token) (third : List Token) (f : Refusal) (x : Listed) → length third ≤ 1 → variables_read v.text ≡ reads x → operator_read o.text ≡ refuses f
      → FirstRefused s of_rule (v ∷ o ∷ third) (there_in s of_rule (v ∷ o ∷ third) f)
  unfolding argument_site
  operator_in v o third f x n p e =
      subst (FirstRefused s of_rule (v ∷ o ∷ third)) (sym (operator_there s of_rule (v ∷ o ∷ third) f (only_so OfOperator e (operator_only o.text)))) (operator v o third f x n p e)

  actions_in_lem : (v o a : Token) (f : Refusal) (x : Listed) (y : Spec) → variables_read v.text ≡ reads x → operator_read o.text ≡ reads y → actions_read a.text ≡ refuses f
      → FirstRefused s of_rule (v ∷ o ∷ a ∷ []) (there_in s of_rule (v ∷ o ∷ a ∷ []) f)
  unfolding list_site
  actions_in_lem v o a f x y p q e =
      subst (FirstRefused s of_rule (v ∷ o ∷ a ∷ [])) (sym (action_there s of_rule (v ∷ o ∷ a ∷ []) f (only_so OfAction e (action_only a.text)))) (actions v o a f x y p q e)

  alone_in : (a : Token) (f : Refusal) → actions_read a.text ≡ refuses f → FirstRefused s of_action (a ∷ []) (there_in s of_action (a ∷ []) f)
  unfolding list_site
  alone_in a f e = subst (FirstRefused s of_action (a ∷ [])) (sym (action_there s of_action (a ∷ []) f (only_so OfAction e (action_only a.text)))) (alone a f e)

  preset_in : (a : Token) (f : Refusal) → actions_read a.text ≡ refuses f → FirstRefused s of_defaults (a ∷ []) (there_in s of_defaults (a ∷ []) f)
  unfolding list_site
  preset_in a f e = subst (FirstRefused s of_defaults (a ∷ [])) (sym (action_there s of_defaults (a ∷ []) f (only_so OfAction e (action_only a.text)))) (preset a f e)

  act_comes : (k : Shape) (make : List (Sourced Action) → Body) (a : Token) → RightCount k 1 → ((f : Refusal) → actions_read a.text ≡ refuses f → FirstRefused s k (a ∷ []) (there_in s k (a ∷ []) f))
      → Comes s l k (a ∷ []) (sited s k (a ∷ []) (told l (act_by make (actions_read a.text))))
  act_comes k make a c h = go (actions_read a.text) refl
    where
      go : (o : Outcome (List (Sourced Action))) → actions_read a.text ≡ o → Comes s l k (a ∷ []) (sited s k (a ∷ []) (told l (act_by make o)))
      go (refuses f) e = (refl, h f e)
      go (reads xs) e = c

  rule_comes : (v o : Token) (third : List Token) (x : Outcome (List (Sourced Action))) → length third ≤ 1 → RightCount of_rule (length (v ∷ o ∷ third))
      → ((f : Refusal) (y : Listed) (z : Spec) → variables_read v.text ≡ reads y → operator_read o.text ≡ reads z → x ≡ refuses f
      → FirstRefused s of_rule (v ∷ o ∷ third) (there_in s of_rule (v ∷ o ∷ third) f))
      → Comes s l of_rule (v ∷ o ∷ third) (sited s of_rule (v ∷ o ∷ third) (told l (rule_by (variables_read v.text) (operator_read o.text) x)))
  rule_comes v o third x n c h = go (variables_read v.text) refl (operator_read o.text) refl x refl
    where
      go : (vs : Outcome Listed) → variables_read v.text ≡ vs → (op : Outcome Spec) → operator_read o.text ≡ op → (ac : Outcome (List (Sourced Action))) → x ≡ ac
          → Comes s l of_rule (v ∷ o ∷ third) (sited s of_rule (v ∷ o ∷ third) (told l (rule_by vs op ac)))
      go (refuses f) p op q ac r = (refl, variable_in v o third f n p)
      go (reads y) p (refuses f) q ac r = (refl, operator_in v o third f y n p q)
      go (reads y) p (reads z) q (refuses f) r = (refl, h f y z p q r)
      go (reads y) p (reads z) q (reads w) r = c

  body_comes : (k : Shape) (args : List Token) → Comes s l k args (sited s k args (body_by k l name (map text_of args)))
  body_comes of_rule [] = (refl, λ h. absurd (omega (arith, h.0, h.1)))
  body_comes of_rule (v ∷ []) = (refl, λ h. absurd (omega (arith, h.0, h.1)))
  body_comes of_rule (v ∷ o ∷ []) = rule_comes v o [] (reads []) (omega arith) (omega arith, omega arith) (λ f y z p q r. absurd (apart r))
    where
      apart : {f : Refusal} → ◌≡◌ {A = Outcome (List (Sourced Action))} (reads []) (refuses f) → ⊥
      apart e = let z : ◌≡◌ {A = ℕ} 0 1 = cc in absurd (omega arith)
  body_comes of_rule (v ∷ o ∷ a ∷ []) = rule_comes v o (a ∷ []) (actions_read a.text) (omega arith) (omega arith, omega arith) (λ f y z p q r. actions_in_lem v o a f y z p q r)
  body_comes of_rule (v ∷ o ∷ a ∷ x ∷ xs) = (refl, λ h. absurd (omega (arith, h.0, h.1)))
  body_comes of_action [] = (refl, λ h. absurd (omega arith))
  body_comes of_action (a ∷ []) = act_comes of_action act a refl (λ f e. alone_in a f e)
  body_comes of_action (a ∷ x ∷ xs) = (refl, λ h. absurd (omega arith))
  body_comes of_marker [] = (refl, λ h. absurd (omega arith))
  body_comes of_marker (m ∷ []) = refl
  body_comes of_marker (m ∷ x ∷ xs) = (refl, λ h. absurd (omega arith))
  body_comes of_defaults [] = (refl, λ h. absurd (omega arith))
  body_comes of_defaults (a ∷ []) = act_comes of_defaults defaults a refl (λ f e. preset_in a f e)
  body_comes of_defaults (a ∷ x ∷ xs) = (refl, λ h. absurd (omega arith))
  body_comes of_other xs = tt

  -- and back
  abbrev Says : Shape → List Token → Refusal → Type 0
  Says k args f = sited s k args (body_by k l name (map text_of args)) ≡ Err (within l f)

  as_told : (f g : Refusal) → f ≡ g → ◌≡◌ {A = Result Body Fault} (Err (within l f)) (Err (within l g))
  as_told f g e = ap (λ (h : Refusal). Err (within l h)) e

  refused_body : {f : Refusal} (k : Shape) (args : List Token) → FirstRefused s k args f → Says k args f
  unfolding argument_site list_site
  refused_body of_rule _ (variables v o [] f n e) = rw e (as_told _ _ (variable_there s of_rule (v ∷ o ∷ []) f (only_so OfVariable e (variable_only v.text))))
  refused_body of_rule _ (variables v o (a ∷ []) f n e) = rw e (as_told _ _ (variable_there s of_rule (v ∷ o ∷ a ∷ []) f (only_so OfVariable e (variable_only v.text))))
  refused_body of_rule _ (variables v o (a ∷ x ∷ xs) f n e) = absurd (omega arith)
  refused_body of_rule _ (operator v o [] f y n p e) = rw (p, e) (as_told _ _ (operator_there s of_rule (v ∷ o ∷ []) f (only_so OfOperator e (operator_only o.text))))
  refused_body of_rule _ (operator v o (a ∷ []) f y n p e) = rw (p, e) (as_told _ _ (operator_there s of_rule (v ∷ o ∷ a ∷ []) f (only_so OfOperator e (operator_only o.text))))
  refused_body of_rule _ (operator v o (a ∷ x ∷ xs) f y n p e) = absurd (omega arith)
  refused_body of_rule _ (actions v o a f y z p q e) = rw (p, q, e) (as_told _ _ (action_there s of_rule (v ∷ o ∷ a ∷ []) f (only_so OfAction e (action_only a.text))))
  refused_body of_action _ (alone a f e) = rw e (as_told _ _ (action_there s of_action (a ∷ []) f (only_so OfAction e (action_only a.text))))
  refused_body of_defaults _ (preset a f e) = rw e (as_told _ _ (action_there s of_defaults (a ∷ []) f (only_so OfAction e (action_only a.text))))
  refused_body of_marker args x = elim x [ ]
  refused_body of_other args x = elim x [ ]

refused_right : {s : List ℕ} {f : Refusal} (k : Shape) (args : List Token) → FirstRefused s k args f → RightCount k (length args)
refused_right of_rule _ (variables v o third f n e) = (omega arith, omega arith)
refused_right of_rule _ (operator v o third f y n p e) = (omega arith, omega arith)
refused_right of_rule _ (actions v o a f y z p q e) = (omega arith, omega arith)
refused_right of_action _ (alone a f e) = refl
refused_right of_defaults _ (preset a f e) = refl
refused_right of_marker args x = elim x [ ]
refused_right of_other args x = elim x [ ]

-- ---- an item

abbrev fault_in : Result Directive Fault → Fault
fault_in (Err f) = f
fault_in (Ok d) = stopped 0

abbrev is_good : Result Directive Fault → ℕ
is_good (Err f) = 0
is_good (Ok d) = 1

module _ (s : List ℕ) (t : Token) (args : List Token) where
  abbrev Counts : Type 0
  Counts = RightCount (shape_of t.text) (length args)

  abbrev read : Result Body Fault
  read = sited s (shape_of t.text) args (body_by (shape_of t.text) t.line.0 t.text (map text_of args))

  joined_there : (f : Fault) (r : Result Body Fault) → Comes s t.line.0 (shape_of t.text) args r
      → placed t.line.0 t.first (last_past t.past args) r ≡ Err f → Amiss s (joined t args) f
  joined_there f (Ok x) h e = absurd (omega (arith, ap is_good e))
  joined_there f (Err (wrong_count n)) (p, w) e = subst (Amiss s (joined t args)) (ap wrong_count (sym p) ∙ ap fault_in e) (miscounted t args w)
  joined_there f (Err (untaken n)) h e = absurd h
  joined_there f (Err (stopped n)) h e = absurd h
  joined_there f (Err (id_missing n)) h e = absurd h
  joined_there f (Err (within n g)) (p, w) e = subst (Amiss s (joined t args)) (ap (λ (n : ℕ). within n g) (sym p) ∙ ap fault_in e) (refused t args g w)

  miscounted_back : (Counts → ⊥) → (r : Result Body Fault) → Comes s t.line.0 (shape_of t.text) args r → r ≡ Err (wrong_count t.line.0)
  miscounted_back w (Ok x) h = absurd (w h)
  miscounted_back w (Err (wrong_count n)) (p, v) = ap (λ (n : ℕ). Err (wrong_count n)) p
  miscounted_back w (Err (untaken n)) h = absurd h
  miscounted_back w (Err (stopped n)) h = absurd h
  miscounted_back w (Err (id_missing n)) h = absurd h
  miscounted_back w (Err (within n g)) (p, v) = absurd (w (refused_right (shape_of t.text) args v))

there : (s : List ℕ) (x : Item) (f : Fault) → item_read s x ≡ Err f → Amiss s x f
unfolding item_read directive_of
there s (stray t) f e = subst (Amiss s (stray t)) (ap fault_in e) (untaken_token t)
there s (joined t args) f e = joined_there s t args f (read s t args) (body_comes s t.line.0 t.text (shape_of t.text) args) e

back : (s : List ℕ) (x : Item) (f : Fault) → Amiss s x f → item_read s x ≡ Err f
unfolding item_read directive_of
back s (stray _) _ (untaken_token t) = refl
back s (joined _ _) _ (miscounted t args w) =
    ap (placed t.line.0 t.first (last_past t.past args)) (miscounted_back s t args w (read s t args) (body_comes s t.line.0 t.text (shape_of t.text) args))
back s (joined _ _) _ (refused t args f w) = ap (placed t.line.0 t.first (last_past t.past args)) (refused_body s t.line.0 t.text (shape_of t.text) args w)

-- an item's fault, exactly when
pub amiss_is : (s : List ℕ) (x : Item) (f : Fault) → (item_read s x ≡ Err f) ↔ Amiss s x f
amiss_is s x f = (there s x f, back s x f)

-- and never the stop, nor a missing id
abbrev OfItem : Fault → Type 0
OfItem (wrong_count n) = Unit {0}
OfItem (untaken n) = Unit {0}
OfItem (stopped n) = ⊥
OfItem (id_missing n) = ⊥
OfItem (within n f) = Unit {0}

pub of_item : (s : List ℕ) (x : Item) (f : Fault) → item_read s x ≡ Err f → OfItem f
of_item s x f e = go x f (there s x f e)
  where
    go : (i : Item) (f : Fault) → Amiss s i f → OfItem f
    go (stray _) _ (untaken_token t) = tt
    go (joined _ _) _ (miscounted t args w) = tt
    go (joined _ _) _ (refused t args f w) = tt
