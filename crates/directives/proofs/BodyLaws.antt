-- From the parts of a directive to its body: what is laid and recorded, or the first fault, by shape.
use Rattle.std.specs.Prelude.{Ok, Result, Err}
use mathlib.Core.Path.{◌≡◌, refl, sym, ap, ◌∙◌, subst}
use mathlib.Core.Bool.{true}
use mathlib.Core.Logic.{◌⊎◌, inl, inr}
use mathlib.Core.List.{List, [], ◌++◌, append-nil}
use Prim.Native.Nat.{ℕ, ◌+◌, ◌*◌, ◌≤◌}
use native.Mathlib.Omega.{arith}
use native.Mathlib.Nat.{add-zero}
use lib.ListN.{length, length-append}
use lib.Dec.{leb}
use borrow.Author.Tests.{leb-true, ne_eqb}
use Rattle.ascii.specs.Choice.{pick, bit}
use Rattle.ascii.proofs.SameLaws.{and_left}
use Rattle.lent.specs.Sizes.{span_word, variable_words, action_words}
use Rattle.lent.specs.Buffers.{padded, zeros, stored, stored_each}
use Rattle.lent.specs.Sources.{Sourced}
use Rattle.lent.specs.Layout.{texts_of, records_of}
use Rattle.lent.specs.Table.{Outcome, refuses, reads}
use Rattle.variables.specs.Layout as Targets
use Rattle.variables.specs.Cores as Cores
use Rattle.lexer.specs.Steps.{part}
use Rattle.operators.specs.Operators.{Spec}
use Rattle.records.specs.Actions.{Action}
use Rattle.records.specs.Layout as Acts
use Rattle.records.specs.Codes.{id_code, chain_code}
use Rattle.actions.specs.Having.{has}
use Rattle.directives.specs.Directives.{Listed, Body, rule, act, marker, defaults, unknown, Fault, variables_read, operator_read, actions_read, rule_by, act_by, told, Shape, of_rule, of_action, of_marker, of_defaults, of_other}
use Rattle.directives.specs.Layout.{body_text}
use Rattle.directives.specs.Table.{fault_name}
use Rattle.directives.specs.Promises.{naming}
use Rattle.directives.specs.Steps.{Laid, shrunk_by, reached_by, entry_of, listed_each, acted_each, empty_entry, with_name, with_variables, with_operator, with_actions, Grew, Faulted, Fell, AddsVariables, AddsOperator, AddsActions, Wrote, Bodied, takes, held_list}
use Rattle.directives.specs.declared.Fault.{Fault as Told}
use Rattle.directives.specs.declared.arguments.Arguments.{Arguments}
use Rattle.directives.specs.declared.parts.Tally.{Tally}
use Rattle.directives.specs.declared.parts.Entry.{Entry}
use Rattle.directives.proofs.FitLaws.{ListedFits, variables_fit, OperatorFits, operator_fits}
use Rattle.directives.proofs.LaidLaws.{laid_stored, laid_more}

-- ---- an answer that is good or bad

pub same_entry : {e d : Entry} → ◌≡◌ {A = Result Entry Told} (Ok e) (Ok d) → e ≡ d
same_entry p = cc

pub same_told : {f h : Told} → ◌≡◌ {A = Result Entry Told} (Err f) (Err h) → f ≡ h
same_told p = cc

pub never : {e : Entry} {f : Told} → ◌≡◌ {A = Result Entry Told} (Ok e) (Err f) → ⊥
never p = cc

-- a fault behind what was laid before it
pub same_fault : {q : Fault} {text text₀ text' : List ℕ} {f : Told} → length text ≡ length text₀ → Faulted q text text' f → Faulted q text₀ text' f
same_fault {q} {text} {text₀} {text'} {f} e x = record {
  given = x.given;
  left = subst (λ (n : ℕ). pick (naming f) text' (zeros n) ≡ padded n (fault_name q)) e x.left;
}

fell_later : {f : Fault} {text text₁ text₂ : List ℕ} {r : Result Entry Told} → length text₁ ≡ length text → Fell f text₁ text₂ r → Fell f text text₂ r
fell_later e x = record { told = x.told; is = x.is; faulted = same_fault e x.faulted }

-- ---- offsets

module _ (e : Entry) (line place : ℕ) (s text text' records records' : List ℕ) (d : Entry) where
  pub variables_text : AddsVariables e line place text text' records records' (variables_read s) (Ok d) → d.text ≤ e.text + length s
  variables_text = go (variables_read s) (variables_fit s)
    where
      go : (o : Outcome Listed) → ListedFits (length s) o → AddsVariables e line place text text' records records' o (Ok d) → d.text ≤ e.text + length s
      go (reads x) f y = omega (arith, f.0, ap (λ (i : Entry). i.text) (same_entry y.is))
      go (refuses g) f y = absurd (never y.is)

  pub operator_text : AddsOperator e line text text' (operator_read s) (Ok d) → d.text ≤ e.text + length s
  operator_text = go (operator_read s) (operator_fits s)
    where
      go : (o : Outcome Spec) → OperatorFits (length s) o → AddsOperator e line text text' o (Ok d) → d.text ≤ e.text + length s
      go (reads x) f y = omega (arith, f, ap (λ (i : Entry). i.text) (same_entry y.is))
      go (refuses g) f y = absurd (never y.is)

-- ---- a rule

-- what the three parts leave together
module _ (t : Tally) (l : Listed) (k : Spec) (xs : List (Sourced Action)) (shrunk : ℕ) where
  abbrev listed : List ℕ
  listed = Targets.texts l.variables l.exclusions

  abbrev one : ℕ
  one = t.text + length listed

  abbrev two : ℕ
  two = one + length k.argument

  abbrev whole : Body
  whole = rule l k xs

  entry_is : with_actions (with_operator (with_variables (empty_entry of_rule t.text) (length l.variables + length l.exclusions) one) (bit k.negated) k.name (span_word one (length k.argument)) two) (length xs) (two + length (Acts.texts xs)) shrunk (has id_code xs) (has chain_code xs)
      ≡ entry_of (reached_by t) shrunk whole
  unfolding body_text
  entry_is =
      let n : t.text + 0 ≡ t.text = add-zero t.text in
      let e : two + length (Acts.texts xs) ≡ t.text + length (listed ++ (k.argument ++ Acts.texts xs)) =
      omega (arith, length-append listed (k.argument ++ Acts.texts xs), length-append k.argument (Acts.texts xs)) in
      rw (n, e)

  module _ {text text₁ text₂ text₃ variables variables₁ actions actions₁ : List ℕ} {e d : Entry} {r : Result Entry Told} where
    rule_wrote : Laid text text₁ t.text listed → variables₁ ≡ stored_each variables (t.variables * variable_words) (Cores.records_from t.text l.variables l.exclusions)
        → e ≡ with_variables (empty_entry of_rule t.text) (length l.variables + length l.exclusions) one
        → Grew (with_operator e (bit k.negated) k.name (span_word e.text (length k.argument)) (e.text + length k.argument)) e.text k.argument text₁ text₂ [] [] (Ok d)
        → d ≡ with_operator e (bit k.negated) k.name (span_word e.text (length k.argument)) (e.text + length k.argument)
        → Grew (with_actions d (length xs) (d.text + length (Acts.texts xs)) shrunk (has id_code xs) (has chain_code xs)) d.text (Acts.texts xs) text₂ text₃ (stored_each actions (t.actions * action_words) (Acts.records_from d.text xs)) actions₁ r
        → Wrote whole shrunk t text text₃ variables variables₁ actions actions₁ r
    unfolding body_text
    rule_wrote y v p z q w =
        let n : t.text + 0 ≡ t.text = add-zero t.text in
        let a : e.text ≡ one = ap (λ (i : Entry). i.text) p in
        let b : d.text ≡ two = ap (λ (i : Entry). i.text) q ∙ ap (λ (i : ℕ). i + length k.argument) a in
        let m : Laid text₁ text₂ one k.argument = subst (λ (i : ℕ). Laid text₁ text₂ i k.argument) a z.laid in
        let o : Laid text₂ text₃ two (Acts.texts xs) = subst (λ (i : ℕ). Laid text₂ text₃ i (Acts.texts xs)) b w.laid in
        let f : d ≡ with_operator (with_variables (empty_entry of_rule t.text) (length l.variables + length l.exclusions) one) (bit k.negated) k.name (span_word one (length k.argument)) two =
        q ∙ ap (λ (i : Entry). with_operator i (bit k.negated) k.name (span_word i.text (length k.argument)) (i.text + length k.argument)) p in
        record {
          is = w.is ∙ ap (λ (i : Entry). Ok (with_actions i (length xs) (i.text + length (Acts.texts xs)) shrunk (has id_code xs) (has chain_code xs))) f ∙ ap (λ (i : Entry). Ok i) entry_is;
          laid = laid_more y (laid_more m o);
          listed = v ∙ rw n;
          acted = w.records_are ∙ rw (n, b);
        }

module _ (line : ℕ) (v o x : List ℕ) (t : Tally) (text variables actions : List ℕ) where
  abbrev start : Entry
  start = empty_entry of_rule t.text

  abbrev RuleTo : List ℕ → List ℕ → List ℕ → Result Entry Told → Type 0
  RuleTo text' variables' actions' r = Bodied (told line (rule_by (variables_read v) (operator_read o) (actions_read x))) (shrunk_by x) t text text' variables variables' actions actions' r

  module _ (text₁ variables₁ : List ℕ) where
    pub rule_variables : (f : Told) → AddsVariables start line t.variables text text₁ variables variables₁ (variables_read v) (Err f) → RuleTo text₁ variables₁ actions (Err f)
    rule_variables f = go (variables_read v)
      where
        go : (l : Outcome Listed) → AddsVariables start line t.variables text text₁ variables variables₁ l (Err f)
            → Bodied (told line (rule_by l (operator_read o) (actions_read x))) (shrunk_by x) t text text₁ variables variables₁ actions actions (Err f)
        go (reads l) y = absurd (never (sym y.is))
        go (refuses g) y = y

    module _ (e : Entry) (y : AddsVariables start line t.variables text text₁ variables variables₁ (variables_read v) (Ok e)) (text₂ : List ℕ) where
      pub rule_operator : (f : Told) → AddsOperator e line text₁ text₂ (operator_read o) (Err f) → RuleTo text₂ variables₁ actions (Err f)
      rule_operator f = go (variables_read v) y (operator_read o)
        where
          go : (l : Outcome Listed) → AddsVariables start line t.variables text text₁ variables variables₁ l (Ok e) → (k : Outcome Spec) → AddsOperator e line text₁ text₂ k (Err f)
              → Bodied (told line (rule_by l k (actions_read x))) (shrunk_by x) t text text₂ variables variables₁ actions actions (Err f)
          go (refuses g) y k z = absurd (never y.is)
          go (reads l) y (reads k) z = absurd (never (sym z.is))
          go (reads l) y (refuses g) z = fell_later y.laid.long z

      pub rule_done : (d : Entry) → AddsOperator e line text₁ text₂ (operator_read o) (Ok d) → (text₃ actions₁ : List ℕ) (r : Result Entry Told)
          → AddsActions d line t.actions text₂ text₃ actions actions₁ (actions_read x) (shrunk_by x) r → RuleTo text₃ variables₁ actions₁ r
      rule_done d z text₃ actions₁ r = go (variables_read v) y (operator_read o) z (actions_read x)
        where
          go : (l : Outcome Listed) → AddsVariables start line t.variables text text₁ variables variables₁ l (Ok e) → (k : Outcome Spec) → AddsOperator e line text₁ text₂ k (Ok d)
              → (m : Outcome (List (Sourced Action))) → AddsActions d line t.actions text₂ text₃ actions actions₁ m (shrunk_by x) r
              → Bodied (told line (rule_by l k m)) (shrunk_by x) t text text₃ variables variables₁ actions actions₁ r
          go (refuses g) y k z m w = absurd (never y.is)
          go (reads l) y (refuses g) z m w = absurd (never z.is)
          go (reads l) y (reads k) z (refuses g) w = fell_later (z.laid.long ∙ y.laid.long) w
          go (reads l) y (reads k) z (reads xs) w = rule_wrote t l k xs (shrunk_by x) y.laid y.records_are (same_entry y.is) z (same_entry z.is) w

-- ---- an action list alone

module _ (line : ℕ) (kind : Shape) (make : List (Sourced Action) → Body) (a : List ℕ) (t : Tally) (text text' variables actions actions' : List ℕ) (r : Result Entry Told)
    (entry : (xs : List (Sourced Action)) → with_actions (empty_entry kind t.text) (length xs) (t.text + length (Acts.texts xs)) (shrunk_by a) (has id_code xs) (has chain_code xs) ≡ entry_of (reached_by t) (shrunk_by a) (make xs))
    (laid : (xs : List (Sourced Action)) → Acts.texts xs ≡ body_text (make xs))
    (none : (xs : List (Sourced Action)) → listed_each t.text (make xs) ≡ [])
    (each : (xs : List (Sourced Action)) → Acts.records_from t.text xs ≡ acted_each t.text (make xs)) where
  acts_done : AddsActions (empty_entry kind t.text) line t.actions text text' actions actions' (actions_read a) (shrunk_by a) r
      → Bodied (told line (act_by make (actions_read a))) (shrunk_by a) t text text' variables variables actions actions' r
  unfolding stored_each
  acts_done = go (actions_read a)
    where
      go : (o : Outcome (List (Sourced Action))) → AddsActions (empty_entry kind t.text) line t.actions text text' actions actions' o (shrunk_by a) r
          → Bodied (told line (act_by make o)) (shrunk_by a) t text text' variables variables actions actions' r
      go (refuses f) y = y
      go (reads xs) y = record {
        is = y.is ∙ ap (λ (i : Entry). Ok i) (entry xs);
        laid = subst (λ (l : List ℕ). Laid text text' t.text l) (laid xs) y.laid;
        listed = sym (ap (stored_each variables (t.variables * variable_words)) (none xs));
        acted = y.records_are ∙ ap (stored_each actions (t.actions * action_words)) (each xs);
      }

module _ (line : ℕ) (a : List ℕ) (t : Tally) (text text' variables actions actions' : List ℕ) (r : Result Entry Told) where
  n : t.text + 0 ≡ t.text
  n = add-zero t.text

  pub action_done : AddsActions (empty_entry of_action t.text) line t.actions text text' actions actions' (actions_read a) (shrunk_by a) r
      → Bodied (told line (act_by act (actions_read a))) (shrunk_by a) t text text' variables variables actions actions' r
  unfolding body_text records_of texts_of
  action_done = acts_done line of_action act a t text text' variables actions actions' r (λ xs. refl) (λ xs. refl) (λ xs. refl) (λ xs. rw (n, n, n))

  pub defaults_done : AddsActions (empty_entry of_defaults t.text) line t.actions text text' actions actions' (actions_read a) (shrunk_by a) r
      → Bodied (told line (act_by defaults (actions_read a))) (shrunk_by a) t text text' variables variables actions actions' r
  unfolding body_text records_of texts_of
  defaults_done = acts_done line of_defaults defaults a t text text' variables actions actions' r (λ xs. refl) (λ xs. refl) (λ xs. refl) (λ xs. rw (n, n, n))

-- ---- a name alone

module _ (kind : Shape) (name : List ℕ) (t : Tally) (text variables actions : List ℕ) (room : t.text + length name ≤ length text) (shrunk : ℕ) where
  abbrev kept : Result Entry Told
  kept = Ok (with_name (empty_entry kind t.text) (span_word t.text (length name)) (t.text + length name))

  named_done : (x : Body) → kept ≡ Ok (entry_of (reached_by t) shrunk x) → name ≡ body_text x → listed_each t.text x ≡ [] → acted_each t.text x ≡ []
      → Bodied (Ok x) shrunk t text (stored text t.text name) variables variables actions actions kept
  unfolding stored_each
  named_done x e b l a = record {
    is = e;
    laid = subst (λ (m : List ℕ). Laid text (stored text t.text name) t.text m) b (laid_stored text t.text name room);
    listed = sym (ap (stored_each variables (t.variables * variable_words)) l);
    acted = sym (ap (stored_each actions (t.actions * action_words)) a);
  }

module _ (name : List ℕ) (t : Tally) (text variables actions : List ℕ) (room : t.text + length name ≤ length text) (shrunk : ℕ) where
  long : t.text + length (name ++ []) ≡ t.text + length name
  long = ap (λ (l : List ℕ). t.text + length l) (append-nil name)

  pub marker_done : Bodied (Ok (marker name)) shrunk t text (stored text t.text name) variables variables actions actions (kept of_marker name t text variables actions room shrunk)
  unfolding body_text records_of texts_of has
  marker_done = named_done of_marker name t text variables actions room shrunk (marker name) (rw long) (sym (append-nil name)) refl refl

  pub unknown_done : Bodied (Ok (unknown name)) shrunk t text (stored text t.text name) variables variables actions actions (kept of_other name t text variables actions room shrunk)
  unfolding body_text records_of texts_of has
  unknown_done = named_done of_other name t text variables actions room shrunk (unknown name) (rw long) (sym (append-nil name)) refl refl

-- ---- which argument is the list of actions

module _ (scratch : List ℕ) (name : ℕ) (a : Arguments) (shape : Shape) where
  -- the only one
  pub only_list : (shape ≡ of_action) ⊎ (shape ≡ of_defaults) → takes shape a.count ≡ true → held_list scratch name a ≡ part scratch name a.one
  only_list (inl e) h = let k : takes of_action a.count ≡ true = subst (λ (z : Shape). takes z a.count ≡ true) e h in rw k
  only_list (inr e) h = let k : takes of_defaults a.count ≡ true = subst (λ (z : Shape). takes z a.count ≡ true) e h in rw k

  -- or the third
  pub third_list : shape ≡ of_rule → takes shape a.count ≡ true → held_list scratch name a ≡ part scratch a.two a.three
  third_list e h =
      let k : takes of_rule a.count ≡ true = subst (λ (z : Shape). takes z a.count ≡ true) e h in
      let n : 2 ≤ a.count = leb-true 2 a.count (and_left (leb 2 a.count) (leb a.count 3) k) in
      rw (ne_eqb a.count 1 (λ z. omega (arith, n, z)))
