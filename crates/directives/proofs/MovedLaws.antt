-- A directive's arguments in another package: where each token's site moves, everything that was read from it moves with it.
use Rattle.std.specs.Prelude.{Result, Ok, Err}
use mathlib.Core.Path.{◌≡◌, refl, sym, ap, ap₂, ◌∙◌}
use Prim.Native.Nat.{ℕ, ◌+◌}
use native.Mathlib.Omega.{arith}
use native.Mathlib.Nat.{zero-add}
use mathlib.Core.List.{List, [], ◌∷◌, map}
use Rattle.lent.specs.Sources.{Part, Sourced, sourced, sited_all}
use Rattle.lent.specs.Table.{Refusal, too_long, not_ascii, short_buffer, no_room, named, unknown_operator, bad_cursor, resited, Outcome, refuses, reads}
use Rattle.lexer.specs.Tokens.{Token}
use Rattle.lexer.specs.Layout.{text_of}
use Rattle.operators.specs.Operators.{Spec}
use Rattle.records.specs.Actions.{Action}
use Rattle.actions.specs.Lists.{normal_site}
use Rattle.directives.specs.Directives.{Listed, listed, Body, rule, act, marker, defaults, unknown, Fault, wrong_count, untaken, stopped, id_missing, within, variables_read, operator_read, actions_read, Shape, of_rule, of_action, of_marker, of_defaults, of_other, rule_by, act_by, told, body_by, site_at, standing, argument_site, list_site, sited}
use Rattle.directives.specs.Parts.{resited_body, mapped}
use Rattle.directives.proofs.RefusalLaws.{OfVariable, OfOperator, OfAction, Only, variable_only, operator_only, action_only, variable_there, operator_there, action_there}

-- ---- one site behind another

module _ (g h h' : Part → Part) (e : (x : Part) → h' x ≡ g (h x)) where
  pub sited_moved : {A : Type 0} (xs : List (Sourced A)) → sited_all h' xs ≡ sited_all g (sited_all h xs)
  sited_moved [] = refl
  sited_moved {A} (x ∷ xs) = ap₂ (λ (p : Part) (l : List (Sourced A)). sourced x.thing p ∷ l) (e x.source) (sited_moved xs)

  pub resited_moved : (r : Refusal) → resited h' r ≡ resited g (resited h r)
  resited_moved too_long = refl
  resited_moved (not_ascii p) = refl
  resited_moved short_buffer = refl
  resited_moved (no_room n) = refl
  resited_moved (named why p name x) = ap (named why p name) (e x)
  resited_moved (unknown_operator p l x) = ap (unknown_operator p l) (e x)
  resited_moved bad_cursor = refl

-- ---- a body

module _ (g : Part → Part) (l : ℕ) where
  -- Lines are raised by l, and sources moved.
  abbrev pub moved_fault : Fault → Fault
  moved_fault (wrong_count n) = wrong_count (l + n)
  moved_fault (untaken n) = untaken (l + n)
  moved_fault (stopped n) = stopped (l + n)
  moved_fault (id_missing n) = id_missing (l + n)
  moved_fault (within n f) = within (l + n) (resited g f)

  abbrev pub moved_result : Result Body Fault → Result Body Fault
  moved_result = mapped moved_fault (resited_body g)

module _ (g : Part → Part) (s s' : List ℕ) where
  -- A token of s, and one of s' that has the same text and whose site is moved.
  pub record Moves (t t' : Token) : Type 0 where
    pub site : (x : Part) → site_at s' (standing t') x ≡ g (site_at s (standing t) x)
    pub text : t'.text ≡ t.text

  pub data AllMove : List Token → List Token → Type 0 where
    none : AllMove [] []
    also : {t t' : Token} {ts ts' : List Token} → Moves t t' → AllMove ts ts' → AllMove (t ∷ ts) (t' ∷ ts')

  list_site_lem : {t t' : Token} → Moves t t' → (x : Part) → site_at s' (standing t') (normal_site t'.text x) ≡ g (site_at s (standing t) (normal_site t.text x))
  list_site_lem {t} {t'} m x = m.site (normal_site t'.text x) ∙ ap (λ (u : List ℕ). g (site_at s (standing t) (normal_site u x))) m.text

  module _ (l n : ℕ) (name : List ℕ) where
    abbrev fell : Refusal → Result Body Fault
    fell f = Err (within (l + n) f)

    -- a list of actions alone
    module _ {t t' : Token} (m : Moves t t') where
      abbrev one : List Token
      one = t ∷ []

      abbrev one' : List Token
      one' = t' ∷ []

      act_moved : (o : Outcome (List (Sourced Action))) → Only OfAction o → sited s' of_action one' (told (l + n) (act_by act o)) ≡ moved_result g l (sited s of_action one (told n (act_by act o)))
      unfolding list_site
      act_moved (refuses f) h =
          ap fell (action_there s' of_action one' f h ∙ resited_moved g (list_site s 0 one) (list_site s' 0 one') (list_site_lem m) f ∙ ap (resited g) (sym (action_there s of_action one f h)))
      act_moved (reads xs) h = ap (λ (ys : List (Sourced Action)). Ok (act ys)) (sited_moved g (list_site s 0 one) (list_site s' 0 one') (list_site_lem m) xs)

      defaults_moved : (o : Outcome (List (Sourced Action))) → Only OfAction o → sited s' of_defaults one' (told (l + n) (act_by defaults o)) ≡ moved_result g l (sited s of_defaults one (told n (act_by defaults o)))
      unfolding list_site
      defaults_moved (refuses f) h =
          ap fell (action_there s' of_defaults one' f h ∙ resited_moved g (list_site s 0 one) (list_site s' 0 one') (list_site_lem m) f ∙ ap (resited g) (sym (action_there s of_defaults one f h)))
      defaults_moved (reads xs) h = ap (λ (ys : List (Sourced Action)). Ok (defaults ys)) (sited_moved g (list_site s 0 one) (list_site s' 0 one') (list_site_lem m) xs)

    -- a rule, whose third argument is there or not
    module _ {v v' o o' : Token} (mv : Moves v v') (mo : Moves o o') (third third' : List Token) where
      abbrev all : List Token
      all = v ∷ o ∷ third

      abbrev all' : List Token
      all' = v' ∷ o' ∷ third'

      first_site : (x : Part) → argument_site s' 0 all' x ≡ g (argument_site s 0 all x)
      unfolding argument_site
      first_site x = mv.site x

      second_site : (x : Part) → argument_site s' 1 all' x ≡ g (argument_site s 1 all x)
      unfolding argument_site
      second_site x = mo.site x

      rule_moved : (a : Outcome Listed) → Only OfVariable a → (b : Outcome Spec) → Only OfOperator b → (c : Outcome (List (Sourced Action))) → Only OfAction c
          → ((xs : List (Sourced Action)) → c ≡ reads xs → sited_all (list_site s' 2 all') xs ≡ sited_all g (sited_all (list_site s 2 all) xs))
          → ((f : Refusal) → c ≡ refuses f → resited (list_site s' 2 all') f ≡ resited g (resited (list_site s 2 all) f))
          → sited s' of_rule all' (told (l + n) (rule_by a b c)) ≡ moved_result g l (sited s of_rule all (told n (rule_by a b c)))
      rule_moved (refuses f) h b i c j p q =
          ap fell (variable_there s' of_rule all' f h ∙ resited_moved g (argument_site s 0 all) (argument_site s' 0 all') first_site f ∙ ap (resited g) (sym (variable_there s of_rule all f h)))
      rule_moved (reads a) h (refuses f) i c j p q =
          ap fell (operator_there s' of_rule all' f i ∙ resited_moved g (argument_site s 1 all) (argument_site s' 1 all') second_site f ∙ ap (resited g) (sym (operator_there s of_rule all f i)))
      rule_moved (reads a) h (reads b) i (refuses f) j p q = ap fell (action_there s' of_rule all' f j ∙ q f refl ∙ ap (resited g) (sym (action_there s of_rule all f j)))
      rule_moved (reads a) h (reads b) i (reads xs) j p q =
          ap₂ (λ (vs : Listed) (ys : List (Sourced Action)). Ok (rule vs b ys))
          (ap₂ listed (sited_moved g (argument_site s 0 all) (argument_site s' 0 all') first_site a.variables) (sited_moved g (argument_site s 0 all) (argument_site s' 0 all') first_site a.exclusions))
          (p xs refl)

    texts_same : {ts ts' : List Token} → AllMove ts ts' → map text_of ts' ≡ map text_of ts
    texts_same none = refl
    texts_same (also m a) = ap₂ (λ (t : List ℕ) (l : List (List ℕ)). t ∷ l) m.text (texts_same a)

    by_texts : (k : Shape) (ts ts' : List Token) → AllMove ts ts'
        → sited s' k ts' (body_by k (l + n) name (map text_of ts)) ≡ moved_result g l (sited s k ts (body_by k n name (map text_of ts)))
    unfolding list_site
    by_texts of_rule _ _ none = refl
    by_texts of_rule _ _ (also a none) = refl
    by_texts of_rule _ _ (also {t = v} {t' = v'} a (also {t = o} {t' = o'} b none)) =
        rule_moved a b [] [] (variables_read v.text) (variable_only v.text) (operator_read o.text) (operator_only o.text) (reads []) tt (λ xs e. bare xs e) (λ f e. absurd (apart e))
      where
        bare : (xs : List (Sourced Action)) → ◌≡◌ {A = Outcome (List (Sourced Action))} (reads []) (reads xs)
            → sited_all (list_site s' 2 (v' ∷ o' ∷ [])) xs ≡ sited_all g (sited_all (list_site s 2 (v ∷ o ∷ [])) xs)
        bare [] e = refl
        bare (x ∷ xs) e = let z : ◌≡◌ {A = ℕ} 0 1 = cc in absurd (omega arith)

        apart : {f : Refusal} → ◌≡◌ {A = Outcome (List (Sourced Action))} (reads []) (refuses f) → ⊥
        apart e = let z : ◌≡◌ {A = ℕ} 0 1 = cc in absurd (omega arith)
    by_texts of_rule _ _ (also {t = v} {t' = v'} a (also {t = o} {t' = o'} b (also {t = x} {t' = x'} c none))) =
        rule_moved a b (x ∷ []) (x' ∷ []) (variables_read v.text) (variable_only v.text) (operator_read o.text) (operator_only o.text) (actions_read x.text) (action_only x.text)
        (λ xs e. sited_moved g (list_site s 2 (v ∷ o ∷ x ∷ [])) (list_site s' 2 (v' ∷ o' ∷ x' ∷ [])) (list_site_lem c) xs)
        (λ f e. resited_moved g (list_site s 2 (v ∷ o ∷ x ∷ [])) (list_site s' 2 (v' ∷ o' ∷ x' ∷ [])) (list_site_lem c) f)
    by_texts of_rule _ _ (also a (also b (also c (also d m)))) = refl
    by_texts of_action _ _ none = refl
    by_texts of_action _ _ (also {t = x} {t' = x'} a none) = act_moved a (actions_read x.text) (action_only x.text)
    by_texts of_action _ _ (also a (also b m)) = refl
    by_texts of_marker _ _ none = refl
    by_texts of_marker _ _ (also {t = x} {t' = x'} a none) = refl
    by_texts of_marker _ _ (also a (also b m)) = refl
    by_texts of_defaults _ _ none = refl
    by_texts of_defaults _ _ (also {t = x} {t' = x'} a none) = defaults_moved a (actions_read x.text) (action_only x.text)
    by_texts of_defaults _ _ (also a (also b m)) = refl
    by_texts of_other ts ts' m = refl

    -- What is read of a directive's arguments in s' is what is read of them in s, moved.
    pub body_moved : (k : Shape) (ts ts' : List Token) → AllMove ts ts'
        → sited s' k ts' (body_by k (l + n) name (map text_of ts')) ≡ moved_result g l (sited s k ts (body_by k n name (map text_of ts)))
    body_moved k ts ts' m = ap (λ (x : List (List ℕ)). sited s' k ts' (body_by k (l + n) name x)) (texts_same m) ∙ by_texts k ts ts' m

-- ---- where nothing moves

abbrev pub still : Part → Part
still x = x

module _ {A : Type 0} where
  pub sited_still : (xs : List (Sourced A)) → sited_all still xs ≡ xs
  sited_still [] = refl
  sited_still (x ∷ xs) = ap (λ (l : List (Sourced A)). x ∷ l) (sited_still xs)

resited_still : (r : Refusal) → resited still r ≡ r
resited_still too_long = refl
resited_still (not_ascii p) = refl
resited_still short_buffer = refl
resited_still (no_room n) = refl
resited_still (named why p name x) = refl
resited_still (unknown_operator p l x) = refl
resited_still bad_cursor = refl

pub result_still : (r : Result Body Fault) → moved_result still 0 r ≡ r
result_still (Err (wrong_count n)) = ap (λ (m : ℕ). Err (wrong_count m)) (zero-add n)
result_still (Err (untaken n)) = ap (λ (m : ℕ). Err (untaken m)) (zero-add n)
result_still (Err (stopped n)) = ap (λ (m : ℕ). Err (stopped m)) (zero-add n)
result_still (Err (id_missing n)) = ap (λ (m : ℕ). Err (id_missing m)) (zero-add n)
result_still (Err (within n f)) = ap₂ (λ (m : ℕ) (h : Refusal). Err (within m h)) (zero-add n) (resited_still f)
result_still (Ok (rule vs o xs)) =
    ap₂ (λ (ws : Listed) (ys : List (Sourced Action)). Ok (rule ws o ys)) (ap₂ listed (sited_still vs.variables) (sited_still vs.exclusions)) (sited_still xs)
result_still (Ok (act xs)) = ap (λ (ys : List (Sourced Action)). Ok (act ys)) (sited_still xs)
result_still (Ok (marker m)) = refl
result_still (Ok (defaults xs)) = ap (λ (ys : List (Sourced Action)). Ok (defaults ys)) (sited_still xs)
result_still (Ok (unknown n)) = refl
