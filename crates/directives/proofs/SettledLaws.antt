-- What is read of a directive with places in its own texts, and then put into the input, is what the definition says: its records, or its fault.
use Rattle.std.specs.Prelude.{Result, Ok, Err}
use mathlib.Core.Path.{◌≡◌, refl, sym, ap, ap₂, ◌∙◌, subst}
use mathlib.Core.Bool.{Bool, true, false}
use mathlib.Core.List.{List, [], ◌∷◌, map}
use Prim.Native.Nat.{ℕ, ◌+◌, ◌*◌, ◌≤◌}
use native.Mathlib.Omega.{arith}
use lib.ListN.{length, get_or}
use lib.Dec.{ltb}
use Rattle.ascii.specs.Choice.{pick}
use Rattle.lent.specs.Sizes.{limit, variable_words, action_words}
use Rattle.lent.specs.Buffers.{zeros, padded, stored_each}
use Rattle.lent.specs.Sources.{Part, part_word, Sourced, sited_all}
use Rattle.lent.specs.Table.{Given, given, Refusal, too_long, not_ascii, short_buffer, no_room, named, no_action, no_argument, no_variable, unknown_operator, bad_cursor, resited, refused, Outcome, refuses, reads}
use Rattle.places.specs.Moves.{last_changed}
use Rattle.places.proofs.LastLaws.{Narrow, AllNarrow}
use Rattle.lexer.specs.declared.Cursor.{Cursor}
use Rattle.lexer.specs.Calls.{Reached as Arrived}
use Rattle.lexer.specs.Tokens.{Token}
use Rattle.lexer.specs.Layout.{text_of}
use Rattle.variables.specs.Variables.{Targets, targets, refused as none}
use Rattle.variables.specs.Steps.{targets_of}
use Rattle.variables.specs.declared.singles.Exclusions.TheVariants.{AsWritten}
use Rattle.variables.proofs.SourceLaws as Sources
use Rattle.operators.specs.Operators.{Spec, Reading, accepted, unknown as no_operator, operator}
use Rattle.operators.specs.Promises.{outcome_of}
use Rattle.operators.proofs.PromiseLaws.{refused_inside}
use Rattle.variables.specs.Cores as Cores
use Rattle.records.specs.Actions.{Action}
use Rattle.records.specs.Layout as Acts
use Rattle.lent.specs.Layout.{records_of}
use Rattle.actions.specs.Normal.{normalised}
use Rattle.actions.specs.Pieces.{pieces}
use Rattle.actions.proofs.CountLaws.{Counted, from_counted}
use Rattle.actions.proofs.SourceLaws.{Inside, EachInside, AllInside, listed_inside}
use Rattle.records.specs.Codes.{id_code, chain_code}
use Rattle.directives.specs.Directives.{Listed, Body, rule, act, marker, defaults, unknown, Fault, wrong_count, untaken, stopped, id_missing, within, variables_read, listed_by, operator_read, actions_read, Shape, of_rule, of_action, of_marker, of_defaults, of_other, rule_by, act_by, told, body_by, argument_site, list_site, list_number, sited_body, refusal_site, sited_fault}
use Rattle.directives.specs.Layout.{Reached, name_end, argument_end}
use Rattle.directives.specs.Table.{fault_given}
use Rattle.directives.specs.Promises.{argument_number, fault_told, naming}
use Rattle.directives.specs.Steps.{Laid, taken_from, arguments_as, shrunk_by, reached_by, shrunk_for, entry_of, listed_each, acted_each, Faulted, Wrote}
use Rattle.directives.specs.Settling.{text_number, list_among, list_in, list_text, list_there, token_word, list_word, token_moved, list_moved, span_moved, fault_moved, Settled}
use Rattle.directives.specs.declared.ArgumentFault.{ArgumentFault}
use Rattle.directives.specs.declared.ArgumentFault.TheVariants.{UnknownVariable, UnknownOperator, UnknownAction, BadArgument}
use Rattle.directives.specs.declared.Fault.{Fault as Told}
use Rattle.directives.specs.declared.arguments.Arguments.{Arguments}
use Rattle.directives.specs.declared.parts.Tally.{Tally}
use Rattle.directives.specs.declared.parts.Entry.{Entry}
use Rattle.directives.proofs.WhyLaws.{flaw_high, argument_low, line_high, refused_low, why_variable, why_operator, OfList, why_list}
use Rattle.directives.proofs.SitedLaws.{SameBody, sited_same, resited_number, fault_name_lem}
use Rattle.directives.proofs.SiteLaws.{list_within, list_token, span_settled, list_span_settled, variables_settled, every_narrow, actions_settled}

-- ---- where sources stand before they are put into the input

-- a piece of the list of actions
pub record ListWhere (k : Shape) (args : List Token) (x : Part) : Type 0 where
  pub number : list_number k ≡ list_among (length args)
  pub inside : Inside (length (normalised (text_number (list_among (length args)) args))) x

abbrev pub RefusedWhere : Shape → List Token → Refusal → Type 0
RefusedWhere k args too_long = ⊥
RefusedWhere k args (not_ascii p) = ⊥
RefusedWhere k args short_buffer = ⊥
RefusedWhere k args (no_room p) = ⊥
RefusedWhere k args (named no_action p n x) = ListWhere k args x
RefusedWhere k args (named (no_argument flaw) p n x) = ListWhere k args x
RefusedWhere k args (named no_variable p n x) = Narrow x
RefusedWhere k args (unknown_operator p l x) = Narrow x
RefusedWhere k args bad_cursor = ⊥

-- the list with this number has these actions
pub record ListsWhere (n : ℕ) (args : List Token) (xs : List (Sourced Action)) : Type 0 where
  pub number : list_among (length args) ≡ n
  pub inside : EachInside (length (normalised (text_number n args))) xs

pub record TargetsWhere (x : Listed) : Type 0 where
  pub variables : AllNarrow x.variables
  pub exclusions : AllNarrow x.exclusions

abbrev pub Where : Shape → List Token → Result Body Fault → Type 0
Where k args (Ok (rule vs o xs)) = TargetsWhere vs × ListsWhere 2 args xs
Where k args (Ok (act xs)) = ListsWhere 0 args xs
Where k args (Ok (marker m)) = Unit {0}
Where k args (Ok (defaults xs)) = ListsWhere 0 args xs
Where k args (Ok (unknown n)) = Unit {0}
Where k args (Err (wrong_count n)) = Unit {0}
Where k args (Err (untaken n)) = Unit {0}
Where k args (Err (stopped n)) = Unit {0}
Where k args (Err (id_missing n)) = Unit {0}
Where k args (Err (within n f)) = RefusedWhere k args f

-- ---- one argument

abbrev ListedAt : Shape → List Token → Outcome Listed → Type 0
ListedAt k args (reads x) = TargetsWhere x
ListedAt k args (refuses f) = RefusedWhere k args f

listed_at : (k : Shape) (args : List Token) (t : List ℕ) → length t ≤ limit → ListedAt k args (variables_read t)
listed_at k args t l = go (targets_of AsWritten t) (Sources.targets_inside AsWritten t)
  where
    go : (ts : Targets) → Sources.EachIn (Sources.Inside (length t)) ts → ListedAt k args (listed_by ts)
    go (targets vs es) w = record { variables = every_narrow (length t) l w.0; exclusions = every_narrow (length t) l w.1 }
    go (none i name x) w = (omega (arith, w.some), omega (arith, w.some, w.within, l))

abbrev SpecAt : Shape → List Token → Outcome Spec → Type 0
SpecAt k args (reads x) = Unit {0}
SpecAt k args (refuses f) = RefusedWhere k args f

spec_at : (k : Shape) (args : List Token) (t : List ℕ) → length t ≤ limit → SpecAt k args (operator_read t)
spec_at k args t l = go (operator t) refl
  where
    go : (o : Reading) → operator t ≡ o → SpecAt k args (outcome_of t o)
    go (accepted x) e = tt
    go (no_operator name) e = (omega arith, omega (arith, refused_inside t name e, l))

abbrev ListAt : Shape → ℕ → List Token → Outcome (List (Sourced Action)) → Type 0
ListAt k n args (reads xs) = ListsWhere n args xs
ListAt k n args (refuses f) = RefusedWhere k args f

list_at : (k : Shape) (n : ℕ) (args : List Token) (t : List ℕ) → list_number k ≡ n → list_among (length args) ≡ n → text_number n args ≡ t → ListAt k n args (actions_read t)
list_at k n args t a b e = go (actions_read t) (from_counted 0 (pieces (normalised t))) (listed_inside (normalised t))
  where
    there : (x : Part) → Inside (length (normalised t)) x → ListWhere k args x
    there x i = record { number = a ∙ sym b; inside = subst (λ (m : ℕ). Inside (length (normalised (text_number m args))) x) (sym b) (subst (λ (u : List ℕ). Inside (length (normalised u)) x) (sym e) i) }

    go : (o : Outcome (List (Sourced Action))) → Counted 0 (length (pieces (normalised t))) o → AllInside (length (normalised t)) o → ListAt k n args o
    go (reads xs) c i = record { number = b; inside = subst (λ (u : List ℕ). EachInside (length (normalised u)) xs) (sym e) i }
    go (refuses (named no_action p name x)) c i = there x i
    go (refuses (named (no_argument flaw) p name x)) c i = there x i
    go (refuses (named no_variable p name x)) c i = absurd c
    go (refuses too_long) c i = absurd c
    go (refuses (not_ascii p)) c i = absurd c
    go (refuses short_buffer) c i = absurd c
    go (refuses (no_room p)) c i = absurd c
    go (refuses (unknown_operator p m x)) c i = absurd c
    go (refuses bad_cursor) c i = absurd c

-- ---- one directive

module _ (l : ℕ) (name : List ℕ) where
  rule_where : (args : List Token) (v : Outcome Listed) (o : Outcome Spec) (a : Outcome (List (Sourced Action))) → ListedAt of_rule args v → SpecAt of_rule args o → ListAt of_rule 2 args a
      → Where of_rule args (told l (rule_by v o a))
  rule_where args (refuses f) o a x y z = x
  rule_where args (reads v) (refuses f) a x y z = y
  rule_where args (reads v) (reads o) (refuses f) x y z = z
  rule_where args (reads v) (reads o) (reads xs) x y z = (x, z)

  act_where : (k : Shape) (args : List Token) (make : List (Sourced Action) → Body) (a : Outcome (List (Sourced Action))) → ((xs : List (Sourced Action)) → ListsWhere 0 args xs → Where k args (Ok (make xs)))
      → ListAt k 0 args a → Where k args (told l (act_by make a))
  act_where k args make (refuses f) h z = z
  act_where k args make (reads xs) h z = h xs z

  pub body_where : (k : Shape) (args : List Token) → ((n : ℕ) → length (text_number n args) ≤ limit) → Where k args (body_by k l name (map text_of args))
  unfolding text_number
  body_where of_rule [] short = tt
  body_where of_rule (v ∷ []) short = tt
  body_where of_rule (v ∷ o ∷ []) short =
      rule_where (v ∷ o ∷ []) (variables_read v.text) (operator_read o.text) (reads []) (listed_at of_rule (v ∷ o ∷ []) v.text (short 0)) (spec_at of_rule (v ∷ o ∷ []) o.text (short 1))
      (record { number = refl; inside = tt })
  body_where of_rule (v ∷ o ∷ a ∷ []) short =
      let args = v ∷ o ∷ a ∷ [] in
      rule_where args (variables_read v.text) (operator_read o.text) (actions_read a.text) (listed_at of_rule args v.text (short 0)) (spec_at of_rule args o.text (short 1))
      (list_at of_rule 2 args a.text refl refl refl)
  body_where of_rule (v ∷ o ∷ a ∷ x ∷ xs) short = tt
  body_where of_action [] short = tt
  body_where of_action (a ∷ []) short = act_where of_action (a ∷ []) act (actions_read a.text) (λ xs z. z) (list_at of_action 0 (a ∷ []) a.text refl refl refl)
  body_where of_action (a ∷ x ∷ xs) short = tt
  body_where of_marker [] short = tt
  body_where of_marker (m ∷ []) short = tt
  body_where of_marker (m ∷ x ∷ xs) short = tt
  body_where of_defaults [] short = tt
  body_where of_defaults (a ∷ []) short = act_where of_defaults (a ∷ []) defaults (actions_read a.text) (λ xs z. z) (list_at of_defaults 0 (a ∷ []) a.text refl refl refl)
  body_where of_defaults (a ∷ x ∷ xs) short = tt
  body_where of_other xs short = tt

-- ---- a fault

abbrev value : ℕ → Given → ℕ
value i g = get_or g.values i 0

abbrev number : Given → ℕ
number g = g.number

four : {n m a b c d a' b' c' d' : ℕ} → n ≡ m → a ≡ a' → b ≡ b' → c ≡ c' → d ≡ d' → given n (a ∷ b ∷ c ∷ d ∷ []) ≡ given m (a' ∷ b' ∷ c' ∷ d' ∷ [])
four e f g h i = rw (e, f, g, h, i)

module _ (s : List ℕ) (from : Cursor) (arrived : Arrived s from) (short : length s ≤ limit) (name : ℕ) (a : Arguments) (a_is : a ≡ arguments_as name from.place (taken_from s from)) where
  abbrev args : List Token
  args = taken_from s from

  count_is : a.count ≡ length args
  count_is = ap (λ (b : Arguments). b.count) a_is

  -- a span of the first two arguments, and of the list of actions
  variable_moved : (x : Part) → Narrow x → span_moved s from a name UnknownVariable (part_word x) ≡ part_word (argument_site s 0 args x)
  variable_moved x n = rw (count_is, ap (λ (b : Arguments). b.first) a_is) (span_settled s 0 args x n)

  operator_moved : (x : Part) → Narrow x → span_moved s from a name UnknownOperator (part_word x) ≡ part_word (argument_site s 1 args x)
  operator_moved x n = rw (count_is, ap (λ (b : Arguments). b.second) a_is) (span_settled s 1 args x n)

  list_moved_lem : (k : Shape) (x : Part) → ListWhere k args x → pick (list_there a.count) (list_word s from (list_in a name).token (part_word x)) (part_word x) ≡ part_word (list_site s (list_number k) args x)
  list_moved_lem k x w =
      rw (a_is, list_token name from.place args, w.number) (list_span_settled s from (list_within s from arrived short) x w.inside)

  of_list : (why : ArgumentFault) (w : ℕ) → OfList why → span_moved s from a name why w ≡ pick (list_there a.count) (list_word s from (list_in a name).token w) w
  of_list UnknownVariable w h = absurd h
  of_list UnknownOperator w h = absurd h
  of_list UnknownAction w h = refl
  of_list (BadArgument flaw) w h = refl

  -- by the refusal: the answer's number says which argument it is in
  told_moved : (k : Shape) (why : ArgumentFault) (line at len span l : ℕ) (f : Refusal) → RefusedWhere k args f
      → given (argument_number why) (line ∷ at ∷ len ∷ span ∷ []) ≡ given (refused f).number (l ∷ (refused f).values)
      → given (argument_number why) (line ∷ at ∷ len ∷ span_moved s from a name why span ∷ []) ≡ given (refused f).number (l ∷ (refused (resited (refusal_site s k args f) f)).values)
  told_moved k why line at len span l too_long w e = absurd w
  told_moved k why line at len span l (not_ascii p) w e = absurd w
  told_moved k why line at len span l short_buffer w e = absurd w
  told_moved k why line at len span l (no_room p) w e = absurd w
  told_moved k why line at len span l bad_cursor w e = absurd w
  told_moved k why line at len span l (named no_variable p n x) w e =
      four (ap number e) (ap (value 0) e) (ap (value 1) e) (ap (value 2) e)
      (ap₂ (span_moved s from a name) (why_variable why (ap number e)) (ap (value 3) e) ∙ variable_moved x w)
  told_moved k why line at len span l (unknown_operator p n x) w e =
      four (ap number e) (ap (value 0) e) (ap (value 1) e) (ap (value 2) e)
      (ap₂ (span_moved s from a name) (why_operator why (ap number e)) (ap (value 3) e) ∙ operator_moved x w)
  told_moved k why line at len span l (named no_action p n x) w e =
      let h : OfList why = why_list why (λ z. omega (arith, z, ap number e)) (λ z. omega (arith, z, ap number e)) in
      four (ap number e) (ap (value 0) e) (ap (value 1) e) (ap (value 2) e)
      (ap (span_moved s from a name why) (ap (value 3) e) ∙ of_list why (part_word x) h ∙ list_moved_lem k x w)
  told_moved k why line at len span l (named (no_argument flaw) p n x) w e =
      let m = flaw_high flaw in
      let h : OfList why = why_list why (λ z. omega (arith, z, ap number e, m)) (λ z. omega (arith, z, ap number e, m)) in
      four (ap number e) (ap (value 0) e) (ap (value 1) e) (ap (value 2) e)
      (ap (span_moved s from a name why) (ap (value 3) e) ∙ of_list why (part_word x) h ∙ list_moved_lem k x w)

  named_same : (f : Told) → naming (fault_moved s from a name f) ≡ naming f
  named_same (Told.Line why line) = refl
  named_same (Told.Argument why line at len span) = refl

  given_moved : (k : Shape) (q : Fault) → Where k args (Err q) → (f : Told) → fault_told f ≡ fault_given q → fault_told (fault_moved s from a name f) ≡ fault_given (sited_fault s k args q)
  given_moved k (wrong_count l) w (Told.Line why line) e = e
  given_moved k (untaken l) w (Told.Line why line) e = e
  given_moved k (stopped l) w (Told.Line why line) e = e
  given_moved k (id_missing l) w (Told.Line why line) e = e
  given_moved k (wrong_count l) w (Told.Argument why line at len span) e = absurd (let m = argument_low why in omega (arith, m, ap number e))
  given_moved k (untaken l) w (Told.Argument why line at len span) e = absurd (let m = argument_low why in omega (arith, m, ap number e))
  given_moved k (stopped l) w (Told.Argument why line at len span) e = absurd (let m = argument_low why in omega (arith, m, ap number e))
  given_moved k (id_missing l) w (Told.Argument why line at len span) e = absurd (let m = argument_low why in omega (arith, m, ap number e))
  given_moved k (within l f) w (Told.Line why line) e = absurd (let m = refused_low f in let h = line_high why in omega (arith, m, h, ap number e))
  given_moved k (within l f) w (Told.Argument why line at len span) e =
      told_moved k why line at len span l f w e ∙ ap (λ (n : ℕ). given n (l ∷ (refused (resited (refusal_site s k args f) f)).values)) (sym (resited_number (refusal_site s k args f) f))

  -- A fault that is put into the input is the definition's.
  pub fault_settled : (k : Shape) (q : Fault) → Where k args (Err q) → {text text' : List ℕ} {f : Told} → Faulted q text text' f
      → Faulted (sited_fault s k args q) text text' (fault_moved s from a name f)
  fault_settled k q w {text} {text'} {f} x = record {
    given = given_moved k q w f x.given;
    left = ap (λ (b : Bool). pick b text' (zeros (length text))) (named_same f) ∙ x.left ∙ ap (padded (length text)) (sym (fault_name_lem s k args q));
  }

-- ---- records

none_moved : (s : List ℕ) (t : Part) (width i : ℕ) (xs : List ℕ) (b : Bool) → pick b (last_changed (token_word s t) width 0 i xs) xs ≡ xs
unfolding last_changed
none_moved s t width i xs true = refl
none_moved s t width i xs false = refl

no_list_moved : (s : List ℕ) (from : Cursor) (t : Part) (shrunk i : ℕ) (xs : List ℕ) (b : Bool) → pick b (list_moved s from t shrunk 0 i xs) xs ≡ xs
unfolding last_changed
no_list_moved s from t shrunk i xs b = outer b (ltb 0 shrunk)
  where
    outer : (b c : Bool) → pick b (pick c xs xs) xs ≡ xs
    outer true true = refl
    outer true false = refl
    outer false c = refl

entry_sited : (r : Reached) (n : ℕ) (x y : Body) → SameBody y x → shrunk_for y n ≡ shrunk_for x n → entry_of r n y ≡ entry_of r n x
entry_sited r n x y m e = rw (m.kind, m.name, m.negated, m.operator, m.argument, m.listed, m.acted, m.text, m.listed_text_lem, m.has_same id_code, m.has_same chain_code, e)

shrunk_sited : (s : List ℕ) (args : List Token) (x : Body) (n : ℕ) → shrunk_for (sited_body s args x) n ≡ shrunk_for x n
shrunk_sited s args (rule vs o xs) n = refl
shrunk_sited s args (act xs) n = refl
shrunk_sited s args (marker m) n = refl
shrunk_sited s args (defaults xs) n = refl
shrunk_sited s args (unknown m) n = refl

end_sited : (o : ℕ) (x y : Body) → SameBody y x → argument_end o y ≡ argument_end o x
end_sited o x y m = rw (m.name, m.listed_text_lem, m.argument)

module _ (s : List ℕ) (from : Cursor) (arrived : Arrived s from) (short : length s ≤ limit) (name : ℕ) (a : Arguments) (a_is : a ≡ arguments_as name from.place (taken_from s from))
    (t : Tally) (e : Entry) (variables variables₂ actions actions₂ : List ℕ) where
  abbrev there : List Token
  there = taken_from s from

  abbrev shrunk : ℕ
  shrunk = shrunk_by (list_text s from)

  -- variables and exclusions
  targets_put : (x : Listed) (o n : ℕ) → TargetsWhere x → n ≡ length x.variables + length x.exclusions
      → token_moved s (ltb 0 a.count) a.first variable_words n (t.variables * variable_words) (stored_each variables (t.variables * variable_words) (Cores.records_from o x.variables x.exclusions))
      ≡ stored_each variables (t.variables * variable_words) (Cores.records_from o (sited_all (argument_site s 0 there) x.variables) (sited_all (argument_site s 0 there) x.exclusions))
  targets_put x o n w c = rw (c, a_is) (variables_settled s there variables (t.variables * variable_words) o x.variables x.exclusions w.variables w.exclusions)

  -- actions of the list with this number
  actions_put : (k o n : ℕ) (xs : List (Sourced Action)) → ListsWhere k there xs → n ≡ length xs
      → pick (list_there a.count) (list_moved s from (list_in a name).token shrunk n (t.actions * action_words) (stored_each actions (t.actions * action_words) (Acts.records_from o xs)))
      (stored_each actions (t.actions * action_words) (Acts.records_from o xs))
      ≡ stored_each actions (t.actions * action_words) (Acts.records_from o (sited_all (list_site s k there) xs))
  actions_put k o n xs w c =
      rw (c, a_is, list_token name from.place there)
      (actions_settled s from (list_within s from arrived short) actions (t.actions * action_words) o xs (subst (λ (j : ℕ). EachInside (length (normalised (text_number j there))) xs) (sym w.number) w.inside)
      ∙ ap (λ (j : ℕ). stored_each actions (t.actions * action_words) (Acts.records_from o (sited_all (list_site s j there) xs))) w.number)

  abbrev Put : Body → Type 0
  Put x = (variables₂ ≡ stored_each variables (t.variables * variable_words) (listed_each t.text (sited_body s there x)))
      × (actions₂ ≡ stored_each actions (t.actions * action_words) (acted_each t.text (sited_body s there x)))

  module _ {variables₁ actions₁ : List ℕ} (z : Settled s from a name t e variables₁ variables₂ actions₁ actions₂) where
    -- no variables
    none_listed : variables₁ ≡ variables → e.variables ≡ 0 → variables₂ ≡ variables
    none_listed v n = z.listed ∙ rw n (none_moved s a.first variable_words (t.variables * variable_words) variables₁ (ltb 0 a.count)) ∙ v

    none_acted : actions₁ ≡ actions → e.actions ≡ 0 → actions₂ ≡ actions
    none_acted v n = z.acted ∙ rw n (no_list_moved s from (list_in a name).token e.shrunk (t.actions * action_words) actions₁ (list_there a.count)) ∙ v

    list_put : (k : ℕ) (x : Body) (o : ℕ) (xs : List (Sourced Action)) → ListsWhere k there xs → e.actions ≡ length xs → e.shrunk ≡ shrunk
        → actions₁ ≡ stored_each actions (t.actions * action_words) (Acts.records_from o xs) → actions₂ ≡ stored_each actions (t.actions * action_words) (Acts.records_from o (sited_all (list_site s k there) xs))
    list_put k x o xs w c h v = z.acted ∙ rw (h, v) (actions_put k o e.actions xs w c)

    body_put : (k : Shape) (x : Body) → Where k there (Ok x) → e ≡ entry_of (reached_by t) shrunk x
        → variables₁ ≡ stored_each variables (t.variables * variable_words) (listed_each t.text x) → actions₁ ≡ stored_each actions (t.actions * action_words) (acted_each t.text x) → Put x
    unfolding stored_each records_of
    body_put k (rule vs o xs) w i v c = (
      z.listed ∙ ap (token_moved s (ltb 0 a.count) a.first variable_words e.variables (t.variables * variable_words)) v
          ∙ targets_put vs (name_end t.text (rule vs o xs)) e.variables w.0 (ap (λ (d : Entry). d.variables) i),
      list_put 2 (rule vs o xs) (argument_end t.text (rule vs o xs)) xs w.1 (ap (λ (d : Entry). d.actions) i) (ap (λ (d : Entry). d.shrunk) i) c
          ∙ ap (λ (j : ℕ). stored_each actions (t.actions * action_words) (Acts.records_from j (sited_all (list_site s 2 there) xs))) (sym (end_sited t.text (rule vs o xs) (sited_body s there (rule vs o xs)) (sited_same s there (rule vs o xs)))),
    )
    body_put k (act xs) w i v c = (
      none_listed v (ap (λ (d : Entry). d.variables) i),
      list_put 0 (act xs) (argument_end t.text (act xs)) xs w (ap (λ (d : Entry). d.actions) i) (ap (λ (d : Entry). d.shrunk) i) c,
    )
    body_put k (defaults xs) w i v c = (
      none_listed v (ap (λ (d : Entry). d.variables) i),
      list_put 0 (defaults xs) (argument_end t.text (defaults xs)) xs w (ap (λ (d : Entry). d.actions) i) (ap (λ (d : Entry). d.shrunk) i) c,
    )
    body_put k (marker m) w i v c = (none_listed v (ap (λ (d : Entry). d.variables) i), none_acted c (ap (λ (d : Entry). d.actions) i))
    body_put k (unknown m) w i v c = (none_listed v (ap (λ (d : Entry). d.variables) i), none_acted c (ap (λ (d : Entry). d.actions) i))

    -- A body whose records are put into the input is the definition's.
    pub body_settled : (k : Shape) (x : Body) → Where k (taken_from s from) (Ok x) → {text text' : List ℕ}
        → Wrote x (shrunk_by (list_text s from)) t text text' variables variables₁ actions actions₁ (Ok e) → e ≡ entry_of (reached_by t) (shrunk_by (list_text s from)) x
        → Wrote (sited_body s (taken_from s from) x) (shrunk_by (list_text s from)) t text text' variables variables₂ actions actions₂ (Ok e)
    body_settled k x w {text} {text'} y i =
        let p = body_put k x w i y.listed y.acted in
        let m = sited_same s there x in
        record {
          is = y.is ∙ ap (λ (d : Entry). Ok d) (sym (entry_sited (reached_by t) shrunk x (sited_body s there x) m (shrunk_sited s there x shrunk)));
          laid = subst (Laid text text' t.text) (sym m.text) y.laid;
          listed = p.0;
          acted = p.1;
        }
