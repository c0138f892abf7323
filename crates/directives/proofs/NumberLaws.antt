-- A fault's number is 5, 7, 8 or one of 10 to 15: no argument is refused for anything else.
use Rattle.std.specs.Prelude.{Result, Ok, Err}
use mathlib.Core.Path.{◌≡◌, subst}
use mathlib.Core.Logic.{◌⊎◌, inl, inr}
use Prim.Native.Nat.{ℕ, ◌≤◌}
use native.Mathlib.Omega.{arith}
use mathlib.Core.Bool.{Bool, true, false}
use mathlib.Core.List.{List, [], ◌∷◌, map}
use lib.ListN.{length}
use lib.Dec.{ltb}
use Rattle.ascii.specs.Choice.{pick}
use Rattle.lent.specs.Sources.{Part, Sourced}
use Rattle.lent.specs.Table.{Refusal, too_long, not_ascii, short_buffer, no_room, named, no_action, no_argument, no_variable, unknown_operator, bad_cursor, resited, Outcome, refuses, reads}
use Rattle.lent.specs.declared.refusing.Flaw.TheVariants as Flaw
use Rattle.lexer.specs.declared.Cursor.{Cursor}
use Rattle.lexer.specs.Tokens.{Token, reading}
use Rattle.lexer.specs.Layout.{text_of}
use Rattle.variables.specs.Variables.{Targets, targets, refused}
use Rattle.variables.specs.Steps.{targets_of}
use Rattle.variables.specs.declared.singles.Exclusions.TheVariants.{AsWritten}
use Rattle.operators.specs.Operators as Op
use Rattle.operators.specs.Promises.{outcome_of}
use Rattle.records.specs.Actions.{Action}
use Rattle.actions.specs.Normal.{normalised}
use Rattle.actions.specs.Pieces as Pieces
use Rattle.actions.proofs.CountLaws.{Counted, from_counted}
use Rattle.directives.specs.Groups.{Item, joined, stray, items}
use Rattle.directives.specs.Directives.{Listed, Body, act, defaults, Directive, Fault, wrong_count, untaken, stopped, id_missing, within, listed_by, variables_read, operator_read, actions_read, Shape, of_rule, of_action, of_marker, of_defaults, of_other, shape_of, rule_by, act_by, told, body_by, refusal_site, sited, last_past, placed, directive_of, item_read, before, over, ending, end_of, directives}
use Rattle.directives.specs.Versions.{Version, directives_for}
use Rattle.directives.proofs.VersionLaws.{for_holds}
use Rattle.directives.specs.Table.{fault_given}

-- ---- an argument

-- what an argument can be refused for
abbrev pub Known : Refusal → Type 0
Known too_long = ⊥
Known (not_ascii p) = ⊥
Known short_buffer = ⊥
Known (no_room n) = ⊥
Known (named why p name x) = Unit {0}
Known (unknown_operator p n x) = Unit {0}
Known bad_cursor = ⊥

abbrev KnownIn : {A : Type 0} → Outcome A → Type 0
KnownIn (refuses f) = Known f
KnownIn (reads x) = Unit {0}

listed_known : (ts : Targets) → KnownIn (listed_by ts)
listed_known (targets vs es) = tt
listed_known (refused i name x) = tt

operator_known : (s : List ℕ) (x : Op.Reading) → KnownIn (outcome_of s x)
operator_known s (Op.accepted x) = tt
operator_known s (Op.unknown name) = tt

counted_known : (n : ℕ) (o : Outcome (List (Sourced Action))) → Counted 0 n o → KnownIn o
counted_known n (reads xs) h = tt
counted_known n (refuses (named why p name x)) h = tt
counted_known n (refuses too_long) h = h
counted_known n (refuses (not_ascii p)) h = h
counted_known n (refuses short_buffer) h = h
counted_known n (refuses (no_room p)) h = h
counted_known n (refuses (unknown_operator p l x)) h = absurd h
counted_known n (refuses bad_cursor) h = h

actions_known : (s : List ℕ) → KnownIn (actions_read s)
actions_known s = counted_known (length (Pieces.pieces (normalised s))) (actions_read s) (from_counted 0 (Pieces.pieces (normalised s)))

-- ---- a directive

abbrev pub KnownFault : Fault → Type 0
KnownFault (wrong_count l) = Unit {0}
KnownFault (untaken l) = Unit {0}
KnownFault (stopped l) = Unit {0}
KnownFault (id_missing l) = Unit {0}
KnownFault (within l f) = Known f

abbrev KnownResult : {A : Type 0} → Result A Fault → Type 0
KnownResult (Err f) = KnownFault f
KnownResult (Ok x) = Unit {0}

told_known : (l : ℕ) (o : Outcome Body) → KnownIn o → KnownResult (told l o)
told_known l (refuses f) h = h
told_known l (reads x) h = tt

rule_known : (l : ℕ) (v : Outcome Listed) (o : Outcome Op.Spec) (a : Outcome (List (Sourced Action))) → KnownIn v → KnownIn o → KnownIn a → KnownResult (told l (rule_by v o a))
rule_known l (refuses f) o a h i j = h
rule_known l (reads v) (refuses f) a h i j = i
rule_known l (reads v) (reads o) (refuses f) h i j = j
rule_known l (reads v) (reads o) (reads a) h i j = tt

act_known : (l : ℕ) (make : List (Sourced Action) → Body) (o : Outcome (List (Sourced Action))) → KnownIn o → KnownResult (told l (act_by make o))
act_known l make (refuses f) h = h
act_known l make (reads xs) h = tt

body_known : (l : ℕ) (name : List ℕ) (k : Shape) (args : List (List ℕ)) → KnownResult (body_by k l name args)
body_known l name of_rule [] = tt
body_known l name of_rule (v ∷ []) = tt
body_known l name of_rule (v ∷ o ∷ []) = rule_known l (variables_read v) (operator_read o) (reads []) (listed_known (targets_of AsWritten v)) (operator_known o (Op.operator o)) tt
body_known l name of_rule (v ∷ o ∷ a ∷ []) = rule_known l (variables_read v) (operator_read o) (actions_read a) (listed_known (targets_of AsWritten v)) (operator_known o (Op.operator o)) (actions_known a)
body_known l name of_rule (v ∷ o ∷ a ∷ x ∷ xs) = tt
body_known l name of_action [] = tt
body_known l name of_action (a ∷ []) = act_known l act (actions_read a) (actions_known a)
body_known l name of_action (a ∷ x ∷ xs) = tt
body_known l name of_marker [] = tt
body_known l name of_marker (m ∷ []) = tt
body_known l name of_marker (m ∷ x ∷ xs) = tt
body_known l name of_defaults [] = tt
body_known l name of_defaults (a ∷ []) = act_known l defaults (actions_read a) (actions_known a)
body_known l name of_defaults (a ∷ x ∷ xs) = tt
body_known l name of_other xs = tt

placed_known : (l first past : ℕ) (x : Result Body Fault) → KnownResult x → KnownResult (placed l first past x)
placed_known l first past (Err f) h = h
placed_known l first past (Ok x) h = tt

-- wherever it stands
resited_known : (f : Part → Part) (r : Refusal) → Known r → Known (resited f r)
resited_known f too_long h = h
resited_known f (not_ascii p) h = h
resited_known f short_buffer h = h
resited_known f (no_room n) h = h
resited_known f (named why p name x) h = tt
resited_known f (unknown_operator p n x) h = tt
resited_known f bad_cursor h = h

sited_known : (s : List ℕ) (shape : Shape) (args : List Token) (x : Result Body Fault) → KnownResult x → KnownResult (sited s shape args x)
sited_known s shape args (Err (wrong_count l)) h = tt
sited_known s shape args (Err (untaken l)) h = tt
sited_known s shape args (Err (stopped l)) h = tt
sited_known s shape args (Err (id_missing l)) h = tt
sited_known s shape args (Err (within l f)) h = resited_known (refusal_site s shape args f) f h
sited_known s shape args (Ok x) h = tt

item_known : (s : List ℕ) (x : Item) → KnownResult (item_read s x)
unfolding item_read directive_of
item_known s (stray t) = tt
item_known s (joined t args) =
    let shape = shape_of t.text in
    let body = body_by shape t.line.0 t.text (map text_of args) in
    placed_known t.line.0 t.first (last_past t.past args) (sited s shape args body) (sited_known s shape args body (body_known t.line.0 t.text shape (map text_of args)))

-- ---- a whole text

before_known : (x : Result Directive Fault) (o : Result (List Directive) Fault) → KnownResult x → KnownResult o → KnownResult (before x o)
before_known (Err f) o h k = h
before_known (Ok d) (Err f) h k = k
before_known (Ok d) (Ok ds) h k = tt

ending_known : (s : List ℕ) (o : Result (List Directive) Fault) (xs : List Item) → KnownResult o → KnownResult (ending s o xs)
unfolding over
ending_known s o [] h = h
ending_known s o (x ∷ xs) h = before_known (item_read s x) (ending s o xs) (item_known s x) (ending_known s o xs h)

end_known : (n : ℕ) (c : Cursor) → KnownResult (end_of n c)
unfolding end_of
end_known n c = go (ltb c.place n)
  where
    go : (t : Bool) → KnownResult {A = List Directive} (pick t (Err (stopped c.line.0)) (Ok []))
    go true = tt
    go false = tt

directives_known : (s : List ℕ) → KnownResult (directives s)
unfolding directives
directives_known s =
    (ending_known s (end_of (length s) (reading s).stop) (items false (reading s).tokens) (end_known (length s) (reading s).stop))

pub known_for : (v : Version) (s : List ℕ) (f : Fault) → directives_for v s ≡ Err f → KnownFault f
known_for v s f e = subst (KnownResult {A = List Directive}) e (for_holds (KnownResult {A = List Directive}) (λ l. tt) v s (directives_known s))

-- ---- the number

pub fault_number : (f : Fault) → KnownFault f → ((fault_given f).number ≡ 5) ⊎ ((7 ≤ (fault_given f).number) × ((fault_given f).number ≤ 18))
fault_number (wrong_count l) h = inr (omega arith, omega arith)
fault_number (untaken l) h = inr (omega arith, omega arith)
fault_number (stopped l) h = inr (omega arith, omega arith)
fault_number (id_missing l) h = inr (omega arith, omega arith)
fault_number (within l too_long) h = absurd h
fault_number (within l (not_ascii p)) h = absurd h
fault_number (within l short_buffer) h = absurd h
fault_number (within l (no_room n)) h = absurd h
fault_number (within l (named no_action p name x)) h = inl (omega arith)
fault_number (within l (named (no_argument Flaw.Absent) p name x)) h = inr (omega arith, omega arith)
fault_number (within l (named (no_argument Flaw.Unreadable) p name x)) h = inr (omega arith, omega arith)
fault_number (within l (named (no_argument Flaw.TooLarge) p name x)) h = inr (omega arith, omega arith)
fault_number (within l (named no_variable p name x)) h = inr (omega arith, omega arith)
fault_number (within l (unknown_operator p n x)) h = inr (omega arith, omega arith)
fault_number (within l bad_cursor) h = absurd h
