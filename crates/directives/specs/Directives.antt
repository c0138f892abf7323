-- One directive, and the directives of a whole text, or the first fault in text order.
use Rattle.std.specs.Prelude.{ℕ, zero, suc, ◌+◌, ◌-◌, Bool, false, List, [], ◌∷◌, map, length, take, drop, get_or, ltb, eqb, Result, Ok, Err}
use Rattle.ascii.specs.Choice.{pick, or}
use Rattle.ascii.specs.Text.{bytes}
use Rattle.ascii.specs.Fold.{same_lowered}
use Rattle.lent.specs.Sources.{Part, part, Sourced, sited_all}
use Rattle.lent.specs.Table.{Refusal, too_long, not_ascii, short_buffer, no_room, named, no_action, no_argument, no_variable, unknown_operator, bad_cursor, unknown_variable, resited, Outcome, refuses, reads}
use Rattle.places.specs.declared.Rule.TheVariants as Rule
use Rattle.places.specs.Sites.{site_of}
use Rattle.lexer.specs.declared.Cursor.{Cursor}
use Rattle.lexer.specs.Tokens.{Token, reading}
use Rattle.lexer.specs.Layout.{text_of}
use Rattle.variables.specs.Variables.{Variable, Targets, targets, refused}
use Rattle.variables.specs.Steps.{targets_of}
use Rattle.variables.specs.declared.singles.Exclusions.TheVariants.{AsWritten}
use Rattle.operators.specs.Operators.{Spec, operator}
use Rattle.operators.specs.Promises.{outcome_of}
use Rattle.records.specs.Actions.{Action}
use Rattle.actions.specs.Normal.{normalised}
use Rattle.actions.specs.Lists as Actions
use Rattle.directives.specs.Groups.{Item, joined, stray, items}
pub use Rattle.directives.specs.declared.shapes.Shape.{Shape}
pub use Rattle.directives.specs.declared.shapes.Shape.TheVariants.{Rule as of_rule, Action as of_action, Marker as of_marker, Defaults as of_defaults, Other as of_other}

-- ---- what a directive is

-- Variables with the exclusions that hang on them.
pub record Listed : Type 0 where
  pub variables : List (Sourced Variable)
  pub exclusions : List (Sourced (List ℕ))

abbrev pub listed : List (Sourced Variable) → List (Sourced (List ℕ)) → Listed
listed vs es = record { variables = vs; exclusions = es }

-- What a directive says: SecRule, SecAction, SecMarker, SecDefaultAction, and any other by its name as written.
pub data Body : Type 0 where
  rule : Listed → Spec → List (Sourced Action) → Body
  act : List (Sourced Action) → Body
  marker : List ℕ → Body
  defaults : List (Sourced Action) → Body
  unknown : List ℕ → Body

-- With its line, and the bytes of the input that it takes: from `first`, and up to `past` without it.
pub record Directive : Type 0 where
  pub line : ℕ
  pub first : ℕ
  pub past : ℕ
  pub body : Body

-- ---- faults

pub data Fault : Type 0 where
  -- 13: the directive's line
  wrong_count : ℕ → Fault
  -- 14: the token's line
  untaken : ℕ → Fault
  -- 15: the stop's line
  stopped : ℕ → Fault
  -- 18: the directive's line
  id_missing : ℕ → Fault
  -- 5, 7, 8 and 10 to 12: the directive's line, and what its argument is refused for
  within : ℕ → Refusal → Fault

-- ---- one argument, by the parsers' definitions, with places in the text that each parser cuts

abbrev pub listed_by : Targets → Outcome Listed
listed_by (targets vs es) = reads (listed vs es)
listed_by (refused i name x) = refuses (unknown_variable i name x)

-- Exclusions as written, kept where there is a variable: parse_variables.
abbrev pub variables_read : List ℕ → Outcome Listed
variables_read s = listed_by (targets_of AsWritten s)

abbrev pub operator_read : List ℕ → Outcome Spec
operator_read s = outcome_of s (operator s)

-- In the text without its line continuations.
abbrev pub actions_read : List ℕ → Outcome (List (Sourced Action))
actions_read s = Actions.listed (normalised s)

-- ---- one directive

-- The shapes are the source's.

-- By the name, in any letter case.
unfoldable pub shape_of : List ℕ → Shape
shape_of name =
    pick (same_lowered name (bytes "secrule")) of_rule
    (pick (same_lowered name (bytes "secaction")) of_action
    (pick (same_lowered name (bytes "secmarker")) of_marker
    (pick (same_lowered name (bytes "secdefaultaction")) of_defaults
    of_other)))

-- A rule of what its arguments are read to: the first that is refused, of variables, operator and actions, is the answer.
abbrev pub rule_by : Outcome Listed → Outcome Spec → Outcome (List (Sourced Action)) → Outcome Body
rule_by (refuses f) o a = refuses f
rule_by (reads vs) (refuses f) a = refuses f
rule_by (reads vs) (reads op) (refuses f) = refuses f
rule_by (reads vs) (reads op) (reads xs) = reads (rule vs op xs)

abbrev pub act_by : (List (Sourced Action) → Body) → Outcome (List (Sourced Action)) → Outcome Body
act_by make (refuses f) = refuses f
act_by make (reads xs) = reads (make xs)

-- An argument's refusal is told with the directive's line.
abbrev pub told : ℕ → Outcome Body → Result Body Fault
told l (refuses f) = Err (within l f)
told l (reads x) = Ok x

-- The arguments by shape: their count first, then each as it is read. SecRule has two or three, Unknown any, the others one.
abbrev pub body_by : Shape → ℕ → List ℕ → List (List ℕ) → Result Body Fault
body_by of_rule l name [] = Err (wrong_count l)
body_by of_rule l name (v ∷ []) = Err (wrong_count l)
body_by of_rule l name (v ∷ o ∷ []) = told l (rule_by (variables_read v) (operator_read o) (reads []))
body_by of_rule l name (v ∷ o ∷ a ∷ []) = told l (rule_by (variables_read v) (operator_read o) (actions_read a))
body_by of_rule l name (v ∷ o ∷ a ∷ x ∷ xs) = Err (wrong_count l)
body_by of_action l name [] = Err (wrong_count l)
body_by of_action l name (a ∷ []) = told l (act_by act (actions_read a))
body_by of_action l name (a ∷ x ∷ xs) = Err (wrong_count l)
body_by of_marker l name [] = Err (wrong_count l)
body_by of_marker l name (m ∷ []) = Ok (marker m)
body_by of_marker l name (m ∷ x ∷ xs) = Err (wrong_count l)
body_by of_defaults l name [] = Err (wrong_count l)
body_by of_defaults l name (a ∷ []) = told l (act_by defaults (actions_read a))
body_by of_defaults l name (a ∷ x ∷ xs) = Err (wrong_count l)
body_by of_other l name xs = Ok (unknown name)

-- ---- where it stands in the package

-- A mark that opens a quoted text.
abbrev pub is_mark : ℕ → Bool
is_mark b = or (eqb b 34) (eqb b 39)

-- The bytes from one place up to another.
abbrev pub between : List ℕ → ℕ → ℕ → List ℕ
between s from past = take (past - from) (drop from s)

-- Where a part of the text stands in the package s that was read from the token there: a quoted text stands behind its mark.
unfoldable pub site_at : List ℕ → Part → Part → Part
site_at s t =
    pick (is_mark (get_or s t.first 0))
    (site_of Rule.Quoted (t.first + 1) (between s (t.first + 1) t.past))
    (site_of Rule.Word t.first (between s t.first t.past))

-- Where a token stands.
abbrev pub standing : Token → Part
standing t = part t.first t.past

-- Of the argument with this number, from 0.
unfoldable pub argument_site : List ℕ → ℕ → List Token → Part → Part
argument_site s n [] x = x
argument_site s zero (t ∷ ts) x = site_at s (standing t) x
argument_site s (suc n) (t ∷ ts) x = argument_site s n ts x

-- Of a list of actions, whose line continuations were taken out first.
unfoldable pub list_site : List ℕ → ℕ → List Token → Part → Part
list_site s n [] x = x
list_site s zero (t ∷ ts) x = site_at s (standing t) (Actions.normal_site t.text x)
list_site s (suc n) (t ∷ ts) x = list_site s n ts x

-- Which argument is the list of actions.
abbrev pub list_number : Shape → ℕ
list_number of_rule = 2
list_number of_action = 0
list_number of_marker = 0
list_number of_defaults = 0
list_number of_other = 0

-- A body whose sources are put there.
abbrev pub sited_body : List ℕ → List Token → Body → Body
sited_body s args (rule vs o xs) =
    rule (listed (sited_all (argument_site s 0 args) vs.variables) (sited_all (argument_site s 0 args) vs.exclusions)) o (sited_all (list_site s 2 args) xs)
sited_body s args (act xs) = act (sited_all (list_site s 0 args) xs)
sited_body s args (marker m) = marker m
sited_body s args (defaults xs) = defaults (sited_all (list_site s 0 args) xs)
sited_body s args (unknown n) = unknown n

-- Of a refusal's piece: variables are the first argument, the operator the second.
abbrev pub refusal_site : List ℕ → Shape → List Token → Refusal → Part → Part
refusal_site s shape args too_long x = x
refusal_site s shape args (not_ascii p) x = x
refusal_site s shape args short_buffer x = x
refusal_site s shape args (no_room p) x = x
refusal_site s shape args (named no_action p n y) x = list_site s (list_number shape) args x
refusal_site s shape args (named (no_argument flaw) p n y) x = list_site s (list_number shape) args x
refusal_site s shape args (named no_variable p n y) x = argument_site s 0 args x
refusal_site s shape args (unknown_operator p l y) x = argument_site s 1 args x
refusal_site s shape args bad_cursor x = x

abbrev pub sited_fault : List ℕ → Shape → List Token → Fault → Fault
sited_fault s shape args (wrong_count l) = wrong_count l
sited_fault s shape args (untaken l) = untaken l
sited_fault s shape args (stopped l) = stopped l
sited_fault s shape args (id_missing l) = id_missing l
sited_fault s shape args (within l f) = within l (resited (refusal_site s shape args f) f)

abbrev pub sited : List ℕ → Shape → List Token → Result Body Fault → Result Body Fault
sited s shape args (Err f) = Err (sited_fault s shape args f)
sited s shape args (Ok x) = Ok (sited_body s args x)

-- The end of the last argument, or p where there is none.
unfoldable pub last_past : ℕ → List Token → ℕ
last_past p [] = p
last_past p (t ∷ ts) = last_past t.past ts

abbrev pub placed : ℕ → ℕ → ℕ → Result Body Fault → Result Directive Fault
placed l first past (Err f) = Err f
placed l first past (Ok x) = Ok (record { line = l; first = first; past = past; body = x })

-- A Directive token with its arguments, in the package s.
unfoldable pub directive_of : List ℕ → Token → List Token → Result Directive Fault
directive_of s t args =
    placed t.line.0 t.first (last_past t.past args) (sited s (shape_of t.text) args (body_by (shape_of t.text) t.line.0 t.text (map text_of args)))

unfoldable pub item_read : List ℕ → Item → Result Directive Fault
item_read s (joined t args) = directive_of s t args
item_read s (stray t) = Err (untaken t.line.0)

-- ---- a whole text

-- A directive before what follows it: its own fault comes first.
abbrev pub before : Result Directive Fault → Result (List Directive) Fault → Result (List Directive) Fault
before (Err f) o = Err f
before (Ok d) (Err f) = Err f
before (Ok d) (Ok ds) = Ok (d ∷ ds)

-- Items in text order, each by what it is read to, before what follows it; behind the last stands o.
unfoldable pub over : {A : Type 0} → (Result Directive Fault → A → A) → List ℕ → A → List Item → A
over step s o [] = o
over step s o (x ∷ xs) = step (item_read s x) (over step s o xs)

-- Items, and behind them what the text ends in.
abbrev pub ending : List ℕ → Result (List Directive) Fault → List Item → Result (List Directive) Fault
ending = over before

-- The end of a text of n bytes: nothing follows, or 15 where the lexer stopped early. It stands behind all items, so it is judged last.
unfoldable pub end_of : ℕ → Cursor → Result (List Directive) Fault
end_of n c = pick (ltb c.place n) (Err (stopped c.line.0)) (Ok [])

-- The directives of a text, or its first fault; whether a rule has an id is asked in Versions.
unfoldable pub directives : List ℕ → Result (List Directive) Fault
directives s = ending s (end_of (length s) (reading s).stop) (items false (reading s).tokens)
