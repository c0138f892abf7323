-- How directives become records and texts in lent memory.
use Rattle.std.specs.Prelude.{ℕ, ◌+◌, ◌-◌, List, [], ◌∷◌, ◌++◌, length}
use Rattle.ascii.specs.Choice.{bit}
use Rattle.lent.specs.Sizes.{span_word}
use Rattle.lent.specs.Sources.{Sourced}
use Rattle.lent.specs.Layout.{texts_of, words_of}
use Rattle.variables.specs.Layout as Targets
use Rattle.records.specs.Actions.{Action, Slot, absent, present, slot_text}
use Rattle.records.specs.Layout as Acts
use Rattle.directives.specs.Directives.{Listed, listed, Body, rule, act, marker, defaults, unknown, Directive, Shape, of_rule, of_action, of_marker, of_defaults, of_other}

-- ---- what a body has

abbrev pub shape_in : Body → Shape
shape_in (rule vs o xs) = of_rule
shape_in (act xs) = of_action
shape_in (marker m) = of_marker
shape_in (defaults xs) = of_defaults
shape_in (unknown n) = of_other

-- And its number in a record.
abbrev pub shape_code : Shape → ℕ
shape_code of_rule = 1
shape_code of_action = 2
shape_code of_marker = 3
shape_code of_defaults = 4
shape_code of_other = 5

abbrev pub kind_code : Body → ℕ
kind_code x = shape_code (shape_in x)

-- A marker's argument, an Unknown's name.
abbrev pub name_slot : Body → Slot
name_slot (rule vs o xs) = absent
name_slot (act xs) = absent
name_slot (marker m) = present m
name_slot (defaults xs) = absent
name_slot (unknown n) = present n

abbrev pub listed_in : Body → Listed
listed_in (rule vs o xs) = vs
listed_in (act xs) = listed [] []
listed_in (marker m) = listed [] []
listed_in (defaults xs) = listed [] []
listed_in (unknown n) = listed [] []

abbrev pub negated_word : Body → ℕ
negated_word (rule vs o xs) = bit o.negated
negated_word (act xs) = 0
negated_word (marker m) = 0
negated_word (defaults xs) = 0
negated_word (unknown n) = 0

abbrev pub operator_word : Body → ℕ
operator_word (rule vs o xs) = o.name
operator_word (act xs) = 0
operator_word (marker m) = 0
operator_word (defaults xs) = 0
operator_word (unknown n) = 0

abbrev pub argument_slot : Body → Slot
argument_slot (rule vs o xs) = present o.argument
argument_slot (act xs) = absent
argument_slot (marker m) = absent
argument_slot (defaults xs) = absent
argument_slot (unknown n) = absent

abbrev pub actions_in : Body → List (Sourced Action)
actions_in (rule vs o xs) = xs
actions_in (act xs) = xs
actions_in (marker m) = []
actions_in (defaults xs) = xs
actions_in (unknown n) = []

-- ---- texts

-- Name, variables and exclusions, the operator's argument, actions: the text of each, and where it ends that starts at o.
abbrev pub name_text : Body → List ℕ
name_text x = slot_text (name_slot x)

abbrev pub listed_text : Body → List ℕ
listed_text x = Targets.texts (listed_in x).variables (listed_in x).exclusions

abbrev pub argument_text : Body → List ℕ
argument_text x = slot_text (argument_slot x)

abbrev pub name_end : ℕ → Body → ℕ
name_end o x = o + length (name_text x)

abbrev pub listed_end : ℕ → Body → ℕ
listed_end o x = name_end o x + length (listed_text x)

abbrev pub argument_end : ℕ → Body → ℕ
argument_end o x = listed_end o x + length (argument_text x)

unfoldable pub body_text : Body → List ℕ
body_text x = name_text x ++ (listed_text x ++ (argument_text x ++ Acts.texts (actions_in x)))

abbrev pub directive_text : Directive → List ℕ
directive_text d = body_text d.body

-- ---- records

-- How many records of variables and exclusions a body has, and of actions.
abbrev pub listed_count : Body → ℕ
listed_count x = length (listed_in x).variables + length (listed_in x).exclusions

abbrev pub action_count : Body → ℕ
action_count x = length (actions_in x)

-- What is reached in lent memory: bytes of text, and records of variables and of actions.
pub record Reached : Type 0 where
  pub text : ℕ
  pub variables : ℕ
  pub actions : ℕ

abbrev pub reached : ℕ → ℕ → ℕ → Reached
reached o v a = record { text = o; variables = v; actions = a }

abbrev pub past_body : Reached → Body → Reached
past_body r x = reached (r.text + length (body_text x)) (r.variables + listed_count x) (r.actions + action_count x)

-- The eleven words of a directive, the first two and the span in the input being its own.
abbrev pub directive_record : Reached → Directive → List ℕ
directive_record r d =
    kind_code d.body ∷ d.line ∷ span_word d.first (d.past - d.first) ∷
    Acts.slot_word r.text (name_slot d.body) ∷
    negated_word d.body ∷ operator_word d.body ∷ Acts.slot_word (listed_end r.text d.body) (argument_slot d.body) ∷
    r.variables ∷ listed_count d.body ∷ r.actions ∷ action_count d.body ∷ []

-- The records of one directive's variables and actions, its texts starting at o.
abbrev pub variable_records : ℕ → Directive → List ℕ
variable_records o d = Targets.words_from (name_end o d.body) (listed_in d.body).variables (listed_in d.body).exclusions

abbrev pub action_records : ℕ → Directive → List ℕ
action_records o d = Acts.words_from (argument_end o d.body) (actions_in d.body)

-- ---- all directives

abbrev pub texts : List Directive → List ℕ
texts = texts_of directive_text

-- How many records of variables all have, and of actions.
unfoldable pub listed_counts : List Directive → ℕ
listed_counts [] = 0
listed_counts (d ∷ ds) = listed_count d.body + listed_counts ds

unfoldable pub action_counts : List Directive → ℕ
action_counts [] = 0
action_counts (d ∷ ds) = action_count d.body + action_counts ds

-- The words of the three record buffers, from what is reached on.
unfoldable pub directives_from : Reached → List Directive → List ℕ
directives_from r [] = []
directives_from r (d ∷ ds) = directive_record r d ++ directives_from (past_body r d.body) ds

abbrev pub variables_from : ℕ → List Directive → List ℕ
variables_from = words_of variable_records directive_text

abbrev pub actions_from : ℕ → List Directive → List ℕ
actions_from = words_of action_records directive_text
