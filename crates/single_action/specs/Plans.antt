-- Actions by places: what a plan says of the text that it was read from.
use Rattle.ascii.specs.declared.numbers.NumberError.{NumberError}
use Rattle.std.specs.Prelude.{◌≡◌, List, ℕ, ◌-◌, ◌≤◌, ◌<◌, length, take, drop, Result, Ok, Err}
use Rattle.ascii.specs.Text.{bytes}
use Rattle.ascii.specs.Fold.{lowered}
use Rattle.ascii.specs.declared.trimming.Part.{Part}
use Rattle.single_action.specs.Marks.{stripped}
use Rattle.single_action.specs.Setvar.{SetValue, VarName, amount}
use Rattle.single_action.specs.Table.{row_at}
use Rattle.single_action.specs.Actions.{Slot, absent, present, Action, slot_text, Single, done, bad, unknown, kind_of, number_of, text_of}
use Rattle.single_action.specs.declared.plans.Origin.{Origin}
use Rattle.single_action.specs.declared.plans.Origin.TheVariants.{Absent, Copied, Lowered, Tx, One}
use Rattle.single_action.specs.declared.plans.Plan.{Plan}
use Rattle.single_action.specs.declared.plans.PlanError.{PlanError}
use Rattle.single_action.specs.declared.plans.PlanError.TheVariants.{Bad, Unknown}
use Rattle.single_action.specs.declared.settings.NamePlan.{NamePlan}
use Rattle.single_action.specs.declared.settings.ValuePlan.{ValuePlan}

-- The part of a text between two places.
abbrev pub cut : List ℕ → ℕ → ℕ → List ℕ
cut s first past = take (past - first) (drop first s)

-- ---- one text

-- The text that an origin names in s.
abbrev pub origin_slot : List ℕ → Origin → Slot
origin_slot s Absent = absent
origin_slot s (Copied first past) = present (cut s first past)
origin_slot s (Lowered first past) = present (lowered (cut s first past))
origin_slot s Tx = present (bytes "tx")
origin_slot s One = present (bytes "1")

-- Its bytes.
abbrev pub origin_text : List ℕ → Origin → List ℕ
origin_text s o = slot_text (origin_slot s o)

-- The places lie in the text.
abbrev pub Lies : List ℕ → Origin → Type 0
Lies s Absent = Unit {0}
Lies s (Copied first past) = (first ≤ past) × (past ≤ length s)
Lies s (Lowered first past) = (first ≤ past) × (past ≤ length s)
Lies s Tx = Unit {0}
Lies s One = Unit {0}

-- ---- one action

-- The action that a plan of s says.
abbrev pub plan_action : List ℕ → Plan → Action
plan_action s p = record { code = p.code; number = p.number; a = origin_slot s p.a; b = origin_slot s p.b; kind = p.kind; c = origin_slot s p.c }

-- All places of a plan lie in the text.
pub record Inside (s : List ℕ) (p : Plan) : Type 0 where
  pub a : Lies s p.a
  pub b : Lies s p.b
  pub c : Lies s p.c

-- A plan of s says this action.
pub record Planned (s : List ℕ) (p : Plan) (x : Action) : Type 0 where
  pub means : plan_action s p ≡ x
  pub inside : Inside s p

-- A plan with a number and at most one text.
abbrev pub text_plan : ℕ → ℕ → Origin → Plan
text_plan code number a = record { code = code; number = number; a = a; b = Absent; kind = 0; c = Absent }

-- What a verdict on s says.
abbrev pub verdict_single : List ℕ → Result Plan PlanError → Single
verdict_single s (Ok p) = done (plan_action s p)
verdict_single s (Err (Bad flaw row)) = bad flaw (row_at row).name
verdict_single s (Err (Unknown n)) = unknown (lowered (take n s))

-- Its places lie in s, and its row in the table.
abbrev pub Sound : List ℕ → Result Plan PlanError → Type 0
Sound s (Ok p) = Inside s p
Sound s (Err (Bad flaw row)) = row < 41
Sound s (Err (Unknown n)) = n ≤ length s

-- A verdict on s says this of the piece.
pub record Judged (s : List ℕ) (v : Result Plan PlanError) (x : Single) : Type 0 where
  pub means : verdict_single s v ≡ x
  pub sound : Sound s v

-- ---- the parts of a setvar

-- A collection and a key.
pub record NamePlanned (s : List ℕ) (p : NamePlan) (n : VarName) : Type 0 where
  pub collection : origin_slot s p.collection ≡ present n.collection
  pub key : origin_slot s p.key ≡ present n.key
  pub collection_lies : Lies s p.collection
  pub key_lies : Lies s p.key

-- A value.
pub record ValuePlanned (s : List ℕ) (p : ValuePlan) (v : SetValue) : Type 0 where
  pub number : p.number ≡ number_of v
  pub kind : p.kind ≡ kind_of v
  pub text : origin_slot s p.text ≡ text_of v
  pub lies : Lies s p.text

-- An increment or a decrement.
abbrev pub step_plan : ℕ → Result ℕ NumberError → ValuePlan
step_plan kind n = record { number = amount n; kind = kind; text = Absent }

-- A setvar from its parts.
abbrev pub setvar_plan : ℕ → NamePlan → ValuePlan → Plan
setvar_plan code n v = record { code = code; number = v.number; a = n.collection; b = n.key; kind = v.kind; c = v.text }

-- ---- marks at both ends

-- The part is what is left of the text from a place on.
pub record Stripped (s : List ℕ) (from : ℕ) (p : Part) : Type 0 where
  pub text : cut s p.first p.past ≡ stripped (drop from s)
  pub ordered : p.first ≤ p.past
  pub inside : p.past ≤ length s
