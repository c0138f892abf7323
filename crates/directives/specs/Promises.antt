-- What `directives` promises: the answer, and every byte of lent memory, on every path.
use Rattle.std.specs.Prelude.{◌≡◌, ℕ, min, Bool, true, false, List, [], ◌∷◌, length, ltb, Ok, Err, Result}
use Rattle.ascii.specs.Choice.{pick, or}
use Rattle.lent.specs.declared.gating.GateError.TheVariants.{TooLong, NotAscii, Short}
use Rattle.lent.specs.Sizes.{variable_words, action_words, directive_words, room_for}
use Rattle.lent.specs.Gates.{gate_of}
use Rattle.lent.specs.Table.{Given, given, flaw_number, too_long, not_ascii, short_buffer, refused}
use Rattle.directives.specs.Directives.{Directive, Fault as Cause}
use Rattle.directives.specs.Layout.{reached, texts, listed_counts, action_counts, directives_from, variables_from, actions_from}
use Rattle.directives.specs.Versions.{Version, directives_for}
use Rattle.directives.specs.Table.{Filled, Outcome, faulty, overfull, filled, past_gate, given_by, text_by, records_by, scratch_by}
use Rattle.directives.specs.declared.LineFault.{LineFault}
use Rattle.directives.specs.declared.LineFault.TheVariants.{WrongCount, Untaken, Stopped, IdMissing}
use Rattle.directives.specs.declared.ArgumentFault.{ArgumentFault}
use Rattle.directives.specs.declared.ArgumentFault.TheVariants.{UnknownVariable, UnknownOperator, UnknownAction, BadArgument}
use Rattle.directives.specs.declared.Fault.{Fault}
use Rattle.directives.specs.declared.Read.{Read}
use Rattle.directives.specs.declared.DirectivesError.{DirectivesError}
use Rattle.directives.specs.declared.DirectivesError.TheVariants.{Gate, Refused, NoRoom}

-- The paper's number for each fault.
abbrev pub line_number : LineFault → ℕ
line_number WrongCount = 13
line_number Untaken = 14
line_number Stopped = 15
line_number IdMissing = 18

abbrev pub argument_number : ArgumentFault → ℕ
argument_number UnknownVariable = 7
argument_number UnknownOperator = 8
argument_number UnknownAction = 5
argument_number (BadArgument flaw) = flaw_number flaw

-- Number and values of each.
abbrev pub fault_told : Fault → Given
fault_told (Fault.Line why line) = given (line_number why) (line ∷ [])
fault_told (Fault.Argument why line at len span) = given (argument_number why) (line ∷ at ∷ len ∷ span ∷ [])

-- A fault that leaves a name in the text buffer.
abbrev pub leaves_name : ArgumentFault → Bool
leaves_name UnknownVariable = true
leaves_name UnknownOperator = false
leaves_name UnknownAction = true
leaves_name (BadArgument flaw) = true

abbrev pub naming : Fault → Bool
naming (Fault.Line why line) = false
naming (Fault.Argument why line at len span) = leaves_name why

-- And of each answer.
abbrev pub Answer : Type 0
Answer = Result Read DirectivesError

abbrev pub read_as : ℕ → ℕ → ℕ → ℕ → Read
read_as d v a t = record { directives = d; variables = v; actions = a; text = t }

abbrev pub answer_given : Answer → Given
answer_given (Ok r) = given 0 (r.directives ∷ r.variables ∷ r.actions ∷ r.text ∷ [])
answer_given (Err (Gate TooLong)) = refused too_long
answer_given (Err (Gate (NotAscii place))) = refused (not_ascii place)
answer_given (Err (Gate Short)) = refused short_buffer
answer_given (Err (Refused fault)) = fault_told fault
answer_given (Err (NoRoom directives variables actions)) = given 4 (directives ∷ variables ∷ actions ∷ [])

-- Directives laid out: three counts and the length of the texts, the texts, and the words of three buffers.
abbrev pub laid_out : List Directive → Filled
laid_out ds = record {
  values = length ds ∷ listed_counts ds ∷ action_counts ds ∷ length (texts ds) ∷ [];
  texts = texts ds;
  directives = directives_from (reached 0 0 0) ds;
  variables = variables_from 0 ds;
  actions = actions_from 0 ds;
}

-- The words of the three record buffers lent.
pub record Rooms : Type 0 where
  pub directives : ℕ
  pub variables : ℕ
  pub actions : ℕ

abbrev pub rooms : ℕ → ℕ → ℕ → Rooms
rooms d v a = record { directives = d; variables = v; actions = a }

-- One of the three has no room.
abbrev pub lacks : Rooms → List Directive → Bool
lacks m ds =
    or (ltb (room_for directive_words m.directives) (length ds))
    (or (ltb (room_for variable_words m.variables) (listed_counts ds))
    (ltb (room_for action_words m.actions) (action_counts ds)))

-- Number 4 comes last, with all three counts.
abbrev pub roomed : Rooms → Result (List Directive) Cause → Outcome
roomed m (Err f) = faulty f
roomed m (Ok ds) = pick (lacks m ds) (overfull (length ds) (listed_counts ds) (action_counts ds)) (filled (laid_out ds))

-- What a call comes to for a version, with n bytes of text and k of scratch lent: 1 to 3, the first fault in text order, then 4.
unfoldable pub directives_outcome : Version → List ℕ → ℕ → ℕ → Rooms → Outcome
directives_outcome v s n k m = past_gate (gate_of s (min n k) (length s)) (roomed m (directives_for v s))

-- What is lent: two byte buffers and three record buffers.
pub record Lent : Type 0 where
  pub text : List ℕ
  pub scratch : List ℕ
  pub directives : List ℕ
  pub variables : List ℕ
  pub actions : List ℕ

abbrev pub lent_of : List ℕ → List ℕ → List ℕ → List ℕ → List ℕ → Lent
lent_of t k d v a = record { text = t; scratch = k; directives = d; variables = v; actions = a }

abbrev pub rooms_of : Lent → Rooms
rooms_of m = rooms (length m.directives) (length m.variables) (length m.actions)

abbrev pub outcome_on : Version → List ℕ → Lent → Outcome
outcome_on v s m = directives_outcome v s (length m.text) (length m.scratch) (rooms_of m)

-- All of it afterwards.
abbrev pub left_by : Outcome → Lent → Lent
left_by o m = record {
  text = text_by o m.text;
  scratch = scratch_by o m.scratch;
  directives = records_by (λ x. x.directives) o m.directives;
  variables = records_by (λ x. x.variables) o m.variables;
  actions = records_by (λ x. x.actions) o m.actions;
}

pub record Directives (v : Version) (s : List ℕ) (m m' : Lent) (r : Answer) : Type 0 where
  pub answer : answer_given r ≡ given_by (outcome_on v s m)
  pub text : m'.text ≡ text_by (outcome_on v s m) m.text
  pub scratch : m'.scratch ≡ scratch_by (outcome_on v s m) m.scratch
  pub directives : m'.directives ≡ records_by (λ x. x.directives) (outcome_on v s m) m.directives
  pub variables : m'.variables ≡ records_by (λ x. x.variables) (outcome_on v s m) m.variables
  pub actions : m'.actions ≡ records_by (λ x. x.actions) (outcome_on v s m) m.actions
