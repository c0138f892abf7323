-- What the private functions promise, from a token to the whole text.
use Rattle.directives.specs.declared.DirectivesError.TheVariants.{NoRoom}
use Rattle.std.specs.Prelude.{◌≡◌, ℕ, zero, suc, ◌+◌, ◌-◌, ◌*◌, ◌≤◌, ◌<◌, Bool, true, false, not, List, [], ◌∷◌, ◌++◌, length, take, drop, ltb, leb, eqb, Ok, Err, Result}
use Rattle.ascii.specs.Choice.{pick, and, or, bit}
use Rattle.lent.specs.Sizes.{limit, variable_words, action_words, directive_words, span_word, room_for}
use Rattle.lent.specs.Buffers.{zeros, padded, placed, stored_each}
use Rattle.lent.specs.Sources.{Part, part as stretch, Sourced}
use Rattle.actions.specs.Normal.{normalised}
use Rattle.lent.specs.Table.{Outcome, refuses, reads}
use Rattle.lexer.specs.declared.Kind.{Kind}
use Rattle.lexer.specs.declared.Kind.TheVariants.{Directive as Leading, Word, QuotedString, Comment, Newline}
use Rattle.lexer.specs.declared.Cursor.{Cursor}
use Rattle.lexer.specs.declared.stepping.Lexeme.{Lexeme}
use Rattle.lexer.specs.Tokens.{Token, Reading, put, tokens}
use Rattle.lexer.specs.Layout as Lexed
use Rattle.lexer.specs.Steps.{part}
use Rattle.lexer.specs.Promises.{lexeme}
use Rattle.lexer.specs.Calls.{Reached as Arrived}
use Rattle.variables.specs.Layout as Targets
use Rattle.variables.specs.Cores as Cores
use Rattle.operators.specs.Operators.{Spec}
use Rattle.records.specs.Actions.{Action}
use Rattle.records.specs.Layout as Acts
use Rattle.records.specs.Codes.{id_code, chain_code}
use Rattle.actions.specs.Having.{has}
use Rattle.actions.specs.Cores.{core_reached, core_records}
use Rattle.directives.specs.Groups.{arguments_of, items}
use Rattle.directives.specs.Directives.{Listed, Body, rule, act, marker, defaults, unknown, Directive, Fault, within, actions_read, Shape, of_rule, of_action, of_marker, of_defaults, of_other, last_past, standing}
use Rattle.directives.specs.Layout.{Reached, reached, past_body, shape_in, shape_code, name_slot, listed_in, actions_in, negated_word, operator_word, argument_slot, name_end, listed_end, argument_end, body_text, directive_text, directive_record, listed_count, action_count, texts, listed_counts, action_counts}
use Rattle.directives.specs.Versions.{Version, TwoSix, TwoSeven, chained_on, directives_for}
use Rattle.directives.specs.Table.{name_left, fault_given, fault_name}
use Rattle.directives.specs.Promises.{Answer, fault_told, naming, read_as}
use Rattle.directives.specs.declared.LineFault.{LineFault}
use Rattle.directives.specs.declared.LineFault.TheVariants.{Stopped}
use Rattle.directives.specs.declared.Fault.{Fault as Told}
use Rattle.directives.specs.declared.tokens.Role.{Role}
use Rattle.directives.specs.declared.tokens.Role.TheVariants.{Opens, Argues, Closes}
use Rattle.lexer.specs.declared.stepping.Found.{Found}
use Rattle.actions.specs.declared.Reached.{Reached as ListReached}
use Rattle.actions.specs.declared.PieceError.{PieceError}
use Rattle.directives.specs.declared.arguments.Arguments.{Arguments}
use Rattle.directives.specs.declared.arguments.Taken.{Taken}
use Rattle.directives.specs.declared.parts.Tally.{Tally}
use Rattle.directives.specs.declared.parts.List.{List as ListAnswer}
use Rattle.directives.specs.declared.parts.Entry.{Entry}

-- ---- buffers

-- xs stand in a buffer from a place on: what stands before them is kept, and what stands behind them may be anything.
pub record Laid (old new : List ℕ) (at : ℕ) (xs : List ℕ) : Type 0 where
  pub long : length new ≡ length old
  pub fits : at + length xs ≤ length old
  pub front : take (at + length xs) new ≡ take at old ++ xs

-- ---- tokens

abbrev pub role_of : Kind → Role
role_of Leading = Opens
role_of Word = Argues
role_of QuotedString = Argues
role_of Comment = Closes
role_of Newline = Closes

-- The tokens from a cursor on, and where reading stops.
abbrev pub onward : List ℕ → Cursor → Reading
onward s c = tokens 0 (drop c.place s) c

-- The token that a step found, its text behind what is held.
pub record Token-is (s : List ℕ) (here : Cursor) (held : ℕ) (old new : List ℕ) (l : Lexeme) : Type 0 where
  pub t : Token
  pub is : l ≡ lexeme t l.next
  pub ends : t.past ≡ l.next.place
  pub ordered : t.first ≤ t.past
  pub more : onward s here ≡ put t (onward s l.next)
  pub text : new ≡ placed old held t.text
  pub arrived : Arrived s l.next
  pub ahead : here.place < l.next.place
  pub short : here.place + length t.text ≤ l.next.place

pub record None-is (s : List ℕ) (here : Cursor) (old new : List ℕ) (stop : Cursor) : Type 0 where
  pub none : onward s here ≡ record { tokens = []; stop = stop }
  pub same : new ≡ old

abbrev pub Nexts : List ℕ → Cursor → ℕ → List ℕ → List ℕ → Found → Type 0
Nexts s here held old new (Found.Token l) = Token-is s here held old new l
Nexts s here held old new (Found.Nothing stop) = None-is s here old new stop

-- ---- arguments

-- Arguments whose texts start at an offset, behind a Directive token that ends at a place of the input.
abbrev pub ends_at : ℕ → ℕ → List Token → ℕ
ends_at held k args = held + length (Lexed.texts (take k args))

-- Where the argument with this number stands in the input.
unfoldable pub place_of : ℕ → List Token → Part
place_of n [] = stretch 0 0
place_of zero (t ∷ ts) = standing t
place_of (suc n) (t ∷ ts) = place_of n ts

abbrev pub arguments_as : ℕ → ℕ → List Token → Arguments
arguments_as held past args = record {
  count = length args;
  one = ends_at held 1 args;
  two = ends_at held 2 args;
  three = ends_at held 3 args;
  end = held + length (Lexed.texts args);
  past = last_past past args;
  first = place_of 0 args;
  second = place_of 1 args;
  third = place_of 2 args;
}

-- One more, with so many bytes of text, that stands there in the input.
abbrev pub one_more : Arguments → ℕ → Part → Arguments
one_more a len here = record {
  count = a.count + 1;
  one = pick (ltb a.count 1) (a.end + len) a.one;
  two = pick (ltb a.count 2) (a.end + len) a.two;
  three = pick (ltb a.count 3) (a.end + len) a.three;
  end = a.end + len;
  past = here.past;
  first = pick (eqb a.count 0) here a.first;
  second = pick (eqb a.count 1) here a.second;
  third = pick (eqb a.count 2) here a.third;
}

-- The tokens that are taken from a cursor on.
abbrev pub taken_from : List ℕ → Cursor → List Token
taken_from s c = arguments_of (onward s c).tokens

-- They stand in scratch, and what follows them is read from the next cursor on.
pub record Took (s : List ℕ) (from : Cursor) (past held : ℕ) (old new : List ℕ) (r : Taken) : Type 0 where
  pub arguments_are : r.arguments ≡ arguments_as held past (taken_from s from)
  pub rest : items true (onward s from).tokens ≡ items false (onward s r.next).tokens
  pub stop : (onward s from).stop ≡ (onward s r.next).stop
  pub laid : Laid old new held (Lexed.texts (taken_from s from))
  pub arrived : Arrived s r.next
  pub short : from.place + length (Lexed.texts (taken_from s from)) ≤ r.next.place
  pub past_low : past ≤ r.arguments.past
  pub past_high : r.arguments.past ≤ r.next.place

-- How much shorter a list is when it is normalised.
abbrev pub shrunk_by : List ℕ → ℕ
shrunk_by s = length s - length (normalised s)

-- ---- one directive

-- What is reached, but for the count of directives.
abbrev pub reached_by : Tally → Reached
reached_by t = reached t.text t.variables t.actions

-- Only a list of actions shrinks.
abbrev pub shrunk_for : Body → ℕ → ℕ
shrunk_for (rule vs o xs) n = n
shrunk_for (act xs) n = n
shrunk_for (marker m) n = 0
shrunk_for (defaults xs) n = n
shrunk_for (unknown m) n = 0

-- What a directive's record has of its own.
abbrev pub entry_of : Reached → ℕ → Body → Entry
entry_of r shrunk x = record {
  kind = shape_in x;
  name = Acts.slot_word r.text (name_slot x);
  negated = negated_word x;
  operator = operator_word x;
  argument = Acts.slot_word (listed_end r.text x) (argument_slot x);
  variables = listed_count x;
  actions = action_count x;
  text = r.text + length (body_text x);
  shrunk = shrunk_for x shrunk;
  id = has id_code (actions_in x);
  chain = has chain_code (actions_in x);
}

-- The records of its variables and exclusions, and of its actions, one by one, its texts starting at o.
abbrev pub listed_each : ℕ → Body → List (List ℕ)
listed_each o x = Cores.records_from (name_end o x) (listed_in x).variables (listed_in x).exclusions

abbrev pub acted_each : ℕ → Body → List (List ℕ)
acted_each o x = Acts.records_from (argument_end o x) (actions_in x)

-- A fault as it is told; and that the last step, which clears the text unless the fault has a name there, leaves what the table states.
pub record Faulted (f : Fault) (text text' : List ℕ) (r : Told) : Type 0 where
  pub given : fault_told r ≡ fault_given f
  pub left : pick (naming r) text' (zeros (length text)) ≡ padded (length text) (fault_name f)

-- An entry of that kind with nothing read yet; and one that is given more: a name, variables, an operator, actions.
abbrev pub empty_entry : Shape → ℕ → Entry
empty_entry kind text = record { kind = kind; name = 0; negated = 0; operator = 0; argument = 0; variables = 0; actions = 0; text = text; shrunk = 0; id = false; chain = false }

abbrev pub with_name : Entry → ℕ → ℕ → Entry
with_name e name text = record { kind = e.kind; name = name; negated = e.negated; operator = e.operator; argument = e.argument; variables = e.variables; actions = e.actions; text = text; shrunk = e.shrunk; id = e.id; chain = e.chain }

abbrev pub with_variables : Entry → ℕ → ℕ → Entry
with_variables e n text = record { kind = e.kind; name = e.name; negated = e.negated; operator = e.operator; argument = e.argument; variables = n; actions = e.actions; text = text; shrunk = e.shrunk; id = e.id; chain = e.chain }

abbrev pub with_operator : Entry → ℕ → ℕ → ℕ → ℕ → Entry
with_operator e negated operator argument text =
    record { kind = e.kind; name = e.name; negated = negated; operator = operator; argument = argument; variables = e.variables; actions = e.actions; text = text; shrunk = e.shrunk; id = e.id; chain = e.chain }

abbrev pub with_actions : Entry → ℕ → ℕ → ℕ → Bool → Bool → Entry
with_actions e n text shrunk id chain =
    record { kind = e.kind; name = e.name; negated = e.negated; operator = e.operator; argument = e.argument; variables = e.variables; actions = n; text = text; shrunk = shrunk; id = id; chain = chain }

-- One part read into an entry: what it grew to, its text laid, and the records that are left.
pub record Grew (e : Entry) (at : ℕ) (xs text text' words records' : List ℕ) (r : Result Entry Told) : Type 0 where
  pub is : r ≡ Ok e
  pub laid : Laid text text' at xs
  pub records_are : records' ≡ words

-- Or its fault.
pub record Fell (f : Fault) (text text' : List ℕ) (r : Result Entry Told) : Type 0 where
  pub told : Told
  pub is : r ≡ Err told
  pub faulted : Faulted f text text' told

abbrev pub AddsVariables : Entry → ℕ → ℕ → List ℕ → List ℕ → List ℕ → List ℕ → Outcome Listed → Result Entry Told → Type 0
AddsVariables e line place text text' records records' (reads x) =
    Grew (with_variables e (length x.variables + length x.exclusions) (e.text + length (Targets.texts x.variables x.exclusions))) e.text
    (Targets.texts x.variables x.exclusions) text text'
    (stored_each records (place * variable_words) (Cores.records_from e.text x.variables x.exclusions)) records'
AddsVariables e line place text text' records records' (refuses f) = Fell (within line f) text text'

abbrev pub AddsOperator : Entry → ℕ → List ℕ → List ℕ → Outcome Spec → Result Entry Told → Type 0
AddsOperator e line text text' (reads x) =
    Grew (with_operator e (bit x.negated) x.name (span_word e.text (length x.argument)) (e.text + length x.argument)) e.text
    x.argument text text' [] []
AddsOperator e line text text' (refuses f) = Fell (within line f) text text'

abbrev pub AddsActions : Entry → ℕ → ℕ → List ℕ → List ℕ → List ℕ → List ℕ → Outcome (List (Sourced Action)) → ℕ → Result Entry Told → Type 0
AddsActions e line place text text' records records' (reads xs) shrunk =
    Grew (with_actions e (length xs) (e.text + length (Acts.texts xs)) shrunk (has id_code xs) (has chain_code xs)) e.text (Acts.texts xs) text text'
    (stored_each records (place * action_words) (Acts.records_from e.text xs)) records'
AddsActions e line place text text' records records' (refuses f) shrunk = Fell (within line f) text text'

-- An action list that was read from scratch: the answer of the parser's core, and what it leaves.
abbrev pub ListLeft : Outcome (List (Sourced Action)) → ℕ → List ℕ → List ℕ → Type 0
ListLeft (reads xs) used text text' = Laid text text' used (Acts.texts xs)
ListLeft (refuses f) used text text' = text' ≡ padded (length text) (name_left f)

abbrev pub with_shrunk : ℕ → Result ListReached PieceError → Result ListAnswer PieceError
with_shrunk n (Ok x) = Ok (record { reached = x; shrunk = n })
with_shrunk n (Err e) = Err e

pub record ListRead (s : List ℕ) (used place : ℕ) (text text' records records' : List ℕ) (r : Result ListAnswer PieceError) : Type 0 where
  pub answer : r ≡ with_shrunk (shrunk_by s) (core_reached used (actions_read s))
  pub left : ListLeft (actions_read s) used text text'
  pub words : records' ≡ core_records used place records (actions_read s)

-- A directive's body: its entry and what is written, or its first fault.
pub record Wrote (x : Body) (shrunk : ℕ) (t : Tally) (text text' variables variables' actions actions' : List ℕ) (r : Result Entry Told) : Type 0 where
  pub is : r ≡ Ok (entry_of (reached_by t) shrunk x)
  pub laid : Laid text text' t.text (body_text x)
  pub listed : variables' ≡ stored_each variables (t.variables * variable_words) (listed_each t.text x)
  pub acted : actions' ≡ stored_each actions (t.actions * action_words) (acted_each t.text x)

abbrev pub Bodied : Result Body Fault → ℕ → Tally → List ℕ → List ℕ → List ℕ → List ℕ → List ℕ → List ℕ → Result Entry Told → Type 0
Bodied (Ok x) shrunk t text text' variables variables' actions actions' = Wrote x shrunk t text text' variables variables' actions actions'
Bodied (Err f) shrunk t text text' variables variables' actions actions' = Fell f text text'

-- A directive of that shape takes so many arguments.
abbrev pub takes : Shape → ℕ → Bool
takes of_rule n = and (leb 2 n) (leb n 3)
takes of_action n = eqb n 1
takes of_marker n = eqb n 1
takes of_defaults n = eqb n 1
takes of_other n = true

-- The arguments as they stand in scratch behind the name: three at most by their texts, and of more only that there are more.
abbrev pub held_by : ℕ → List ℕ → List ℕ → List ℕ → List (List ℕ)
held_by zero v o x = []
held_by (suc zero) v o x = v ∷ []
held_by (suc (suc zero)) v o x = v ∷ o ∷ []
held_by (suc (suc (suc zero))) v o x = v ∷ o ∷ x ∷ []
held_by (suc (suc (suc (suc n)))) v o x = v ∷ o ∷ x ∷ [] ∷ []

abbrev pub held_arguments : List ℕ → ℕ → Arguments → List (List ℕ)
held_arguments scratch name a = held_by a.count (part scratch name a.one) (part scratch a.one a.two) (part scratch a.two a.three)

-- The list of actions among them.
abbrev pub held_list : List ℕ → ℕ → Arguments → List ℕ
held_list scratch name a = pick (eqb a.count 1) (part scratch name a.one) (part scratch a.two a.three)

-- Numbers that leave room: what is reached, and where the arguments stand in scratch.
pub record Ready (scratch text : List ℕ) (name : ℕ) (a : Arguments) (t : Tally) : Type 0 where
  pub first : name ≤ a.one
  pub second : a.one ≤ a.two
  pub third : a.two ≤ a.three
  pub pair : a.count ≡ 2 → a.three ≡ a.two
  pub inside : a.three ≤ length scratch
  pub short : t.text + a.three ≤ limit
  pub room : t.text + a.three ≤ length text
  pub variables_low : t.variables ≤ limit
  pub actions_low : t.actions ≤ limit

-- ---- the whole text

-- The record of a directive of that line and place, by its entry.
abbrev pub entry_record : ℕ → ℕ → ℕ → Tally → Entry → List ℕ
entry_record line first past t e =
    shape_code e.kind ∷ line ∷ span_word first (past - first) ∷ e.name ∷ e.negated ∷ e.operator ∷ e.argument ∷ t.variables ∷ e.variables ∷ t.actions ∷ e.actions ∷ []

-- A rule, by its shape.
abbrev pub rule_shape : Shape → Bool
rule_shape of_rule = true
rule_shape of_action = true
rule_shape of_marker = false
rule_shape of_defaults = false
rule_shape of_other = false

-- Whether the next rule continues one, and whether this one lacks an id, by entries.
abbrev pub chain_behind : Tally → Entry → Bool
chain_behind t e = pick (rule_shape e.kind) e.chain t.chained

abbrev pub lacks_by : Version → Tally → Entry → Bool
lacks_by TwoSix t e = false
lacks_by TwoSeven t e = and (rule_shape e.kind) (and (not t.chained) (not e.id))

-- And behind directives.
unfoldable pub chained_by : Bool → List Directive → Bool
chained_by chained [] = chained
chained_by chained (d ∷ ds) = chained_by (chained_on chained d.body) ds

-- What is reached behind directives.
abbrev pub tally_of : List Directive → Tally
tally_of ds = record { directives = length ds; text = length (texts ds); variables = listed_counts ds; actions = action_counts ds; chained = chained_by false ds }

abbrev pub at_line : LineFault → ℕ → Told
at_line why line = Told.Line why line

abbrev pub ended_in : Cursor → ℕ → Tally → Result Tally Told
ended_in stop n t = pick (ltb stop.place n) (Err (at_line Stopped stop.line.0)) (Ok t)

-- Behind none, and behind one more.
abbrev pub empty_tally : Tally
empty_tally = record { directives = 0; text = 0; variables = 0; actions = 0; chained = false }

abbrev pub counted_on : Tally → Entry → Tally
counted_on t e = record { directives = t.directives + 1; text = e.text; variables = t.variables + e.variables; actions = t.actions + e.actions; chained = chain_behind t e }

-- Their records one by one.
unfoldable pub directive_each : Reached → List Directive → List (List ℕ)
directive_each r [] = []
directive_each r (d ∷ ds) = directive_record r d ∷ directive_each (past_body r d.body) ds

-- And those of a body's parts.
unfoldable pub each_from : (ℕ → Body → List (List ℕ)) → ℕ → List Directive → List (List ℕ)
each_from words o [] = []
each_from words o (d ∷ ds) = words o d.body ++ each_from words (o + length (directive_text d)) ds

-- Directives that are written: their texts, and their records where they fit.
pub record Written (ds : List Directive) (text text' records records' variables variables' actions actions' : List ℕ) : Type 0 where
  pub laid : Laid text text' 0 (texts ds)
  pub recorded : records' ≡ stored_each records 0 (directive_each (reached 0 0 0) ds)
  pub listed : variables' ≡ stored_each variables 0 (each_from listed_each 0 ds)
  pub acted : actions' ≡ stored_each actions 0 (each_from acted_each 0 ds)

pub record AllRead (v : Version) (s text text' records records' variables variables' actions actions' : List ℕ) (t : Tally) : Type 0 where
  pub ds : List Directive
  pub read : directives_for v s ≡ Ok ds
  pub tally_is : t ≡ tally_of ds
  pub written : Written ds text text' records records' variables variables' actions actions'

pub record FirstFault (v : Version) (s text text' : List ℕ) (r : Told) : Type 0 where
  pub fault : Fault
  pub read : directives_for v s ≡ Err fault
  pub faulted : Faulted fault text text' r

abbrev pub Ends : Version → List ℕ → List ℕ → List ℕ → List ℕ → List ℕ → List ℕ → List ℕ → List ℕ → List ℕ → Result Tally Told → Type 0
Ends v s text text' records records' variables variables' actions actions' (Ok t) = AllRead v s text text' records records' variables variables' actions actions' t
Ends v s text text' records records' variables variables' actions actions' (Err f) = FirstFault v s text text' f

-- ---- the endings

-- One of three record buffers of so many words has no room.
abbrev pub lacks_for : ℕ → ℕ → ℕ → Tally → Bool
lacks_for d v a t =
    or (ltb (room_for directive_words d) t.directives)
    (or (ltb (room_for variable_words v) t.variables)
    (ltb (room_for action_words a) t.actions))

-- The first n elements of a buffer, and zeros beyond.
abbrev pub cleared_from : ℕ → List ℕ → List ℕ
cleared_from n old = padded (length old) (take n old)

-- What a fault leaves: zeros, but for the name where it has one.
pub record Refuses (f : Told) (text text' records records' variables variables' actions actions' : List ℕ) : Type 0 where
  pub texts : text' ≡ pick (naming f) text (zeros (length text))
  pub recorded : records' ≡ zeros (length records)
  pub listed : variables' ≡ zeros (length variables)
  pub acted : actions' ≡ zeros (length actions)

-- The answer after all is read, and a buffer then: what was written, with zeros beyond; or that there is no room, and zeros.
abbrev pub answer_by : Bool → Tally → Answer
answer_by full t = pick full (Err (NoRoom t.directives t.variables t.actions)) (Ok (read_as t.directives t.variables t.actions t.text))

abbrev pub left_from : Bool → ℕ → List ℕ → List ℕ
left_from full n old = pick full (zeros (length old)) (cleared_from n old)

-- So by whether the three record buffers lack room.
pub record EndsBy (full : Bool) (t : Tally) (text text' records records' variables variables' actions actions' : List ℕ) (r : Answer) : Type 0 where
  pub answer : r ≡ answer_by full t
  pub texts : text' ≡ left_from full t.text text
  pub recorded : records' ≡ left_from full (t.directives * directive_words) records
  pub listed : variables' ≡ left_from full (t.variables * variable_words) variables
  pub acted : actions' ≡ left_from full (t.actions * action_words) actions

abbrev pub Finishes : Tally → List ℕ → List ℕ → List ℕ → List ℕ → List ℕ → List ℕ → List ℕ → List ℕ → Answer → Type 0
Finishes t text text' records records' variables variables' actions actions' =
    EndsBy (lacks_for (length records) (length variables) (length actions) t) t text text' records records' variables variables' actions actions'
