-- What settling promises: the spans of what was read of a directive, put into the input.
use Rattle.std.specs.Prelude.{◌≡◌, ℕ, zero, suc, ◌*◌, ◌≤◌, ◌<◌, Bool, List, [], ◌∷◌, length, ltb, eqb, Option, Some, None}
use Rattle.ascii.specs.Choice.{pick, or}
use Rattle.lent.specs.Sizes.{limit, variable_words, action_words}
use Rattle.lent.specs.Sources.{Part, part_word}
use Rattle.places.specs.declared.Rule.TheVariants as Rule
use Rattle.places.specs.Sites.{word_part, site_word}
use Rattle.places.specs.Moves.{last_changed}
use Rattle.lexer.specs.declared.Cursor.{Cursor}
use Rattle.lexer.specs.Tokens.{Token}
use Rattle.lexer.specs.Calls.{Reached as Arrived}
use Rattle.directives.specs.Directives.{site_at}
use Rattle.directives.specs.declared.ArgumentFault.{ArgumentFault}
use Rattle.directives.specs.declared.ArgumentFault.TheVariants.{UnknownVariable, UnknownOperator, UnknownAction, BadArgument}
use Rattle.directives.specs.declared.Fault.{Fault as Told}
use Rattle.directives.specs.declared.arguments.Arguments.{Arguments}
use Rattle.directives.specs.declared.parts.Tally.{Tally}
use Rattle.directives.specs.declared.settling.Listed.{Listed as ListPlace}
use Rattle.directives.specs.declared.parts.Entry.{Entry}
use Rattle.directives.specs.Steps.{arguments_as, taken_from}

-- A token that lies in the input.
pub record Stands (s : List ℕ) (t : Part) : Type 0 where
  pub short : length s ≤ limit
  pub some : t.first < t.past
  pub inside : t.past ≤ length s

-- Each of the first three arguments that is there.
pub record Stand (s : List ℕ) (a : Arguments) : Type 0 where
  pub first : 0 < a.count → Stands s a.first
  pub second : 1 < a.count → Stands s a.second
  pub third : 2 < a.count → Stands s a.third

-- A span of a token's text, as the span in the input.
abbrev pub token_word : List ℕ → Part → ℕ → ℕ
token_word s t w = part_word (site_at s t (word_part w))

-- The last words of records so changed, where the token is there.
abbrev pub token_moved : List ℕ → Bool → Part → ℕ → ℕ → ℕ → List ℕ → List ℕ
token_moved s there t width count at records = pick there (last_changed (token_word s t) width count at records) records

-- The text of the argument with this number.
unfoldable pub text_number : ℕ → List Token → List ℕ
text_number n [] = []
text_number zero (t ∷ ts) = t.text
text_number (suc n) (t ∷ ts) = text_number n ts

-- The list of actions: the only argument, or the third.
abbrev pub list_among : ℕ → ℕ
list_among count = pick (eqb count 1) 0 2

abbrev pub list_in : Arguments → ℕ → ListPlace
list_in a name =
    pick (eqb a.count 1)
    (record { token = a.first; first = name; past = a.one })
    (record { token = a.third; first = a.two; past = a.three })

-- The list is there: one argument, or three at least.
abbrev pub list_there : ℕ → Bool
list_there count = or (eqb count 1) (ltb 2 count)

abbrev pub list_found : Arguments → ℕ → Option ListPlace
list_found a name = pick (list_there a.count) (Some (list_in a name)) None

abbrev pub list_text : List ℕ → Cursor → List ℕ
list_text s from = text_number (list_among (length (taken_from s from))) (taken_from s from)

-- Enough to take the arguments again from a cursor on, behind a name in scratch.
pub record Heard (s : List ℕ) (from : Cursor) (name : ℕ) (scratch : List ℕ) : Type 0 where
  pub short : length s ≤ limit
  pub arrived : Arrived s from
  pub room : length s ≤ length scratch
  pub low : name ≤ from.place

-- A list of actions among them.
pub record Listing (s : List ℕ) (from : Cursor) (name : ℕ) (l : ListPlace) : Type 0 where
  pub is : l ≡ list_in (arguments_as name from.place (taken_from s from)) name
  pub token : Stands s l.token
  pub there : list_among (length (taken_from s from)) < length (taken_from s from)

-- A span of such a list's normalised text, as the span in the input; and the last words of records so changed: where nothing was
-- taken out, places in the list and in its normalised text are the same.
abbrev pub list_word : List ℕ → Cursor → Part → ℕ → ℕ
list_word s from t w = token_word s t (site_word Rule.Joined 0 (list_text s from) w)

abbrev pub list_moved : List ℕ → Cursor → Part → ℕ → ℕ → ℕ → List ℕ → List ℕ
list_moved s from t shrunk count at records =
    last_changed (token_word s t) action_words count at
    (pick (ltb 0 shrunk) (last_changed (site_word Rule.Joined 0 (list_text s from)) action_words count at records) records)

-- What is read of a directive, put into the input.
pub record Settled (s : List ℕ) (from : Cursor) (a : Arguments) (name : ℕ) (t : Tally) (e : Entry) (variables variables' actions actions' : List ℕ) : Type 0 where
  pub listed : variables' ≡ token_moved s (ltb 0 a.count) a.first variable_words e.variables (t.variables * variable_words) variables
  pub acted : actions' ≡ pick (list_there a.count) (list_moved s from (list_in a name).token e.shrunk e.actions (t.actions * action_words) actions) actions

-- And a fault.
abbrev pub span_moved : List ℕ → Cursor → Arguments → ℕ → ArgumentFault → ℕ → ℕ
span_moved s from a name UnknownVariable w = pick (ltb 0 a.count) (token_word s a.first w) w
span_moved s from a name UnknownOperator w = pick (ltb 1 a.count) (token_word s a.second w) w
span_moved s from a name UnknownAction w = pick (list_there a.count) (list_word s from (list_in a name).token w) w
span_moved s from a name (BadArgument flaw) w = pick (list_there a.count) (list_word s from (list_in a name).token w) w

abbrev pub fault_moved : List ℕ → Cursor → Arguments → ℕ → Told → Told
fault_moved s from a name (Told.Line why line) = Told.Line why line
fault_moved s from a name (Told.Argument why line at len span) = Told.Argument why line at len (span_moved s from a name why span)
