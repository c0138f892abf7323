-- The theorem of M-104: what is underlined is what was read. For every list of actions or variables by itself, and for every package: the
-- span of a record or of a refused piece is not empty and stands where it must, and the bytes there, read by themselves, are the piece
-- again, so that they give that very action, variable, exclusion or refusal.
use Rattle.std.specs.Prelude.{◌≡◌, List, [], ◌∷◌, ℕ, ◌+◌, ◌-◌, ◌≤◌, ◌<◌, length, take, drop, Result, Ok, Err}
use Rattle.ascii.specs.Trim.{trim_ends, trimmed_part}
use Rattle.lent.specs.Sources.{Part, part, Sourced}
use Rattle.lent.specs.Buffers.{padded}
use Rattle.lent.specs.Table.{Refusal, too_long, not_ascii, short_buffer, no_room, named, no_action, no_argument, no_variable, unknown_operator, bad_cursor, refused, Given, Outcome, refuses, reads}
use Rattle.lexer.specs.declared.Kind.{Kind}
use Rattle.lexer.specs.declared.Kind.TheVariants.{Directive, Word, QuotedString, Comment, Newline}
use Rattle.lexer.specs.Tokens.{Token, reading}
use Rattle.places.specs.declared.Rule.TheVariants as Rule
use Rattle.places.specs.Sites.{read_alone}
use Rattle.single_action.specs.Actions.{Action, done, bad, unknown, single}
use Rattle.actions.specs.Normal.{normalised}
use Rattle.actions.specs.Lists.{normal_site, actions_of}
use Rattle.actions.specs.Layout.{words_from}
use Rattle.actions.specs.Promises as Actions
use Rattle.actions.specs.declared.Read.{Read as ActionsRead}
use Rattle.actions.specs.declared.ActionsError.{ActionsError}
use Rattle.variables.specs.declared.Read.{Read as VariablesRead}
use Rattle.variables.specs.declared.VariablesError.{VariablesError}
use Rattle.directives.specs.declared.Read.{Read as DirectivesRead}
use Rattle.directives.specs.declared.DirectivesError.{DirectivesError}
use Rattle.variables.specs.Parts.{pieces}
use Rattle.variables.specs.Variables as Of
use Rattle.variables.specs.Steps.{excluding_of}
use Rattle.variables.specs.declared.singles.Exclusions.{Exclusions}
use Rattle.variables.specs.declared.singles.Exclusions.TheVariants.{AsWritten, LookedUp}
use Rattle.variables.specs.Layout as Spread
use Rattle.variables.specs.Promises as Targets
use Rattle.operators.specs.Operators as Operator
use Rattle.operators.specs.Places.{name_place}
use Rattle.directives.specs.Directives as Whole
use Rattle.directives.specs.declared.Version.{Version}
use Rattle.directives.specs.Versions.{directives_for}
use Rattle.directives.specs.Directives.{site_at, standing}
use Rattle.directives.specs.Layout as Laid
use Rattle.directives.specs.Table.{fault_given}
use Rattle.directives.specs.Promises as Package
use Rattle.demands.specs.Calls as Called
use Rattle.demands.specs.Calls.{Lent, Left, parse_actions_promise, parse_variables_promise, parse_update_targets_promise, directives_promise}

-- ---- underlined bytes

-- The bytes of a text in a part of it, and all of it as a part.
abbrev pub bytes_in : List ℕ → Part → List ℕ
bytes_in s x = take (x.past - x.first) (drop x.first s)

abbrev pub whole : List ℕ → Part
whole s = part 0 (length s)

-- A part of s that is not empty and lies in a larger one: its bytes, read in this way, are the piece.
pub record Underlined (read : List ℕ → List ℕ) (s : List ℕ) (around x : Part) (piece : List ℕ) : Type 0 where
  pub some : x.first < x.past
  pub from : around.first ≤ x.first
  pub upto : x.past ≤ around.past
  pub reads : read (bytes_in s x) ≡ piece

abbrev pub Each : {A : Type 0} → (A → Type 0) → List A → Type 0
Each P [] = Unit {0}
Each P (x ∷ xs) = P x × Each P xs

-- Bytes as they are.
abbrev pub as_they_are : List ℕ → List ℕ
as_they_are u = u

-- ---- what is read from them

module _ (read : List ℕ → List ℕ) (s : List ℕ) (around : Part) where
  -- A part of s whose bytes are a piece of which this holds.
  abbrev pub Told : Part → (List ℕ → Type 0) → Type 0
  Told x P = (piece : List ℕ) × (Underlined read s around x piece × P piece)

  -- An action: its part of s is a piece that gives it.
  abbrev pub ActionThere : Sourced Action → Type 0
  ActionThere x = Told x.source (λ p. single p ≡ done x.thing)

  -- A refused piece of a list of actions, and nothing else is refused: it has no such argument, or no such name.
  abbrev pub PieceThere : Refusal → Type 0
  PieceThere (named no_action k name x) = Told x (λ p. single p ≡ unknown name)
  PieceThere (named (no_argument flaw) k name x) = Told x (λ p. single p ≡ bad flaw name)
  PieceThere (named no_variable k name x) = ⊥
  PieceThere (unknown_operator p n x) = ⊥
  PieceThere too_long = ⊥
  PieceThere (not_ascii p) = ⊥
  PieceThere short_buffer = ⊥
  PieceThere (no_room n) = ⊥
  PieceThere bad_cursor = ⊥

  abbrev pub ActionsThere : Outcome (List (Sourced Action)) → Type 0
  ActionsThere (refuses f) = PieceThere f
  ActionsThere (reads xs) = Each ActionThere xs

  -- Of variables, whose piece alone is a list that is read to this one, to this exclusion, or refused so.
  module _ (n : Exclusions) where
    abbrev pub alone : Part → List ℕ → Of.Targets
    alone x p = Of.piece (excluding_of n) x p (Of.targets [] [])

    abbrev pub VariableThere : Sourced Of.Variable → Type 0
    VariableThere x = Told x.source (λ p. alone x.source p ≡ Of.targets (x ∷ []) [])

    abbrev pub ExclusionThere : Sourced (List ℕ) → Type 0
    ExclusionThere x = Told x.source (λ p. alone x.source p ≡ Of.targets [] (x ∷ []))

    abbrev pub NameThere : List ℕ → Part → Type 0
    NameThere name x = Told x (λ p. alone x p ≡ Of.refused 0 name x)

    -- a refusal of such a list
    abbrev pub NamedThere : Refusal → Type 0
    NamedThere (named no_action k name x) = ⊥
    NamedThere (named (no_argument flaw) k name x) = ⊥
    NamedThere (named no_variable k name x) = NameThere name x
    NamedThere (unknown_operator p m x) = ⊥
    NamedThere too_long = ⊥
    NamedThere (not_ascii p) = ⊥
    NamedThere short_buffer = ⊥
    NamedThere (no_room m) = ⊥
    NamedThere bad_cursor = ⊥

    abbrev pub TargetsThere : Of.Targets → Type 0
    TargetsThere (Of.targets vs es) = Each VariableThere vs × Each ExclusionThere es
    TargetsThere (Of.refused i name x) = NameThere name x

-- ---- in a package

pub data Among {A : Type 0} (x : A) : List A → Type 0 where
  here : {xs : List A} → Among x (x ∷ xs)
  there : {y : A} {xs : List A} → Among x xs → Among x (y ∷ xs)

-- A token that is an argument: a Word or a QuotedString.
abbrev pub IsArgument : Kind → Type 0
IsArgument Directive = ⊥
IsArgument Word = Unit {0}
IsArgument QuotedString = Unit {0}
IsArgument Comment = ⊥
IsArgument Newline = ⊥

-- Its bytes as the lexer reads them, but that a backslash at the end stays: in the package a byte follows it.
abbrev pub lexed : Kind → List ℕ → List ℕ
lexed Directive = read_alone Rule.Word
lexed Word = read_alone Rule.Word
lexed QuotedString = read_alone Rule.Quoted
lexed Comment = as_they_are
lexed Newline = as_they_are

-- and then as a list of actions is normalised
abbrev pub listed : Kind → List ℕ → List ℕ
listed k u = normalised (lexed k u)

module _ (s : List ℕ) where
  pub record Argument (t : Token) : Type 0 where
    pub among : Among t (reading s).tokens
    pub kind : IsArgument t.kind
    pub inside : t.past ≤ length s

  -- In some argument of the package.
  abbrev pub Somewhere : (Token → Type 0) → Type 0
  Somewhere P = (t : Token) × (Argument t × P t)

  abbrev pub ActionIn : Sourced Action → Type 0
  ActionIn x = Somewhere (λ t. ActionThere (listed t.kind) s (standing t) x)

  abbrev pub VariableIn : Sourced Of.Variable → Type 0
  VariableIn x = Somewhere (λ t. VariableThere (lexed t.kind) s (standing t) AsWritten x)

  abbrev pub ExclusionIn : Sourced (List ℕ) → Type 0
  ExclusionIn x = Somewhere (λ t. ExclusionThere (lexed t.kind) s (standing t) AsWritten x)

  -- A body: its variables and exclusions, and its actions.
  abbrev pub BodyIn : Whole.Body → Type 0
  BodyIn (Whole.rule vs o xs) = (Each VariableIn vs.variables × Each ExclusionIn vs.exclusions) × Each ActionIn xs
  BodyIn (Whole.act xs) = Each ActionIn xs
  BodyIn (Whole.marker m) = Unit {0}
  BodyIn (Whole.defaults xs) = Each ActionIn xs
  BodyIn (Whole.unknown name) = Unit {0}

  -- A part whose ends stand in the package.
  abbrev pub EndsIn : Part → Type 0
  EndsIn x = (x.first ≤ length s) × (x.past ≤ length s)

  -- A directive: where it stands, and its body.
  abbrev pub DirectiveIn : Whole.Directive → Type 0
  DirectiveIn d = EndsIn (part d.first d.past) × BodyIn d.body

  -- A refusal: its piece; of an operator, its name, where it has a byte, and else a place in the package.
  abbrev pub RefusalIn : Refusal → Type 0
  RefusalIn (named no_action k name x) = Somewhere (λ t. PieceThere (listed t.kind) s (standing t) (named no_action k name x))
  RefusalIn (named (no_argument flaw) k name x) = Somewhere (λ t. PieceThere (listed t.kind) s (standing t) (named (no_argument flaw) k name x))
  RefusalIn (named no_variable k name x) = Somewhere (λ t. NameThere (lexed t.kind) s (standing t) AsWritten name x)
  RefusalIn (unknown_operator p n x) = Somewhere (λ t. EndsIn x × (0 < n → Underlined (lexed t.kind) s (standing t) x (bytes_in t.text (part p (p + n)))))
  RefusalIn too_long = ⊥
  RefusalIn (not_ascii p) = ⊥
  RefusalIn short_buffer = ⊥
  RefusalIn (no_room n) = ⊥
  RefusalIn bad_cursor = ⊥

  abbrev pub FaultIn : Whole.Fault → Type 0
  FaultIn (Whole.wrong_count l) = Unit {0}
  FaultIn (Whole.untaken l) = Unit {0}
  FaultIn (Whole.stopped l) = Unit {0}
  FaultIn (Whole.id_missing l) = Unit {0}
  FaultIn (Whole.within l f) = RefusalIn f

  abbrev pub PackageIn : Result (List Whole.Directive) Whole.Fault → Type 0
  PackageIn (Err f) = FaultIn f
  PackageIn (Ok ds) = Each DirectiveIn ds

-- ---- calls

-- What a call tells that gives this number with its values: 1 to 3, or 4; or a refusal of which F holds; or 0, and then things of which P
-- holds, which are kept so in its buffers.
pub data Tells {R A : Type 0} (F : R → Type 0) (told : R → Given) (P Kept : A → Type 0) (g : Given) : Type 0 where
  gated : 1 ≤ g.number → g.number ≤ 3 → Tells F told P Kept g
  crowded : g.number ≡ 4 → Tells F told P Kept g
  refused_there : (f : R) → F f → g ≡ told f → Tells F told P Kept g
  read_there : (x : A) → P x → g.number ≡ 0 → Kept x → Tells F told P Kept g

-- parse_actions: the list without its line continuations.
abbrev pub ActionsTold : Lent × List ℕ → Left (Result ActionsRead ActionsError) × List ℕ → Type 0
ActionsTold i o =
    let s = i.0.input in
    Tells (PieceThere normalised s (whole s)) refused (Each (ActionThere normalised s (whole s)))
    (λ (xs : List (Sourced Action)). o.0.records ≡ padded (length i.0.records) (words_from 0 xs)) (Actions.answer_given o.0.answer)

-- parse_variables and parse_update_targets: the list as it is.
abbrev pub TargetsTold : Exclusions → Lent → Left (Result VariablesRead VariablesError) → Type 0
TargetsTold n i o =
    let s = i.input in
    Tells (NamedThere as_they_are s (whole s) n) refused
    (λ (x : List (Sourced Of.Variable) × List (Sourced (List ℕ))). TargetsThere as_they_are s (whole s) n (Of.targets x.0 x.1))
    (λ (x : List (Sourced Of.Variable) × List (Sourced (List ℕ))). o.records ≡ padded (length i.records) (Spread.words_from 0 x.0 x.1)) (Targets.answer_given o.answer)

-- directives: both buffers with spans.
abbrev pub PackageTold : Called.Package → (Result DirectivesRead DirectivesError) × Package.Lent → Type 0
PackageTold i o =
    Tells (FaultIn i.input) fault_given (Each (DirectiveIn i.input))
    (λ (ds : List Whole.Directive).
    (o.1.variables ≡ padded (length i.lent.variables) (Laid.variables_from 0 ds)) × (o.1.actions ≡ padded (length i.lent.actions) (Laid.actions_from 0 ds)))
    (Package.answer_given o.0)

-- ---- the theorem

pub record Underline : Type 0 where
  -- a list of actions by itself: the bytes of a span, without their line continuations
  pub actions : (s : List ℕ) → ActionsThere normalised s (whole s) (actions_of s)
  -- a list of variables by itself, in either parser: the bytes as they are
  pub variables : (n : Exclusions) (s : List ℕ) → TargetsThere as_they_are s (whole s) n (Of.read_all (excluding_of n) (pieces s))
  -- a setvar alone: the trimmed input; an unknown operator's name: its bytes
  pub setvar : (s : List ℕ) → bytes_in s (trimmed_part s) ≡ trim_ends s
  pub operator : (s name : List ℕ) → Operator.operator s ≡ Operator.unknown name → bytes_in s (part (name_place s) (name_place s + length name)) ≡ name
  -- a package: in every argument, every part of its text, and of its text without line continuations
  pub argument_part : (s : List ℕ) (t : Token) → Argument s t → (x : Part) → x.first < x.past → x.past ≤ length t.text
      → Underlined (lexed t.kind) s (standing t) (site_at s (standing t) x) (bytes_in t.text x)
  pub list_part : (s : List ℕ) (t : Token) → Argument s t → (x : Part) → x.first < x.past → x.past ≤ length (normalised t.text)
      → Underlined (listed t.kind) s (standing t) (site_at s (standing t) (normal_site t.text x)) (bytes_in (normalised t.text) x)
  -- so every record of its directives, or the piece that it is refused for
  pub directives : (v : Version) (s : List ℕ) → PackageIn s (directives_for v s)
  -- and over promises: what every call tells
  pub actions_called : (i : Lent × List ℕ) (o : Left (Result ActionsRead ActionsError) × List ℕ) → parse_actions_promise i o → ActionsTold i o
  pub variables_called : (i : Lent) (o : Left (Result VariablesRead VariablesError)) → parse_variables_promise i o → TargetsTold AsWritten i o
  pub update_targets_called : (i : Lent) (o : Left (Result VariablesRead VariablesError)) → parse_update_targets_promise i o → TargetsTold LookedUp i o
  pub directives_called : (i : Called.Package) (o : (Result DirectivesRead DirectivesError) × Package.Lent) → directives_promise i o → PackageTold i o
