-- What the readers' C functions promise: the number and values by document 01's table, the buffers as the reader leaves them.
use Rattle.std.specs.Prelude.{◌≡◌, ℕ, Bool, List, length, Option, Some, None}
use Rattle.ascii.specs.Choice.{pick}
use Rattle.lent.specs.Table.{Outcome, Filled, given_by, text_by, records_by}
use Rattle.lexer.specs.declared.Cursor.{Cursor}
use Rattle.lexer.specs.Cursors.{line, column}
use Rattle.lexer.specs.Promises.{next_outcome, next_given_by, next_text_by, tokens_outcome}
use Rattle.actions.specs.Promises.{actions_gate, actions_outcome, scratch_by}
use Rattle.directives.specs.declared.Version.{Version}
use Rattle.directives.specs.Table as Directing
use Rattle.directives.specs.Promises as Whole
use Rattle.listing.specs.declared.Stop.{Stop}
use Rattle.listing.specs.Listings.{line_of}
use Rattle.listing.specs.Promises as Listing
use Rattle.seclang.specs.Told.{Told}

-- ---- readers that fill a text and a record buffer

pub record Fills (o : Outcome Filled) (text text' records records' old new : List ℕ) (r : ℕ) : Type 0 where
  pub told : Told (given_by o) old new r
  pub texts : text' ≡ text_by o text
  pub words : records' ≡ records_by o records

-- both lexers
abbrev pub Lexes : (s text text' records records' old new : List ℕ) → ℕ → Type 0
Lexes s text text' records records' old new r = Fills (tokens_outcome s (length text) (length records)) text text' records records' old new r

-- and a scratch buffer
pub record FillsActions (s text text' work work' records records' old new : List ℕ) (r : ℕ) : Type 0 where
  pub fills : Fills (actions_outcome s (length text) (length work) (length records)) text text' records records' old new r
  pub scratch : work' ≡ scratch_by (actions_gate s (length text) (length work)) s work

-- whole directives: two byte buffers and three record buffers
pub record FillsDirectives (v : Version) (s : List ℕ) (m m' : Whole.Lent) (old new : List ℕ) (r : ℕ) : Type 0 where
  pub told : Told (Directing.given_by (Whole.outcome_on v s m)) old new r
  pub text : m'.text ≡ Directing.text_by (Whole.outcome_on v s m) m.text
  pub scratch : m'.scratch ≡ Directing.scratch_by (Whole.outcome_on v s m) m.scratch
  pub directives : m'.directives ≡ Directing.records_by (λ x. x.directives) (Whole.outcome_on v s m) m.directives
  pub variables : m'.variables ≡ Directing.records_by (λ x. x.variables) (Whole.outcome_on v s m) m.variables
  pub actions : m'.actions ≡ Directing.records_by (λ x. x.actions) (Whole.outcome_on v s m) m.actions

-- ---- one token

pub record Steps (s : List ℕ) (c : Cursor) (text text' old new : List ℕ) (r : ℕ) : Type 0 where
  pub told : Told (next_given_by (next_outcome s c (length text))) old new r
  pub texts : text' ≡ next_text_by (next_outcome s c (length text)) text

-- ---- listings

-- where reading stopped, out of the numbers that C passes
abbrev pub stop_of : Bool → ℕ → ℕ → Option Stop
stop_of early l k = pick early (Some (record { line = line l; column = column k })) None

pub record Lists (o : Listing.Outcome) (out out' old new : List ℕ) (r : ℕ) : Type 0 where
  pub told : Told (Listing.given_by o) old new r
  pub line : out' ≡ Listing.buffer_by o (length out)

pub record ListsText (s text text' records records' out out' old new : List ℕ) (r : ℕ) : Type 0 where
  pub texts : text' ≡ text_by (tokens_outcome s (length text) (length records)) text
  pub words : records' ≡ records_by (tokens_outcome s (length text) (length records)) records
  pub lists : Lists (Listing.fitted (length out) (line_of s (given_by (tokens_outcome s (length text) (length records))))) out out' old new r
