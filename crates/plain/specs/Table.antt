-- The plain lexer on paper: states, columnDigits of bytes, and the table of what a byte does in a state.
use Rattle.std.specs.Prelude.{ℕ, Bool, true, false, eqb}
use Rattle.ascii.specs.Choice.{pick}
-- Where the open token ends, and what a byte gives to the text: the source's.
pub use Rattle.plain.specs.declared.table.Ends.{Ends}
pub use Rattle.plain.specs.declared.table.Ends.TheVariants.{Stays as stays, Here as here, Earlier as earlier, WithIt as with_it}
pub use Rattle.plain.specs.declared.table.Joins.{Joins}
pub use Rattle.plain.specs.declared.table.Joins.TheVariants.{Nothing as nothing, Itself as itself, Control as control}

-- What is held back undecided is a state. S: between tokens; W: in a word; K: in a comment; D and Q: in double and in single marks.
-- B: behind a backslash; C: behind a backslash and CR; M: in the blanks behind an escaped line end.
pub data State : Type 0 where
  S : State
  SB : State
  SC : State
  W : State
  WB : State
  WC : State
  K : State
  D : State
  DB : State
  DC : State
  DM : State
  Q : State
  QB : State
  QC : State
  QM : State

-- The columns: LF; CR; space and tab; VT and FF; backslash; both quotation marks; `#`; n, t and r; any other byte; the end of the text.
pub data Class : Type 0 where
  feed : Class
  return : Class
  blank : Class
  stop : Class
  slash : Class
  double : Class
  single : Class
  hash : Class
  letter : Class
  other : Class
  over : Class

-- A byte's column.
unfoldable pub class_of : ℕ → Class
class_of b =
    pick (eqb b 10) feed (pick (eqb b 13) return (pick (eqb b 32) blank (pick (eqb b 9) blank
    (pick (eqb b 11) stop (pick (eqb b 12) stop (pick (eqb b 92) slash (pick (eqb b 34) double (pick (eqb b 39) single
    (pick (eqb b 35) hash (pick (eqb b 110) letter (pick (eqb b 116) letter (pick (eqb b 114) letter other))))))))))))

-- Where reading goes on, or that it stops before this byte.
pub data Next : Type 0 where
  goes : State → Next
  halts : Next

-- A cell of the table. Its acts, in this order: the backslash that was held back joins the text; the open token ends; a Newline
-- is made of this byte; a token begins with this byte; the byte joins the text.
pub record Cell : Type 0 where
  pub keeps : Bool
  pub ends : Ends
  pub feeds : Bool
  pub begins : Bool
  pub joins : Joins
  pub next : Next

-- A cell with no act but to go on in a state, or to halt.
abbrev to : State → Cell
to q = record { keeps = false; ends = stays; feeds = false; begins = false; joins = nothing; next = goes q }

abbrev halt : Cell
halt = record { keeps = false; ends = stays; feeds = false; begins = false; joins = nothing; next = halts }

-- One act more: on paper the signs \ ) < ] n [ + x before the state.
abbrev keep : Cell → Cell
keep x = record { keeps = true; ends = x.ends; feeds = x.feeds; begins = x.begins; joins = x.joins; next = x.next }

abbrev end : Cell → Cell
end x = record { keeps = x.keeps; ends = here; feeds = x.feeds; begins = x.begins; joins = x.joins; next = x.next }

abbrev cut : Cell → Cell
cut x = record { keeps = x.keeps; ends = earlier; feeds = x.feeds; begins = x.begins; joins = x.joins; next = x.next }

abbrev shut : Cell → Cell
shut x = record { keeps = x.keeps; ends = with_it; feeds = x.feeds; begins = x.begins; joins = x.joins; next = x.next }

abbrev line : Cell → Cell
line x = record { keeps = x.keeps; ends = x.ends; feeds = true; begins = x.begins; joins = x.joins; next = x.next }

abbrev begin : Cell → Cell
begin x = record { keeps = x.keeps; ends = x.ends; feeds = x.feeds; begins = true; joins = x.joins; next = x.next }

abbrev join : Cell → Cell
join x = record { keeps = x.keeps; ends = x.ends; feeds = x.feeds; begins = x.begins; joins = itself; next = x.next }

abbrev stand : Cell → Cell
stand x = record { keeps = x.keeps; ends = x.ends; feeds = x.feeds; begins = x.begins; joins = control; next = x.next }

-- A row, with its cells in the order of the columns.
abbrev row : (a b c d e f g h i j k : Cell) → Class → Cell
row a b c d e f g h i j k feed = a
row a b c d e f g h i j k return = b
row a b c d e f g h i j k blank = c
row a b c d e f g h i j k stop = d
row a b c d e f g h i j k slash = e
row a b c d e f g h i j k double = f
row a b c d e f g h i j k single = g
row a b c d e f g h i j k hash = h
row a b c d e f g h i j k letter = i
row a b c d e f g h i j k other = j
row a b c d e f g h i j k over = k

-- The table.   LF              CR             space, tab     VT, FF            \                double                     single                     #                          n t r                             other   end of text
unfoldable pub cell : State → Class → Cell
cell S = row (line (to S)) (to S) (to S) halt (to SB) (begin (to D)) (begin (to Q)) (begin (to K)) (begin (join (to W))) (begin (join (to W))) halt
cell SB = row (to S) (to SC) (to S) halt (to SB) (begin (to D)) (begin (to Q)) (begin (to K)) (begin (join (to W))) (begin (join (to W))) halt
cell SC = row (to S) (to S) (to S) halt (to SB) (begin (to D)) (begin (to Q)) (begin (to K)) (begin (join (to W))) (begin (join (to W))) halt
cell W = row (end (line (to S))) (end (to S)) (end (to S)) (end halt) (to WB) (end (begin (to D))) (end (begin (to Q))) (end (begin (to K))) (join (to W)) (join (to W)) (end halt)
cell WB = row (to W) (to WC) (keep (end (to S))) (keep (end halt)) (keep (to WB)) (keep (end (begin (to D)))) (keep (end (begin (to Q)))) (keep (end (begin (to K)))) (keep (join (to W))) (keep (join (to W))) (keep (end halt))
cell WC = row (to W) (keep (cut (to S))) (keep (cut (to S))) (keep (cut halt)) (keep (cut (to SB))) (keep (cut (begin (to D)))) (keep (cut (begin (to Q)))) (keep (cut (begin (to K)))) (keep (cut (begin (join (to W))))) (keep (cut (begin (join (to W))))) (keep (cut halt))
cell K = row (shut (to S)) (to K) (to K) (to K) (to K) (to K) (to K) (to K) (to K) (to K) (end halt)
cell D = row (join (to D)) (join (to D)) (join (to D)) (join (to D)) (to DB) (shut (to S)) (join (to D)) (join (to D)) (join (to D)) (join (to D)) (end halt)
cell DB = row (to DM) (to DC) (keep (join (to D))) (keep (join (to D))) (join (to D)) (join (to D)) (join (to D)) (keep (join (to D))) (stand (to D)) (keep (join (to D))) (end halt)
cell DC = row (to DM) (join (to D)) (to DM) (join (to D)) (to DB) (shut (to S)) (join (to D)) (join (to D)) (join (to D)) (join (to D)) (end halt)
cell DM = row (join (to D)) (join (to D)) (to DM) (join (to D)) (to DB) (shut (to S)) (join (to D)) (join (to D)) (join (to D)) (join (to D)) (end halt)
cell Q = row (join (to Q)) (join (to Q)) (join (to Q)) (join (to Q)) (to QB) (join (to Q)) (shut (to S)) (join (to Q)) (join (to Q)) (join (to Q)) (end halt)
cell QB = row (to QM) (to QC) (keep (join (to Q))) (keep (join (to Q))) (join (to Q)) (join (to Q)) (join (to Q)) (keep (join (to Q))) (stand (to Q)) (keep (join (to Q))) (end halt)
cell QC = row (to QM) (join (to Q)) (to QM) (join (to Q)) (to QB) (join (to Q)) (shut (to S)) (join (to Q)) (join (to Q)) (join (to Q)) (end halt)
cell QM = row (join (to Q)) (join (to Q)) (to QM) (join (to Q)) (to QB) (join (to Q)) (shut (to S)) (join (to Q)) (join (to Q)) (join (to Q)) (end halt)
