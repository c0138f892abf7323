-- The automaton over a text: one byte at a step, with the cursor, the cursor at the open token's start, and its text so far.
use Rattle.std.specs.Prelude.{ℕ, suc, ◌-◌, Bool, true, false, List, [], ◌∷◌, ◌++◌, eqb}
use Rattle.ascii.specs.Choice.{pick}
use Rattle.lexer.specs.declared.Cursor.{Cursor}
use Rattle.lexer.specs.Cursors.{fresh, moved}
use Rattle.lexer.specs.declared.Kind.{Kind}
use Rattle.lexer.specs.declared.Kind.TheVariants.{QuotedString, Comment, Newline}
use Rattle.lexer.specs.Tokens.{Token, Reading, word_kind, put}
use Rattle.plain.specs.Table.{State, S, SB, SC, W, WB, WC, K, D, DB, DC, DM, Q, QB, QC, QM, over, class_of, Ends, stays, here, earlier, with_it, Joins, nothing, itself, control, Next, goes, halts, Cell, cell}

-- The token that begins at d, ends before the place p, and has the text t.
abbrev pub tok : Kind → Cursor → ℕ → List ℕ → Token
tok k d p t = record { kind = k; line = d.line; column = d.column; first = d.place; past = p; text = t }

-- The kind of the token that is open in a state: of a word its text and the mark that it began with tell it.
abbrev pub kind_in : State → Cursor → List ℕ → Kind
kind_in S d t = word_kind d.mark t
kind_in SB d t = word_kind d.mark t
kind_in SC d t = word_kind d.mark t
kind_in W d t = word_kind d.mark t
kind_in WB d t = word_kind d.mark t
kind_in WC d t = word_kind d.mark t
kind_in K d t = Comment
kind_in D d t = QuotedString
kind_in DB d t = QuotedString
kind_in DC d t = QuotedString
kind_in DM d t = QuotedString
kind_in Q d t = QuotedString
kind_in QB d t = QuotedString
kind_in QC d t = QuotedString
kind_in QM d t = QuotedString

-- The acts of a cell, one by one.
abbrev pub kept : Bool → List ℕ → List ℕ
kept true t = t ++ (92 ∷ [])
kept false t = t

abbrev pub fed : Bool → Cursor → List Token
fed true c = tok Newline c (suc c.place) [] ∷ []
fed false c = []

abbrev pub ended : Ends → State → Cursor → Cursor → List ℕ → List Token → List Token
ended stays q c d t ts = ts
ended here q c d t ts = tok (kind_in q d t) d c.place t ∷ ts
ended earlier q c d t ts = tok (kind_in q d t) d (c.place - 1) t ∷ ts
ended with_it q c d t ts = tok (kind_in q d t) d (suc c.place) t ∷ ts

-- The open text behind a token's end is empty.
abbrev pub cleared : Ends → List ℕ → List ℕ
cleared stays t = t
cleared here t = []
cleared earlier t = []
cleared with_it t = []

abbrev pub opened : Bool → Cursor → Cursor → Cursor
opened true c d = c
opened false c d = d

-- LF, tab or CR for n, t, r.
abbrev pub controlled : ℕ → ℕ
controlled b = pick (eqb b 110) 10 (pick (eqb b 116) 9 13)

abbrev pub joined : Joins → ℕ → List ℕ → List ℕ
joined nothing b t = t
joined itself b t = t ++ (b ∷ [])
joined control b t = t ++ (controlled b ∷ [])

-- The tokens that a cell tells, and the open text that it leaves.
abbrev pub told : Cell → State → Cursor → Cursor → List ℕ → List Token
told x q c d t = ended x.ends q c d (kept x.keeps t) (fed x.feeds c)

abbrev pub left : Cell → ℕ → List ℕ → List ℕ
left x b t = joined x.joins b (cleared x.ends (kept x.keeps t))

-- Tokens before a reading.
abbrev pub tell : List Token → Reading → Reading
tell [] r = r
tell (t ∷ ts) r = put t (tell ts r)

-- Reading that stops at c.
abbrev pub stops : Cursor → Reading
stops c = record { tokens = []; stop = c }

abbrev pub leads : Next → Cursor → (State → Reading) → Reading
leads halts c go = stops c
leads (goes q) c go = go q

-- One step: the cell's tokens, and then what `go` gives from the next state.
abbrev pub step : Cell → State → ℕ → Cursor → Cursor → List ℕ → (State → Cursor → List ℕ → Reading) → Reading
step x q b c d t go = tell (told x q c d t) (leads x.next c (λ p. go p (opened x.begins c d) (left x b t)))

-- What the automaton gives in the state q at c, where the open token began at d and has the text t.
unfoldable pub automaton : State → List ℕ → Cursor → Cursor → List ℕ → Reading
automaton q [] c d t = tell (told (cell q over) q c d t) (stops c)
automaton q (b ∷ r) c d t = step (cell q (class_of b)) q b c d t (λ p e u. automaton p r (moved c b) e u)

-- A text from its start.
unfoldable pub plain_reading : List ℕ → Reading
plain_reading r = automaton S r fresh fresh []
