-- What the private functions promise: each act of a step, on the buffers and the registers.
use Rattle.std.specs.Prelude.{◌≡◌, ℕ, ◌+◌, ◌-◌, ◌*◌, ◌≤◌, ◌<◌, Bool, true, false, List, [], ◌∷◌, length, take, drop, set}
use Rattle.ascii.specs.Choice.{bit}
use Rattle.lent.specs.Sizes.{limit, token_words, span_word}
use Rattle.lent.specs.Buffers.{stored}
use Rattle.lexer.specs.declared.Cursor.{Cursor}
use Rattle.lexer.specs.declared.Kind.{Kind}
use Rattle.lexer.specs.declared.Kind.TheVariants.{Newline}
use Rattle.lexer.specs.Layout.{kind_code}
use Rattle.lexer.specs.declared.writing.Tally.{Tally}
use Rattle.plain.specs.Table.{Ends, stays, here, earlier, with_it, Joins, nothing, itself, control}
use Rattle.plain.specs.Automaton.{controlled, opened}
use Rattle.plain.specs.Coding.{keeps_in, ends_in, feeds_in, begins_in, joins_in, kind_by}
use Rattle.plain.specs.declared.acting.Held.{Held}

-- The registers beside state and cursor, by their parts.
abbrev pub held : Cursor → ℕ → ℕ → ℕ → Held
held d start used count = record { from = d; start = start; used = used; count = count }

-- A byte is written behind the text, or nothing.
abbrev pub Adds : ℕ → Held → List ℕ → List ℕ → Held → Type 0
Adds b h old new r = (new ≡ set old h.used b) × (r ≡ held h.from h.start (h.used + 1) h.count)

abbrev pub Same : Held → List ℕ → List ℕ → Held → Type 0
Same h old new r = (new ≡ old) × (r ≡ h)

abbrev pub Kept : Bool → Held → List ℕ → List ℕ → Held → Type 0
Kept true h old new r = Adds 92 h old new r
Kept false h old new r = Same h old new r

abbrev pub Joined : Joins → ℕ → Held → List ℕ → List ℕ → Held → Type 0
Joined nothing b h old new r = Same h old new r
Joined itself b h old new r = Adds b h old new r
Joined control b h old new r = Adds (controlled b) h old new r

-- The five words of a token that begins at d, ends before p, and whose text of n bytes starts at the offset o.
abbrev pub words : Kind → Cursor → ℕ → ℕ → ℕ → List ℕ
words k d p o n = kind_code k ∷ d.line.0 ∷ d.column.0 ∷ span_word d.place (p - d.place) ∷ span_word o n ∷ []

-- The open text.
abbrev pub open_text : List ℕ → Held → List ℕ
open_text text h = take (h.used - h.start) (drop h.start text)

-- The open token, told with its end at p: its record is stored, and the next text starts behind its own.
abbrev pub Tells : ℕ → ℕ → List ℕ → Held → List ℕ → List ℕ → Held → Type 0
Tells state p text h old new r =
    (new ≡ stored old (h.count * token_words) (words (kind_by state h.from.mark (open_text text h)) h.from p h.start (h.used - h.start)))
    × (r ≡ held h.from h.used h.used (h.count + 1))

abbrev pub Ended : Ends → ℕ → ℕ → List ℕ → Held → List ℕ → List ℕ → Held → Type 0
Ended stays state p text h old new r = Same h old new r
Ended here state p text h old new r = Tells state p text h old new r
Ended earlier state p text h old new r = Tells state (p - 1) text h old new r
Ended with_it state p text h old new r = Tells state (p + 1) text h old new r

-- A Newline of the byte at c.
abbrev pub Fed : Bool → Cursor → Held → List ℕ → List ℕ → Held → Type 0
Fed true c h old new r =
    (new ≡ stored old (h.count * token_words) (words Newline c (c.place + 1) h.start 0)) × (r ≡ held h.from h.start h.used (h.count + 1))
Fed false c h old new r = Same h old new r

-- The same by a cell's number.
pub record Feeding (x : ℕ) (c : Cursor) (h : Held) (old new : List ℕ) (r : Held) : Type 0 where
  pub fed : Fed (feeds_in x) c h old new r

-- A token that may end a byte earlier began before that, and one that ends with a byte ends inside the text.
abbrev pub Behind : Ends → Cursor → Held → Type 0
Behind stays c h = Unit {0}
Behind here c h = Unit {0}
Behind earlier c h = h.from.place < c.place
Behind with_it c h = c.place < limit

-- There is room for what is to be written.
abbrev pub Room : Bool → Held → List ℕ → Type 0
Room true h text = h.used < length text
Room false h text = Unit {0}

abbrev pub RoomFor : Joins → Held → List ℕ → Type 0
RoomFor nothing h text = Unit {0}
RoomFor itself h text = h.used < length text
RoomFor control h text = h.used < length text

-- How many bytes a byte gives to the text.
abbrev pub joins_width : Joins → ℕ
joins_width nothing = 0
joins_width itself = 1
joins_width control = 1

-- The open token can end: its numbers fit a record.
pub record CanEnd (e : Ends) (c : Cursor) (h : Held) (text : List ℕ) : Type 0 where
  pub place_low : c.place ≤ limit
  pub from_low : h.from.place ≤ c.place
  pub start_low : h.start ≤ h.used
  pub inside : h.used ≤ length text
  pub used_low : h.used ≤ limit
  pub count_low : h.count ≤ limit + limit + 1
  pub behind : Behind e c h

-- A step can be done: the same with the backslash that may join the text, and room for all that it writes.
pub record Ready (x : ℕ) (c : Cursor) (h : Held) (text : List ℕ) : Type 0 where
  pub place_low : c.place ≤ limit
  pub from_low : h.from.place ≤ c.place
  pub start_low : h.start ≤ h.used
  pub room : h.used + bit (keeps_in x) + joins_width (joins_in x) ≤ length text
  pub used_low : h.used + bit (keeps_in x) ≤ limit
  pub count_low : h.count ≤ limit + limit + 1
  pub behind : Behind (ends_in x) c h
  pub line_low : c.place + bit (feeds_in x) ≤ limit

-- The acts of a step but the last, one after another.
pub record Acted (x state : ℕ) (c : Cursor) (h : Held) (text text' records records' : List ℕ) (r : Held) : Type 0 where
  pub records₁ : List ℕ
  pub held₁ : Held
  pub held₂ : Held
  pub held₃ : Held
  pub kept_is : Kept (keeps_in x) h text text' held₁
  pub ended_is : Ended (ends_in x) state c.place text' held₁ records records₁ held₂
  pub fed_is : Fed (feeds_in x) c held₂ records₁ records' held₃
  pub begun_is : r ≡ held (opened (begins_in x) c held₃.from) held₃.start held₃.used held₃.count

-- A whole step.
pub record Stepped (x state b : ℕ) (c : Cursor) (h : Held) (text text' records records' : List ℕ) (r : Held) : Type 0 where
  pub text₁ : List ℕ
  pub begun : Held
  pub acted : Acted x state c h text text₁ records records' begun
  pub joined_is : Joined (joins_in x) b begun text₁ text' r

-- What was read, by the registers and where reading stopped.
abbrev pub tallied : Held → Cursor → Tally
tallied h c = record { count = h.count; used = h.used; stop = c }
