-- What the private functions promise: a record's place, the tests on it, the walk over its texts, and its spelling put.
use Rattle.std.specs.Prelude.{◌≡◌, ℕ, ◌+◌, ◌-◌, ◌^◌, ◌≤◌, ◌<◌, Bool, true, false, List, [], ◌∷◌, ◌++◌, map, length, eqb, leb, ltb, Option, Some, None, Result, Ok, Err}
use Rattle.ascii.specs.Choice.{pick, and, or}
use Rattle.ascii.specs.Text.{bytes}
use Rattle.ascii.specs.Classes.{white}
use Rattle.ascii.specs.Fold.{lowered, same}
use Rattle.ascii.specs.Splits.{leads}
use Rattle.lent.specs.Sizes.{limit, span_base, span_offset}
use Rattle.listing.specs.Json.{decimal, joined}
use Rattle.listing.specs.Steps.{Puts, comma}
use Rattle.records.specs.Codes.{shape_of, known_by, has_a, has_b, has_c}
use Rattle.records.specs.Actions.{Slot, absent, present, Action, slot_text, action_text}
use Rattle.records.specs.Marks.{span_end, end_most, inside}
use Rattle.records.specs.Decoding.{Decoded, none, shows}
use Rattle.single_action.specs.Marks.{quotation}
use Rattle.single_action.specs.Setvar.{has_macro}
use Rattle.single_action.specs.Plans.{cut}
use Rattle.single_action.specs.Table.{Found, found, missing, rows}
use Rattle.single_action.specs.declared.naming.Rule.{Rule}
use Rattle.single_action.specs.declared.naming.Rule.TheVariants.{Plain as plain, Wanted as wanted, Unmarked as unmarked, UpTo as up_to, Severity as severity, Equation as equation, Expiry as expiry, Setting as setting}
use Rattle.actions.specs.Pieces.{Nest, nest, nest_after, cuts}
use Rattle.spelled.specs.Spelling.{coded, has, between, setvar_in, setvar_text, spell}
use Rattle.spelled.specs.Condition.{isnt, first_by, last_by, textual, name_fits}
use Rattle.spelled.specs.Texts.{rule_in}
use Rattle.spelled.specs.Records.{record_in, records_of, shown}
use Rattle.spelled.specs.Writing.{holds, reach, fine, fails, verdict}
use Rattle.spelled.specs.declared.entries.Entry.{Entry}
use Rattle.spelled.specs.declared.passing.Open.{Open}
use Rattle.spelled.specs.declared.writing.Row.{Row}

-- ---- a record's place

-- Its word is that of a text at the offset o in a buffer of n bytes, or 0 where it is none.
abbrev pub stood_at : Bool → ℕ → ℕ → ℕ → Bool
stood_at true w o n = and (eqb (span_offset w) o) (inside n w)
stood_at false w o n = eqb w 0

abbrev pub end_by : Bool → ℕ → ℕ → ℕ
end_by true w o = span_end w
end_by false w o = o

-- Where it ends; past the buffer where its word is another.
unfoldable pub text_end : Bool → ℕ → ℕ → ℕ → ℕ
text_end text w o n = pick (stood_at text w o n) (end_by text w o) (n + 1)

abbrev pub slot_of : Bool → List ℕ → Slot
slot_of true t = present t
slot_of false t = absent

-- The action of an entry, by the places of its texts.
unfoldable pub entry_action : List ℕ → Entry → Action
entry_action text e = record {
  code = e.code;
  number = e.number;
  a = slot_of (has_a (shape_of e.code)) (cut text e.first e.second);
  b = slot_of (has_b (shape_of e.code)) (cut text e.second e.third);
  kind = e.kind;
  c = slot_of (has_c (shape_of e.code) e.kind) (cut text e.third e.past);
}

-- It has a code and, for SetVar, a value kind; its texts stand in the buffer one after another.
pub record Placed (text : List ℕ) (e : Entry) : Type 0 where
  pub known : known_by (shape_of e.code) e.kind ≡ true
  pub ascends : (e.first ≤ e.second) × ((e.second ≤ e.third) × (e.third ≤ e.past))
  pub inside : e.past ≤ length text
  pub near : e.past ≤ end_most
  pub wide : e.number < 2 ^ 64
  pub a_is : slot_text (entry_action text e).a ≡ cut text e.first e.second
  pub b_is : slot_text (entry_action text e).b ≡ cut text e.second e.third
  pub c_is : slot_text (entry_action text e).c ≡ cut text e.third e.past

-- An entry that stands there, and its offsets.
abbrev pub EntryAt : List ℕ → ℕ → Option Entry → Type 0
EntryAt text o None = Unit {0}
EntryAt text o (Some e) = Placed text e × (e.first ≡ o)

abbrev pub reading_shows : List ℕ → Option Entry → Decoded
reading_shows text None = none
reading_shows text (Some e) = shows (entry_action text e)

pub record ReadEntry (text : List ℕ) (o : ℕ) (words : List ℕ) (r : Option Entry) : Type 0 where
  pub answer : record_in text o words ≡ reading_shows text r
  pub placed : EntryAt text o r

-- ---- names and rules by code

abbrev pub name_in : Found → List ℕ
name_in (found r) = lowered r.name
name_in missing = []

-- A transformation is an action with the name `t` and a text.
unfoldable pub name_for : ℕ → List ℕ
name_for code = pick (eqb code 32) (bytes "t") (name_in (coded rows code))

unfoldable pub rule_for : ℕ → Rule
rule_for code = pick (eqb code 32) wanted (rule_in (coded rows code))

-- ---- its numbers and texts

abbrev pub bare : ℕ → ℕ → Bool
bare number kind = and (eqb kind 0) (eqb number 0)

abbrev pub marked_end : List ℕ → Bool
marked_end t = or (first_by quotation t) (last_by quotation false t)

-- A setvar's value.
unfoldable pub value_kept : ℕ → ℕ → List ℕ → Bool
value_kept k n t =
    pick (eqb k 1) (and (eqb n 0) (or (same t (bytes "1")) (textual t)))
    (pick (eqb k 2) (leb n (2 ^ 63 - 1))
    (pick (eqb k 5) (eqb n 0)
    (pick (eqb k 6) (and (eqb n 0) (has_macro t)) true)))

unfoldable pub setting_kept : Action → Bool
setting_kept x =
    and (isnt (has 46 (slot_text x.a)))
    (and (same (lowered (slot_text x.a)) (slot_text x.a))
    (and (or (eqb x.kind 5) (name_fits (slot_text x.a) (slot_text x.b)))
    (value_kept x.kind x.number (slot_text x.c))))

-- By the rule of its code: what a reader makes of its spelling alone, but for the walk over its texts.
unfoldable pub kept : Rule → Action → Bool
kept plain x = bare x.number x.kind
kept wanted x = and (bare x.number x.kind) (isnt (last_by white false (slot_text x.a)))
kept unmarked x = and (bare x.number x.kind) (isnt (marked_end (slot_text x.a)))
kept (up_to most) x = and (eqb x.kind 0) (leb x.number most)
kept severity x = and (eqb x.kind 0) (leb x.number 255)
kept equation x = and (isnt (has 61 (slot_text x.a))) (and (bare x.number x.kind) (isnt (last_by white false (slot_text x.b))))
kept expiry x = and (eqb x.kind 0) (isnt (has 61 (slot_text x.a)))
kept setting x = setting_kept x

-- ---- the walk over texts

abbrev pub line_end : List ℕ → Bool
line_end r = or (leads 10 r) (leads 13 r)

abbrev pub open_at : ℕ → ℕ → Option Open
open_at mark depth = Some (record { mark = mark; depth = depth })

abbrev pub opened : Nest → Option Open
opened n = open_at n.mark n.depth

-- Behind a byte: it is ASCII, no backslash before a line end, and no comma that cuts.
abbrev pub stays : Nest → ℕ → List ℕ → Bool
stays n b r = and (ltb b 128) (and (isnt (and (eqb b 92) (line_end r))) (isnt (cuts n b)))

abbrev pub stepped : Nest → List ℕ → Option Open
stepped n [] = opened n
stepped n (b ∷ r) = pick (stays n b r) (opened (nest_after n b)) None

-- With no mark open, by the cutter alone.
abbrev pub stepped_bare : ℕ → ℕ → Option Open
stepped_bare d b = pick (cuts (nest 0 d) b) None (opened (nest_after (nest 0 d) b))

-- Behind a text.
unfoldable pub passed : Nest → List ℕ → Option Open
passed n [] = opened n
passed n (b ∷ r) = pick (stays n b r) (passed (nest_after n b) r) None

abbrev pub passed_on : Option Open → List ℕ → Option Open
passed_on None t = None
passed_on (Some o) t = passed (nest o.mark o.depth) t

-- Behind three texts, the mark m being open before them.
abbrev pub passed_all : ℕ → List ℕ → List ℕ → List ℕ → Option Open
passed_all m a b c = passed_on (passed_on (passed (nest m 0) a) b) c

-- ---- a record that is written

-- The mark around a text, 0 for none.
abbrev pub mark_in : List ℕ → ℕ
mark_in t = pick (has 39 t) 34 39

abbrev pub mark_for : Rule → List ℕ → ℕ
mark_for plain t = 0
mark_for wanted t = 0
mark_for unmarked t = mark_in t
mark_for (up_to most) t = 0
mark_for severity t = 0
mark_for equation t = 0
mark_for expiry t = 0
mark_for setting t = mark_in t

-- With others behind it only the mark around it is open at its end.
abbrev pub closed : ℕ → Bool → Option Open → Bool
closed m last None = false
closed m last (Some o) = or last (and (eqb o.mark m) (eqb o.depth 0))

unfoldable pub keeps : Rule → ℕ → Bool → Action → Bool
keeps rule m last x = and (kept rule x) (closed m last (passed_all m (slot_text x.a) (slot_text x.b) (slot_text x.c)))

-- ---- its spelling

-- What stands behind the name.
unfoldable pub behind_name : Rule → ℕ → Action → List ℕ
behind_name plain m x = []
behind_name wanted m x = 58 ∷ slot_text x.a
behind_name unmarked m x = 58 ∷ between m (slot_text x.a)
behind_name (up_to most) m x = 58 ∷ decimal x.number
behind_name severity m x = 58 ∷ decimal x.number
behind_name equation m x = (58 ∷ slot_text x.a) ++ (61 ∷ slot_text x.b)
behind_name expiry m x = (58 ∷ slot_text x.a) ++ (61 ∷ decimal x.number)
behind_name setting m x = 58 ∷ between m (setvar_text (setvar_in x))

-- More bytes than a spelling has behind its name: its texts are shorter than a span word's base.
abbrev pub broad : ℕ
broad = span_base + 64

-- ---- records put one after another

-- It is none of a reader, is not written, or passes the limit.
abbrev pub stops : Bool → ℕ → ℕ → Decoded → Bool
stops last k n none = true
stops last k n (shows x) = isnt (and (holds last x) (leb (reach k n x) limit))

-- A record put: the offset past its texts, and the place past its spelling with the comma before it.
pub record RowPut (n o : ℕ) (d : Decoded) (last : Bool) (k to : ℕ) (old new : List ℕ) (past next : ℕ) : Type 0 where
  pub action : Action
  pub action_is : d ≡ shows action
  pub written : and (holds last action) (leb (reach k to action) limit) ≡ true
  pub past_is : past ≡ o + length (action_text action)
  pub inside : (past ≤ n) × (past ≤ end_most)
  pub put : Puts old new to next (comma k ++ spell action)

abbrev pub RowIs : ℕ → ℕ → Decoded → Bool → ℕ → ℕ → List ℕ → List ℕ → Option Row → Type 0
RowIs n o d last k to old new None = (length new ≡ length old) × (stops last k to d ≡ true)
RowIs n o d last k to old new (Some r) = RowPut n o d last k to old new r.past r.next

-- The records put: all of them, or some before the first that fails.
abbrev pub RowsAre : List ℕ → List ℕ → List ℕ → List ℕ → Result ℕ ℕ → Type 0
RowsAre words text old new (Err k) = verdict 0 0 (records_of words text) ≡ fails k
RowsAre words text old new (Ok end) =
    (verdict 0 0 (records_of words text) ≡ fine end) × Puts old new 0 end (joined (map spell (shown (records_of words text))))

pub record PutEach (words text old new : List ℕ) (r : Result ℕ ℕ) : Type 0 where
  pub long : length new ≡ length old
  pub rows_are : RowsAre words text old new r
