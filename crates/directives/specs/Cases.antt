-- Worked texts of M-100: number, values, texts and records, with room for all.
use Rattle.std.specs.Prelude.{◌≡◌, refl, ℕ, List, [], ◌∷◌, Result, Ok, Err}
use Prim.Native.String.{String}
use Rattle.ascii.specs.Text.{bytes}
use Rattle.lent.specs.Sizes.{span_word}
use Rattle.lent.specs.Table.{Given, given}
use Rattle.lent.specs.Layout.{texts_of, words_of}
use Rattle.lexer.specs.declared.Kind.TheVariants.{Directive as Leading, Word, Newline}
use Rattle.lexer.specs.Cursors.{line, column}
use Rattle.lexer.specs.Parts.{Closed, held}
use Rattle.lexer.specs.Cases as Lexer
use Rattle.variables.specs.Cases as Variables
use Rattle.variables.specs.Steps.{targets_of}
use Rattle.operators.specs.Cases as Operators
use Rattle.records.specs.Actions.{action_text}
use Rattle.records.specs.Layout.{action_record}
use Rattle.actions.specs.Cases as Actions
use Rattle.places.specs.Tables.{wording, stays, stays_next, quoting_by}
use Rattle.directives.specs.Groups.{arguments_of, items}
use Rattle.directives.specs.Directives.{over, Directive, shape_of, last_past, site_at, argument_site, list_site, directive_of, item_read, end_of, directives, Fault}
use Rattle.directives.specs.Layout.{body_text, listed_counts, action_counts, directives_from}
use Rattle.directives.specs.Table.{Outcome, faulty, filled, given_by}
use Rattle.directives.specs.Promises.{laid_out, Lent, lent_of, left_by}
use Rattle.directives.specs.Parts.{Idle, feed, hash, blank, close, more}

-- What is seen of a call: number and values, and lent memory, of which only what is written is shown.
pub record Seen : Type 0 where
  pub answer : Given
  pub left : Lent

abbrev pub lent : List ℕ → List ℕ → List ℕ → List ℕ → Lent
lent t d v a = lent_of t [] d v a

abbrev pub roomy : Result (List Directive) Fault → Outcome
roomy (Err f) = faulty f
roomy (Ok ds) = filled (laid_out ds)

abbrev pub seen : Result (List Directive) Fault → Seen
seen o = record { answer = given_by (roomy o); left = left_by (roomy o) (lent [] [] [] []) }

-- To unfold it is to unfold every definition that a text is read by.
unfoldable pub Comes : String → Seen → Type 0
unfolding Lexer.Reads Variables.Reads targets_of Operators.Reads Operators.NamePlace Actions.Comes wording stays stays_next quoting_by texts_of words_of span_word action_text action_record arguments_of items shape_of last_past site_at argument_site list_site directive_of item_read over end_of directives body_text listed_counts action_counts directives_from
Comes s x = seen (directives (bytes s)) ≡ x

-- A text that is read: values, texts, directive, variable and action words.
abbrev pub Reads : String → List ℕ → String → List ℕ → List ℕ → List ℕ → Type 0
Reads s values t d v a = Comes s (record { answer = given 0 values; left = lent (bytes t) d v a })

-- A text that is refused: number, values, and the name that stands in text.
abbrev pub Refuses : String → ℕ → List ℕ → String → Type 0
Refuses s number values name = Comes s (record { answer = given number values; left = lent (bytes name) [] [] [] })

-- an offset and a length
abbrev at : ℕ → ℕ → ℕ
at offset len = span_word offset len

-- ---- what a directive takes

-- a continuation sets the line-start mark, so `second` is a Directive and SecRule has one argument
pub continued : Refuses "SecRule ARGS \\\nsecond" 13 (1 ∷ []) ""
unfolding Comes
continued = refl

-- not at line start: a Word, so three arguments
pub mid_line : Refuses "SecAction deny SecAction log" 13 (1 ∷ []) ""
unfolding Comes
mid_line = refl

-- three arguments without a blank between
pub unspaced : Reads "SecRule ARGS\"@rx a\"\"deny\"" (1 ∷ 1 ∷ 1 ∷ 1 ∷ []) "a"
    (1 ∷ 1 ∷ at 0 25 ∷ 0 ∷ 0 ∷ 0 ∷ at 0 1 ∷ 0 ∷ 1 ∷ 0 ∷ 1 ∷ []) (1 ∷ 0 ∷ 0 ∷ 0 ∷ 0 ∷ at 8 4 ∷ []) (1 ∷ 0 ∷ 0 ∷ 0 ∷ 0 ∷ 0 ∷ at 20 4 ∷ [])
unfolding Comes
unspaced = refl

-- the comment ends the directive, and the string stands alone
pub commented : Refuses "SecRule ARGS \"@rx a\" \\\n# why\n\"deny\"" 14 (3 ∷ []) ""
unfolding Comes
commented = refl

-- the open mark swallows the line feed: one action `id` whose argument has a line feed
pub open_mark : Refuses "SecAction \"id:1\nSecAction log" 11 (1 ∷ 0 ∷ 2 ∷ at 11 18 ∷ []) "id"
unfolding Comes
open_mark = refl

-- why an argument is refused, with the line first: no colon; an empty argument; a number past its width
pub absent_in : Refuses "SecAction log,SkipAfter" 10 (1 ∷ 1 ∷ 9 ∷ at 14 9 ∷ []) "skipAfter"
unfolding Comes
absent_in = refl

pub empty_in : Refuses "\nSecAction id:" 11 (2 ∷ 0 ∷ 2 ∷ at 11 3 ∷ []) "id"
unfolding Comes
empty_in = refl

pub large_in : Refuses "SecAction phase:256" 12 (1 ∷ 0 ∷ 5 ∷ at 10 9 ∷ []) "phase"
unfolding Comes
large_in = refl

-- a lone backslash drops the mark: two Words that no directive takes
pub slashed : Refuses "\\SecMarker x" 14 (1 ∷ []) ""
unfolding Comes
slashed = refl

-- Unknown, and the token itself ends it
pub alone : Reads "sec" (1 ∷ 0 ∷ 0 ∷ 3 ∷ []) "sec" (5 ∷ 1 ∷ at 0 3 ∷ at 0 3 ∷ 0 ∷ 0 ∷ 0 ∷ 0 ∷ 0 ∷ 0 ∷ 0 ∷ []) [] []
unfolding Comes
alone = refl

-- only `include` itself is a Directive
pub optional : Refuses "IncludeOptional x" 14 (1 ∷ []) ""
unfolding Comes
optional = refl

-- an Unknown takes any arguments and keeps none of them
pub included : Reads "#\n Include \"a\" b" (1 ∷ 0 ∷ 0 ∷ 7 ∷ []) "Include" (5 ∷ 2 ∷ at 3 13 ∷ at 0 7 ∷ 0 ∷ 0 ∷ 0 ∷ 0 ∷ 0 ∷ 0 ∷ 0 ∷ []) [] []
unfolding Comes
included = refl

-- a marker's argument is kept untrimmed
pub marked : Reads "SecMarker \" a \"" (1 ∷ 0 ∷ 0 ∷ 3 ∷ []) " a " (3 ∷ 1 ∷ at 0 15 ∷ at 0 3 ∷ 0 ∷ 0 ∷ 0 ∷ 0 ∷ 0 ∷ 0 ∷ 0 ∷ []) [] []
unfolding Comes
marked = refl

-- nothing at all
pub empty : Reads "" (0 ∷ 0 ∷ 0 ∷ 0 ∷ []) "" [] [] []
unfolding Comes
empty = refl

-- ---- order of faults

-- a stop is an end
pub stop_ends : Refuses "SecRule ARGS\u{c}" 13 (1 ∷ []) ""
unfolding Comes
stop_ends = refl

-- the directive is good
pub stop_after : Refuses "SecAction deny\u{c}" 15 (1 ∷ []) ""
unfolding Comes
stop_after = refl

-- 13 comes before the same directive's 7
pub count_first : Refuses "SecRule x\nSecAction bogus" 13 (1 ∷ []) ""
unfolding Comes
count_first = refl

-- the first directive first
pub text_order : Refuses "SecAction bogus\nSecRule x" 5 (1 ∷ 0 ∷ 5 ∷ at 10 5 ∷ []) "bogus"
unfolding Comes
text_order = refl

-- the operator before actions; the name's place in the argument as read
pub operator_first : Refuses "SecRule ARGS \"@x\" x" 8 (1 ∷ 1 ∷ 1 ∷ at 15 1 ∷ []) ""
unfolding Comes
operator_first = refl

-- place 3 of the argument as read: TAB `!` `@`
pub place_as_read : Refuses "SecRule ARGS \"\\t!@x\"" 8 (1 ∷ 3 ∷ 1 ∷ at 18 1 ∷ []) ""
unfolding Comes
place_as_read = refl

-- variables before the operator, in the second piece and line
pub variable_first : Refuses "\nsecrule \"ARGS|B\" @x x" 7 (2 ∷ 1 ∷ 1 ∷ at 15 1 ∷ []) "B"
unfolding Comes
variable_first = refl

-- the line of the directive, not of the piece
pub directive_line : Refuses "\n\nSecAction \\\n\"deny,\\\n bogus\"" 5 (3 ∷ 1 ∷ 5 ∷ at 23 5 ∷ []) "bogus"
unfolding Comes
directive_line = refl

-- ---- records and texts

-- first records run on, whatever the kind
pub running : Reads "SecRule ARGS a\nSecMarker m\nSecAction deny" (3 ∷ 1 ∷ 1 ∷ 2 ∷ []) "am"
    (1 ∷ 1 ∷ at 0 14 ∷ 0 ∷ 0 ∷ 0 ∷ at 0 1 ∷ 0 ∷ 1 ∷ 0 ∷ 0
    ∷ 3 ∷ 2 ∷ at 15 11 ∷ at 1 1 ∷ 0 ∷ 0 ∷ 0 ∷ 1 ∷ 0 ∷ 0 ∷ 0
    ∷ 2 ∷ 3 ∷ at 27 14 ∷ 0 ∷ 0 ∷ 0 ∷ 0 ∷ 1 ∷ 0 ∷ 0 ∷ 1 ∷ [])
    (1 ∷ 0 ∷ 0 ∷ 0 ∷ 0 ∷ at 8 4 ∷ []) (1 ∷ 0 ∷ 0 ∷ 0 ∷ 0 ∷ 0 ∷ at 37 4 ∷ [])
unfolding Comes
running = refl

-- no variables, Rx with the empty argument
pub empties : Reads "SecRule \"\" \"\"" (1 ∷ 0 ∷ 0 ∷ 0 ∷ []) "" (1 ∷ 1 ∷ at 0 13 ∷ 0 ∷ 0 ∷ 0 ∷ 0 ∷ 0 ∷ 0 ∷ 0 ∷ 0 ∷ []) [] []
unfolding Comes
empties = refl

-- texts in order: `k`, the exclusion `a`, the operator's `x`, then `tx`, `y`, `1`
pub ordered : Reads "SecRule !a|TX:k|ARGS \"!@pm x \" setvar:y" (1 ∷ 3 ∷ 1 ∷ 7 ∷ []) "kaxtxy1"
    (1 ∷ 1 ∷ at 0 39 ∷ 0 ∷ 1 ∷ 1 ∷ at 2 1 ∷ 0 ∷ 3 ∷ 0 ∷ 1 ∷ [])
    (1 ∷ 35 ∷ 0 ∷ 1 ∷ at 0 1 ∷ at 11 4 ∷ 1 ∷ 0 ∷ 0 ∷ 0 ∷ 0 ∷ at 16 4 ∷ 2 ∷ 0 ∷ 0 ∷ 0 ∷ at 1 1 ∷ at 8 2 ∷ [])
    (22 ∷ 0 ∷ at 3 2 ∷ at 5 1 ∷ 1 ∷ at 6 1 ∷ at 31 8 ∷ [])
unfolding Comes
ordered = refl

-- ---- M-104: where in the package each piece stands

-- the words of a SecAction on the first line alone, of so many bytes and actions
abbrev action : ℕ → ℕ → List ℕ
action len count = 2 ∷ 1 ∷ at 0 len ∷ 0 ∷ 0 ∷ 0 ∷ 0 ∷ 0 ∷ 0 ∷ 0 ∷ count ∷ []

-- `deny` and `log`, read from this offset on, of so many bytes
abbrev deny : ℕ → ℕ → List ℕ → List ℕ
deny offset len r = 1 ∷ 0 ∷ 0 ∷ 0 ∷ 0 ∷ 0 ∷ at offset len ∷ r

abbrev log : ℕ → ℕ → List ℕ → List ℕ
log offset len r = 26 ∷ 0 ∷ 0 ∷ 0 ∷ 0 ∷ 0 ∷ at offset len ∷ r

-- `\,` keeps its backslash, which stands in the piece before the comma
pub kept_slash : Reads "SecAction \"msg:a\\,deny\"" (1 ∷ 0 ∷ 2 ∷ 2 ∷ []) "a\\" (action 23 2) [] (14 ∷ 0 ∷ at 0 2 ∷ 0 ∷ 0 ∷ 0 ∷ at 11 6 ∷ deny 18 4 [])
unfolding Comes
kept_slash = refl

-- blanks that are made by escapes are trimmed
pub escaped_blanks : Reads "SecAction \"\\tdeny\\n,log \"" (1 ∷ 0 ∷ 2 ∷ 0 ∷ []) "" (action 25 2) [] (deny 13 4 (log 20 3 []))
unfolding Comes
escaped_blanks = refl

-- an escaped backslash and a line feed are a continuation for the normaliser
pub slash_and_feed : Reads "SecAction \"de\\\\\n  ny\"" (1 ∷ 0 ∷ 1 ∷ 0 ∷ []) "" (action 21 1) [] (deny 11 9 [])
unfolding Comes
slash_and_feed = refl

-- and so are an escaped backslash and an escaped line feed
pub escaped_both : Reads "SecAction \"deny\\\\\\n,log\"" (1 ∷ 0 ∷ 2 ∷ 0 ∷ []) "" (action 24 2) [] (deny 11 4 (log 20 3 []))
unfolding Comes
escaped_both = refl

-- an escaped mark is underlined whole
pub escaped_marks : Reads "SecAction \"msg:\\\"a\\\"\"" (1 ∷ 0 ∷ 1 ∷ 1 ∷ []) "a" (action 21 1) [] (14 ∷ 0 ∷ at 0 1 ∷ 0 ∷ 0 ∷ 0 ∷ at 11 9 ∷ [])
unfolding Comes
escaped_marks = refl

-- over continuations in a word, of two bytes and of three
pub word_continued : Reads "SecAction l\\\nog,de\\\r\nny" (1 ∷ 0 ∷ 2 ∷ 0 ∷ []) "" (action 23 2) [] (log 10 5 (deny 16 7 []))
unfolding Comes
word_continued = refl

-- a name that is empty stands behind its `@`
pub empty_name : Refuses "SecRule ARGS \"@\"" 8 (1 ∷ 1 ∷ 0 ∷ at 15 0 ∷ []) ""
unfolding Comes
empty_name = refl

-- a refused piece over continuations of the normaliser, and behind one of the lexer
pub refused_behind : Refuses "SecAction \"deny,\\\n bo\\\\\n\tgus\"" 5 (1 ∷ 1 ∷ 5 ∷ at 19 9 ∷ []) "bogus"
unfolding Comes
refused_behind = refl

-- a refused name of a variable, with its mark
pub refused_mark : Refuses "SecRule \"ARGS|&\\\n B\" x" 7 (1 ∷ 1 ∷ 1 ∷ at 14 5 ∷ []) "B"
unfolding Comes
refused_mark = refl

-- an exclusion is underlined with its mark
pub excluded : Reads "SecRule \"ARGS| !a\\\n b\" x" (1 ∷ 2 ∷ 0 ∷ 3 ∷ []) "abx" (1 ∷ 1 ∷ at 0 24 ∷ 0 ∷ 0 ∷ 0 ∷ at 2 1 ∷ 0 ∷ 2 ∷ 0 ∷ 0 ∷ [])
    (1 ∷ 0 ∷ 0 ∷ 0 ∷ 0 ∷ at 9 4 ∷ 2 ∷ 0 ∷ 0 ∷ 0 ∷ at 0 2 ∷ at 15 6 ∷ []) []
unfolding Comes
excluded = refl

-- ---- the theorem's words

-- a front that is closed
pub front : Closed (bytes "SecAction deny\n")
unfolding Comes
front =
    held
    (record { kind = Leading; line = line 1; column = column 1; first = 0; past = 9; text = bytes "SecAction" } ∷ record { kind = Word; line = line 1; column = column 11; first = 10; past = 14; text = bytes "deny" } ∷ [])
    (record { kind = Newline; line = line 1; column = column 15; first = 14; past = 15; text = [] }) refl tt refl refl

-- a blank line, and a comment with quotation marks and a backslash
pub blanks : Idle (bytes " \t\r\n")
unfolding Comes
blanks = blank refl (blank refl (blank refl feed))

pub remark : Idle (bytes "\t# '\"\\\n")
unfolding Comes
remark = blank refl (hash (more refl (more refl (more refl (more refl close)))))
