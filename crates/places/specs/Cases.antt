-- Worked sites: the lines of M-104's list of edges, and more.
use Rattle.std.specs.Prelude.{◌≡◌, refl, ℕ, ◌+◌, List}
use Prim.Native.String.{String}
use Rattle.ascii.specs.Text.{bytes}
use Rattle.ascii.specs.Classes.{white}
use Rattle.lent.specs.Sources.{Part, part}
use Rattle.lexer.specs.Rules.{feed_next, line_end, unescaped}
use Rattle.places.specs.Cells.{first_of, past_of}
use Rattle.places.specs.Scans.{scan, spell}
use Rattle.places.specs.Tables.{Rule, Joined, Word, Quoted, line_next, joining, wording, stays, stays_next, quoting_by}
use Rattle.places.specs.Sites.{text_of, read_alone, site_in, site_of}

-- To unfold it is to unfold every definition that sites are found by.
unfoldable pub Same : Part → Part → Type 0
unfolding bytes white feed_next line_end unescaped first_of past_of scan spell line_next joining wording stays stays_next quoting_by site_in
Same x y = x ≡ y

-- And the same for texts.
unfoldable pub Reads : List ℕ → List ℕ → Type 0
unfolding Same
Reads x y = x ≡ y

-- A part of a text, and the offset and length of its site.
abbrev pub At : Rule → ℕ → String → ℕ → ℕ → ℕ → ℕ → Type 0
At rule k s first past offset len = Same (site_of rule k (bytes s) (part first past)) (part offset (offset + len))

-- A list of actions in quotes: where a part of the normalised text stands in the package.
abbrev pub Both : ℕ → String → ℕ → ℕ → ℕ → ℕ → Type 0
Both k s first past offset len = Same (site_of Quoted k (bytes s) (site_of Joined 0 (text_of Quoted (bytes s)) (part first past))) (part offset (offset + len))

-- ---- the list of edges: behind `SecAction "` the place is 11

-- an escape that is none keeps its backslash; the list is cut at the comma
pub kept_slash : At Quoted 11 "msg:a\\,deny\"" 0 6 11 6
unfolding Same
kept_slash = refl

pub behind_comma : At Quoted 11 "msg:a\\,deny\"" 7 11 18 4
unfolding Same
behind_comma = refl

-- blanks that escapes stand for are trimmed
pub escaped_tab : At Quoted 11 "\\tdeny\\n,log \"" 1 5 13 4
unfolding Same
escaped_tab = refl

pub escaped_feed : At Quoted 11 "\\tdeny\\n,log \"" 7 10 20 3
unfolding Same
escaped_feed = refl

-- an escaped backslash and a line feed are a continuation for the normaliser
pub slash_feed : Both 11 "de\\\\\n  ny\"" 0 4 11 9
unfolding Same
slash_feed = refl

-- the same by two escapes
pub slash_escaped_feed : Both 11 "deny\\\\\\n,log\"" 0 4 11 4
unfolding Same
slash_escaped_feed = refl

pub behind_escaped_feed : Both 11 "deny\\\\\\n,log\"" 5 8 20 3
unfolding Same
behind_escaped_feed = refl

-- ---- quotes

-- an escaped mark at either end is underlined whole
pub marks : At Quoted 11 "\\\"a\\\",\\'\"" 0 3 11 5
unfolding Same
marks = refl

pub last_mark : At Quoted 11 "\\\"a\\\",\\'\"" 4 5 17 2
unfolding Same
last_mark = refl

-- a continuation in a piece, and one behind it
pub continued : At Quoted 11 "de\\\r\n\t ny\\\n,log\"" 0 4 11 9
unfolding Same
continued = refl

pub behind_continued : At Quoted 11 "de\\\r\n\t ny\\\n,log\"" 5 8 23 3
unfolding Same
behind_continued = refl

-- open quotes: what a last backslash would give is not there
pub open_quotes : At Quoted 11 "deny\\" 0 4 11 4
unfolding Same
open_quotes = refl

-- an empty part stands behind the byte before it, and at the start where there is none
pub empty_part : At Quoted 11 "a\\\n  b\"" 1 1 12 0
unfolding Same
empty_part = refl

pub empty_first : At Quoted 11 "\\\n  b\"" 0 0 11 0
unfolding Same
empty_first = refl

-- a part past the text ends where the text does
pub past_end : At Quoted 11 "ab" 5 9 13 0
unfolding Same
past_end = refl

-- ---- words

-- a continuation, and a backslash that stays
pub word_continued : At Word 10 "de\\\r\nny,a\\b" 0 4 10 7
unfolding Same
word_continued = refl

pub word_stayed : At Word 10 "de\\\r\nny,a\\b" 5 8 18 3
unfolding Same
word_stayed = refl

-- CR alone is no line end
pub word_return : At Word 10 "a\\\rb" 0 4 10 4
unfolding Same
word_return = refl

-- ---- line continuations taken out

-- over what was taken out between, not over what stands at the ends
pub joined_piece : At Joined 0 " de\\\n  ny ,\\\n log,," 1 5 1 8
unfolding Same
joined_piece = refl

pub joined_second : At Joined 0 " de\\\n  ny ,\\\n log,," 7 10 14 3
unfolding Same
joined_second = refl

-- two backslashes and a line feed: the first stays, the second goes
pub two_slashes : At Joined 0 "a\\\\\nb" 0 3 0 5
unfolding Same
two_slashes = refl

-- a backslash at the end stays
pub last_slash : At Joined 0 "a,\\" 2 3 2 1
unfolding Same
last_slash = refl

-- ---- underlined bytes read alone

-- the backslash of `msg:a\,` is the last byte of its piece
pub alone_slash : Reads (read_alone Quoted (bytes "msg:a\\")) (bytes "msg:a\\")
unfolding Reads
alone_slash = refl

pub lexed_slash : Reads (text_of Quoted (bytes "msg:a\\")) (bytes "msg:a")
unfolding Reads
lexed_slash = refl

pub alone_continued : Reads (read_alone Quoted (bytes "de\\\r\n\t ny")) (bytes "deny")
unfolding Reads
alone_continued = refl
