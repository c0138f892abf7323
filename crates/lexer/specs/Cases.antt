-- The worked texts of document 01, and a few more.
use Rattle.std.specs.Prelude.{◌≡◌, refl, ℕ, List, [], ◌∷◌, true, false}
use Prim.Native.String.{String}
use Rattle.ascii.specs.Text.{bytes}
use Rattle.ascii.specs.Classes.{white}
use Rattle.ascii.specs.Fold.{lower, same}
use Rattle.lexer.specs.Bytes.{class}
use Rattle.lexer.specs.Cursors.{Cursor, line, column, cursor, fresh, moved}
use Rattle.lexer.specs.Runs.{run, text}
use Rattle.lexer.specs.Rules.{feed_next, line_end, before_by, before, word_slash, word_by, word, comment, unescaped, quoted_plain, quoted_margin, quoted}
use Rattle.lexer.specs.Tokens.{Kind, Directive, Word, QuotedString, Comment, Newline, Token, directive, word_kind, token_by, token_at, next, tokens, reading}
use Rattle.lexer.specs.Parts.{ALine, feed, byte, Closed, held}

-- kind, line, column, first and past byte, text
abbrev tok : Kind → ℕ → ℕ → ℕ → ℕ → List ℕ → Token
tok k l c f p t = record { kind = k; line = line l; column = column c; first = f; past = p; text = t }

-- A text's tokens and where reading stops. To unfold it is to unfold every definition that a text is read by.
unfoldable pub Reads : String → List Token → Cursor → Type 0
unfolding bytes white lower same class fresh moved run text feed_next line_end before_by before word_slash word_by word comment unescaped quoted_plain quoted_margin quoted directive word_kind token_by token_at next tokens reading
Reads s ts c = reading (bytes s) ≡ record { tokens = ts; stop = c }

-- P: the empty text
pub empty : Reads "" [] (cursor 0 1 1 true)
unfolding Reads
empty = refl

-- P: a continued word
pub joined : Reads "a\\\nb" (tok Word 1 1 0 4 (bytes "ab") ∷ []) (cursor 4 2 2 false)
unfolding Reads
joined = refl

-- P: a lone backslash is dropped, and the mark with it
pub dropped : Reads "\\Sec" (tok Word 1 2 1 4 (bytes "Sec") ∷ []) (cursor 4 1 5 false)
unfolding Reads
dropped = refl

-- P: a continuation sets the mark
pub continued : Reads "x \\\nsecy" (tok Word 1 1 0 1 (bytes "x") ∷ tok Directive 2 1 4 8 (bytes "secy") ∷ []) (cursor 8 2 5 false)
unfolding Reads
continued = refl

-- P: reading stops at a form feed
pub stopped : Reads "a\u{c}b" (tok Word 1 1 0 1 (bytes "a") ∷ []) (cursor 1 1 2 false)
unfolding Reads
stopped = refl

-- a comment, escapes and a continuation in quotes, and a Newline behind a continuation
pub quotes : Reads "#\n\"a\\n\\\r\n\t'b\\x\"\\\n\n"
    (tok Comment 1 1 0 2 [] ∷ tok QuotedString 2 1 2 15 (bytes "a\n'b\\x") ∷ tok Newline 4 1 17 18 [] ∷ []) (cursor 18 5 1 true)
unfolding Reads
quotes = refl

-- the test for a directive is on the joined text
pub split : Reads "s\\\nec" (tok Directive 1 1 0 5 (bytes "sec") ∷ []) (cursor 5 2 3 false)
unfolding Reads
split = refl

-- a word's span takes the continuation behind it
pub spanned : Reads "a\\\n sec" (tok Word 1 1 0 3 (bytes "a") ∷ tok Directive 2 2 4 7 (bytes "sec") ∷ []) (cursor 7 2 5 false)
unfolding Reads
spanned = refl

-- a CR ends a word and keeps the mark
pub kept : Reads "a\\\rb\n\rsec" (tok Word 1 1 0 2 (bytes "a\\") ∷ tok Word 1 4 3 4 (bytes "b") ∷ tok Newline 1 5 4 5 [] ∷ tok Directive 2 2 6 9 (bytes "sec") ∷ [])
    (cursor 9 2 5 false)
unfolding Reads
kept = refl

-- before a token, a backslash with CR, CR and LF is no continuation
pub returns : Reads "\\\r\r\nsec" (tok Newline 1 4 3 4 [] ∷ tok Directive 2 1 4 7 (bytes "sec") ∷ []) (cursor 7 2 4 false)
unfolding Reads
returns = refl

-- in quotes an escaped CR vanishes alone, and what follows stays
pub margins : Reads "\"\\\r\r\nx\"" (tok QuotedString 1 1 0 7 (bytes "\r\nx") ∷ []) (cursor 7 2 3 false)
unfolding Reads
margins = refl

-- a front that is closed, and a line
pub front : Closed (bytes "a#\n")
unfolding Reads
front = held (tok Word 1 1 0 1 (bytes "a") ∷ []) (tok Comment 1 2 1 3 []) refl tt refl refl

pub a_line : ALine (bytes "a \n")
unfolding Reads
a_line = byte refl (byte refl feed)
