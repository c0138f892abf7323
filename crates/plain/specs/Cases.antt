-- Texts that are easily read wrong by such a table, read by the automaton (docs/PLAIN-LEXER.md).
use Rattle.std.specs.Prelude.{◌≡◌, refl, ℕ, List, [], ◌∷◌, true, false}
use Prim.Native.String.{String}
use Rattle.ascii.specs.Text.{bytes}
use Rattle.ascii.specs.Classes.{white}
use Rattle.ascii.specs.Fold.{lower, same}
use Rattle.lexer.specs.declared.Cursor.{Cursor}
use Rattle.lexer.specs.declared.Kind.{Kind}
use Rattle.lexer.specs.declared.Kind.TheVariants.{Directive, Word, QuotedString, Newline}
use Rattle.lexer.specs.Cursors.{line, column, cursor, fresh, moved}
use Rattle.lexer.specs.Tokens.{Token, directive, word_kind}
use Rattle.plain.specs.Table.{class_of, cell}
use Rattle.plain.specs.Automaton.{automaton, plain_reading}

-- kind, line, column, first and past byte, text
abbrev tok : Kind → ℕ → ℕ → ℕ → ℕ → List ℕ → Token
tok k l c f p t = record { kind = k; line = line l; column = column c; first = f; past = p; text = t }

-- A text's tokens and where reading stops, by the table.
unfoldable pub Reads : String → List Token → Cursor → Type 0
unfolding bytes white lower same fresh moved directive word_kind class_of cell automaton plain_reading
Reads s ts c = plain_reading (bytes s) ≡ record { tokens = ts; stop = c }

-- WC is no W: its CR has ended the word
pub returned : Reads "a\\\rb" (tok Word 1 1 0 2 (bytes "a\\") ∷ tok Word 1 4 3 4 (bytes "b") ∷ []) (cursor 4 1 5 false)
unfolding Reads
returned = refl

-- and at the end of the text the word ends one byte before it
pub returned_last : Reads "a\\\r" (tok Word 1 1 0 2 (bytes "a\\") ∷ []) (cursor 3 1 4 false)
unfolding Reads
returned_last = refl

-- SC at CR goes to S
pub returns : Reads "\\\r\r\n" (tok Newline 1 4 3 4 [] ∷ []) (cursor 4 2 1 true)
unfolding Reads
returns = refl

-- WB at a backslash stays
pub twice : Reads "a\\\\\nb" (tok Word 1 1 0 5 (bytes "a\\b") ∷ []) (cursor 5 2 2 false)
unfolding Reads
twice = refl

-- an escaped line end in quotes vanishes with the blanks behind it
pub margin : Reads "\"x\\\n\ty\"" (tok QuotedString 1 1 0 7 (bytes "xy") ∷ []) (cursor 7 2 4 false)
unfolding Reads
margin = refl

-- a backslash that ends the text is lost in quotes, kept in a word, and dropped between tokens
pub last_quoted : Reads "'a\\" (tok QuotedString 1 1 0 3 (bytes "a") ∷ []) (cursor 3 1 4 false)
unfolding Reads
last_quoted = refl

pub last_kept : Reads "a\\" (tok Word 1 1 0 2 (bytes "a\\") ∷ []) (cursor 2 1 3 false)
unfolding Reads
last_kept = refl

pub last_dropped : Reads " \\" [] (cursor 2 1 3 false)
unfolding Reads
last_dropped = refl

-- a dropped backslash takes the mark with it, and the line feed of a continuation sets it again
pub unmarked : Reads "\\Sec" (tok Word 1 2 1 4 (bytes "Sec") ∷ []) (cursor 4 1 5 false)
unfolding Reads
unmarked = refl

pub marked : Reads "x\\\n sec" (tok Word 1 1 0 3 (bytes "x") ∷ tok Directive 2 2 4 7 (bytes "sec") ∷ []) (cursor 7 2 5 false)
unfolding Reads
marked = refl

-- behind a stop nothing is counted
pub stopped : Reads "a\u{b}\n" (tok Word 1 1 0 1 (bytes "a") ∷ []) (cursor 1 1 2 false)
unfolding Reads
stopped = refl
