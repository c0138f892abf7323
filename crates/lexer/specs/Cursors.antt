-- Where reading stands: place, line, column, and the mark that only whitespace has been read since the line began.
use Rattle.std.specs.Prelude.{ℕ, suc, Bool, true, List, [], ◌∷◌, eqb}
use Rattle.ascii.specs.Choice.{pick, and}
use Rattle.ascii.specs.Classes.{white}
pub use Rattle.lexer.specs.declared.Line.{Line}
pub use Rattle.lexer.specs.declared.Column.{Column}
pub use Rattle.lexer.specs.declared.Cursor.{Cursor}

-- The source's Line, made of its number.
abbrev pub line : ℕ → Line
line n = record { 0 = n }

-- The source's Column, made of its number.
abbrev pub column : ℕ → Column
column n = record { 0 = n }

-- The cursor with this place, line, column and mark: the fields of the Rust's Lexer, with the place for its input.
abbrev pub cursor : ℕ → ℕ → ℕ → Bool → Cursor
cursor p l k m = record { place = p; line = line l; column = column k; mark = m }

-- At a text's start: Lexer::new.
unfoldable pub fresh : Cursor
fresh = cursor 0 1 1 true

-- Past one byte: Lexer::advance. A line feed starts a line and sets the mark; whitespace keeps it, and all else clears it.
unfoldable pub moved : Cursor → ℕ → Cursor
moved c b =
    pick (eqb b 10) (cursor (suc c.place) (suc c.line.0) 1 true)
    (cursor (suc c.place) c.line.0 (suc c.column.0) (and (white b) c.mark))

-- Past a list of bytes: Lexer::advance for each.
unfoldable pub moves : List ℕ → Cursor → Cursor
moves [] c = c
moves (b ∷ r) c = moves r (moved c b)
