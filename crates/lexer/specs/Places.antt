-- Where a token stands, in the paper's words.
use Rattle.std.specs.Prelude.{◌≡◌, ℕ, suc, ◌+◌, ◌≤◌, ◌<◌, true, List, [], ◌∷◌, length, take, drop, eqb}
use Rattle.ascii.specs.Choice.{pick, or}
use Rattle.lexer.specs.Cursors.{Cursor, line, column, fresh, moves}
use Rattle.lexer.specs.Tokens.{Token}

-- How many line feeds a list has.
unfoldable pub feeds : List ℕ → ℕ
feeds [] = 0
feeds (b ∷ r) = pick (eqb b 10) 1 0 + feeds r

-- How many bytes stand since the last line feed, n of them before the list.
unfoldable pub since : ℕ → List ℕ → ℕ
since n [] = n
since n (b ∷ r) = since (pick (eqb b 10) 0 (suc n)) r

-- A token's line is one more than the line feeds before its first byte; its column is one more than the bytes since the last one.
-- It takes a byte at least, stands inside the text xs, and its own text is no longer than the bytes that it takes.
pub record Placed (xs : List ℕ) (t : Token) : Type 0 where
  pub lined : t.line ≡ line (suc (feeds (take t.first xs)))
  pub columned : t.column ≡ column (suc (since 0 (take t.first xs)))
  pub some : t.first < t.past
  pub inside : t.past ≤ length xs
  pub short : t.first + length t.text ≤ t.past

-- P holds of every token in a list.
pub data All (P : Token → Type 0) : List Token → Type 0 where
  nil : All P []
  cons : {t : Token} {ts : List Token} → P t → All P ts → All P (t ∷ ts)

-- The length of all their texts together.
unfoldable pub total : List Token → ℕ
total [] = 0
total (t ∷ ts) = length t.text + total ts

-- All is read, or a vertical tab or a form feed stands first.
abbrev pub Halts : List ℕ → Type 0
Halts [] = Unit {0}
Halts (b ∷ r) = or (eqb b 11) (eqb b 12) ≡ true

-- Reading stops inside the text, at the cursor that all bytes before lead to: at the text's end, or at a vertical tab or a form feed.
pub record Stopped (xs : List ℕ) (s : Cursor) : Type 0 where
  pub inside : s.place ≤ length xs
  pub cursor : s ≡ moves (take s.place xs) fresh
  pub there : Halts (drop s.place xs)
