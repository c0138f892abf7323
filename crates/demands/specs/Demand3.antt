-- Demand 3. Damage stays in its line. For a text cut into a front that is closed (empty, or ending in a line feed that its last Newline
-- or Comment token holds), one line without quotation marks, backslash, LF, VT or FF and closed by a LF, and any rest: the tokens of the
-- whole are those of the three parts read by themselves, with equal kinds, texts and columns, and lines raised only by the line feeds before.
use Rattle.std.specs.Prelude.{◌≡◌, List, ◌++◌, ℕ}
use Rattle.lexer.specs.Tokens.{reading}
use Rattle.lexer.specs.Parts.{puts, line_in, rest_in, ALine, Closed, Replaced}
use Rattle.lexer.specs.Calls.{Called, Tells, SameOutside, Joined}

pub record Demand3 : Type 0 where
  -- over the definitions: the tokens of the whole, and where reading stops
  pub read : (front line rest : List ℕ) → Closed front → ALine line
      → reading (front ++ line ++ rest) ≡ puts (reading front).tokens (puts (line_in front line) (rest_in front line rest))
  -- another such line in its place changes no token outside it but byte spans
  pub replaced : (front line line' rest : List ℕ) → Closed front → ALine line → ALine line' → Replaced front line line' rest
  -- over the promise of `tokens`: what one call leaves in lent memory
  pub one_call : (front line rest : List ℕ) → Closed front → ALine line
      → (k : Called (front ++ line ++ rest)) → Tells k (puts (reading front).tokens (puts (line_in front line) (rest_in front line rest)))
  -- and what three calls, on the parts by themselves, leave beside it
  pub three_calls : (front line rest : List ℕ) → Closed front → ALine line
      → (k : Called (front ++ line ++ rest)) (a : Called front) (b : Called line) (d : Called rest) → Joined front line rest k a b d
  pub two_calls : (front line line' rest : List ℕ) → Closed front → ALine line → ALine line'
      → (k : Called (front ++ line ++ rest)) (k' : Called (front ++ line' ++ rest)) → SameOutside front line line' rest k k'
