-- Demand 3. Damage stays in its line. For a text cut into a front that is closed (empty, or ending in a line feed that its last Newline
-- or Comment token holds), one line without quotation marks, backslash, LF, VT or FF and closed by a LF, and any rest: the tokens of the
-- whole are those of the three parts read by themselves, with equal kinds, texts and columns, and lines raised only by the line feeds before.
-- The proofs stand with the lexer.
use Rattle.lexer.proofs.Demand3 as Lexer
use Rattle.lexer.proofs.Demand3Promise as Promise
use Rattle.demands.specs.Demand3.{Demand3}

pub demand3 : Demand3
demand3 = record {
  read = Lexer.demand3;
  replaced = Lexer.replaced;
  one_call = Promise.demand3_promise;
  three_calls = Promise.three_calls;
  two_calls = Promise.replaced_promise;
}
