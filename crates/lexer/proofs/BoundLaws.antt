-- How many tokens a text can have: each takes a byte at least, and a text of line feeds has that many.
use Rattle.std.specs.Prelude.{Result}
use mathlib.Core.Path.{◌≡◌}
use mathlib.Core.List.{List}
use Prim.Native.Nat.{ℕ, ◌*◌, ◌≤◌}
use native.Mathlib.Omega.{arith}
use lib.ListN.{length}
use Rattle.lent.specs.Sizes.{token_words}
use Rattle.lexer.specs.Cursors.{fresh}
use Rattle.lexer.specs.Tokens.{reading}
use Rattle.lexer.specs.Promises.{answer_given, Tokens}
use Rattle.lexer.specs.declared.writing.Read.{Read}
use Rattle.lexer.specs.declared.writing.TokensError.{TokensError}
use Rattle.lexer.proofs.NextLaws.{shorter}
use Rattle.lexer.proofs.TokenLaws.{by_tokens}
use Rattle.lexer.proofs.ReadLaws.{tokens_4}

pub tokens_most : (s : List ℕ) → length (reading s).tokens ≤ length s
unfolding reading
tokens_most s = by_tokens (λ xs c r. length r.tokens ≤ length xs) (λ xs c d q. omega arith) (λ xs c t e q k ih. omega (arith, ih, shorter k)) s fresh

-- With room for so many records, 4 is never given.
pub tokens_fit : {s text text' records records' : List ℕ} {r : Result Read TokensError} → Tokens s text text' records records' r → length s * token_words ≤ length records
    → (answer_given r).number ≡ 4 → ⊥
tokens_fit {s} x h e = let f = (tokens_4 x).0 e in omega (arith, f.1, tokens_most s)
