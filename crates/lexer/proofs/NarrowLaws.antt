-- Numbers that span words take: the test that the definition makes is passed.
use mathlib.Core.Path.{◌≡◌}
use mathlib.Core.List.{List}
use Prim.Native.Nat.{ℕ}
use borrow.Author.Tests.{le-leb}
use Rattle.lent.specs.Buffers.{stored}
use Rattle.lexer.specs.Promises.{lexeme_record, token_stored}
use Rattle.lexer.specs.Steps.{Narrow}
use Rattle.lexer.specs.declared.stepping.Lexeme.{Lexeme}

-- a record of such numbers is stored
pub stored_narrow : {o : ℕ} {t : Lexeme} → Narrow o t → (old : List ℕ) (at : ℕ) → token_stored old at o t ≡ stored old at (lexeme_record o t)
stored_narrow n old at = rw (le-leb _ _ n.forward, le-leb _ _ n.near, le-leb _ _ n.offset, le-leb _ _ n.short)
