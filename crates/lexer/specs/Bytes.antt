-- The bytes that the lexer tells apart. `Class` is the source's enum, so that rules and code go by the same constructors.
use Rattle.std.specs.Prelude.{ℕ, eqb}
use Rattle.ascii.specs.Choice.{pick}
pub use Rattle.lexer.specs.declared.bytes.Class.{Class}
pub use Rattle.lexer.specs.declared.bytes.Class.TheVariants.{Feed, Return, Gap, Upright, Hash, Quote, Slash, Other}

-- The byte's row in the `match`es of Lexer::next_token, skip_whitespace and read_word.
unfoldable pub class : ℕ → Class
class b =
    pick (eqb b 10) Feed (pick (eqb b 13) Return (pick (eqb b 32) Gap (pick (eqb b 9) Gap
    (pick (eqb b 11) Upright (pick (eqb b 12) Upright (pick (eqb b 35) Hash
    (pick (eqb b 34) Quote (pick (eqb b 39) Quote (pick (eqb b 92) Slash Other)))))))))
