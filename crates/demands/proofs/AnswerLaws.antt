-- What a reader of lists comes to has an answer, and is a row of document 01's table.
use Rattle.lent.specs.declared.gating.GateError.TheVariants.{TooLong, Short, NotAscii}
use Rattle.lent.specs.declared.gating.GateError.{GateError}
use Rattle.std.specs.Prelude.{Result, Ok, Err}
use mathlib.Core.Path.{◌≡◌}
use Prim.Native.Nat.{ℕ}
use Rattle.lent.specs.Table.{Given, too_long, not_ascii, short_buffer, refused, Outcome, past_gate, Filled, given_by}
use Rattle.demands.proofs.RowLaws.{Filling}

module _ {Answer : Type 0} (width : ℕ) (said : Answer → Given) where
  pub record Answered (o : Outcome Filled) : Type 0 where
    pub answer : Answer
    pub is : said answer ≡ given_by o
    pub filling : Filling width o

  -- the answers for the rows of the gate
  pub record Gated : Type 0 where
    pub long : (r : Answer) × (said r ≡ refused too_long)
    pub high : (p : ℕ) → (r : Answer) × (said r ≡ refused (not_ascii p))
    pub short : (r : Answer) × (said r ≡ refused short_buffer)

  -- rows 1 to 3 come first
  pub past_gate_lem : Gated → (g : Result Unit GateError) (o : Outcome Filled) → Answered o → Answered (past_gate g o)
  past_gate_lem k (Ok tt) o a = a
  past_gate_lem k (Err TooLong) o a = record { answer = k.long.0; is = k.long.1; filling = tt }
  past_gate_lem k (Err (NotAscii p)) o a = record { answer = (k.high p).0; is = (k.high p).1; filling = tt }
  past_gate_lem k (Err Short) o a = record { answer = k.short.0; is = k.short.1; filling = tt }
