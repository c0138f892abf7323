-- How an answer of document 01's table crosses to C: its number is returned, its values stand in lent words.
use Rattle.std.specs.Prelude.{◌≡◌, ℕ, ◌≤◌, List, Result, Ok, Err}
use Rattle.lent.specs.Sizes.{limit}
use Rattle.lent.specs.Buffers.{stored}
use Rattle.lent.specs.Table.{Given}
use Rattle.operators.specs.declared.Operator.{Operator}
use Rattle.operators.specs.declared.OperatorError.{OperatorError}
use Rattle.operators.specs.declared.OperatorError.TheVariants.{Gate, Unknown}

-- The values stand at the front where they fit whole, and no other word is touched; else none is.
pub record Told (g : Given) (old new : List ℕ) (r : ℕ) : Type 0 where
  pub number : r ≡ g.number
  pub values : new ≡ stored old 0 g.values

-- The place and the length of an unknown operator's name, so near that they are a span.
abbrev pub NearName : Result Operator OperatorError → Type 0
NearName (Ok o) = Unit {0}
NearName (Err (Gate e)) = Unit {0}
NearName (Err (Unknown u)) = (u.place ≤ limit) × (u.len ≤ limit)
