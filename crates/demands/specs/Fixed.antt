-- A public call by what goes in and what comes out: all that is passed and lent, and then the answer with all lent memory.
use Rattle.std.specs.Prelude.{◌≡◌}

-- A promise that is total and has no second answer: whatever goes in, something may come out, and only one thing.
pub record Fixed (In Out : Type 0) (Promise : In → Out → Type 0) : Type 0 where
  pub total : (i : In) → (o : Out) × Promise i o
  pub once : (i : In) (o p : Out) → Promise i o → Promise i p → o ≡ p

-- A promise that is an equation with a definition.
abbrev pub Gives : {In Out : Type 0} → (In → Out) → Type 0
Gives {In} {Out} f = Fixed In Out (λ i o. o ≡ f i)
