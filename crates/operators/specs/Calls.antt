-- When a call is refused past the gate, and when it is read, in plain words.
use Rattle.std.specs.Prelude.{◌≡◌, ℕ, true, false, List, Some, None}
use Rattle.names.specs.Operators.{operator_code}
use Rattle.operators.specs.Operators.{name_of}
use Rattle.operators.specs.Places.{after_at, is_named}

-- a name is written, and no operator has it
pub record Missing (s : List ℕ) : Type 0 where
  pub written : is_named s ≡ true
  pub missing : operator_code (name_of (after_at s)) ≡ None

-- no name is written, or an operator's
pub data Meant (s : List ℕ) : Type 0 where
  unwritten : is_named s ≡ false → Meant s
  written : is_named s ≡ true → (code : ℕ) → operator_code (name_of (after_at s)) ≡ Some code → Meant s
