-- A rule's phase: SecRule::phase (directive.rs).
use Rattle.std.specs.Prelude.{ℕ, List}
use Rattle.std.specs.Option.{unwrap_or}
use Rattle.rules.specs.Entries.{Entry, phase_code, first_of}

-- SecRule::phase: the first phase's number, else 2
unfoldable pub phase_of : List Entry → ℕ
phase_of es = unwrap_or (first_of phase_code es) 2
