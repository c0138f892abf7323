-- The digits are the flags of the operators.
use mathlib.Core.Path.{refl}
use mathlib.Core.Bool.{Bool, false}
use Rattle.names.specs.Operators.{argument_needed, requires_argument}
use Rattle.names.proofs.FlagLaws.{flag_at, flag_past}
use Rattle.names.proofs.operator_names.requires_argument.Goals as goal

pub returns-then-code-lt39 : goal.returns-then-code-lt39
unfolding argument_needed requires_argument
returns-then-code-lt39 c = flag_at (λ (b : Bool). b) false refl argument_needed c.args.code

pub returns-else-code-lt39 : goal.returns-else-code-lt39
unfolding argument_needed requires_argument
returns-else-code-lt39 c = flag_past (λ (b : Bool). b) false refl argument_needed c.args.code c.if-code-lt39.false
