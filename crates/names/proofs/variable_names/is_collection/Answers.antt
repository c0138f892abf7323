-- The digits are the flags of the enum's places.
use mathlib.Core.Path.{refl}
use Rattle.names.specs.Variables.{Place, places, nowhere, is_collection}
use Rattle.names.proofs.FlagLaws.{flag_at, flag_past}
use Rattle.names.proofs.variable_names.is_collection.Goals as goal

pub returns-then-code-lt92 : goal.returns-then-code-lt92
unfolding places is_collection
returns-then-code-lt92 c = flag_at (λ (p : Place). p.collection) nowhere refl places c.args.code

pub returns-else-code-lt92 : goal.returns-else-code-lt92
unfolding places is_collection
returns-else-code-lt92 c = flag_past (λ (p : Place). p.collection) nowhere refl places c.args.code c.if-code-lt92.false
