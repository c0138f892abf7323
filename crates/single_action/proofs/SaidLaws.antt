-- What a verdict and a plan say is fixed by their promises. Their places are not: equal bytes may stand at two places of a piece.
use Rattle.std.specs.Prelude.{Result}
use mathlib.Core.Path.{◌≡◌}
use mathlib.Core.List.{List}
use Prim.Native.Nat.{ℕ}
use Rattle.ascii.proofs.OneAnswer.{one_answer}
use Rattle.single_action.specs.Actions.{Action, Single}
use Rattle.single_action.specs.Plans.{plan_action, Planned, verdict_single, Judged}
use Rattle.single_action.specs.declared.plans.Plan.{Plan}
use Rattle.single_action.specs.declared.plans.PlanError.{PlanError}

-- Two verdicts of read_single say the same.
pub verdict_said : {s : List ℕ} {v v' : Result Plan PlanError} {x : Single} → Judged s v x → Judged s v' x → verdict_single s v ≡ verdict_single s v'
verdict_said j k = one_answer j.means k.means

-- Two plans of read_setvar say the same.
pub plan_said : {s : List ℕ} {p p' : Plan} {x : Action} → Planned s p x → Planned s p' x → plan_action s p ≡ plan_action s p'
plan_said j k = one_answer j.means k.means
