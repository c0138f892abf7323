-- By the step: each arm is what the laws make of it.
use Rattle.places.specs.Steps.{Pass, Keep, Turn}
use Rattle.places.proofs.WalkLaws.{onward_as}
use Rattle.places.proofs.walking.stepped.Goals as goal

pub returns-in-Pass : goal.returns-in-Pass
returns-in-Pass c = let p = c.requires in onward_as _ c.args.s.now c.args.w p.0 p.1 (Pass _) c.act_of.ensures c.in-Pass.is

pub returns-in-Keep : goal.returns-in-Keep
returns-in-Keep c = let p = c.requires in onward_as _ c.args.s.now c.args.w p.0 p.1 (Keep _) c.act_of.ensures c.in-Keep.is

pub returns-in-Turn : goal.returns-in-Turn
returns-in-Turn c = let p = c.requires in rw c.saturating_sub.ensures (onward_as _ c.args.s.now c.args.w p.0 p.1 (Turn _) c.act_of.ensures c.in-Turn.is)
