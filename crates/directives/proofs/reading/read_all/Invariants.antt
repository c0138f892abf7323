-- The loop keeps that the directives read so far are in the buffers; each way through it is one law of TextLaws.
use mathlib.Core.Path.{◌≡◌}
use Prim.Native.Nat.{◌-◌}
use lib.ListN.{length}
use Rattle.directives.proofs.TextLaws.{Sofar}
use Rattle.directives.proofs.reading.read_all.Given as goal

abbrev pub invariant-loop-stop : goal.invariant-loop-stop
invariant-loop-stop l = Sofar l.version l.s l.initial.text l.initial.records l.initial.variables l.initial.actions l.text l.records l.variables l.actions l.here l.t × (length l.scratch ≡ length l.initial.scratch)

abbrev pub decreases-loop-stop : goal.decreases-loop-stop
decreases-loop-stop l = length l.s - l.here.place
