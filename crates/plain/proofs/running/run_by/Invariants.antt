-- The loop keeps that the tokens told so far are in the buffers and the automaton says the rest; each need is one law of WholeLaws.
use Rattle.plain.proofs.WholeLaws.{Sofar}
use Rattle.plain.proofs.running.run_by.Given as goal

abbrev pub invariant-loop-b : goal.invariant-loop-b
invariant-loop-b l = Sofar l.s l.initial.text l.initial.records l.text l.records l.b-index l.here l.held l.state
