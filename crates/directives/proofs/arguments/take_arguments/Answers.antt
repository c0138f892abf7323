use mathlib.Core.Path.{sym, ◌∙◌}
use native.Mathlib.Omega.{arith}
use Rattle.directives.proofs.ArgumentLaws.{begun, going_low, none_left, closed, opened, one_fits, turned}
use Rattle.directives.proofs.arguments.take_arguments.Goals as goal

pub loop-next-init : goal.loop-next-init
loop-next-init c = let a = c.args in let p = c.requires in begun a.s.now a.from a.past a.held a.scratch.now p.s_len_bound p.s_in_bounds.0 p.s_in_bounds.1.0 p.s_in_bounds.1.1 p.reached c.none_yet-arguments.ensures

pub token_from-requires : goal.token_from-requires
token_from-requires c = let a = c.args in let p = c.requires in record { s_len_bound = p.s_len_bound; reached = c.loop-next.invariant.arrived; s_in_bounds = going_low a.s.now a.from a.past a.held a.scratch.now p.s_len_bound p.s_in_bounds.0 p.s_in_bounds.1.0 p.s_in_bounds.1.1 p.reached c.loop-next.invariant }

pub returns-in-Nothing : goal.returns-in-Nothing
returns-in-Nothing c = let a = c.args in let p = c.requires in none_left a.s.now a.from a.past a.held a.scratch.now p.s_len_bound p.s_in_bounds.0 p.s_in_bounds.1.0 p.s_in_bounds.1.1 p.reached c.loop-next.invariant (rw c.in-Nothing.is at c.token_from.ensures)

pub returns-in-Opens : goal.returns-in-Opens
returns-in-Opens c = let a = c.args in let p = c.requires in opened a.s.now a.from a.past a.held a.scratch.now p.s_len_bound p.s_in_bounds.0 p.s_in_bounds.1.0 p.s_in_bounds.1.1 p.reached c.loop-next.invariant (rw c.in-Token.is at c.token_from.ensures) (sym c.role_of.ensures ∙ c.in-Opens.is)

pub returns-in-Closes : goal.returns-in-Closes
returns-in-Closes c = let a = c.args in let p = c.requires in closed a.s.now a.from a.past a.held a.scratch.now p.s_len_bound p.s_in_bounds.0 p.s_in_bounds.1.0 p.s_in_bounds.1.1 p.reached c.loop-next.invariant (rw c.in-Token.is at c.token_from.ensures) (sym c.role_of.ensures ∙ c.in-Closes.is)

pub with_one-arguments-requires : goal.with_one-arguments-requires
with_one-arguments-requires c = let a = c.args in let p = c.requires in one_fits a.s.now a.from a.past a.held a.scratch.now p.s_len_bound p.s_in_bounds.0 p.s_in_bounds.1.0 p.s_in_bounds.1.1 p.reached c.loop-next.invariant (rw c.in-Token.is at c.token_from.ensures)

pub loop-next-smaller : goal.loop-next-smaller
loop-next-smaller c = let f = rw c.in-Token.is at c.token_from.ensures in omega (arith, f.ahead, f.arrived.inside)

pub loop-next-preserved : goal.loop-next-preserved
loop-next-preserved c = let a = c.args in let p = c.requires in turned a.s.now a.from a.past a.held a.scratch.now p.s_len_bound p.s_in_bounds.0 p.s_in_bounds.1.0 p.s_in_bounds.1.1 p.reached c.loop-next.invariant (rw c.in-Token.is at c.token_from.ensures) (sym c.role_of.ensures ∙ c.in-Argues.is) c.with_one-arguments.ensures
