-- The lexer's step on a cursor that was reached is never refused, and gives the definition's next token: StepLaws.
use Rattle.directives.proofs.StepLaws.{step_found, stepped}
use Rattle.directives.proofs.tokens.token_from.Goals as goal

pub unwrap-requires : goal.unwrap-requires
unwrap-requires c = let p = c.requires in let a = c.args in step_found a.s.now a.here a.held a.scratch.now _ _ p.s_len_bound p.s_in_bounds.0 p.s_in_bounds.1 p.reached c.step_in.ensures

pub returns : goal.returns
returns c = let p = c.requires in let a = c.args in stepped a.s.now a.here a.held a.scratch.now _ _ p.s_len_bound p.s_in_bounds.0 p.s_in_bounds.1 p.reached c.step_in.ensures _ c.unwrap.ensures
