-- Each arm of the match is the arm of the cutter.
use borrow.Author.Tests.{ne_eqb}
use Rattle.single_action.specs.Marks.{quotation}
use Rattle.actions.specs.Pieces.{nest_bare, nest_after, cuts}
use Rattle.spelled.proofs.passing.step_bare.Goals as goal

pub returns-in-34 : goal.returns-in-34
unfolding cuts nest_after nest_bare quotation
returns-in-34 c = rw c.in-34.is

pub returns-in-39 : goal.returns-in-39
unfolding cuts nest_after nest_bare quotation
returns-in-39 c = rw c.in-39.is

pub returns-in-40 : goal.returns-in-40
unfolding cuts nest_after nest_bare quotation
returns-in-40 c = rw c.in-40.is

pub returns-in-41 : goal.returns-in-41
unfolding cuts nest_after nest_bare quotation
returns-in-41 c = rw (c.in-41.is, c.saturating_sub.ensures)

pub returns-in-44 : goal.returns-in-44
unfolding cuts nest_after nest_bare quotation
returns-in-44 c = rw (c.in-44.is, c.if-depth-eq0.true)

pub returns-in_default : goal.returns-in_default
unfolding cuts nest_after nest_bare quotation
returns-in_default c = rw (c.in-44.is, ne_eqb c.args.depth 0 c.if-depth-eq0.false)

pub returns-in_default-2 : goal.returns-in_default-2
unfolding cuts nest_after nest_bare quotation
returns-in_default-2 c =
    let b = c.args.b in
    let r = c.in_default.in_default-own.rest in
    simp (ne_eqb b 34 r.0.0.0.0.1, ne_eqb b 39 r.0.0.0.1, ne_eqb b 40 r.0.0.1, ne_eqb b 41 r.0.1, ne_eqb b 44 r.1)
