-- Each way out is one law.
use Prim.Native.Nat.{◌+◌}
use native.Mathlib.Omega.{arith}
use mathlib.Core.Path.{◌∙◌, sym, ap}
use Rattle.ascii.proofs.ListLaws.{rest_is}
use Rattle.variables.specs.Variables.{is_regex}
use Rattle.variables.proofs.SingleLaws.{chose_none, chose_key, chose_regex}
use Rattle.variables.proofs.singles.selection_at.Goals as goal

pub returns-then-past-colon : goal.returns-then-past-colon
returns-then-past-colon c = chose_none c.args.p.now c.args.colon c.requires.p_nonzero c.if-past-colon.true

pub returns-then-is_regex : goal.returns-then-is_regex
returns-then-is_regex c =
    let p = c.args.p.now in
    let colon = c.args.colon in
    chose_regex p colon (omega arith) (sym (c.is_regex.ensures ∙ ap is_regex (rest_is p (colon + 1))) ∙ c.if-is_regex.true)

pub returns : goal.returns
returns c =
    let p = c.args.p.now in
    let colon = c.args.colon in
    chose_key p colon (omega arith) (sym (c.is_regex.ensures ∙ ap is_regex (rest_is p (colon + 1))) ∙ c.if-is_regex.false)
