use mathlib.Core.Path.{sym, ◌∙◌}
use native.Mathlib.Omega.{arith}
use lib.ListN.{length-map, get_or-map}
use Rattle.ascii.specs.Fold.{lower}
use Rattle.lent.proofs.BufferLaws.{stored_short}
use Rattle.lent.proofs.LoopLaws.{storing_none, storing_one, stores}
use Rattle.actions.proofs.writing.store_lowered.Goals as goal

pub returns-then-out-at : goal.returns-then-out-at
returns-then-out-at c = sym (stored_short _ _ _ (omega (arith, length-map c.args.text.now lower)))

pub loop-i-init : goal.loop-i-init
loop-i-init c = storing_none _ _ _ (omega (arith, length-map c.args.text.now lower))

pub loop-i-preserved : goal.loop-i-preserved
unfolding lower
loop-i-preserved c =
    let s = c.args.text.now in
    let i = c.loop-i.i in
    let e = c.to_lower.ensures ∙ sym (get_or-map lower s i 0) in
    rw e (storing_one c.loop-i.invariant (omega (arith, length-map s lower, c.loop-i-test.true)))

pub returns : goal.returns
returns c = stores c.loop-i.invariant (omega (arith, length-map c.args.text.now lower, c.loop-i-test.false))
