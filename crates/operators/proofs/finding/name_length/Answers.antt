use mathlib.Core.Path.{◌∙◌, sym}
use native.Mathlib.Omega.{arith}
use Rattle.ascii.proofs.TrimLaws.{leading_end}
use Rattle.operators.specs.Operators.{in_name}
use Rattle.operators.proofs.NameLaws.{name_more, name_stop}
use Rattle.operators.proofs.finding.name_length.Goals as goal

pub returns-then-stops_name : goal.returns-then-stops_name
returns-then-stops_name c =
    let w = sym c.stops_name.ensures ∙ c.if-stops_name.true in
    omega (arith, name_stop c.args.s.now c.loop-i.i c.loop-i-test.true w)

pub loop-i-preserved : goal.loop-i-preserved
loop-i-preserved c =
    let w = sym c.stops_name.ensures ∙ c.if-stops_name.false in
    omega (arith, name_more c.args.s.now c.loop-i.i c.loop-i-test.true w)

pub returns : goal.returns
returns c = omega (arith, leading_end in_name c.args.s.now c.loop-i.i c.loop-i-test.false)
