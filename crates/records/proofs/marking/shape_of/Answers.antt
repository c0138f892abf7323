-- The table is the definition's, and a code past it has no shape.
use mathlib.Core.Path.{refl, sym}
use lib.ListN.{get_or-eq_default}
use Rattle.records.specs.Codes.{no_code, shapes, shape_of}
use Rattle.records.proofs.marking.shape_of.Goals as goal

pub returns-then-code-gt-TRANSFORMATION : goal.returns-then-code-gt-TRANSFORMATION
unfolding shape_of shapes
returns-then-code-gt-TRANSFORMATION c = sym (get_or-eq_default shapes no_code {n = c.args.code} c.if-code-gt-TRANSFORMATION.true)

pub returns : goal.returns
unfolding shape_of shapes
returns c = refl
