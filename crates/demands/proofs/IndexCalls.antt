-- The index's promises are total, and have no second answer.
use Rattle.std.specs.Prelude.{Result}
use mathlib.Core.Path.{refl}
use Rattle.ascii.proofs.OneAnswer.{one_answer}
use Rattle.index.specs.declared.adding.Added.{Added}
use Rattle.index.specs.declared.adding.AddError.{AddError}
use Rattle.index.specs.declared.removing.Removed.{Removed}
use Rattle.index.specs.declared.removing.Broken.{Broken}
use Rattle.demands.specs.Fixed.{Fixed}
use Rattle.demands.specs.Calls.{Wrote, Adding, add_promise, Removing, remove_promise}
use Rattle.demands.proofs.FixedLaws.{wrote_same}

pub add_fixed : Fixed Adding (Wrote (Result Added AddError)) add_promise
add_fixed = record {
  total = λ i. (record { answer = _; buffer = _ }, record { answer = refl; index = refl });
  once = λ i o p x y. wrote_same o p (one_answer x.answer y.answer, one_answer x.index y.index);
}

pub remove_fixed : Fixed Removing (Wrote (Result Removed Broken)) remove_promise
remove_fixed = record {
  total = λ i. (record { answer = _; buffer = _ }, record { answer = refl; index = refl });
  once = λ i o p x y. wrote_same o p (one_answer x.answer y.answer, one_answer x.index y.index);
}
