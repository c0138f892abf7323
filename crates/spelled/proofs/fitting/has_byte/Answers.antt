-- The search finds the byte before the end.
use mathlib.Core.Path.{◌∙◌, ap}
use Prim.Native.Nat.{ℕ}
use lib.ListN.{length}
use lib.Dec.{ltb}
use Rattle.spelled.proofs.FitLaws.{has_found}
use Rattle.spelled.proofs.fitting.has_byte.Goals as goal

pub returns : goal.returns
returns c =
    let a = c.args in
    ap (λ (n : ℕ). ltb n (length a.t.now)) c.first_of.ensures ∙ has_found a.b a.t.now
