-- An answer that was told is told by whatever gives the same number and values.
use mathlib.Core.Path.{◌≡◌, ◌∙◌, refl, subst, sym, ap}
use Prim.Native.Nat.{ℕ, ◌+◌, ◌-◌, ◌≤◌}
use native.Mathlib.Omega.{arith}
use mathlib.Core.List.{List, [], ◌∷◌}
use lib.ListN.{length, get_or}
use Rattle.std.specs.Prelude.{Result, Ok, Err}
use Rattle.lent.specs.Sizes.{limit}
use Rattle.lent.specs.Gates.{gate_of}
use Rattle.lent.specs.Table.{Given, past_gate}
use Rattle.lent.specs.declared.gating.GateError.{GateError}
use Rattle.lent.specs.declared.gating.GateError.TheVariants.{TooLong, NotAscii, Short}
use Rattle.lent.proofs.GateLaws.{Row, gate_row}
use Rattle.operators.specs.Operators.{Reading, accepted, unknown, operator}
use Rattle.operators.specs.Places.{name_place}
use Rattle.operators.specs.Promises.{in_given, answer_given, outcome_of, operator_outcome, given_by, ParseOperator}
use Rattle.operators.specs.declared.Operator.{Operator}
use Rattle.operators.specs.declared.UnknownOperator.{UnknownOperator}
use Rattle.operators.specs.declared.OperatorError.{OperatorError}
use Rattle.operators.specs.declared.OperatorError.TheVariants.{Gate, Unknown}
use Rattle.operators.proofs.PromiseLaws.{refused_inside}
use Rattle.seclang.specs.Told.{Told, NearName}

module _ {old new : List ℕ} {r : ℕ} where
  pub told_as : {g h : Given} → g ≡ h → Told g old new r → Told h old new r
  told_as e = subst (λ (k : Given). Told k old new r) e

-- the unknown name of a text that passed the gate is near
pub near_name : (s : List ℕ) (r : Result Operator OperatorError) → ParseOperator s r → NearName r
unfolding operator_outcome
near_name s r x = go r x.answer
  where
    unknown_near : (u : UnknownOperator) (g : Result Unit GateError) → Row s 0 0 g → (o : Reading) → operator s ≡ o
        → in_given (Err u) ≡ given_by s (past_gate g (outcome_of s o)) → (u.place ≤ limit) × (u.len ≤ limit)
    unknown_near u (Err TooLong) h o q e = absurd (omega (arith, ap (λ (i : Given). i.number) e))
    unknown_near u (Err (NotAscii p)) h o q e = absurd (omega (arith, ap (λ (i : Given). i.number) e))
    unknown_near u (Err Short) h o q e = absurd (omega (arith, ap (λ (i : Given). i.number) e))
    unknown_near u (Ok tt) h (accepted y) q e = absurd (omega (arith, ap (λ (i : Given). i.number) e))
    unknown_near u (Ok tt) h (unknown name) q e =
        let a : u.place ≡ name_place s = ap (λ (i : Given). get_or i.values 0 0) e in
        let b : u.len ≡ length name = ap (λ (i : Given). get_or i.values 1 0) e in
        let c = refused_inside s name q in
        (omega (arith, a, c, h.within), omega (arith, b, c, h.within))

    go : (r : Result Operator OperatorError) → answer_given r ≡ given_by s (operator_outcome s) → NearName r
    go (Ok o) e = tt
    go (Err (Gate g)) e = tt
    go (Err (Unknown u)) e = unknown_near u (gate_of s 0 0) (gate_row s 0 0) (operator s) refl e

-- No second answer: number and words are fixed.
pub told_once : {g : Given} {old new new' : List ℕ} {r r' : ℕ} → Told g old new r → Told g old new' r' → (r ≡ r') × (new ≡ new')
told_once x y = (x.number ∙ sym y.number, x.values ∙ sym y.values)
