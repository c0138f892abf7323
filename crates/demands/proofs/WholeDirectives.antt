-- The demand of whole directives (document 02, M-100). Directives, records and the first fault in text order are what the definitions say,
-- each number is given exactly when document 02 says so, and another blank or comment line in such a line's place changes spans alone.
-- The idea: past the gate only the definitions are left; the numbers and the theorem stand with the crate `directives`.
use Rattle.lent.specs.declared.gating.GateError.{GateError}
use Rattle.std.specs.Prelude.{Result, Ok}
use mathlib.Core.Path.{◌≡◌, ◌∙◌, ap}
use mathlib.Core.List.{List}
use Prim.Native.Nat.{ℕ}
use lib.ListN.{length}
use Rattle.lent.specs.Admission.{Opened}
use Rattle.lent.proofs.GateLaws.{row_gate}
use Rattle.directives.specs.declared.Version.{Version}
use Rattle.directives.specs.Versions.{directives_for}
use Rattle.directives.specs.Table.{Outcome, past_gate, given_by}
use Rattle.directives.specs.Promises.{Lent, rooms_of, roomed, directives_outcome, outcome_on, left_by, answer_given}
use Rattle.directives.specs.declared.Read.{Read as DirectivesRead}
use Rattle.directives.specs.declared.DirectivesError.{DirectivesError}
use Rattle.directives.proofs.PromiseLaws.{Numbers, directives_numbers}
use Rattle.directives.proofs.Theorem.{whole_directives as theorem}
use Rattle.demands.specs.WholeDirectives.{least, Faults, Exact, WholeDirectives}
use Rattle.demands.proofs.DirectiveCalls.{directives_left}

outcome_is : (v : Version) (s : List ℕ) (m : Lent) → Opened s (least m) (length s) → outcome_on v s m ≡ roomed (rooms_of m) (directives_for v s)
unfolding directives_outcome
outcome_is v s m h = ap (λ (g : Result Unit GateError). past_gate g (roomed (rooms_of m) (directives_for v s))) (row_gate s (least m) (length s) (Ok tt) h)

-- the faults in text order, and how a text without any ends
exactly : (v : Version) (s : List ℕ) (m : Lent) (r : Result DirectivesRead DirectivesError) → Numbers v s m r → Exact v s m (answer_given r).number
exactly v s m r k =
    let first : Faults v s m (answer_given r).number =
    record {
      thirteen = k.number_13;
      five = k.number_5;
      seven = k.number_7;
      eight = k.number_8;
      ten = k.number_10;
      eleven = k.number_11;
      twelve = k.number_12;
      fourteen = k.number_14;
      eighteen = k.number_18;
    } in
    record { gate = record { one = k.number_1; two = k.number_2; three = k.number_3 }; faults = first; fifteen = k.number_15; four = k.number_4; zero = k.number_0 }

pub whole_directives : WholeDirectives
whole_directives = record {
  equal = λ i o x h.
      let e = outcome_is i.version i.input i.lent h in
      record { answer = x.answer ∙ ap given_by e; lent = directives_left i o x ∙ ap (λ (u : Outcome). left_by u i.lent) e };
  exact = λ i o x. exactly i.version i.input i.lent o.0 (directives_numbers x);
  replaced = theorem.replaced;
  two_calls = theorem.two_calls;
}
