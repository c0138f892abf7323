-- A cursor that a text's own bytes lead to is one that a step takes, and a step leads to another: what a loop over steps keeps.
use mathlib.Core.Path.{◌≡◌, refl, sym, ap, ◌∙◌, subst}
use mathlib.Core.List.{List, ◌++◌, append_assoc}
use Prim.Native.Nat.{ℕ, ◌+◌, ◌≤◌}
use native.Mathlib.Omega.{arith}
use lib.ListN.{length, take, drop, length-append, length-drop, length-take, take-append-drop}
use lib.Seq.{take_at, length-take-le}
use Rattle.lent.specs.Sizes.{limit}
use Rattle.lexer.specs.Cursors.{Cursor, fresh, moves}
use Rattle.lexer.specs.Runs.{Spot}
use Rattle.lexer.specs.Tokens.{Token, next, token}
use Rattle.lexer.specs.Calls.{Fit, Reached}
use Rattle.lexer.proofs.MoveLaws.{moves_append, moves_line, moves_column}
use Rattle.lexer.proofs.RunLaws.{Passed, passed_place, passed_length}
use Rattle.lexer.proofs.NextLaws.{Of, Taken, next_taken, taken_over}
use Rattle.lexer.proofs.LoopLaws.{feeds_few, since_few}

pub reached_start : (s : List ℕ) → Reached s fresh
unfolding fresh moves
reached_start s = record { inside = omega arith; here = refl }

reached_over : {s : List ℕ} {c : Cursor} {e : Spot} → Reached s c → Passed (drop c.place s) c e → Reached s e.here
reached_over {s} {c} {e} x p =
    let f = take c.place s in
    let n : e.here.place ≡ c.place + length p.part = passed_place p in
    let w : s ≡ (f ++ p.part) ++ e.rest =
    sym (take-append-drop c.place s) ∙ ap (λ (l : List ℕ). f ++ l) p.list ∙ sym (append_assoc f p.part e.rest) in
    let m : length (f ++ p.part) ≡ e.here.place = omega (arith, length-append f p.part, length-take-le c.place s x.inside) in
    let t : take e.here.place s ≡ f ++ p.part = ap (take e.here.place) w ∙ take_at (f ++ p.part) e.rest e.here.place m in
    record {
      inside = omega (arith, passed_length p, length-drop c.place s, x.inside);
      here = p.cursor ∙ ap (moves p.part) x.here ∙ sym (moves_append f p.part fresh) ∙ ap (λ (l : List ℕ). moves l fresh) (sym t);
    }

-- a token leads to another
pub reached_next : (s : List ℕ) (c : Cursor) (t : Token) (e : Spot) → Reached s c → next (drop c.place s) c ≡ token t e → Reached s e.here
reached_next s c t e x q = reached_over x (taken_over (subst (Of (Taken (drop c.place s) c)) q (next_taken (drop c.place s) c)))

-- and a text within the limit takes it
pub reached_fit : (s : List ℕ) (c : Cursor) → length s ≤ limit → Reached s c → Fit s c
unfolding fresh
reached_fit s c h x =
    let p = take c.place s in
    let n : length p ≤ limit = rw length-take (omega arith) in
    let l = ap (λ (d : Cursor). d.line.0) x.here ∙ moves_line p fresh in
    let k = ap (λ (d : Cursor). d.column.0) x.here ∙ moves_column p fresh 0 refl in
    record {
      inside = x.inside;
      lined = record { some = omega (arith, l); most = omega (arith, l, feeds_few p) };
      columned = record { some = omega (arith, k); most = omega (arith, k, since_few 0 p) };
    }
