-- A step at a cursor that was reached: it is never refused, and gives the definition's next token.
use Rattle.std.specs.Prelude.{Result, Ok, IsOk}
use mathlib.Core.Path.{◌≡◌, refl, sym, ap, ◌∙◌, subst}
use mathlib.Core.List.{List, ◌++◌}
use Prim.Native.Nat.{ℕ, ◌-◌, ◌≤◌}
use native.Mathlib.Omega.{arith}
use native.Mathlib.Nat.{add-zero}
use lib.ListN.{length, drop, length-take, length-drop, take-append-drop}
use borrow.Rule.Slice.PartMut.{mid_of, put_mid}
use Rattle.lent.specs.Sizes.{limit}
use Rattle.lent.specs.Buffers.{placed}
use Rattle.lent.specs.Table.{given}
use Rattle.lent.proofs.BufferLaws.{lent_part}
use Rattle.lexer.specs.declared.Cursor.{Cursor}
use Rattle.lexer.specs.declared.stepping.Found.{Found}
use Rattle.lexer.specs.declared.stepping.StepError.{StepError}
use Rattle.lexer.specs.Runs.{Spot}
use Rattle.lexer.specs.Tokens.{Token, put, next, nothing, token, tokens}
use Rattle.lexer.specs.Tokens as T
use Rattle.lexer.specs.Promises.{lexeme, step_given, step_values, step_text, StepIn}
use Rattle.lexer.specs.Calls.{Reached}
use Rattle.lexer.proofs.RunLaws.{passed_place, passed_length}
use Rattle.lexer.proofs.NextLaws.{Of, Taken, next_taken, taken_place, shorter, next_drop}
use Rattle.lexer.proofs.TokenLaws.{follow, tokens_step}
use Rattle.lexer.proofs.ReachLaws.{reached_next, reached_fit}
use Rattle.lexer.proofs.PromiseLaws.{step_in_reads}
use Rattle.lexer.proofs.GivenLaws.{step_told}
use Rattle.directives.specs.Steps.{Token-is, None-is, Nexts}

-- a step of the definition as ours, and as the lexer's answer
abbrev found_of : T.Step → Found
found_of (nothing c) = Found.Nothing c
found_of (token t e) = Found.Token (lexeme t e.here)

abbrev step_of : T.Step → Result Found StepError
step_of n = Ok (found_of n)

step_values_lem : (n : T.Step) → step_given (step_of n) ≡ given 0 (step_values n)
step_values_lem (nothing c) = refl
step_values_lem (token t e) = refl

module _ (s : List ℕ) (here : Cursor) (held : ℕ) (scratch got : List ℕ) (r : Result Found StepError) (short : length s ≤ limit) (room : length s ≤ length scratch) (low : held ≤ here.place)
    (a : Reached s here) (x : StepIn s here (mid_of held (length scratch - held) scratch) got r) where
  abbrev step : T.Step
  step = next (drop here.place s) here

  part_long : length (mid_of held (length scratch - held) scratch) ≡ length scratch - held
  part_long = rw (length-take, length-drop) (omega arith)

  read : (step_given r ≡ given 0 (step_values step)) × (got ≡ step_text step ++ drop (length (step_text step)) (mid_of held (length scratch - held) scratch))
  read = step_in_reads x (short, reached_fit s here short a, omega (arith, part_long, a.inside))

  step_is : r ≡ step_of step
  step_is = step_told r (step_of step) (read.0 ∙ sym (step_values_lem step))

  abbrev after : List ℕ
  after = put_mid held (length scratch - held) scratch got

  after_is : after ≡ placed scratch held (step_text step)
  after_is = lent_part scratch held (step_text step) read.1

  token_is : (t : Token) (e : Spot) → step ≡ token t e → Token-is s here held scratch after (lexeme t e.here)
  token_is t e q =
      let k : Taken (drop here.place s) here t e = subst (Of (Taken (drop here.place s) here)) q (next_taken (drop here.place s) here) in
      let m = k.made in
      record {
        t = t;
        is = refl;
        ends = m.past;
        ordered = omega (arith, m.first, m.past, passed_place m.over);
        more = tokens_step (drop here.place s) here ∙ ap follow q ∙ ap (λ (l : List ℕ). put t (tokens 0 l e.here)) (next_drop s here t e a.inside q);
        text = after_is ∙ ap (λ (n : T.Step). placed scratch held (step_text n)) q;
        arrived = reached_next s here t e a q;
        ahead = omega (arith, taken_place k, shorter k);
        short = omega (arith, taken_place k, m.short, passed_length k.blanks);
      }

  none_is : (stop : Cursor) → step ≡ nothing stop → None-is s here scratch after stop
  none_is stop q = record {
    none = tokens_step (drop here.place s) here ∙ ap follow q;
    same = after_is ∙ ap (λ (n : T.Step). placed scratch held (step_text n)) q ∙ rw add-zero (take-append-drop held scratch);
  }

  next_is : (n : T.Step) → step ≡ n → Nexts s here held scratch after (found_of n)
  next_is (nothing stop) q = none_is stop q
  next_is (token t e) q = token_is t e q

  -- it is not refused
  pub step_found : IsOk r
  step_found = rw step_is refl

  pub stepped : (f : Found) → r ≡ Ok f → Nexts s here held scratch after f
  stepped f e = let q : found_of step ≡ f = cc (e, step_is) in subst (Nexts s here held scratch after) q (next_is step refl)
