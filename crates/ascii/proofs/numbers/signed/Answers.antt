-- By whether a `-` stands first, and then by what the digits say.
use Rattle.std.specs.Prelude.{Ok}
use Rattle.std.proofs.lemmas.Result.{err_from_is_err_and}
use mathlib.Core.Path.{◌≡◌, ◌∙◌, sym, ap}
use Prim.Native.Nat.{◌^◌}
use Rattle.ascii.specs.Numbers.{signed_word, digits_by, minus}
use Rattle.ascii.proofs.SignLaws.{prefix_is, dash, none_dash}
use Rattle.ascii.proofs.numbers.signed.Goals as goal
use Rattle.ascii.proofs.numbers.signed.Goals.{After-digits}

-- the digits after the `-`, taken negative
minus_of : (c : After-digits) → minus c.digits.result ≡ signed_word c.args.s.now
minus_of c =
    let s = c.args.s.now in
    ap minus (c.digits.ensures ∙ ap (digits_by (2 ^ 63)) c.in-Some.ensures.cases.1) ∙ sym (dash s (sym (prefix_is 45 s) ∙ c.in-Some.ensures.cases.0))

pub returns-in_err-digits-in-Some : goal.returns-in_err-digits-in-Some
returns-in_err-digits-in-Some c =
    let p = err_from_is_err_and c.from_residual.result c.from_residual.ensures.1 in
    rw (p.1, p.2) (ap minus (sym c.in_err-digits-in-Some.was) ∙ minus_of (goal.at.returns-in_err-digits-in-Some c).After-digits)

pub returns-in_ok-digits-in-Some : goal.returns-in_ok-digits-in-Some
returns-in_ok-digits-in-Some c = ap Ok c.negated.ensures ∙ ap minus (sym c.in_ok-digits-in-Some.was) ∙ minus_of (goal.at.returns-in_ok-digits-in-Some c).After-digits

pub returns-in-None : goal.returns-in-None
returns-in-None c =
    let s = c.args.s.now in
    c.unsigned.ensures ∙ sym (none_dash s (sym (prefix_is 45 s) ∙ c.in-None.ensures.cases))
