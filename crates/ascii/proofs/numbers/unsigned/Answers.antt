-- By whether a `+` stands first.
use mathlib.Core.Path.{◌≡◌, ◌∙◌, sym, ap}
use mathlib.Core.Bool.{true, false}
use mathlib.Core.List.{List, [], ◌∷◌}
use Prim.Native.Nat.{ℕ, ◌+◌}
use lib.Dec.{eqb}
use lib.ListN.{drop, take, length}
use lib.Pointwise.{pointwise}
use denote.Ref.{Bor}
use Rattle.std.specs.Prelude.{Option, Some, None, MatchOption}
use Rattle.std.specs.Option.{unwrap_or}
use Rattle.ascii.specs.Numbers.{unsigned_by, after_plus, digits_by}
use Rattle.ascii.proofs.SignLaws.{prefix_is, plus, none_plus}
use Rattle.ascii.proofs.numbers.unsigned.Goals as goal

stripped : (s : Bor (List ℕ)) (o : Option (Bor (List ℕ)))
    → MatchOption o (pointwise eqb (take 1 s.now) (43 ∷ []) ≡ false) (λ x. (pointwise eqb (take 1 s.now) (43 ∷ []) ≡ true) × (x.now ≡ drop 1 s.now) × (length x.now + 1 ≡ length s.now))
    → (unwrap_or o s).now ≡ after_plus s.now
stripped s None h = sym (none_plus s.now (sym (prefix_is 43 s.now) ∙ h))
stripped s (Some x) h = h.1 ∙ sym (plus s.now (sym (prefix_is 43 s.now) ∙ h.0))

pub returns : goal.returns
unfolding unsigned_by
returns c =
    let s = c.args.s in
    c.digits.ensures ∙ ap (digits_by _) (ap (λ (r : Bor (List ℕ)). r.now) c.unwrap_or.ensures ∙ stripped s c.strip_prefix.result c.strip_prefix.ensures.cases)
