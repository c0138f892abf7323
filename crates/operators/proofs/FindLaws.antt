-- What the search for an operator's parts knows at each of its calls: the part that it lends, and that it fits.
use mathlib.Core.Path.{◌≡◌, ◌∙◌, sym}
use mathlib.Core.Bool.{true}
use mathlib.Core.List.{List}
use Prim.Native.Nat.{ℕ, ◌+◌, ◌-◌, ◌≤◌}
use native.Mathlib.Omega.{arith}
use lib.ListN.{length, drop, take}
use Rattle.ascii.specs.Classes.{white}
use Rattle.ascii.specs.Trim.{trim_ends, leading_white}
use Rattle.ascii.proofs.TrimLaws.{ends_fit}
use Rattle.operators.specs.Operators.{name_length, after_name, unsigned}
use Rattle.operators.specs.Places.{sign_width, text_end, after_at, is_named}
use Rattle.operators.proofs.PlaceLaws.{cut, unsigned_is, sign_fits, after_is, at_fits, past_fits, tail_is, argument_fits}

-- where the trimmed text begins and ends, and the width of its sign
pub record Begun (s : List ℕ) (begin end width : ℕ) : Type 0 where
  pub first : begin ≡ leading_white s
  pub past : end ≡ text_end s
  pub sign : width ≡ sign_width (trim_ends s)

pub text_at : (s : List ℕ) (begin end : ℕ) → begin ≡ leading_white s → end ≡ text_end s → take (end - begin) (drop begin s) ≡ trim_ends s
text_at s begin end p q = cut s begin end 0 (omega arith) q

module _ {s : List ℕ} {begin end width : ℕ} (k : Begun s begin end width) where
  pub end_in_lem : end ≤ length s
  end_in_lem = omega (arith, k.past, ends_fit white s)

  pub body_in : begin + width ≤ end
  body_in = omega (arith, k.first, k.past, k.sign, sign_fits (trim_ends s))

  pub body_at : take (end - (begin + width)) (drop (begin + width) s) ≡ unsigned (trim_ends s)
  body_at = cut s (begin + width) end (sign_width (trim_ends s)) (omega (arith, k.first, k.sign)) k.past ∙ sym (unsigned_is (trim_ends s))

  module _ (h : is_named s ≡ true) where
    pub name_in : begin + width + 1 ≤ end
    name_in = omega (arith, k.first, k.past, k.sign, at_fits s h)

    pub name_at_lem : take (end - (begin + width + 1)) (drop (begin + width + 1) s) ≡ after_at s
    name_at_lem = cut s (begin + width + 1) end (sign_width (trim_ends s) + 1) (omega (arith, k.first, k.sign)) k.past ∙ sym (after_is s)

    module _ (len : ℕ) (e : len ≡ name_length (after_at s)) where
      pub tail_in : begin + width + 1 + len ≤ end
      tail_in = omega (arith, k.first, k.past, k.sign, past_fits s h)

      pub tail_at : take (end - (begin + width + 1 + len)) (drop (begin + width + 1 + len) s) ≡ after_name (after_at s)
      tail_at =
          cut s (begin + width + 1 + len) end (sign_width (trim_ends s) + 1 + name_length (after_at s)) (omega (arith, k.first, k.sign)) k.past
          ∙ sym (tail_is s)

      pub argument_in_lem : (gap : ℕ) → gap ≡ leading_white (after_name (after_at s)) → begin + width + 1 + len + gap ≤ end
      argument_in_lem gap g = omega (arith, k.first, k.past, k.sign, rw h at (argument_fits s))
