-- Marks at both ends by places: the two numbers of `unmarked` cut out what is left.
use mathlib.Core.Path.{◌≡◌, ◌∙◌, sym, ap}
use mathlib.Core.List.{List}
use Prim.Native.Nat.{ℕ, ◌+◌, ◌-◌, ◌≤◌}
use native.Mathlib.Omega.{arith}
use lib.ListN.{length, drop, length-drop}
use lib.Seq.{drop-drop}
use Rattle.ascii.specs.Trim.{leading, strip_end}
use Rattle.ascii.proofs.TrimLaws.{start_is, leading_fits, ends_are, ends_fit}
use Rattle.single_action.specs.Marks.{quotation, stripped}
use Rattle.single_action.specs.Plans.{Stripped}

module _ (s : List ℕ) (from : ℕ) (h : from ≤ length s) (first : ℕ) (e : first ≡ from + leading quotation (drop from s)) where
  rest_is : drop first s ≡ drop (leading quotation (drop from s)) (drop from s)
  rest_is = ap (λ n. drop n s) e ∙ sym (drop-drop (leading quotation (drop from s)) from s)

  pub first_fits : first ≤ length s
  first_fits = omega (arith, leading_fits quotation (drop from s), length-drop from s)

  pub end_is : strip_end quotation (drop first s) ≡ stripped (drop from s)
  end_is = ap (strip_end quotation) (rest_is ∙ sym (start_is quotation (drop from s)))

  module _ (len : ℕ) (f : len ≡ length (stripped (drop from s))) where
    pub past_fits : first + len ≤ length s
    past_fits = omega (arith, ends_fit quotation (drop from s), length-drop from s)

    pub marks_off : Stripped s from (record { first = first; past = first + len })
    marks_off =
        let k : first + len - first ≡ len = omega arith in
        record {
          text = rw (k, f, rest_is) (ends_are quotation (drop from s));
          ordered = omega arith;
          inside = past_fits;
        }
