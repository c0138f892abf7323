-- The places of specs/Places cut the texts of specs/Operators out of the input.
-- The idea: all of them are rests of the trimmed text, and `cut` finds every such rest in the input.
use mathlib.Core.Path.{◌≡◌, ◌∙◌, refl, sym, ap}
use mathlib.Core.Bool.{Bool, true, false}
use mathlib.Core.List.{List, [], ◌∷◌}
use Prim.Native.Nat.{ℕ, zero, suc, ◌+◌, ◌-◌, ◌≤◌}
use native.Mathlib.Numerals.{unary_clauses}
use native.Mathlib.Omega.{arith}
use lib.ListN.{length, drop, take, length-drop}
use lib.Seq.{drop-drop, take-take, take-nil, length-take-le}
use Rattle.ascii.specs.Choice.{pick}
use Rattle.ascii.specs.Classes.{white}
use Rattle.ascii.specs.Trim.{trim_start, trim_ends, leading_white}
use Rattle.ascii.proofs.TrimLaws.{leading_fits, start_is, ends_are, ends_fit}
use Rattle.operators.specs.Operators.{starts, name_length, name_of, after_name, unsigned, in_name}
use Rattle.operators.specs.Places.{sign_width, text_end, body_place, after_at, name_place, name_past, is_named, argument_place}
use Rattle.operators.proofs.NameLaws.{starts_some}

-- ---- `!`

pub unsigned_is : (t : List ℕ) → unsigned t ≡ drop (sign_width t) t
unsigned_is t = go (starts 33 t)
  where
    go : (b : Bool) → pick b (trim_start (drop 1 t)) t ≡ drop (pick b (1 + leading_white (drop 1 t)) 0) t
    go true = start_is white (drop 1 t) ∙ drop-drop (leading_white (drop 1 t)) 1 t
    go false = refl

pub sign_fits : (t : List ℕ) → sign_width t ≤ length t
sign_fits t = go (starts 33 t) refl
  where
    go : (b : Bool) → starts 33 t ≡ b → pick b (1 + leading_white (drop 1 t)) 0 ≤ length t
    go true e = omega (arith, starts_some 33 t e, leading_fits white (drop 1 t), length-drop 1 t)
    go false e = omega arith

-- ---- rests of the trimmed text

pub drop_take : (k n : ℕ) (l : List ℕ) → drop k (take n l) ≡ take (n - k) (drop k l)
drop_take zero n l = simp unary_clauses
drop_take (suc k) n [] = ap (drop (suc k)) (take-nil n) ∙ sym (take-nil (n - suc k))
drop_take (suc k) zero (x ∷ l) =
    let z : 0 - suc k ≡ 0 = omega arith in
    rw z (sym (take_zero (drop k l)))
  where
    take_zero : (l : List ℕ) → take 0 l ≡ []
    take_zero [] = refl
    take_zero (x ∷ l) = refl
drop_take (suc k) (suc n) (x ∷ l) = simp unary_clauses (drop_take k n l)

module _ (s : List ℕ) where
  -- the rest of the trimmed text past k bytes stands at `at`, up to that text's end
  pub cut : (at end k : ℕ) → at ≡ leading_white s + k → end ≡ text_end s → take (end - at) (drop at s) ≡ drop k (trim_ends s)
  cut at end k e f =
      let n : length (trim_ends s) - k ≡ end - at = omega arith in
      sym (ap (drop k) (sym (ends_are white s)) ∙ drop_take k (length (trim_ends s)) (drop (leading_white s) s)
      ∙ ap (take (length (trim_ends s) - k)) (drop-drop k (leading_white s) s)
      ∙ ap (λ m. take m (drop (leading_white s + k) s)) n ∙ ap (λ m. take (end - at) (drop m s)) (sym e))

  -- what stands past the `@`
  pub after_is : after_at s ≡ drop (sign_width (trim_ends s) + 1) (trim_ends s)
  after_is = ap (drop 1) (unsigned_is (trim_ends s)) ∙ drop-drop 1 (sign_width (trim_ends s)) (trim_ends s)

  -- the `@` is a byte of the trimmed text
  pub at_fits : is_named s ≡ true → sign_width (trim_ends s) + 1 ≤ length (trim_ends s)
  at_fits e =
      omega (arith, starts_some 64 (unsigned (trim_ends s)) e, ap length (unsigned_is (trim_ends s)), length-drop (sign_width (trim_ends s)) (trim_ends s))

  -- and the name's and the argument's places come in order
  pub past_fits : is_named s ≡ true → name_past s ≤ text_end s
  past_fits e =
      omega (arith, at_fits e, leading_fits in_name (after_at s), ap length after_is, length-drop (sign_width (trim_ends s) + 1) (trim_ends s))

  -- the name
  pub name_stands : take (name_length (after_at s)) (drop (name_place s) s) ≡ name_of (after_at s)
  name_stands =
      let w = sign_width (trim_ends s) in
      let n = name_length (after_at s) in
      let c = cut (name_place s) (text_end s) (w + 1) (omega arith) refl ∙ sym after_is in
      let h : n ≤ text_end s - name_place s = omega (arith, leading_fits in_name (after_at s), ap length after_is, length-drop (w + 1) (trim_ends s)) in
      sym (take-take n (text_end s - name_place s) (drop (name_place s) s) h) ∙ ap (take n) c

  -- past the name, and past the whitespace after it
  pub tail_is : after_name (after_at s) ≡ drop (sign_width (trim_ends s) + 1 + name_length (after_at s)) (trim_ends s)
  tail_is =
      ap (drop (name_length (after_at s))) after_is ∙ drop-drop (name_length (after_at s)) (sign_width (trim_ends s) + 1) (trim_ends s)

  -- the argument by whether a name is written
  abbrev pub argument_text : Bool → List ℕ
  argument_text b = pick b (trim_start (after_name (after_at s))) (unsigned (trim_ends s))

  argument_cut : (b : Bool)
      → take (text_end s - pick b (name_past s + leading_white (after_name (after_at s))) (body_place s))
      (drop (pick b (name_past s + leading_white (after_name (after_at s))) (body_place s)) s)
      ≡ argument_text b
  argument_cut false = cut (body_place s) (text_end s) (sign_width (trim_ends s)) refl refl ∙ sym (unsigned_is (trim_ends s))
  argument_cut true =
      let k = sign_width (trim_ends s) + 1 + name_length (after_at s) in
      let g = leading_white (after_name (after_at s)) in
      cut (name_past s + g) (text_end s) (k + g) (omega arith) refl
      ∙ sym (start_is white (after_name (after_at s)) ∙ ap (drop g) tail_is ∙ drop-drop g k (trim_ends s))

  pub argument_stands : take (text_end s - argument_place s) (drop (argument_place s) s) ≡ argument_text (is_named s)
  argument_stands = argument_cut (is_named s)

  pub argument_fits : argument_place s ≤ text_end s
  argument_fits = go (is_named s) refl
    where
      go : (b : Bool) → is_named s ≡ b → pick b (name_past s + leading_white (after_name (after_at s))) (body_place s) ≤ text_end s
      go false e = omega (arith, sign_fits (trim_ends s))
      go true e =
          let k = sign_width (trim_ends s) + 1 + name_length (after_at s) in
          omega (arith, past_fits e, leading_fits white (after_name (after_at s)), ap length tail_is, length-drop k (trim_ends s))

  -- the argument ends where the trimmed text does
  pub argument_ends : argument_place s + length (argument_text (is_named s)) ≡ text_end s
  argument_ends =
      omega (
        arith,
        ap length argument_stands,
        argument_fits,
        ends_fit white s,
        length-drop (argument_place s) s,
        length-take-le (text_end s - argument_place s) (drop (argument_place s) s) (omega (arith, ends_fit white s, length-drop (argument_place s) s)),
      )

  -- so that its place and its own length cut it out
  pub argument_at : take (length (argument_text (is_named s))) (drop (argument_place s) s) ≡ argument_text (is_named s)
  argument_at =
      let n : length (argument_text (is_named s)) ≡ text_end s - argument_place s = omega (arith, argument_ends) in
      ap (λ (k : ℕ). take k (drop (argument_place s) s)) n ∙ argument_stands
