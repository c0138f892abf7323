-- Normalising: the text is never longer than the input, and what one byte does in a loop over `drop i s`.
-- A byte pays for one byte of text; a backslash that is held back has paid for itself.
use mathlib.Core.Path.{◌≡◌}
use mathlib.Core.Bool.{Bool, true, false}
use mathlib.Core.List.{List, [], ◌∷◌, ◌++◌}
use Prim.Native.Nat.{ℕ, ◌+◌, ◌≤◌, ◌<◌}
use native.Mathlib.Omega.{arith}
use lib.ListN.{length, drop, get_or, length-append, drop_of_length-le}
use lib.Dec.{eqb}
use Rattle.ascii.specs.Choice.{pick}
use Rattle.ascii.proofs.ListLaws.{next_byte}
use Rattle.places.specs.Tables.{skipped}
use Rattle.actions.specs.Normal.{Mode, plain, held, after_cr, margin, mode_after, text_given, text_held, normalised_from, normalised}

-- ---- the length

plain_paid : (t : Bool) (b : ℕ) → length (pick t [] (b ∷ [])) + length (text_held (pick t held plain)) ≤ 1
unfolding text_held
plain_paid true b = omega arith
plain_paid false b = omega arith

margin_paid : (t u : Bool) (b : ℕ) → length (pick t [] (pick u [] (b ∷ []))) + length (text_held (pick t margin (pick u held plain))) ≤ 1
unfolding text_held
margin_paid true u b = omega arith
margin_paid false u b = plain_paid u b

after_paid : (t u v : Bool) (b : ℕ)
    → length (pick t [] (pick u [] (pick v [] (b ∷ [])))) + length (text_held (pick t margin (pick u margin (pick v held plain)))) ≤ 1
unfolding text_held
after_paid true u v b = omega arith
after_paid false u v b = margin_paid u v b

held_paid : (t u v : Bool) (b : ℕ)
    → length (pick t [] (pick u [] (92 ∷ pick v [] (b ∷ [])))) + length (text_held (pick t margin (pick u after_cr (pick v held plain)))) ≤ 2
unfolding text_held
held_paid true u v b = omega arith
held_paid false true v b = omega arith
held_paid false false v b = omega (arith, plain_paid v b)

-- the text of one byte and what is then held back, within what was held back and the byte
pub byte_paid : (m : Mode) (b : ℕ) → length (text_given m b) + length (text_held (mode_after m b)) ≤ length (text_held m) + 1
unfolding text_given mode_after text_held
byte_paid plain b = plain_paid (eqb b 92) b
byte_paid held b = held_paid (eqb b 10) (eqb b 13) (eqb b 92) b
byte_paid after_cr b = after_paid (eqb b 10) (skipped b) (eqb b 92) b
byte_paid margin b = margin_paid (skipped b) (eqb b 92) b

pub from_length : (m : Mode) (s : List ℕ) → length (normalised_from m s) ≤ length (text_held m) + length s
unfolding normalised_from
from_length m [] = omega arith
from_length m (b ∷ r) =
    omega (arith, byte_paid m b, from_length (mode_after m b) r, length-append (text_given m b) (normalised_from (mode_after m b) r))

pub normalised_length : (s : List ℕ) → length (normalised s) ≤ length s
unfolding normalised text_held
normalised_length s = omega (arith, from_length plain s)

-- ---- one byte

module _ (m : Mode) (s : List ℕ) (i : ℕ) where
  pub normal_next : i < length s → normalised_from m (drop i s) ≡ text_given m (get_or s i 0) ++ normalised_from (mode_after m (get_or s i 0)) (drop (i + 1) s)
  unfolding normalised_from
  normal_next h = rw (next_byte s i)

  pub normal_end : length s ≤ i → normalised_from m (drop i s) ≡ text_held m
  unfolding normalised_from
  normal_end h = rw (drop_of_length-le s h)
