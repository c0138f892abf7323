-- Runs put behind a byte, and a signed amount by its two forms.
use mathlib.Core.Path.{◌≡◌, ◌∙◌, subst}
use mathlib.Core.List.{List, ◌∷◌}
use Prim.Native.Nat.{ℕ, ◌+◌, ◌-◌, ◌≤◌, ◌<◌}
use native.Mathlib.Omega.{arith}
use lib.ListN.{length, take, drop, length-drop}
use lib.Seq.{take_all}
use borrow.Author.Tests.{lt-ltb, le-ltb}
use Rattle.listing.specs.Json.{decimal}
use Rattle.listing.specs.Steps.{Puts}
use Rattle.spelled.specs.Spelling.{signed}

-- a byte and the part of s from i on, as the code makes it
pub put_behind : {old new : List ℕ} {at next : ℕ} (b : ℕ) (s : List ℕ) (i n : ℕ) (xs : List ℕ) → length s ≤ i + n → drop i s ≡ xs →
    Puts old new at next (b ∷ take n (drop i s)) → Puts old new at next (b ∷ xs)
put_behind {old} {new} {at} {next} b s i n xs h e p =
    let w : take n (drop i s) ≡ xs = take_all n (drop i s) (rw length-drop (omega arith)) ∙ e in
    subst (λ (t : List ℕ). Puts old new at next (b ∷ t)) w p

pub signed_low : (n : ℕ) → n ≤ 9223372036854775807 → signed n ≡ decimal n
unfolding signed
signed_low n h = rw (lt-ltb n 9223372036854775808 (omega arith))

pub signed_high : (n : ℕ) → 9223372036854775807 < n → n ≤ 18446744073709551615 → signed n ≡ 45 ∷ decimal (18446744073709551615 - n + 1)
unfolding signed
signed_high n h k =
    let e : 18446744073709551616 - n ≡ 18446744073709551615 - n + 1 = omega arith in
    rw (le-ltb n 9223372036854775808 (omega arith), e)
