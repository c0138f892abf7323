-- Worked calls of M-100, for 2.6, on memory that is not zero: 3 before any fault, 4 after all, and what is left.
use Rattle.std.specs.Prelude.{◌≡◌, refl, ℕ, List, [], ◌∷◌, replicate}
use Prim.Native.String.{String}
use Rattle.ascii.specs.Text.{bytes}
use Rattle.lent.specs.Sizes.{room_for, span_word}
use Rattle.lent.specs.Gates.{first_high, gate_of}
use Rattle.lent.specs.Table.{Given, given}
use Rattle.lent.specs.Buffers.{zeros, padded}
use Rattle.directives.specs.Versions.{TwoSix, directives_for}
use Rattle.directives.specs.Table.{given_by}
use Rattle.directives.specs.Promises.{directives_outcome, Lent, lent_of, outcome_on, left_by}
use Rattle.directives.specs.Cases.{Seen, Comes}

abbrev called : List ℕ → Lent → Seen
called s m = record { answer = given_by (outcome_on TwoSix s m); left = left_by (outcome_on TwoSix s m) m }

-- A call on buffers of sevens, of these lengths.
abbrev sevens : ℕ → ℕ → ℕ → ℕ → ℕ → Lent
sevens t k d v a = lent_of (replicate t 7) (replicate k 7) (replicate d 7) (replicate v 7) (replicate a 7)

unfoldable pub Calls : String → Lent → Given → Lent → Type 0
unfolding Comes room_for first_high gate_of directives_for directives_outcome
Calls s m g left = called (bytes s) m ≡ record { answer = g; left = left }

-- 11 bytes of text, or of scratch, for 12: nothing is touched
pub text_short : Calls "SecMarker ab" (sevens 11 12 0 0 0) (given 3 (0 ∷ [])) (sevens 11 12 0 0 0)
unfolding Calls
text_short = refl

pub scratch_short : Calls "SecMarker ab" (sevens 12 11 11 0 0) (given 3 (0 ∷ [])) (sevens 12 11 11 0 0)
unfolding Calls
scratch_short = refl

-- only variables lack room; all three counts are told, and all is zero
pub no_room : Calls "SecRule ARGS a deny" (sevens 19 19 11 5 7) (given 4 (1 ∷ 1 ∷ 1 ∷ [])) (lent_of (zeros 19) (zeros 19) (zeros 11) (zeros 5) (zeros 7))
unfolding Calls
no_room = refl

-- a fault comes before the room; the name stands in text, and all else is zero
pub room_last : Calls "SecAction deny,bogus" (sevens 21 20 1 1 1) (given 5 (1 ∷ 1 ∷ 5 ∷ span_word 15 5 ∷ [])) (lent_of (padded 21 (bytes "bogus")) (zeros 20) (zeros 1) (zeros 1) (zeros 1))
unfolding Calls
room_last = refl

-- on 8 and 13 to 15 all is zero
pub all_zero_lem : Calls "SecRule ARGS \"@x\" x" (sevens 19 19 2 0 1) (given 8 (1 ∷ 1 ∷ 1 ∷ span_word 15 1 ∷ [])) (lent_of (zeros 19) (zeros 19) (zeros 2) [] (zeros 1))
unfolding Calls
all_zero_lem = refl

pub stray_zero : Calls "x" (sevens 1 1 1 1 1) (given 14 (1 ∷ [])) (lent_of (zeros 1) (zeros 1) (zeros 1) (zeros 1) (zeros 1))
unfolding Calls
stray_zero = refl

-- room for exactly the records, and zeros beyond
pub exact : Calls "SecRule ARGS a deny" (sevens 20 19 12 6 7) (given 0 (1 ∷ 1 ∷ 1 ∷ 1 ∷ []))
    (lent_of (padded 20 (bytes "a")) (zeros 19) (1 ∷ 1 ∷ 19 ∷ 0 ∷ 0 ∷ 0 ∷ 1 ∷ 0 ∷ 1 ∷ 0 ∷ 1 ∷ 0 ∷ []) (1 ∷ 0 ∷ 0 ∷ 0 ∷ 0 ∷ span_word 8 4 ∷ []) (1 ∷ 0 ∷ 0 ∷ 0 ∷ 0 ∷ 0 ∷ span_word 15 4 ∷ []))
unfolding Calls
exact = refl

-- 15 comes before 4: nothing is asked of the room while reading stopped early
pub stop_first : Calls "SecAction deny\u{c}" (sevens 15 15 0 0 0) (given 15 (1 ∷ [])) (lent_of (zeros 15) (zeros 15) [] [] [])
unfolding Calls
stop_first = refl
