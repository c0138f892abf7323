-- Worked cases, the edges of document 02 first: the answer's number and values, and the words afterwards.
use Rattle.std.specs.Prelude.{◌≡◌, refl, ℕ, List, [], ◌∷◌, Some, None}
use Rattle.lent.specs.Table.{Given, given}
use Rattle.lent.specs.Sizes.{room_for}
use Rattle.rules.specs.Entries.{entries_of, entries, first_of}
use Rattle.rules.specs.declared.selecting.RuleIdSelector.{RuleIdSelector}
use Rattle.rules.specs.declared.selecting.RuleIdSelector.TheVariants.{Single, Range}
use Rattle.index.specs.Standing.{Rule, from, line_of, insert, entered, afresh, without}
use Rattle.index.specs.Histories.{Event, accepted, removed, refused, removed_in, standing}
use Rattle.index.specs.Words.{pairs, laid, places_in, rules_of, rules_in, all_zero, sound}
use Rattle.index.specs.Promises.{added_given, removed_given, add_answer, add_leaves, remove_answer, remove_leaves}

-- what a call shows
pub record Shown : Type 0 where
  pub answer : Given
  pub left : List ℕ

abbrev pub shown : ℕ → List ℕ → List ℕ → Shown
shown n values left = record { answer = given n values; left = left }

unfoldable pub add : List ℕ → List ℕ → ℕ → Shown
unfolding add_answer add_leaves sound rules_in rules_of laid pairs places_in all_zero from line_of insert first_of entries entries_of room_for
add s actions line = record { answer = added_given (add_answer s actions line); left = add_leaves s actions line }

unfoldable pub remove : List ℕ → RuleIdSelector → Shown
unfolding remove_answer remove_leaves sound rules_in rules_of laid pairs places_in all_zero from without
remove s selector = record { answer = removed_given (remove_answer s selector); left = remove_leaves s selector }

-- the record of an id
abbrev pub of_id : ℕ → List ℕ
of_id id = 11 ∷ id ∷ 0 ∷ 0 ∷ 0 ∷ 0 ∷ 0 ∷ []

-- no places

no_places : add (0 ∷ []) (of_id 7) 4 ≡ shown 17 (0 ∷ []) (0 ∷ [])
unfolding add
no_places = refl

no_places_two : add (0 ∷ 0 ∷ []) (of_id 7) 4 ≡ shown 17 (0 ∷ []) (0 ∷ 0 ∷ [])
unfolding add
no_places_two = refl

no_id_no_place : add (0 ∷ []) [] 4 ≡ shown 0 (0 ∷ 0 ∷ []) (0 ∷ [])
unfolding add
no_id_no_place = refl

no_id_no_place_two : add (0 ∷ 0 ∷ []) [] 4 ≡ shown 0 (0 ∷ 0 ∷ []) (0 ∷ 0 ∷ [])
unfolding add
no_id_no_place_two = refl

-- no index

empty : add [] [] 4 ≡ shown 20 (0 ∷ []) []
unfolding add
empty = refl

left_over : add (0 ∷ 1 ∷ []) (of_id 7) 4 ≡ shown 20 (0 ∷ []) (0 ∷ 1 ∷ [])
unfolding add
left_over = refl

beyond : add (1 ∷ 7 ∷ 4 ∷ 0 ∷ 0 ∷ 9 ∷ []) (of_id 8) 4 ≡ shown 20 (0 ∷ []) (1 ∷ 7 ∷ 4 ∷ 0 ∷ 0 ∷ 9 ∷ [])
unfolding add
beyond = refl

twice : add (2 ∷ 5 ∷ 1 ∷ 5 ∷ 2 ∷ []) (of_id 8) 4 ≡ shown 20 (0 ∷ []) (2 ∷ 5 ∷ 1 ∷ 5 ∷ 2 ∷ [])
unfolding add
twice = refl

falling : add (2 ∷ 9 ∷ 1 ∷ 5 ∷ 2 ∷ []) (of_id 8) 4 ≡ shown 20 (0 ∷ []) (2 ∷ 9 ∷ 1 ∷ 5 ∷ 2 ∷ [])
unfolding add
falling = refl

count_past : add (2 ∷ 5 ∷ 1 ∷ []) (of_id 5) 4 ≡ shown 20 (0 ∷ []) (2 ∷ 5 ∷ 1 ∷ [])
unfolding add
count_past = refl

-- the id is there, though full; no place

there : add (1 ∷ 7 ∷ 4 ∷ []) (of_id 7) 9 ≡ shown 16 (4 ∷ []) (1 ∷ 7 ∷ 4 ∷ [])
unfolding add
there = refl

full_now : add (1 ∷ 7 ∷ 4 ∷ []) (of_id 9) 9 ≡ shown 17 (1 ∷ []) (1 ∷ 7 ∷ 4 ∷ [])
unfolding add
full_now = refl

-- entered: before, between, behind; 0 is an id; lines of any size

first_of_all : add (0 ∷ 0 ∷ 0 ∷ []) (of_id 0) 0 ≡ shown 0 (1 ∷ 1 ∷ []) (1 ∷ 0 ∷ 0 ∷ [])
unfolding add
first_of_all = refl

before : add (1 ∷ 7 ∷ 4 ∷ 0 ∷ 0 ∷ 0 ∷ []) (of_id 5) 18446744073709551615 ≡ shown 0 (1 ∷ 2 ∷ []) (2 ∷ 5 ∷ 18446744073709551615 ∷ 7 ∷ 4 ∷ 0 ∷ [])
unfolding add
before = refl

between : add (2 ∷ 5 ∷ 1 ∷ 9 ∷ 2 ∷ 0 ∷ 0 ∷ []) (of_id 7) 3 ≡ shown 0 (1 ∷ 3 ∷ []) (3 ∷ 5 ∷ 1 ∷ 7 ∷ 3 ∷ 9 ∷ 2 ∷ [])
unfolding add
between = refl

behind : add (1 ∷ 7 ∷ 4 ∷ 0 ∷ 0 ∷ []) (of_id 18446744073709551615) 3 ≡ shown 0 (1 ∷ 2 ∷ []) (2 ∷ 7 ∷ 4 ∷ 18446744073709551615 ∷ 3 ∷ [])
unfolding add
behind = refl

-- ids that differ above 31 bits and above 32 alone are two ids

past_31_bits : add (1 ∷ 7 ∷ 4 ∷ 0 ∷ 0 ∷ []) (of_id 2147483655) 9 ≡ shown 0 (1 ∷ 2 ∷ []) (2 ∷ 7 ∷ 4 ∷ 2147483655 ∷ 9 ∷ [])
unfolding add
past_31_bits = refl

past_32_bits : add (1 ∷ 7 ∷ 4 ∷ 0 ∷ 0 ∷ []) (of_id 4294967303) 9 ≡ shown 0 (1 ∷ 2 ∷ []) (2 ∷ 7 ∷ 4 ∷ 4294967303 ∷ 9 ∷ [])
unfolding add
past_32_bits = refl

largest_twice : add (1 ∷ 18446744073709551615 ∷ 4 ∷ 0 ∷ 0 ∷ []) (of_id 18446744073709551615) 9 ≡ shown 16 (4 ∷ []) (1 ∷ 18446744073709551615 ∷ 4 ∷ 0 ∷ 0 ∷ [])
unfolding add
largest_twice = refl

-- the first id; records of other codes passed over; six words are no record

first_id : add (0 ∷ 0 ∷ 0 ∷ []) (11 ∷ 9 ∷ 0 ∷ 0 ∷ 0 ∷ 0 ∷ 0 ∷ 11 ∷ 7 ∷ 0 ∷ 0 ∷ 0 ∷ 0 ∷ 0 ∷ []) 1 ≡ shown 0 (1 ∷ 1 ∷ []) (1 ∷ 9 ∷ 1 ∷ [])
unfolding add
first_id = refl

passed_over : add (0 ∷ 0 ∷ 0 ∷ []) (0 ∷ 3 ∷ 0 ∷ 0 ∷ 0 ∷ 0 ∷ 0 ∷ 33 ∷ 4 ∷ 0 ∷ 0 ∷ 0 ∷ 0 ∷ 0 ∷ 11 ∷ 7 ∷ 0 ∷ 0 ∷ 0 ∷ 0 ∷ 0 ∷ []) 1 ≡ shown 0 (1 ∷ 1 ∷ []) (1 ∷ 7 ∷ 1 ∷ [])
unfolding add
passed_over = refl

six_words : add (1 ∷ 5 ∷ 1 ∷ 0 ∷ 0 ∷ []) (11 ∷ 9 ∷ 0 ∷ 0 ∷ 0 ∷ 0 ∷ []) 1 ≡ shown 0 (0 ∷ 1 ∷ []) (1 ∷ 5 ∷ 1 ∷ 0 ∷ 0 ∷ [])
unfolding add
six_words = refl

-- removed: one id, a range with both its ends, a range the wrong way round, all, none

one : remove (2 ∷ 5 ∷ 1 ∷ 9 ∷ 2 ∷ []) (Single 5) ≡ shown 0 (1 ∷ 1 ∷ []) (1 ∷ 9 ∷ 2 ∷ 0 ∷ 0 ∷ [])
unfolding remove
one = refl

both_ends : remove (2 ∷ 5 ∷ 1 ∷ 9 ∷ 2 ∷ []) (Range 5 9) ≡ shown 0 (2 ∷ 0 ∷ []) (0 ∷ 0 ∷ 0 ∷ 0 ∷ 0 ∷ [])
unfolding remove
both_ends = refl

wrong_way : remove (2 ∷ 5 ∷ 1 ∷ 9 ∷ 2 ∷ []) (Range 9 5) ≡ shown 0 (0 ∷ 2 ∷ []) (2 ∷ 5 ∷ 1 ∷ 9 ∷ 2 ∷ [])
unfolding remove
wrong_way = refl

all : remove (2 ∷ 0 ∷ 1 ∷ 18446744073709551615 ∷ 2 ∷ []) (Range 0 18446744073709551615) ≡ shown 0 (2 ∷ 0 ∷ []) (0 ∷ 0 ∷ 0 ∷ 0 ∷ 0 ∷ [])
unfolding remove
all = refl

middle : remove (3 ∷ 5 ∷ 1 ∷ 7 ∷ 3 ∷ 9 ∷ 2 ∷ 0 ∷ []) (Single 7) ≡ shown 0 (1 ∷ 2 ∷ []) (2 ∷ 5 ∷ 1 ∷ 9 ∷ 2 ∷ 0 ∷ 0 ∷ 0 ∷ [])
unfolding remove
middle = refl

low_bits_alone : remove (1 ∷ 4294967303 ∷ 1 ∷ 0 ∷ []) (Single 7) ≡ shown 0 (0 ∷ 1 ∷ []) (1 ∷ 4294967303 ∷ 1 ∷ 0 ∷ [])
unfolding remove
low_bits_alone = refl

remove_broken : remove (0 ∷ 1 ∷ []) (Single 5) ≡ shown 20 (0 ∷ []) (0 ∷ 1 ∷ [])
unfolding remove
remove_broken = refl

-- full, one removed, another added: the words that the two rules give when they come the other way round

freed : remove (2 ∷ 5 ∷ 1 ∷ 9 ∷ 2 ∷ []) (Single 9) ≡ shown 0 (1 ∷ 1 ∷ []) (1 ∷ 5 ∷ 1 ∷ 0 ∷ 0 ∷ [])
unfolding remove
freed = refl

used_again : add (1 ∷ 5 ∷ 1 ∷ 0 ∷ 0 ∷ []) (of_id 3) 8 ≡ shown 0 (1 ∷ 2 ∷ []) (2 ∷ 3 ∷ 8 ∷ 5 ∷ 1 ∷ [])
unfolding add
used_again = refl

built_afresh : add (1 ∷ 3 ∷ 8 ∷ 0 ∷ 0 ∷ []) (of_id 5) 1 ≡ shown 0 (1 ∷ 2 ∷ []) (2 ∷ 3 ∷ 8 ∷ 5 ∷ 1 ∷ [])
unfolding add
built_afresh = refl

-- ---- which rules stand

unfoldable pub Stand : List Event → List Rule → List Rule → Type 0
unfolding removed_in standing entered insert
Stand h rs placed = (standing h ≡ rs) × (afresh rs ≡ placed)

-- rules 5, 9 and one without an id; 9 removed, and there again on another line; 5 once more, refused; 3 the last
pub again : Stand
    (accepted (Some 5) 1 ∷ accepted (Some 9) 2 ∷ accepted None 3 ∷ removed (Single 9) ∷ accepted (Some 9) 4 ∷ refused ∷ accepted (Some 3) 6 ∷ [])
    (record { id = 5; line = 1 } ∷ record { id = 9; line = 4 } ∷ record { id = 3; line = 6 } ∷ [])
    (record { id = 3; line = 6 } ∷ record { id = 5; line = 1 } ∷ record { id = 9; line = 4 } ∷ [])
unfolding Stand
again = (refl, refl)

-- a range takes both its ends, and nothing that comes later
pub since : Stand
    (accepted (Some 18446744073709551615) 1 ∷ accepted (Some 0) 2 ∷ removed (Range 0 18446744073709551615) ∷ accepted (Some 0) 3 ∷ [])
    (record { id = 0; line = 3 } ∷ [])
    (record { id = 0; line = 3 } ∷ [])
unfolding Stand
since = (refl, refl)
