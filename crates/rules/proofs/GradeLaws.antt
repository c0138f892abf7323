-- The loop of `grade`: what a record does to the grade still to be given, by whether an id was passed.
use mathlib.Core.Path.{◌≡◌, refl}
use mathlib.Core.Bool.{Bool, true, false}
use mathlib.Core.List.{List, [], ◌++◌}
use mathlib.Core.Logic.{◌≢◌}
use Prim.Native.Nat.{ℕ, ◌+◌, ◌<◌}
use native.Mathlib.Omega.{arith}
use native.Mathlib.Nat.{zero-add}
use lib.ListN.{length, get_or}
use lib.Dec.{leb}
use borrow.Author.Tests.{eq-eqb, ne_eqb, lt-leb}
use Rattle.ascii.specs.Choice.{and}
use Rattle.lent.specs.Sizes.{action_words}
use Rattle.rules.specs.Entries.{Entry, entries, id_code}
use Rattle.rules.specs.Grades.{fine, all_fine, ids, grades}
use Rattle.rules.proofs.EntryLaws.{entries_joined, entries_none}

-- how many ids were passed: more than one is refused at once
abbrev pub passed : Bool → ℕ
passed true = 1
passed false = 0

-- the grade of what is left
unfoldable pub ahead : Bool → List Entry → Bool
ahead named es = and (all_fine es) (leb (passed named + ids es) 1)

pub grade_begun : (es : List Entry) → grades es ≡ ahead false es
unfolding grades ahead
grade_begun es = rw zero-add

and_false : (t : Bool) → and t false ≡ false
and_false true = refl
and_false false = refl

module _ (x r : List ℕ) (h : length x ≡ action_words) where
  pub unfit : (named : Bool) → fine (get_or x 0 0) (get_or x 1 0) ≡ false → ahead named (entries (x ++ r)) ≡ false
  unfolding all_fine ahead
  unfit named f = rw (entries_joined x r h, f)

  module _ (f : fine (get_or x 0 0) (get_or x 1 0) ≡ true) where
    pub second : get_or x 0 0 ≡ id_code → ahead true (entries (x ++ r)) ≡ false
    unfolding all_fine ids ahead
    second e = rw (entries_joined x r h, f, eq-eqb (get_or x 0 0) id_code e, lt-leb (1 + (1 + ids (entries r))) 1 (omega arith)) (and_false (all_fine (entries r)))

    pub turned_id : get_or x 0 0 ≡ id_code → ahead false (entries (x ++ r)) ≡ ahead true (entries r)
    unfolding all_fine ids ahead
    turned_id e = rw (entries_joined x r h, f, eq-eqb (get_or x 0 0) id_code e, zero-add)

    pub turned_other : (named : Bool) → get_or x 0 0 ≢ id_code → ahead named (entries (x ++ r)) ≡ ahead named (entries r)
    unfolding all_fine ids ahead
    turned_other named e = rw (entries_joined x r h, f, ne_eqb (get_or x 0 0) id_code e, zero-add)

pub grade_ended : (named : Bool) (r : List ℕ) → length r < action_words → ahead named (entries r) ≡ true
unfolding all_fine ids ahead
grade_ended named r h = rw (entries_none r h) (go named)
  where
    go : (n : Bool) → ahead n [] ≡ true
    go true = refl
    go false = refl

pub ruleset graded = (grade_begun, unfit, second, turned_id, turned_other, grade_ended)
