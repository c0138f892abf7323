-- The run of variable names: one computed test shows that it ascends, and two that it holds VARIABLE_MAP; so those of one length do too.
use Rattle.std.specs.Prelude.{Option}
use mathlib.Core.Path.{◌≡◌, ◌∙◌, refl, sym, ap, ap₂}
use mathlib.Core.Bool.{Bool, true, false}
use mathlib.Core.List.{List, [], ◌∷◌}
use Prim.Native.Nat.{ℕ, zero, suc, ◌+◌, ◌-◌, ◌<◌, ◌≤◌}
use native.Mathlib.Omega.{arith}
use lib.ListN.{length, get_or, take, drop, length-drop, length-map}
use lib.Seq.{length-take-le}
use lib.Dec.{eqb, leb}
use borrow.Author.Tests.{eqb-true, leb-true, ne_eqb}
use Rattle.ascii.specs.Choice.{pick, or}
use Rattle.ascii.specs.Text.{bytes}
use Rattle.ascii.specs.Fold.{same, upper, uppered}
use Rattle.names.specs.Tables.{Row, find, answered}
use Rattle.names.specs.Sorted.{precedes, part_at, Ascending}
use Rattle.names.specs.Run.{run, starts, codes}
use Rattle.names.specs.Runs.{parts, parts_fit, PartsFit, AmongParts}
use Rattle.names.specs.Variables.{variables, variable_code}
use Rattle.names.proofs.Tests.{every, at}
use Rattle.names.proofs.TableLaws.{agree, tabulate}
use Rattle.names.proofs.OrderLaws.{distinct}
use Rattle.names.proofs.LengthLaws.{of_length, by_length}

forward : ℕ → Bool
forward k = leb (get_or starts k 0) (get_or starts (k + 1) 0)

within : ℕ → Bool
within k = leb (get_or starts (k + 1) 0) (length run)

rises : ℕ → Bool
rises k = precedes (part_at run starts k) (part_at run starts (k + 1))

all_forward : every forward 76 ≡ true
unfolding every forward starts
all_forward = refl

all_within : every within 76 ≡ true
unfolding every within starts run bytes
all_within = refl

-- the run is strictly ascending: each name is compared with the next
ascends : every rises 75 ≡ true
unfolding every rises precedes part_at run starts bytes
ascends = refl

pub ascending : Ascending run starts
ascending = record {
  begins = unfold starts in refl;
  forward = λ k h. leb-true _ _ (unfold forward in at forward 76 all_forward k h);
  ends = unfold starts run bytes in refl;
  rising = λ k h. unfold rises in at rises 75 ascends k h;
}

-- so the names are distinct
pub variables_distinct : (i j : ℕ) → i < j → j < 76 → part_at run starts i ≡ part_at run starts j → ⊥
variables_distinct = distinct run starts ascending

-- ---- what the run holds

held : ℕ → Row
held k = record { name = part_at run starts k; code = get_or codes k 0 }

table : List Row
table = tabulate held 0 76

-- each row of the run's table is found in VARIABLE_MAP with its code, and each of VARIABLE_MAP in the run's
held_found : answered (find variables) table ≡ true
unfolding answered table tabulate held part_at run starts codes variables bytes find same
held_found = refl

map_found : answered (find table) variables ≡ true
unfolding answered table tabulate held part_at run starts codes variables bytes find same
map_found = refl

-- ---- its names of one length

width : ℕ → ℕ
width k = get_or starts (k + 1) 0 - get_or starts k 0

-- where each of m names from k on stands, and its code, if it has n bytes
chosen : ℕ → ℕ → ℕ → List (ℕ × ℕ)
chosen n k zero = []
chosen n k (suc m) = pick (eqb (width k) n) ((get_or starts k 0, get_or codes k 0) ∷ chosen n (suc k) m) (chosen n (suc k) m)

-- where the names of n bytes stand, in the run's order, and their codes
unfoldable pub parts_of : ℕ → List (ℕ × ℕ)
unfolding chosen width starts codes
parts_of n = chosen n 0 76

part_long : (k : ℕ) → k < 76 → length (part_at run starts k) ≡ width k
unfolding part_at width within
part_long k h =
    let l = leb-true (get_or starts k 0) (get_or starts (k + 1) 0) (unfold forward in at forward 76 all_forward k h) in
    let m = leb-true (get_or starts (k + 1) 0) (length run) (at within 76 all_within k h) in
    length-take-le (get_or starts (k + 1) 0 - get_or starts k 0) (drop (get_or starts k 0) run) (rw (length-drop (get_or starts k 0) run) (omega arith))

parts_are : (n k m : ℕ) → k + m ≤ 76 → parts n run (chosen n k m) ≡ of_length n (tabulate held k m)
unfolding chosen width parts of_length tabulate held part_at
parts_are n k zero h = refl
parts_are n k (suc m) h = rw (part_long k (omega arith)) (go (eqb (width k) n) refl (parts_are n (suc k) m (omega arith)))
  where
    others : List Row
    others = of_length n (tabulate held (suc k) m)

    go : (t : Bool) → eqb (width k) n ≡ t → parts n run (chosen n (suc k) m) ≡ others
        → parts n run (pick t ((get_or starts k 0, get_or codes k 0) ∷ chosen n (suc k) m) (chosen n (suc k) m)) ≡ pick t (held k ∷ others) others
    go true p q =
        ap₂ (λ (w : ℕ) (rows : List Row). record { name = take w (drop (get_or starts k 0) run); code = get_or codes k 0 } ∷ rows) (sym (eqb-true (width k) n p)) q
    go false p q = q

-- each length's parts are within the run
fitting : ℕ → Bool
fitting n = or (eqb n 0) (parts_fit n 950 (parts_of n))

all_fitting : every fitting 33 ≡ true
unfolding every fitting parts_fit parts_of
all_fitting = refl

run_length : length run ≡ 950
unfolding run bytes
run_length = refl

pub variables_fit : {r : List ℕ} (n : ℕ) → r ≡ run → 0 < n → n < 33 → PartsFit n r (parts_of n)
unfolding fitting
variables_fit n e z h = record {
  fit = rw (e, run_length) (rw (ne_eqb n 0 (λ q. omega arith)) at (at fitting 33 all_fitting n h));
}

pub of_variables : {r name : List ℕ} {x : Option ℕ} (n : ℕ) → r ≡ run → AmongParts n r (parts_of n) name x → length name ≡ n → x ≡ variable_code name
unfolding parts_of variable_code table
of_variables {r} {name} n e p l =
    p.found ∙ ap (λ (s : List ℕ). find (parts n s (parts_of n)) (uppered name)) e
    ∙ ap (λ (rows : List Row). find rows (uppered name)) (parts_are n 0 76 (omega arith))
    ∙ by_length n table (uppered name) (length-map name upper ∙ l)
    ∙ agree table variables held_found map_found (uppered name)
