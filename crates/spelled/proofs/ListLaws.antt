-- A list that passes the condition is read back from its spelling.
use mathlib.Core.Path.{◌≡◌, ◌∙◌, refl, sym, ap, subst}
use mathlib.Core.Bool.{true, false}
use mathlib.Core.List.{List, [], ◌∷◌, map, append-nil}
use Prim.Native.Nat.{ℕ, ◌<◌}
use native.Mathlib.Omega.{arith}
use lib.ListN.{length, length-append}
use borrow.Author.Tests.{ltb-true}
use Rattle.ascii.specs.Choice.{and}
use Rattle.ascii.specs.Classes.{white}
use Rattle.ascii.specs.Fold.{lowered}
use Rattle.ascii.specs.Trim.{strip_end, trim_ends}
use Rattle.ascii.proofs.TestLaws.{apart, both}
use Rattle.records.specs.Actions.{Slot, absent, present, Action}
use Rattle.single_action.specs.Table.{Row}
use Rattle.actions.specs.Pieces.{outside}
use Rattle.listing.specs.Json.{joined}
use Rattle.spelled.specs.Spelling.{with_argument, argument, spell, spell_all}
use Rattle.spelled.specs.Condition.{first_by, last_by, fits, steady, solid, uncut, nest_past, clean, stays, written}
use Rattle.spelled.proofs.TestLaws.{denied}
use Rattle.spelled.proofs.BareLaws.{piece_texts, Read, Accepted, read_accepted}
use Rattle.spelled.proofs.CutLaws.{Kept, Standing, clean_outside, pieces_joined}
use Rattle.spelled.proofs.SteadyLaws.{AllSteady, normalised_steady, steady_joined}
use Rattle.spelled.proofs.TextLaws.{start_alone, end_alone}
use Rattle.spelled.proofs.RowLaws.{Facts}
use Rattle.spelled.proofs.SingleLaws.{Spelt, shift, rowed, unspelt, spelt, single_back}

-- ---- a spelling is a piece

row_first : (r : Row) → Facts r → (s : Slot) → first_by white (with_argument (lowered r.name) s) ≡ false
row_first r f absent = rw (← append-nil (lowered r.name)) (f.first [])
row_first r f (present t) = f.first (58 ∷ t)

row_some : (r : Row) → Facts r → (s : Slot) → 0 < length (with_argument (lowered r.name) s)
row_some r f absent = ltb-true 0 (length (lowered r.name)) f.some
row_some r f (present t) = omega (arith, length-append (lowered r.name) (58 ∷ t))

-- no spelling begins with whitespace
pub spelt_first : (x : Action) → first_by white (spell x) ≡ false
unfolding white
spelt_first x = go (spelt x)
  where
    go : Spelt x → first_by white (spell x) ≡ false
    go (shift e s) = rw s
    go (rowed r f k e g s) = rw s (row_first r f (argument r.rule x))
    go (unspelt e g s) = rw s

pub spelt_trimmed : (x : Action) → solid (spell x) ≡ true → trim_ends (spell x) ≡ spell x
spelt_trimmed x h =
    ap (strip_end white) (start_alone white (spell x) (spelt_first x))
    ∙ end_alone white (spell x) (denied (last_by white false (spell x)) h)

spelt_some : (x : Action) → fits x ≡ true → 0 < length (spell x)
unfolding fits
spelt_some x h = go (spelt x)
  where
    go : Spelt x → 0 < length (spell x)
    go (shift e s) = rw s (omega arith)
    go (rowed r f k e g s) = rw s (row_some r f (argument r.rule x))
    go (unspelt e g s) = absurd (apart (rw (e, g) at h) refl)

-- ---- one of a list

pub record Staying (x : Action) : Type 0 where
  pub fit : fits x ≡ true
  pub steadily : steady (spell x) ≡ true
  pub solidly : solid (spell x) ≡ true
  pub whole : uncut outside (spell x) ≡ true

pub staying : (x : Action) → stays x ≡ true → Staying x
unfolding stays
staying x h =
    let p = both (fits x) (and (steady (spell x)) (and (solid (spell x)) (uncut outside (spell x)))) h in
    let q = both (steady (spell x)) (and (solid (spell x)) (uncut outside (spell x))) p.1 in
    let r = both (solid (spell x)) (uncut outside (spell x)) q.1 in
    record { fit = p.0; steadily = q.0; solidly = r.0; whole = r.1 }

piece : (x : Action) → Staying x → Kept (spell x)
piece x s = record { some = spelt_some x s.fit; trimmed = spelt_trimmed x s.solidly }

-- ---- the list

abbrev Each : List Action → Type 0
Each [] = Unit {0}
Each (x ∷ xs) = Staying x × Each xs

record Walked (xs : List Action) : Type 0 where
  each : Each xs
  standing : Standing (map spell xs)

walked : (xs : List Action) → written xs ≡ true → Walked xs
unfolding written
walked [] h = record { each = tt; standing = tt }
walked (x ∷ []) h = let s = staying x h in record { each = (s, tt); standing = (piece x s, s.whole) }
walked (x ∷ y ∷ r) h =
    let p = both (stays x) (and (clean (nest_past outside (spell x))) (written (y ∷ r))) h in
    let q = both (clean (nest_past outside (spell x))) (written (y ∷ r)) p.1 in
    let s = staying x p.0 in
    let w = walked (y ∷ r) q.1 in
    record { each = (s, w.each); standing = (piece x s, s.whole, clean_outside (nest_past outside (spell x)) q.0, w.standing) }

each_steady : (xs : List Action) → Each xs → AllSteady (map spell xs)
each_steady [] h = tt
each_steady (x ∷ xs) h = (h.0.steadily, each_steady xs h.1)

each_back : (xs : List Action) → Each xs → Read (map spell xs) xs
each_back [] h = tt
each_back (x ∷ xs) h = (single_back x h.0.fit, each_back xs h.1)

pub list_back : (xs : List Action) → written xs ≡ true → Accepted (spell_all xs) xs
unfolding spell_all
list_back xs h =
    let w = walked xs h in
    let s = joined (map spell xs) in
    let n = normalised_steady s (steady_joined (map spell xs) (each_steady xs w.each)) in
    read_accepted s xs
    (subst (λ (ps : List (List ℕ)). Read ps xs) (sym (ap piece_texts n ∙ pieces_joined (map spell xs) w.standing)) (each_back xs w.each))
