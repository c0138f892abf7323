-- What a loop over names of one length comes to: what is left of them decides.
use Rattle.std.specs.Prelude.{Option, Some, None}
use mathlib.Core.Path.{◌≡◌, ap}
use mathlib.Core.Bool.{true, false}
use mathlib.Core.List.{List, [], ◌∷◌}
use Prim.Native.Nat.{ℕ, zero, suc, ◌+◌, ◌<◌, ◌≤◌}
use native.Mathlib.Nat.{le_of_suc-le-suc, not-suc-le-zero}
use native.Mathlib.Numerals.{add-one}
use lib.ListN.{length, take, drop, get_or, length-map, drop_of_length-le}
use lib.Seq.{drop-cons}
use lib.Dec.{leb, ltb}
use borrow.Author.Tests.{leb-true, ltb-true}
use Rattle.ascii.specs.Choice.{pick}
use Rattle.ascii.specs.Fold.{same}
use Rattle.ascii.proofs.TestLaws.{both}
use Rattle.names.specs.Tables.{Row, row, find, name_at, code_at}
use Rattle.names.specs.Runs.{parts, parts_fit, fronts, fronts_fit}
use Rattle.names.proofs.TableLaws.{get_d_map}

-- what the names from the k-th on give
abbrev pub left : List Row → List ℕ → ℕ → Option ℕ
left table name k = find (drop k table) name

module _ (table : List Row) (name : List ℕ) (k : ℕ) where
  step : k < length table → left table name k ≡ pick (same (name_at table k) name) (Some (code_at table k)) (left table name (k + 1))
  unfolding find
  step h = rw (drop-cons table k (row "" 0) h, add-one k)

  pub found : k < length table → same (name_at table k) name ≡ true → Some (code_at table k) ≡ left table name k
  found h e = rw (step h, e)

  pub passed : k < length table → same (name_at table k) name ≡ false → left table name (k + 1) ≡ left table name k
  passed h e = rw (step h, e)

  pub none_left : length table ≤ k → None ≡ left table name k
  unfolding find
  none_left h = rw (drop_of_length-le table h)

-- ---- parts of a run

pub part_fits : (n long : ℕ) (places : List (ℕ × ℕ)) → parts_fit n long places ≡ true → (k : ℕ) → k < length places → (get_or places k (0, 0)).0 + n ≤ long
unfolding parts_fit
part_fits n long [] t k h = absurd (not-suc-le-zero h)
part_fits n long (p ∷ places) t zero h = leb-true _ _ (both (leb (p.0 + n) long) (parts_fit n long places) t).0
part_fits n long (p ∷ places) t (suc k) h = part_fits n long places (both (leb (p.0 + n) long) (parts_fit n long places) t).1 k (le_of_suc-le-suc h)

pub parts_width : (n long : ℕ) (places : List (ℕ × ℕ)) → parts_fit n long places ≡ true → (0 < n) × (n ≤ 32)
unfolding parts_fit
parts_width n long [] t = let b = both (leb 1 n) (leb n 32) t in (leb-true 1 n b.0, leb-true n 32 b.1)
parts_width n long (p ∷ places) t = parts_width n long places (both (leb (p.0 + n) long) (parts_fit n long places) t).1

module _ (n : ℕ) (run : List ℕ) (places : List (ℕ × ℕ)) where
  pub parts_length : length (parts n run places) ≡ length places
  unfolding parts
  parts_length = length-map places (λ (p : ℕ × ℕ). record { name = take n (drop p.0 run); code = p.1 })

  pub part_at : (k : ℕ) → k < length places → (name_at (parts n run places) k ≡ take n (drop (get_or places k (0, 0)).0 run)) × (code_at (parts n run places) k ≡ (get_or places k (0, 0)).1)
  unfolding parts
  part_at k h =
      let e = get_d_map (λ (p : ℕ × ℕ). record { name = take n (drop p.0 run); code = p.1 }) places k (0, 0) (row "" 0) h in
      (ap (λ (r : Row). r.name) e, ap (λ (r : Row). r.code) e)

-- ---- fronts of rows

pub row_fits : (n count : ℕ) (listed : List ℕ) → fronts_fit n count listed ≡ true → (k : ℕ) → k < length listed → get_or listed k 0 < count
unfolding fronts_fit
row_fits n count [] t k h = absurd (not-suc-le-zero h)
row_fits n count (r ∷ listed) t zero h = ltb-true r count (both (ltb r count) (fronts_fit n count listed) t).0
row_fits n count (r ∷ listed) t (suc k) h = row_fits n count listed (both (ltb r count) (fronts_fit n count listed) t).1 k (le_of_suc-le-suc h)

pub fronts_width : (n count : ℕ) (listed : List ℕ) → fronts_fit n count listed ≡ true → (0 < n) × (n ≤ 20)
unfolding fronts_fit
fronts_width n count [] t = let b = both (leb 1 n) (leb n 20) t in (leb-true 1 n b.0, leb-true n 20 b.1)
fronts_width n count (r ∷ listed) t = fronts_width n count listed (both (ltb r count) (fronts_fit n count listed) t).1

module _ (n : ℕ) (rows : List (List ℕ)) (listed : List ℕ) where
  pub fronts_length : length (fronts n rows listed) ≡ length listed
  unfolding fronts
  fronts_length = length-map listed (λ (k : ℕ). record { name = take n (get_or rows k []); code = k })

  pub front_at : (k : ℕ) → k < length listed → (name_at (fronts n rows listed) k ≡ take n (get_or rows (get_or listed k 0) [])) × (code_at (fronts n rows listed) k ≡ get_or listed k 0)
  unfolding fronts
  front_at k h =
      let e = get_d_map (λ (r : ℕ). record { name = take n (get_or rows r []); code = r }) listed k 0 (row "" 0) h in
      (ap (λ (r : Row). r.name) e, ap (λ (r : Row). r.code) e)
