-- A table in zero-filled rows, a row's number being its code: the rows with a name of one length hold the table's names of it.
use Rattle.std.specs.Prelude.{Option}
use mathlib.Core.Path.{◌≡◌, ◌∙◌, refl, sym, ap}
use mathlib.Core.Bool.{Bool, true, false}
use mathlib.Core.List.{List, [], ◌∷◌, map}
use Prim.Native.Nat.{ℕ, suc, ◌+◌, ◌-◌, ◌<◌, ◌≤◌}
use native.Mathlib.Nat.{add-zero}
use native.Mathlib.Numerals.{add-one}
use native.Mathlib.Omega.{arith}
use lib.ListN.{length, take, drop, get_or, replicate, length-map}
use lib.Seq.{drop-drop, get_or-drop, take_at}
use lib.Dec.{eqb}
use borrow.Author.Tests.{eqb-true, le-leb, lt-ltb}
use Rattle.ascii.specs.Choice.{pick, and}
use Rattle.ascii.specs.Fold.{lower, lowered}
use Rattle.ascii.proofs.TestLaws.{both, joins}
use Rattle.names.specs.Tables.{Row, find}
use Rattle.names.specs.Shelves.{shelved, rows_of}
use Rattle.names.specs.Runs.{fronts, fronts_fit, FrontsFit, AmongFronts}
use Rattle.names.specs.Operators.{operators}
use Rattle.names.specs.Severities.{severities}
use Rattle.names.proofs.LengthLaws.{of_length, by_length}

behind : {A : Type 0} (k : ℕ) (xs : List A) (x : A) (ys : List A) → drop k xs ≡ x ∷ ys → drop (suc k) xs ≡ ys
behind k xs x ys e = let f = ap (drop 1) e in sym (drop-drop 1 k xs ∙ ap (λ (i : ℕ). drop i xs) (add-one k)) ∙ f

first : (k : ℕ) (xs : List (List ℕ)) (x : List ℕ) (ys : List (List ℕ)) → drop k xs ≡ x ∷ ys → get_or xs k [] ≡ x
first k xs x ys e =
    ap (λ (i : ℕ). get_or xs i []) (sym (add-zero k)) ∙ sym (get_or-drop k xs 0 []) ∙ ap (λ (l : List (List ℕ)). get_or l 0 []) e

-- the numbers of the rows that have a name of n bytes, counted from k on
unfoldable pub numbers_of : ℕ → ℕ → List Row → List ℕ
numbers_of n k [] = []
numbers_of n k (r ∷ rows) = pick (eqb (length r.name) n) (k ∷ numbers_of n (suc k) rows) (numbers_of n (suc k) rows)

-- a row's number is its code, and its name stands in a zero-filled row
unfoldable pub numbered : ℕ → List Row → Bool
numbered k [] = true
numbered k (r ∷ rows) = and (eqb r.code k) (numbered (suc k) rows)

front_is : (n : ℕ) (r : Row) → length r.name ≡ n → take n (shelved r.name) ≡ r.name
unfolding shelved
front_is n r e = take_at r.name (replicate (20 - length r.name) 0) n e

fronts_are : (n k : ℕ) (shelf : List (List ℕ)) (rows : List Row) → drop k shelf ≡ rows_of rows → numbered k rows ≡ true
    → fronts n shelf (numbers_of n k rows) ≡ of_length n rows
unfolding fronts numbers_of of_length numbered
fronts_are n k shelf [] e t = refl
fronts_are n k shelf (r ∷ rows) e t =
    go (eqb (length r.name) n) refl (fronts_are n (suc k) shelf rows (behind k shelf (shelved r.name) (rows_of rows) e) (both (eqb r.code k) (numbered (suc k) rows) t).1)
  where
    here : get_or shelf k [] ≡ shelved r.name
    here = first k shelf (shelved r.name) (rows_of rows) e

    code : r.code ≡ k
    code = eqb-true r.code k (both (eqb r.code k) (numbered (suc k) rows) t).0

    go : (b : Bool) → eqb (length r.name) n ≡ b
        → map (λ (i : ℕ). record { name = take n (get_or shelf i []); code = i }) (numbers_of n (suc k) rows) ≡ of_length n rows
        → map (λ (i : ℕ). record { name = take n (get_or shelf i []); code = i }) (pick b (k ∷ numbers_of n (suc k) rows) (numbers_of n (suc k) rows)) ≡ pick b (r ∷ of_length n rows) (of_length n rows)
    go true p q = rw (q, here, front_is n r (eqb-true (length r.name) n p), sym code)
    go false p q = q

numbers_fit : (n count k : ℕ) (rows : List Row) → 0 < n → n ≤ 20 → k + length rows ≤ count → fronts_fit n count (numbers_of n k rows) ≡ true
unfolding fronts_fit numbers_of
numbers_fit n count k [] a b h = joins (le-leb 1 n a) (le-leb n 20 b)
numbers_fit n count k (r ∷ rows) a b h = go (eqb (length r.name) n) (numbers_fit n count (suc k) rows a b (omega arith))
  where
    go : (t : Bool) → fronts_fit n count (numbers_of n (suc k) rows) ≡ true
        → fronts_fit n count (pick t (k ∷ numbers_of n (suc k) rows) (numbers_of n (suc k) rows)) ≡ true
    go true q = joins (lt-ltb k count (omega arith)) q
    go false q = q

module _ (table : List Row) {rows : List (List ℕ)} (n : ℕ) (e : rows ≡ rows_of table) where
  pub rows_fit : 0 < n → n ≤ 20 → FrontsFit n rows (numbers_of n 0 table)
  rows_fit a b = record { fit = rw (e, length-map table (λ (r : Row). shelved r.name)) (numbers_fit n (length table) 0 table a b (omega arith)) }

  pub of_rows : {name : List ℕ} {x : Option ℕ} → numbered 0 table ≡ true → AmongFronts n rows (numbers_of n 0 table) name x → length name ≡ n → x ≡ find table (lowered name)
  of_rows {name} t p l =
      p.found ∙ ap (λ (shelf : List (List ℕ)). find (fronts n shelf (numbers_of n 0 table)) (lowered name)) e
      ∙ ap (λ (some : List Row). find some (lowered name)) (fronts_are n 0 (rows_of table) table refl t)
      ∙ by_length n table (lowered name) (length-map name lower ∙ l)

pub operators_numbered : numbered 0 operators ≡ true
unfolding numbered operators
operators_numbered = refl

pub severities_numbered : numbered 0 severities ≡ true
unfolding numbered severities
severities_numbered = refl
