-- Two lists joined by a bar: the pieces are those of the first, then those of the second, as many bytes further on.
use mathlib.Core.Path.{◌≡◌, refl, sym, ap, ◌∙◌}
use mathlib.Core.Bool.{Bool, true, false}
use mathlib.Core.List.{List, [], ◌∷◌, ◌++◌}
use Prim.Native.Nat.{ℕ, suc, ◌+◌}
use native.Mathlib.Omega.{arith}
use lib.ListN.{length, length-append}
use lib.Dec.{eqb}
use Rattle.ascii.specs.Choice.{pick}
use Rattle.ascii.specs.Trim.{trim_ends}
use Rattle.lent.specs.Sources.{Part}
use Rattle.lent.specs.Buffers.{joined}
use Rattle.variables.specs.Parts.{onto, cut, Piece, place_of, kept, filled_from, pieces_from, pieces}

-- a byte goes onto the first part, and there is always one
pub record Some (l : List (List ℕ)) : Type 0 where
  pub first : List ℕ
  pub others : List (List ℕ)
  pub list : l ≡ first ∷ others

pub cut_some : (s : List ℕ) → Some (cut s)
unfolding cut
cut_some [] = record { first = []; others = []; list = refl }
cut_some (b ∷ r) = go (eqb b 124) (cut_some r)
  where
    go : (t : Bool) → Some (cut r) → Some (pick t ([] ∷ cut r) (onto b (cut r)))
    go true x = record { first = []; others = cut r; list = refl }
    go false x = record { first = b ∷ x.first; others = x.others; list = ap (onto b) x.list }

onto_append : (b : ℕ) (l m : List (List ℕ)) → Some l → onto b (l ++ m) ≡ onto b l ++ m
onto_append b l m x = ap (λ (l : List (List ℕ)). onto b (l ++ m)) x.list ∙ ap (λ (l : List (List ℕ)). onto b l ++ m) (sym x.list)

pub cut_join : (a b : List ℕ) → cut (a ++ 124 ∷ b) ≡ cut a ++ cut b
unfolding cut
cut_join [] b = refl
cut_join (x ∷ a) b = go (eqb x 124) (cut_join a b)
  where
    go : (t : Bool) → cut (a ++ 124 ∷ b) ≡ cut a ++ cut b
        → pick t ([] ∷ cut (a ++ 124 ∷ b)) (onto x (cut (a ++ 124 ∷ b))) ≡ pick t ([] ∷ cut a) (onto x (cut a)) ++ cut b
    go true e = ap (λ (l : List (List ℕ)). [] ∷ l) e
    go false e = ap (onto x) e ∙ onto_append x (cut a) (cut b) (cut_some a)

kept_append : (p : List ℕ) (x : Part) (l m : List Piece) → kept p x (l ++ m) ≡ kept p x l ++ m
kept_append [] x l m = refl
kept_append (b ∷ p) x l m = refl

-- the bytes of parts, with a bar behind each
abbrev pub spread : List (List ℕ) → ℕ
spread l = length (joined l) + length l

pub filled_append : (k : ℕ) (l m : List (List ℕ)) → filled_from k (l ++ m) ≡ filled_from k l ++ filled_from (k + spread l) m
unfolding filled_from joined
filled_append k [] m = let z : k + 0 ≡ k = omega arith in rw z
filled_append k (p ∷ l) m =
    let z : k + length p + 1 + spread l ≡ k + spread (p ∷ l) = omega (arith, length-append p (joined l)) in
    let n = filled_from (k + spread (p ∷ l)) m in
    ap (kept (trim_ends p) (place_of k p)) (filled_append (k + length p + 1) l m ∙ ap (λ (i : ℕ). filled_from (k + length p + 1) l ++ filled_from i m) z)
    ∙ kept_append (trim_ends p) (place_of k p) (filled_from (k + length p + 1) l) n

onto_spread : (b : ℕ) (l : List (List ℕ)) → Some l → spread (onto b l) ≡ suc (spread l)
unfolding joined
onto_spread b [] x = let z : ◌≡◌ {A = ℕ} 0 1 = cc in absurd (omega arith)
onto_spread b (p ∷ l) x = omega arith

-- that is the whole list, and one bar more
pub cut_spread : (s : List ℕ) → spread (cut s) ≡ length s + 1
unfolding cut joined
cut_spread [] = refl
cut_spread (b ∷ r) = go (eqb b 124) (cut_spread r)
  where
    go : (t : Bool) → spread (cut r) ≡ length r + 1 → spread (pick t ([] ∷ cut r) (onto b (cut r))) ≡ suc (length r) + 1
    go true e = omega (arith, e)
    go false e = omega (arith, e, onto_spread b (cut r) (cut_some r))

pub pieces_join : (a b : List ℕ) → pieces (a ++ 124 ∷ b) ≡ pieces a ++ pieces_from (length a + 1) b
unfolding pieces_from
pieces_join a b =
    let z : 0 + spread (cut a) ≡ length a + 1 = omega (arith, cut_spread a) in
    ap (filled_from 0) (cut_join a b) ∙ filled_append 0 (cut a) (cut b) ∙ ap (λ (i : ℕ). filled_from 0 (cut a) ++ filled_from i (cut b)) z
