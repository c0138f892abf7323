-- Cutting: the first part and those behind it, and what one byte does in a loop over `drop i s`.
use mathlib.Core.Path.{◌≡◌, refl, ap}
use mathlib.Core.Bool.{Bool, true, false}
use mathlib.Core.List.{List, [], ◌∷◌}
use Prim.Native.Nat.{ℕ, suc, ◌+◌, ◌-◌, ◌≤◌, ◌<◌}
use native.Mathlib.Numerals.{one-add}
use native.Mathlib.Omega.{arith}
use lib.ListN.{length, take, drop, get_or, drop_of_length-le}
use lib.Dec.{eqb}
use borrow.Author.Tests.{eqb-true}
use Rattle.ascii.specs.Choice.{pick, and}
use Rattle.ascii.specs.Classes.{white}
use Rattle.ascii.specs.Trim.{trim_ends}
use Rattle.ascii.proofs.ListLaws.{next_byte}
use Rattle.ascii.proofs.SameLaws.{and_left, and_right}
use Rattle.ascii.proofs.TrimLaws.{ends_fit}
use Rattle.lent.specs.Sources.{Part}
use Rattle.single_action.specs.Marks.{quotation}
use Rattle.actions.specs.Pieces.{Nest, nest, outside, nest_bare, nest_quoted, nest_after, cuts, cut_by, parts_from, Piece, place_of, keep, pieces_of, pieces_from, pieces, part_length, parts_behind}

-- a comma that cuts leaves nothing open
pub cut_outside : (n : Nest) (b : ℕ) → cuts n b ≡ true → nest_after n b ≡ outside
unfolding cuts nest_after nest_bare quotation
cut_outside n b e =
    let comma = eqb b 44 in
    let bare = eqb n.mark 0 in
    let flat = eqb n.depth 0 in
    let Open-none = and_right comma (and bare flat) e in
    rw (and_left bare flat Open-none, eqb-true b 44 (and_left comma (and bare flat) e), eqb-true n.depth 0 (and_right bare flat Open-none))

-- a byte opens one bracket at most, so the depth is no more than the bytes read
pub depth_more : (n : Nest) (b : ℕ) → (nest_after n b).depth ≤ n.depth + 1
unfolding nest_after nest_bare nest_quoted
depth_more n b = go (eqb n.mark 0) (quotation b) (eqb b 40) (eqb b 41) (eqb b n.mark)
  where
    go : (t u v w x : Bool)
        → (pick t (pick u (nest b n.depth) (pick v (nest 0 (n.depth + 1)) (pick w (nest 0 (n.depth - 1)) (nest 0 n.depth))))
        (pick x (nest 0 n.depth) (nest n.mark n.depth))).depth ≤ n.depth + 1
    go true true v w x = omega arith
    go true false true w x = omega arith
    go true false false true x = omega arith
    go true false false false x = omega arith
    go false u v w true = omega arith
    go false u v w false = omega arith

-- the first part stands first, and the parts behind it start anew
pub parts_first : (n : Nest) (s : List ℕ) → parts_from n s ≡ take (part_length n s) s ∷ parts_behind (drop (part_length n s) s)
unfolding parts_from part_length
parts_first n [] = refl
parts_first n (b ∷ r) = go (cuts n b) (cut_outside n b) (parts_first (nest_after n b) r)
  where
    go : (t : Bool) → (t ≡ true → nest_after n b ≡ outside)
        → parts_from (nest_after n b) r ≡ take (part_length (nest_after n b) r) r ∷ parts_behind (drop (part_length (nest_after n b) r) r)
        → cut_by t b (parts_from (nest_after n b) r)
        ≡ take (pick t 0 (1 + part_length (nest_after n b) r)) (b ∷ r) ∷ parts_behind (drop (pick t 0 (1 + part_length (nest_after n b) r)) (b ∷ r))
    go true e ih = ap (λ (m : Nest). [] ∷ parts_from m r) (e refl)
    go false e ih = rw (one-add, ih)

pub part_fits : (n : Nest) (s : List ℕ) → part_length n s ≤ length s
unfolding part_length
part_fits n [] = omega arith
part_fits n (b ∷ r) = go (cuts n b) (part_fits (nest_after n b) r)
  where
    go : (t : Bool) → part_length (nest_after n b) r ≤ length r → pick t 0 (1 + part_length (nest_after n b) r) ≤ suc (length r)
    go true h = omega arith
    go false h = omega arith

-- ---- one byte

module _ (n : Nest) (s : List ℕ) (i : ℕ) where
  pub part_stop : i < length s → cuts n (get_or s i 0) ≡ true → part_length n (drop i s) ≡ 0
  unfolding part_length
  part_stop h e = rw (next_byte s i, e)

  pub part_more : i < length s → cuts n (get_or s i 0) ≡ false → part_length n (drop i s) ≡ 1 + part_length (nest_after n (get_or s i 0)) (drop (i + 1) s)
  unfolding part_length
  part_more h e = rw (next_byte s i, e)

  pub part_end : length s ≤ i → part_length n (drop i s) ≡ 0
  unfolding part_length
  part_end h = rw (drop_of_length-le s h)

-- ---- the length

-- the lengths of texts together
unfoldable pub total : List (List ℕ) → ℕ
total [] = 0
total (p ∷ ps) = length p + total ps

cut_total : (t : Bool) (b : ℕ) (ps : List (List ℕ)) → total (cut_by t b ps) ≤ suc (total ps)
unfolding total
cut_total true b ps = omega arith
cut_total false b [] = omega arith
cut_total false b (p ∷ ps) = omega arith

pub parts_total : (n : Nest) (s : List ℕ) → total (parts_from n s) ≤ length s
unfolding parts_from total
parts_total n [] = omega arith
parts_total n (b ∷ r) = omega (arith, cut_total (cuts n b) b (parts_from (nest_after n b) r), parts_total (nest_after n b) r)

-- of pieces
unfoldable pub taken : List Piece → ℕ
taken [] = 0
taken (p ∷ ps) = length p.text + taken ps

keep_taken : (t : List ℕ) (x : Part) (ps : List Piece) → taken (keep t x ps) ≡ length t + taken ps
unfolding taken
keep_taken [] x ps = omega arith
keep_taken (b ∷ r) x ps = refl

pub kept_taken : (k : ℕ) (ps : List (List ℕ)) → taken (pieces_of k ps) ≤ total ps
unfolding pieces_of total taken
kept_taken k [] = omega arith
kept_taken k (p ∷ ps) = omega (arith, keep_taken (trim_ends p) (place_of k p) (pieces_of (k + length p + 1) ps), kept_taken (k + length p + 1) ps, ends_fit white p)

-- the pieces together are no longer than the text
pub pieces_taken : (s : List ℕ) → taken (pieces s) ≤ length s
unfolding pieces_from
pieces_taken s = omega (arith, kept_taken 0 (parts_from outside s), parts_total outside s)
