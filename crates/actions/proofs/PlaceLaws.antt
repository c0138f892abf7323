-- From places to bytes: the bytes between a piece's places are the piece.
-- The idea: the parts of a text are the text again with a comma between each two, so that each stands where those before it end.
use mathlib.Core.Path.{◌≡◌, ◌∙◌, refl, sym, ap, subst}
use mathlib.Core.Bool.{Bool, true, false}
use mathlib.Core.List.{List, [], ◌∷◌, ◌++◌, append_assoc, append-nil}
use Prim.Native.Nat.{ℕ, ◌+◌, ◌-◌, ◌≤◌, ◌<◌}
use native.Mathlib.Omega.{arith}
use lib.ListN.{length, take, drop, length-append, length-take}
use lib.Seq.{take-append_seam, drop-append_seam}
use lib.Dec.{eqb}
use borrow.Author.Tests.{eqb-true}
use Rattle.ascii.specs.Choice.{and}
use Rattle.ascii.specs.Classes.{white}
use Rattle.ascii.specs.Trim.{leading_white, trim_ends}
use Rattle.ascii.proofs.SameLaws.{and_left}
use Rattle.ascii.proofs.TrimLaws.{ends_are, ends_fit}
use Rattle.lent.specs.Sources.{Part}
use Rattle.single_action.specs.Plans.{cut}
use Rattle.single_action.proofs.CutLaws.{cut_take, cut_drop}
use Rattle.actions.specs.Pieces.{Nest, outside, nest_after, cuts, cut_by, parts_from, Piece, place_of, keep, pieces_of, pieces_from, pieces}

-- the bytes between two places
abbrev pub bytes_at : List ℕ → Part → List ℕ
bytes_at s x = cut s x.first x.past

-- ---- one part

-- the trimmed text of a part by its own places
pub trimmed_places : (s : List ℕ) (from end : ℕ) → from ≤ end → end ≤ length s → bytes_at s (place_of from (cut s from end)) ≡ trim_ends (cut s from end)
trimmed_places s from end o i =
    let t = cut s from end in
    let k = leading_white t in
    let n = length (trim_ends t) in
    let h : k + n ≤ end - from = omega (arith, ends_fit white t, length-take (end - from) (drop from s)) in
    let j : from + (k + n) ≡ from + k + n = omega arith in
    ap (cut s (from + k)) j
    ∙ sym (cut_take s (from + k) end i n (omega (arith, h)))
    ∙ ap (take n) (sym (cut_drop s from end i k (omega (arith, h))))
    ∙ ends_are white t

-- a part behind others, and with others behind it
stands : (pre p rest : List ℕ) → cut (pre ++ (p ++ rest)) (length pre) (length pre + length p) ≡ p
stands pre p rest =
    let n : length pre + length p - length pre ≡ length p = omega arith in
    rw (n, drop-append_seam pre (p ++ rest)) (take-append_seam p rest)

-- ---- all of them

-- parts with a comma between each two
unfoldable joined_by : List (List ℕ) → List ℕ
joined_by [] = []
joined_by (p ∷ []) = p
joined_by (p ∷ q ∷ qs) = p ++ (44 ∷ joined_by (q ∷ qs))

-- never none
Some : List (List ℕ) → Type 0
Some [] = ⊥
Some (p ∷ ps) = Unit {0}

some_by : (t : Bool) (b : ℕ) (ps : List (List ℕ)) → Some (cut_by t b ps)
unfolding Some
some_by true b ps = tt
some_by false b [] = tt
some_by false b (p ∷ ps) = tt

some_parts : (n : Nest) (s : List ℕ) → Some (parts_from n s)
unfolding Some parts_from
some_parts n [] = tt
some_parts n (b ∷ r) = some_by (cuts n b) b (parts_from (nest_after n b) r)

joined_by_lem : (t : Bool) (b : ℕ) (ps : List (List ℕ)) → (t ≡ true → b ≡ 44) → Some ps → joined_by (cut_by t b ps) ≡ b ∷ joined_by ps
unfolding joined_by Some
joined_by_lem true b [] e o = absurd o
joined_by_lem true b (p ∷ ps) e o = ap (λ (x : ℕ). x ∷ joined_by (p ∷ ps)) (sym (e refl))
joined_by_lem false b [] e o = absurd o
joined_by_lem false b (p ∷ []) e o = refl
joined_by_lem false b (p ∷ q ∷ qs) e o = refl

parts_joined : (n : Nest) (s : List ℕ) → joined_by (parts_from n s) ≡ s
unfolding joined_by parts_from cuts
parts_joined n [] = refl
parts_joined n (b ∷ r) =
    joined_by_lem (cuts n b) b (parts_from (nest_after n b) r) (λ e. eqb-true b 44 (and_left (eqb b 44) (and (eqb n.mark 0) (eqb n.depth 0)) e)) (some_parts (nest_after n b) r)
    ∙ ap (λ (l : List ℕ). b ∷ l) (parts_joined (nest_after n b) r)

-- the bytes between a piece's places are the piece, and there are some
pub record Stands (s : List ℕ) (p : Piece) : Type 0 where
  pub bytes : bytes_at s p.place ≡ p.text
  pub some : p.place.first < p.place.past
  pub inside : p.place.past ≤ length s

pub data AllStand (s : List ℕ) : List Piece → Type 0 where
  none : AllStand s []
  also : {p : Piece} {ps : List Piece} → Stands s p → AllStand s ps → AllStand s (p ∷ ps)

-- one part more, in front
kept : (s t : List ℕ) (x : Part) (ps : List Piece) → bytes_at s x ≡ t → (0 < length t → (x.first < x.past) × (x.past ≤ length s)) → AllStand s ps → AllStand s (keep t x ps)
kept s [] x ps e h a = a
kept s (b ∷ r) x ps e h a = let (o, i) = h (omega arith) in also (record { bytes = e; some = o; inside = i }) a

part_bytes : (pre p rest : List ℕ) → bytes_at (pre ++ (p ++ rest)) (place_of (length pre) p) ≡ trim_ends p
part_bytes pre p rest =
    let s = pre ++ (p ++ rest) in
    let h : length pre + length p ≤ length s = omega (arith, length-append pre (p ++ rest), length-append p rest) in
    subst (λ (q : List ℕ). bytes_at s (place_of (length pre) q) ≡ trim_ends q) (stands pre p rest) (trimmed_places s (length pre) (length pre + length p) (omega arith) h)

part_inside : (pre p rest : List ℕ) → 0 < length (trim_ends p)
    → ((place_of (length pre) p).first < (place_of (length pre) p).past) × ((place_of (length pre) p).past ≤ length (pre ++ (p ++ rest)))
part_inside pre p rest h = (omega arith, omega (arith, ends_fit white p, length-append pre (p ++ rest), length-append p rest))

placed_all : (pre : List ℕ) (ps : List (List ℕ)) → AllStand (pre ++ joined_by ps) (pieces_of (length pre) ps)
unfolding joined_by pieces_of
placed_all pre [] = none
placed_all pre (p ∷ []) =
    subst (λ (l : List ℕ). AllStand (pre ++ l) (keep (trim_ends p) (place_of (length pre) p) [])) (append-nil p)
    (kept (pre ++ (p ++ [])) (trim_ends p) (place_of (length pre) p) [] (part_bytes pre p []) (part_inside pre p []) none)
placed_all pre (p ∷ q ∷ qs) =
    let rest = joined_by (q ∷ qs) in
    let past = pre ++ (p ++ (44 ∷ [])) in
    let e : past ++ rest ≡ pre ++ (p ++ (44 ∷ rest)) = append_assoc pre (p ++ (44 ∷ [])) rest ∙ ap (λ (l : List ℕ). pre ++ l) (append_assoc p (44 ∷ []) rest) in
    let n : length past ≡ length pre + length p + 1 = omega (arith, length-append pre (p ++ (44 ∷ [])), length-append p (44 ∷ [])) in
    kept (pre ++ (p ++ (44 ∷ rest))) (trim_ends p) (place_of (length pre) p) (pieces_of (length pre + length p + 1) (q ∷ qs)) (part_bytes pre p (44 ∷ rest)) (part_inside pre p (44 ∷ rest))
    (subst (λ (l : List ℕ). AllStand l (pieces_of (length pre + length p + 1) (q ∷ qs))) e
    (subst (λ (k : ℕ). AllStand (past ++ rest) (pieces_of k (q ∷ qs))) n (placed_all past (q ∷ qs))))

-- the pieces of a text by their places
pub pieces_stand : (s : List ℕ) → AllStand s (pieces s)
unfolding pieces_from
pieces_stand s = subst (λ (t : List ℕ). AllStand t (pieces_of 0 (parts_from outside s))) (parts_joined outside s) (placed_all [] (parts_from outside s))
