-- Pieces joined by commas are cut into themselves again.
use mathlib.Core.Path.{◌≡◌, ◌∙◌, refl, ap}
use mathlib.Core.Bool.{true, false}
use mathlib.Core.List.{List, [], ◌∷◌, ◌++◌, append-nil}
use Prim.Native.Nat.{ℕ, ◌<◌}
use native.Mathlib.Omega.{arith}
use lib.ListN.{length}
use lib.Dec.{eqb}
use borrow.Author.Tests.{eqb-true}
use Rattle.ascii.specs.Trim.{strip_start, strip_end, trim_ends}
use Rattle.ascii.proofs.TestLaws.{both}
use Rattle.single_action.specs.Marks.{quotation}
use Rattle.actions.specs.Pieces.{Nest, nest, outside, nest_bare, nest_after, cuts, parts_from}
use Rattle.listing.specs.Json.{trail, joined}
use Rattle.spelled.specs.Condition.{isnt, uncut, nest_past, clean}
use Rattle.spelled.proofs.TestLaws.{denied}
use Rattle.spelled.proofs.BareLaws.{keep_text, texts_of, piece_texts}

pub clean_outside : (n : Nest) → clean n ≡ true → n ≡ outside
clean_outside n e =
    let p = both (eqb n.mark 0) (eqb n.depth 0) e in
    go n.mark n.depth (eqb-true n.mark 0 p.0) (eqb-true n.depth 0 p.1)
  where
    go : (m d : ℕ) → m ≡ 0 → d ≡ 0 → nest m d ≡ outside
    go m d e f = rw (e, f)

-- a byte that cuts not
pub uncut_cons : (n : Nest) (b : ℕ) (r : List ℕ) → uncut n (b ∷ r) ≡ true → (cuts n b ≡ false) × (uncut (nest_after n b) r ≡ true)
unfolding uncut
uncut_cons n b r e = let p = both (isnt (cuts n b)) (uncut (nest_after n b) r) e in (denied (cuts n b) p.0, p.1)

-- the last piece, however it ends
pub parts_last : (n : Nest) (p : List ℕ) → uncut n p ≡ true → parts_from n p ≡ p ∷ []
unfolding parts_from
parts_last n [] e = refl
parts_last n (b ∷ r) e =
    let c = uncut_cons n b r e in
    rw (c.0, parts_last (nest_after n b) r c.1)

comma_cuts : (s : List ℕ) → parts_from outside (44 ∷ s) ≡ [] ∷ parts_from outside s
unfolding parts_from cuts nest_after nest_bare quotation
comma_cuts s = refl

-- a piece before another
pub parts_more : (n : Nest) (p s : List ℕ) → uncut n p ≡ true → nest_past n p ≡ outside → parts_from n (p ++ (44 ∷ s)) ≡ p ∷ parts_from outside s
unfolding parts_from nest_past
parts_more n [] s e f = ap (λ (m : Nest). parts_from m (44 ∷ s)) f ∙ comma_cuts s
parts_more n (b ∷ r) s e f =
    let c = uncut_cons n b r e in
    rw (c.0, parts_more (nest_after n b) r s c.1 f)

-- a piece that trimming leaves alone, and that is not empty
pub record Kept (p : List ℕ) : Type 0 where
  pub some : 0 < length p
  pub trimmed : trim_ends p ≡ p

keep_some : (p : List ℕ) (ps : List (List ℕ)) → 0 < length p → keep_text p ps ≡ p ∷ ps
keep_some [] ps h = absurd (omega arith)
keep_some (b ∷ r) ps h = refl

pub kept : (p : List ℕ) (ps : List (List ℕ)) → Kept p → texts_of (p ∷ ps) ≡ p ∷ texts_of ps
unfolding texts_of
kept p ps x = rw x.trimmed (keep_some p (texts_of ps) x.some)

-- each is such a piece, holds no comma that cuts, and leaves nothing open unless it is the last
abbrev pub Standing : List (List ℕ) → Type 0
Standing [] = Unit {0}
Standing (p ∷ []) = Kept p × (uncut outside p ≡ true)
Standing (p ∷ q ∷ r) = Kept p × (uncut outside p ≡ true) × (nest_past outside p ≡ outside) × Standing (q ∷ r)

pub pieces_joined : (ps : List (List ℕ)) → Standing ps → piece_texts (joined ps) ≡ ps
unfolding joined trail texts_of parts_from strip_start strip_end
pieces_joined [] h = refl
pieces_joined (p ∷ []) h =
    rw (append-nil p, parts_last outside p h.1) (kept p [] h.0)
pieces_joined (p ∷ q ∷ r) h =
    ap texts_of (parts_more outside p (joined (q ∷ r)) h.1 h.2)
    ∙ kept p (parts_from outside (joined (q ∷ r))) h.0
    ∙ ap (λ (l : List (List ℕ)). p ∷ l) (pieces_joined (q ∷ r) h.3)
