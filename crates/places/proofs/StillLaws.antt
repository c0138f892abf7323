-- Where nothing was taken out nothing moves: a part stands in the source where it stands in the text.
use mathlib.Core.Path.{◌≡◌, ◌∙◌, refl, ap, ap₂}
use mathlib.Core.Bool.{Bool, true, false}
use mathlib.Core.List.{List, [], ◌∷◌}
use Prim.Native.Nat.{ℕ, zero, suc, ◌+◌, ◌≤◌, ◌<◌}
use native.Mathlib.Omega.{arith}
use lib.ListN.{length, take, drop}
use lib.Dec.{ltb}
use borrow.Author.Tests.{ltb-true, ltb-false}
use Rattle.ascii.specs.Choice.{pick}
use Rattle.lent.specs.Sources.{part}
use Rattle.places.specs.Cells.{Cell, cell, standing, first_of, past_of}
use Rattle.places.specs.Scans.{Mode, plain, Act, pass, keep, turn, scan_by, spell_by, scan, spell}
use Rattle.places.specs.Tables.{Rule, act}
use Rattle.places.specs.Sites.{cells_of, text_of, behind, site_in, site_of}
use Rattle.places.proofs.SiteLaws.{scan_fits, cells_length, Loose, Tight, tight}

-- ---- bytes that stand for themselves

standing_first : (d k i : ℕ) (l : List ℕ) → i < length l → first_of d (drop i (standing k l)) ≡ k + i
unfolding standing first_of
standing_first d k i [] h = absurd (omega arith)
standing_first d k zero (b ∷ l) h = omega arith
standing_first d k (suc i) (b ∷ l) h = standing_first d (suc k) i l (omega arith) ∙ omega arith

standing_past : (k n : ℕ) (l : List ℕ) → n ≤ length l → past_of k (take n (standing k l)) ≡ k + n
unfolding standing past_of
standing_past k zero l h = omega arith
standing_past k (suc n) [] h = absurd (omega arith)
standing_past k (suc n) (b ∷ l) h = standing_past (suc k) n l (omega arith) ∙ omega arith

-- as many bytes as the source has: each gave one
still_from : (rule : Rule) (m : Mode) (k : ℕ) (r : List ℕ) → (Loose m → ⊥) → length (scan (act rule) m k r) ≡ length r → scan (act rule) m k r ≡ standing k (spell (act rule) m r)
unfolding scan spell standing
still_from rule m k [] g e = refl
still_from rule m k (b ∷ r) g e = go (act rule m b r) (tight false rule m b r) (λ m. still_from rule m (suc k) r) e
  where
    go : (t : Act) → Tight m t → ((m : Mode) → (Loose m → ⊥) → length (scan (act rule) m (suc k) r) ≡ length r → scan (act rule) m (suc k) r ≡ standing (suc k) (spell (act rule) m r))
        → length (scan_by t k (λ m. scan (act rule) m (suc k) r)) ≡ suc (length r)
        → scan_by t k (λ m. scan (act rule) m (suc k) r) ≡ standing k (spell_by t (λ m. spell (act rule) m r))
    go (pass m') t ih e = absurd (omega (arith, e, scan_fits (act rule) m' (suc k) r))
    go (keep x m') t ih e = ap (λ (l : List Cell). cell x k (suc k) ∷ l) (ih m' t (omega (arith, e)))
    go (turn x m') t ih e = absurd (g t.0)

-- ---- a part

pub still_site : (rule : Rule) (k : ℕ) (r : List ℕ) → length (text_of rule r) ≡ length r → (first past : ℕ) → first ≤ past → past ≤ length r
    → site_of rule k r (part first past) ≡ part (k + first) (k + past)
unfolding site_in
still_site rule k r e first past h l = ap (λ (cs : List Cell). site_in k cs (part first past)) still ∙ ap₂ part (go (ltb first past) refl) past_is
  where
    still : cells_of rule k r ≡ standing k (text_of rule r)
    still = still_from rule plain k r (λ z. z) (cells_length rule k r ∙ e)

    past_is : behind k (standing k (text_of rule r)) past ≡ k + past
    past_is = standing_past k past (text_of rule r) (omega (arith, e, l))

    go : (t : Bool) → ltb first past ≡ t → pick t (first_of (behind k (standing k (text_of rule r)) past) (drop first (standing k (text_of rule r)))) (behind k (standing k (text_of rule r)) past) ≡ k + first
    go true f = let g = ltb-true first past f in standing_first (behind k (standing k (text_of rule r)) past) k first (text_of rule r) (omega (arith, e, l, g))
    go false f = let g = ltb-false first past f in past_is ∙ omega (arith, g, h)
