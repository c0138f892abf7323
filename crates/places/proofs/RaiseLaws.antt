-- Places move with the source: where it stands further on, so does every part's site, by as much.
use mathlib.Core.Path.{◌≡◌, ◌∙◌, refl, ap, ap₂}
use mathlib.Core.Bool.{Bool, true, false}
use mathlib.Core.List.{List, [], ◌∷◌, map}
use Prim.Native.Nat.{ℕ, zero, suc, ◌+◌, ◌-◌, ◌<◌}
use native.Mathlib.Omega.{arith}
use lib.ListN.{take, drop}
use lib.Dec.{ltb}
use Rattle.ascii.specs.Choice.{pick}
use Rattle.lent.specs.Sources.{Part, part}
use Rattle.places.specs.Cells.{Cell, cell, first_of, past_of}
use Rattle.places.specs.Scans.{Mode, plain, Act, pass, keep, turn, scan_by, scan}
use Rattle.places.specs.Tables.{Rule, act}
use Rattle.places.specs.Sites.{cells_of, behind, site_in, site_of}
use Rattle.places.proofs.SiteLaws.{Loose, Tight, tight}

-- both ends by as much
abbrev pub raised : ℕ → Part → Part
raised d x = part (d + x.first) (d + x.past)

abbrev raised_cell : ℕ → Cell → Cell
raised_cell d c = cell c.byte (d + c.first) (d + c.past)

abbrev raised_all : ℕ → List Cell → List Cell
raised_all d = map (raised_cell d)

scan_raised : (rule : Rule) (d : ℕ) (m : Mode) (k : ℕ) (r : List ℕ) → (Loose m → 0 < k) → scan (act rule) m (d + k) r ≡ raised_all d (scan (act rule) m k r)
unfolding scan
scan_raised rule d m k [] g = refl
scan_raised rule d m k (b ∷ r) g = go (act rule m b r) (tight false rule m b r) (λ m. ap (λ (j : ℕ). scan (act rule) m j r) here ∙ scan_raised rule d m (suc k) r (λ z. omega arith))
  where
    here : suc (d + k) ≡ d + suc k
    here = omega arith

    go : (t : Act) → Tight m t → ((m : Mode) → scan (act rule) m (suc (d + k)) r ≡ raised_all d (scan (act rule) m (suc k) r))
        → scan_by t (d + k) (λ m. scan (act rule) m (suc (d + k)) r) ≡ raised_all d (scan_by t k (λ m. scan (act rule) m (suc k) r))
    go (pass m') t ih = ih m'
    go (keep x m') t ih = ap₂ (λ (p : ℕ) (l : List Cell). cell x (d + k) p ∷ l) here (ih m')
    go (turn x m') t ih =
        let l = g t.0 in
        let e : d + k - 1 ≡ d + (k - 1) = omega arith in
        ap₂ (λ (c : Cell) (l : List Cell). c ∷ l) (ap₂ (cell x) e here) (ih m')

-- ---- a site by cells

module _ (d : ℕ) where
  first_raised : (e : ℕ) (cs : List Cell) → first_of (d + e) (raised_all d cs) ≡ d + first_of e cs
  unfolding first_of
  first_raised e [] = refl
  first_raised e (c ∷ cs) = refl

  past_raised : (e : ℕ) (cs : List Cell) → past_of (d + e) (raised_all d cs) ≡ d + past_of e cs
  unfolding past_of
  past_raised e [] = refl
  past_raised e (c ∷ cs) = past_raised c.past cs

  take_raised : (n : ℕ) (cs : List Cell) → take n (raised_all d cs) ≡ raised_all d (take n cs)
  take_raised zero cs = refl
  take_raised (suc n) [] = refl
  take_raised (suc n) (c ∷ cs) = ap (λ (l : List Cell). raised_cell d c ∷ l) (take_raised n cs)

  drop_raised : (n : ℕ) (cs : List Cell) → drop n (raised_all d cs) ≡ raised_all d (drop n cs)
  drop_raised zero cs = refl
  drop_raised (suc n) [] = refl
  drop_raised (suc n) (c ∷ cs) = drop_raised n cs

  in_raised : (k : ℕ) (cs : List Cell) (x : Part) → site_in (d + k) (raised_all d cs) x ≡ raised d (site_in k cs x)
  unfolding site_in
  in_raised k cs x = ap₂ part (go (ltb x.first x.past)) b
    where
      b : behind (d + k) (raised_all d cs) x.past ≡ d + behind k cs x.past
      b = ap (past_of (d + k)) (take_raised x.past cs) ∙ past_raised k (take x.past cs)

      go : (t : Bool) → pick t (first_of (behind (d + k) (raised_all d cs) x.past) (drop x.first (raised_all d cs))) (behind (d + k) (raised_all d cs) x.past)
          ≡ d + pick t (first_of (behind k cs x.past) (drop x.first cs)) (behind k cs x.past)
      go true = ap₂ first_of b (drop_raised x.first cs) ∙ first_raised (behind k cs x.past) (drop x.first cs)
      go false = b

pub cells_raised : (rule : Rule) (d k : ℕ) (r : List ℕ) → cells_of rule (d + k) r ≡ map (λ (c : Cell). cell c.byte (d + c.first) (d + c.past)) (cells_of rule k r)
cells_raised rule d k r = scan_raised rule d plain k r (λ z. absurd z)

-- The source d places further on, and every site with it.
pub site_raised : (rule : Rule) (d k : ℕ) (r : List ℕ) (x : Part) → site_of rule (d + k) r x ≡ raised d (site_of rule k r x)
site_raised rule d k r x = ap (λ (cs : List Cell). site_in (d + k) cs x) (cells_raised rule d k r) ∙ in_raised d k (cells_of rule k r) x
