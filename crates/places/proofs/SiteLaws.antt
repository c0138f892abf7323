-- The cells of a text stand one behind another within its source, and so does every part's site.
use mathlib.Core.Path.{◌≡◌, ◌∙◌, refl, sym, ap, subst}
use mathlib.Core.Bool.{Bool, true, false}
use mathlib.Core.List.{List, [], ◌∷◌}
use Prim.Native.Nat.{ℕ, zero, suc, ◌+◌, ◌≤◌, ◌<◌}
use native.Mathlib.Omega.{arith}
use lib.ListN.{length, drop, drop_of_length-le}
use lib.Dec.{eqb, ltb, leb}
use borrow.Author.Tests.{lt-ltb, leb-true, leb-false, ltb-true}
use Rattle.ascii.specs.Choice.{pick, and, or}
use Rattle.lent.specs.Sources.{Part, part}
use Rattle.lexer.specs.Rules.{line_end, unescaped}
use Rattle.places.specs.Cells.{Cell, bytes_of, first_of, past_of, Along}
use Rattle.places.specs.Scans.{Mode, plain, escaped, stayed, after_cr, margin, Act, pass, keep, turn, scan_by, spell_by, scan, spell}
use Rattle.places.specs.Tables.{Rule, Joined, Word, Quoted, skipped, line_next, plain_join, margin_join, joining, slash_in_word, plain_word, wording, head_of, stays_next, slash_in_quotes, plain_quote, margin_quote, quoting_by, act_by, act}
use Rattle.places.specs.Sites.{cells_of, text_of, behind, site_in, site_of}

-- ---- any table

module _ (a : Mode → ℕ → List ℕ → Act) where
  -- the bytes of the cells are the text
  pub bytes_scan : (m : Mode) (k : ℕ) (r : List ℕ) → bytes_of (scan a m k r) ≡ spell a m r
  unfolding bytes_of scan spell
  bytes_scan m k [] = refl
  bytes_scan m k (b ∷ r) = go (a m b r) (λ m. bytes_scan m (suc k) r)
    where
      go : (t : Act) → ((m : Mode) → bytes_of (scan a m (suc k) r) ≡ spell a m r) → bytes_of (scan_by t k (λ m. scan a m (suc k) r)) ≡ spell_by t (λ m. spell a m r)
      go (pass m) ih = ih m
      go (keep x m) ih = ap (λ (l : List ℕ). x ∷ l) (ih m)
      go (turn x m) ih = ap (λ (l : List ℕ). x ∷ l) (ih m)

  -- a byte of the source gives one at most
  pub scan_fits : (m : Mode) (k : ℕ) (r : List ℕ) → length (scan a m k r) ≤ length r
  unfolding scan
  scan_fits m k [] = omega arith
  scan_fits m k (b ∷ r) = go (a m b r) (λ m. scan_fits m (suc k) r)
    where
      go : (t : Act) → ((m : Mode) → length (scan a m (suc k) r) ≤ length r) → length (scan_by t k (λ m. scan a m (suc k) r)) ≤ suc (length r)
      go (pass m) ih = let h = ih m in omega arith
      go (keep x m) ih = let h = ih m in omega arith
      go (turn x m) ih = let h = ih m in omega arith

pub bytes_length : (cs : List Cell) → length (bytes_of cs) ≡ length cs
unfolding bytes_of
bytes_length [] = refl
bytes_length (c ∷ r) = ap suc (bytes_length r)

pub cells_length : (rule : Rule) (k : ℕ) (r : List ℕ) → length (cells_of rule k r) ≡ length (text_of rule r)
cells_length rule k r = sym (bytes_length (cells_of rule k r)) ∙ ap length (bytes_scan (act rule) plain k r)

pub text_fits : (rule : Rule) (r : List ℕ) → length (text_of rule r) ≤ length r
text_fits rule r = omega (arith, cells_length rule 0 r, scan_fits (act rule) plain 0 r)

-- ---- an escape's first byte has given nothing by itself

abbrev pub Loose : Mode → Type 0
Loose plain = ⊥
Loose escaped = Unit {0}
Loose stayed = ⊥
Loose after_cr = ⊥
Loose margin = ⊥

abbrev pub Tight : Mode → Act → Type 0
Tight m (pass m') = Unit {0}
Tight m (keep x m') = Loose m' → ⊥
Tight m (turn x m') = Loose m × (Loose m' → ⊥)

tight_join : (m : Mode) (b : ℕ) (r : List ℕ) → Tight m (plain_join b r)
tight_join m b r = go (and (eqb b 92) (line_next r))
  where
    go : (t : Bool) → Tight m (pick t (pass escaped) (keep b plain))
    go true = tt
    go false = λ z. z

tight_join_margin : (m : Mode) (b : ℕ) (r : List ℕ) → Tight m (margin_join b r)
tight_join_margin m b r = go (skipped b)
  where
    go : (t : Bool) → Tight m (pick t (pass margin) (plain_join b r))
    go true = tt
    go false = tight_join m b r

tight_joining : (m : Mode) (b : ℕ) (r : List ℕ) → Tight m (joining m b r)
unfolding joining
tight_joining plain b r = tight_join plain b r
tight_joining escaped b r = go (eqb b 10)
  where
    go : (t : Bool) → Tight escaped (pick t (pass margin) (pass after_cr))
    go true = tt
    go false = tt
tight_joining stayed b r = tight_join stayed b r
tight_joining after_cr b r = go (eqb b 10)
  where
    go : (t : Bool) → Tight after_cr (pick t (pass margin) (margin_join b r))
    go true = tt
    go false = tight_join_margin after_cr b r
tight_joining margin b r = tight_join_margin margin b r

tight_word : (m : Mode) (b : ℕ) (r : List ℕ) → Tight m (plain_word b r)
tight_word m b r = go (eqb b 92)
  where
    slash : (n : ℕ) → Tight m (slash_in_word n)
    slash zero = λ z. z
    slash (suc zero) = tt
    slash (suc (suc n)) = tt

    go : (t : Bool) → Tight m (pick t (slash_in_word (line_end r)) (keep b plain))
    go true = slash (line_end r)
    go false = λ z. z

tight_wording : (m : Mode) (b : ℕ) (r : List ℕ) → Tight m (wording m b r)
unfolding wording
tight_wording plain b r = tight_word plain b r
tight_wording escaped b r = tt
tight_wording stayed b r = tight_word stayed b r
tight_wording after_cr b r = tt
tight_wording margin b r = tight_word margin b r

module _ (last : Bool) where
  tight_quote : (m : Mode) (b : ℕ) (r : List ℕ) → Tight m (plain_quote last b r)
  tight_quote m b r = go (eqb b 92) (stays_next last r)
    where
      go : (t u : Bool) → Tight m (pick t (slash_in_quotes u) (keep b plain))
      go true true = λ z. z
      go true false = tt
      go false u = λ z. z

  tight_quote_margin : (m : Mode) (b : ℕ) (r : List ℕ) → Tight m (margin_quote last b r)
  tight_quote_margin m b r = go (or (eqb b 32) (eqb b 9))
    where
      go : (t : Bool) → Tight m (pick t (pass margin) (plain_quote last b r))
      go true = tt
      go false = tight_quote m b r

  tight_quoting : (m : Mode) (b : ℕ) (r : List ℕ) → Tight m (quoting_by last m b r)
  unfolding quoting_by
  tight_quoting plain b r = tight_quote plain b r
  tight_quoting escaped b r = go (eqb b 10) (eqb b 13)
    where
      go : (t u : Bool) → Tight escaped (pick t (pass margin) (pick u (pass after_cr) (turn (head_of (unescaped b)) plain)))
      go true u = tt
      go false true = tt
      go false false = (tt, λ z. z)
  tight_quoting stayed b r = λ z. z
  tight_quoting after_cr b r = go (eqb b 10)
    where
      go : (t : Bool) → Tight after_cr (pick t (pass margin) (margin_quote last b r))
      go true = tt
      go false = tight_quote_margin after_cr b r
  tight_quoting margin b r = tight_quote_margin margin b r

pub tight : (last : Bool) (rule : Rule) (m : Mode) (b : ℕ) (r : List ℕ) → Tight m (act_by last rule m b r)
tight last Joined = tight_joining
tight last Word = tight_wording
tight last Quoted = tight_quoting last

-- ---- one behind another

along_from : (rule : Rule) (m : Mode) (lo k : ℕ) (r : List ℕ) → lo ≤ k → (Loose m → lo < k) → Along lo (scan (act rule) m k r) (k + length r)
unfolding scan
along_from rule m lo k [] h g = omega arith
along_from rule m lo k (b ∷ r) h g =
    subst (λ (hi : ℕ). Along lo (scan_by (act rule m b r) k (λ m. scan (act rule) m (suc k) r)) hi) (let e : suc k + length r ≡ k + suc (length r) = omega arith in e)
    (go (act rule m b r) (tight false rule m b r) (λ m lo. along_from rule m lo (suc k) r))
  where
    go : (t : Act) → Tight m t → ((m : Mode) (lo : ℕ) → lo ≤ suc k → (Loose m → lo < suc k) → Along lo (scan (act rule) m (suc k) r) (suc k + length r))
        → Along lo (scan_by t k (λ m. scan (act rule) m (suc k) r)) (suc k + length r)
    go (pass m') t ih = ih m' lo (omega arith) (λ z. omega arith)
    go (keep x m') t ih = (h, omega arith, ih m' (suc k) (omega arith) (λ z. absurd (t z)))
    go (turn x m') t ih = let l = g t.0 in (omega arith, omega arith, ih m' (suc k) (omega arith) (λ z. absurd (t.1 z)))

-- The cells stand one behind another, from the place k on and within the source.
pub cells_along : (rule : Rule) (k : ℕ) (r : List ℕ) → Along k (cells_of rule k r) (k + length r)
cells_along rule k r = along_from rule plain k k r (omega arith) (λ z. absurd z)

-- ---- a part's site

pub along_le : (lo : ℕ) (cs : List Cell) (hi : ℕ) → Along lo cs hi → lo ≤ hi
along_le lo [] hi a = a
along_le lo (c ∷ r) hi a = let f = a.0 in let g = a.1 in let h = along_le c.past r hi a.2 in omega arith

pub behind_bounds : (lo n : ℕ) (cs : List Cell) (hi : ℕ) → Along lo cs hi → (lo ≤ behind lo cs n) × (behind lo cs n ≤ hi)
unfolding past_of
behind_bounds lo zero [] hi a = (omega arith, a)
behind_bounds lo zero (c ∷ r) hi a = (omega arith, along_le lo (c ∷ r) hi a)
behind_bounds lo (suc n) [] hi a = (omega arith, a)
behind_bounds lo (suc n) (c ∷ r) hi a =
    let f = a.0 in let g = a.1 in let h = behind_bounds c.past n r hi a.2 in let l = h.0 in (omega arith, h.1)

pub first_bounds : (d lo i n : ℕ) (cs : List Cell) (hi : ℕ) → Along lo cs hi → i < n → i < length cs
    → (lo ≤ first_of d (drop i cs)) × (first_of d (drop i cs) < behind lo cs n)
unfolding first_of past_of
first_bounds d lo i zero cs hi a h l = absurd (omega arith)
first_bounds d lo zero (suc n) [] hi a h l = absurd (omega arith)
first_bounds d lo zero (suc n) (c ∷ r) hi a h l = let g = a.1 in let b = (behind_bounds c.past n r hi a.2).0 in (a.0, omega arith)
first_bounds d lo (suc i) (suc n) [] hi a h l = absurd (omega arith)
first_bounds d lo (suc i) (suc n) (c ∷ r) hi a h l =
    let f = a.0 in let g = a.1 in let b = first_bounds d c.past i n r hi a.2 (omega arith) (omega arith) in let o = b.0 in (omega arith, b.1)

pub record Bounded (k hi : ℕ) (y : Part) : Type 0 where
  pub low : k ≤ y.first
  pub order : y.first ≤ y.past
  pub high : y.past ≤ hi

module _ (k : ℕ) (cs : List Cell) (hi : ℕ) (a : Along k cs hi) where
  pub in_bounds : (x : Part) → Bounded k hi (site_in k cs x)
  unfolding site_in first_of
  in_bounds x = go (ltb x.first x.past) refl (leb (length cs) x.first) refl
    where
      b : (k ≤ behind k cs x.past) × (behind k cs x.past ≤ hi)
      b = behind_bounds k x.past cs hi a

      go : (t : Bool) → ltb x.first x.past ≡ t → (u : Bool) → leb (length cs) x.first ≡ u
          → Bounded k hi (part (pick t (first_of (behind k cs x.past) (drop x.first cs)) (behind k cs x.past)) (behind k cs x.past))
      go false e u f = record { low = b.0; order = omega arith; high = b.1 }
      go true e true f = rw (drop_of_length-le cs (leb-true (length cs) x.first f)) (record { low = b.0; order = omega arith; high = b.1 })
      go true e false f =
          let g = first_bounds (behind k cs x.past) k x.first x.past cs hi a (ltb-true x.first x.past e) (leb-false (length cs) x.first f) in
          let h = g.1 in
          record { low = g.0; order = omega arith; high = b.1 }

  pub in_some : (x : Part) → x.first < x.past → x.first < length cs → (site_in k cs x).first < (site_in k cs x).past
  unfolding site_in
  in_some x h l = rw (lt-ltb x.first x.past h) (first_bounds (behind k cs x.past) k x.first x.past cs hi a h l).1

-- Within the source, whatever the part.
pub site_bounds : (rule : Rule) (k : ℕ) (r : List ℕ) (x : Part) → Bounded k (k + length r) (site_of rule k r x)
site_bounds rule k r x = in_bounds k (cells_of rule k r) (k + length r) (cells_along rule k r) x

-- And not empty, where the part is not.
pub site_some : (rule : Rule) (k : ℕ) (r : List ℕ) (x : Part) → x.first < x.past → x.past ≤ length (text_of rule r) → (site_of rule k r x).first < (site_of rule k r x).past
site_some rule k r x h l = in_some k (cells_of rule k r) (k + length r) (cells_along rule k r) x h (omega (arith, cells_length rule k r, h, l))
