-- The last words of stored records changed, record by record, are the records stored with their last words changed.
use mathlib.Core.Path.{◌≡◌, ◌∙◌, refl, sym, ap, ap₂}
use mathlib.Core.Bool.{Bool, true, false}
use mathlib.Core.List.{List, [], ◌∷◌, ◌++◌, append_assoc, map}
use Prim.Native.Nat.{ℕ, suc, ◌+◌, ◌-◌, ◌≤◌, ◌<◌}
use native.Mathlib.Omega.{arith}
use lib.ListN.{length, take, drop, get_or, set, length-append, length-set, get_or-append}
use lib.Seq.{length-take-le, set_at, get_or_at, set-append_left, take-set-lt, drop-set-lt, get_or-take}
use lib.Dec.{leb}
use borrow.Author.Tests.{le-leb, leb-true, leb-false}
use Rattle.ascii.specs.Choice.{pick}
use Rattle.lent.specs.Sizes.{limit, span_base}
use Rattle.lent.specs.Buffers.{placed, stored, stored_each}
use Rattle.lent.specs.Layout.{records_of}
use Rattle.lent.specs.Sources.{Part, part, part_word, Sourced, sourced_text, sourced_record, sited_all}
use Rattle.lent.proofs.BufferLaws.{stored_fits, stored_short, stored_length, each_length}
use Rattle.lent.proofs.SpanLaws.{span_offset_lem, span_length_lem}
use Rattle.places.specs.Tables.{Rule}
use Rattle.places.specs.Sites.{word_part, site_of, site_word}
use Rattle.places.specs.Moves.{changed, last_changed, within, Resite}
use Rattle.places.proofs.SiteLaws.{site_bounds}
use Rattle.places.proofs.MoveLaws.{changed_past, changed_one, set_changed}

-- a record with its last word changed
abbrev pub last_by : (ℕ → ℕ) → List ℕ → List ℕ
last_by f [] = []
last_by f (w ∷ []) = f w ∷ []
last_by f (w ∷ v ∷ r) = w ∷ last_by f (v ∷ r)

-- records of so many words
abbrev pub Wide : ℕ → List (List ℕ) → Type 0
Wide width [] = Unit {0}
Wide width (r ∷ rs) = (length r ≡ width) × Wide width rs

-- the words of one, and the last
record Ends (r : List ℕ) : Type 0 where
  words : List ℕ
  last : ℕ
  is : r ≡ words ++ (last ∷ [])

ends_of : (r : List ℕ) → 0 < length r → Ends r
ends_of [] h = absurd (omega arith)
ends_of (w ∷ []) h = record { words = []; last = w; is = refl }
ends_of (w ∷ v ∷ r) h = let t = ends_of (v ∷ r) (omega arith) in record { words = w ∷ t.words; last = t.last; is = ap (λ (l : List ℕ). w ∷ l) t.is }

module _ (f : ℕ → ℕ) where
  pub last_snoc : (ws : List ℕ) (w : ℕ) → last_by f (ws ++ (w ∷ [])) ≡ ws ++ (f w ∷ [])
  last_snoc [] w = refl
  last_snoc (x ∷ []) w = refl
  last_snoc (x ∷ y ∷ ws) w = ap (λ (l : List ℕ). x ∷ l) (last_snoc (y ∷ ws) w)

  pub last_length : (r : List ℕ) → length (last_by f r) ≡ length r
  last_length [] = refl
  last_length (w ∷ []) = refl
  last_length (w ∷ v ∷ r) = ap suc (last_length (v ∷ r))

  -- ---- one word changed

  changed_set : (words : List ℕ) (p : ℕ) → p < length words → changed f words p ≡ set words p (f (get_or words p 0))
  changed_set words p h = sym (set_changed f words p (f (get_or words p 0)) h refl)

  changed_length : (words : List ℕ) (p : ℕ) → p < length words → length (changed f words p) ≡ length words
  changed_length words p h = ap length (changed_set words p h) ∙ length-set words p (f (get_or words p 0))

  -- the last of a record that is placed
  placed_snoc : (old : List ℕ) (i : ℕ) (ws : List ℕ) (w : ℕ) → placed old i (ws ++ (w ∷ [])) ≡ (take i old ++ ws) ++ (w ∷ drop (i + (length ws + 1)) old)
  placed_snoc old i ws w =
      let d = drop (i + (length ws + 1)) old in
      ap (λ (n : ℕ). take i old ++ ((ws ++ (w ∷ [])) ++ drop (i + n) old)) (length-append ws (w ∷ []))
      ∙ ap (λ (l : List ℕ). take i old ++ l) (append_assoc ws (w ∷ []) d)
      ∙ sym (append_assoc (take i old) ws (w ∷ d))

  placed_last : (old : List ℕ) (i : ℕ) (ws : List ℕ) (w : ℕ) → i + (length ws + 1) ≤ length old
      → changed f (placed old i (ws ++ (w ∷ []))) (i + length ws) ≡ placed old i (ws ++ (f w ∷ []))
  placed_last old i ws w h =
      let p = take i old ++ ws in
      let d = drop (i + (length ws + 1)) old in
      let n : length p ≡ i + length ws = length-append (take i old) ws ∙ ap (λ (k : ℕ). k + length ws) (length-take-le i old (omega arith)) in
      let l : i + length ws < length (p ++ (w ∷ d)) = omega (arith, length-append p (w ∷ d), n) in
      ap (λ (l : List ℕ). changed f l (i + length ws)) (placed_snoc old i ws w)
      ∙ changed_set (p ++ (w ∷ d)) (i + length ws) l
      ∙ ap (λ (x : ℕ). set (p ++ (w ∷ d)) (i + length ws) (f x)) (get_or_at p w d 0 (i + length ws) n)
      ∙ set_at p w d (f w) (i + length ws) n
      ∙ sym (placed_snoc old i ws (f w))

  -- and one before what is stored
  placed_before : (old : List ℕ) (j : ℕ) (r : List ℕ) (p : ℕ) → p < j → j + length r ≤ length old → changed f (placed old j r) p ≡ placed (changed f old p) j r
  placed_before old j r p h l =
      let t = take j old in
      let x = r ++ drop (j + length r) old in
      let n : length t ≡ j = length-take-le j old (omega arith) in
      let a = f (get_or old p 0) in
      let g : get_or (t ++ x) p 0 ≡ get_or old p 0 = get_or-append t x 0 p (omega (arith, n)) ∙ get_or-take j old p 0 h in
      changed_set (t ++ x) p (omega (arith, length-append t x, n))
      ∙ ap (λ (v : ℕ). set (t ++ x) p (f v)) g
      ∙ set-append_left t x p a (omega (arith, n))
      ∙ ap (λ (l : List ℕ). l ++ x) (sym (take-set-lt j old p a h))
      ∙ ap (λ (l : List ℕ). take j (set old p a) ++ (r ++ l)) (sym (drop-set-lt (j + length r) old p a (omega arith)))
      ∙ ap (λ (l : List ℕ). placed l j r) (sym (changed_set old p (omega arith)))

  stored_before : (old : List ℕ) (j : ℕ) (r : List ℕ) (p : ℕ) → p < j → p < length old → changed f (stored old j r) p ≡ stored (changed f old p) j r
  stored_before old j r p h l = go (leb (j + length r) (length old)) refl
    where
      n : length (changed f old p) ≡ length old
      n = changed_length old p l

      go : (t : Bool) → leb (j + length r) (length old) ≡ t → changed f (stored old j r) p ≡ stored (changed f old p) j r
      go true e =
          let k = leb-true (j + length r) (length old) e in
          ap (λ (l : List ℕ). changed f l p) (stored_fits old j r k) ∙ placed_before old j r p h k ∙ sym (stored_fits (changed f old p) j r (omega (arith, n, k)))
      go false e =
          let k = leb-false (j + length r) (length old) e in
          ap (λ (l : List ℕ). changed f l p) (stored_short old j r k) ∙ sym (stored_short (changed f old p) j r (omega (arith, n, k)))

  each_before : (old : List ℕ) (j : ℕ) (rs : List (List ℕ)) (p : ℕ) → p < j → p < length old → changed f (stored_each old j rs) p ≡ stored_each (changed f old p) j rs
  unfolding stored_each
  each_before old j [] p h l = refl
  each_before old j (r ∷ rs) p h l =
      each_before (stored old j r) (j + length r) rs p (omega arith) (omega (arith, stored_length old j r, l))
      ∙ ap (λ (o : List ℕ). stored_each o (j + length r) rs) (stored_before old j r p h l)

  -- ---- all of them

  stored_last : (old : List ℕ) (i : ℕ) (r : List ℕ) → 0 < length r → i + length r ≤ length old → changed f (stored old i r) (i + (length r - 1)) ≡ stored old i (last_by f r)
  stored_last old i r p h =
      let t = ends_of r p in
      let n : length r ≡ length t.words + 1 = ap length t.is ∙ length-append t.words (t.last ∷ []) in
      let k : i + (length r - 1) ≡ i + length t.words = omega arith in
      let e : last_by f r ≡ t.words ++ (f t.last ∷ []) = ap (last_by f) t.is ∙ last_snoc t.words t.last in
      ap (λ (l : List ℕ). changed f l (i + (length r - 1))) (stored_fits old i r h ∙ ap (placed old i) t.is)
      ∙ ap (changed f (placed old i (t.words ++ (t.last ∷ [])))) k
      ∙ placed_last old i t.words t.last (omega arith)
      ∙ ap (placed old i) (sym e)
      ∙ sym (stored_fits old i (last_by f r) (omega (arith, last_length r, h)))

  pub each_last : (width : ℕ) → 0 < width → (old : List ℕ) (i : ℕ) (rs : List (List ℕ)) → Wide width rs
      → last_changed f width (length rs) i (stored_each old i rs) ≡ stored_each old i (map (last_by f) rs)
  unfolding stored_each last_changed
  each_last width p old i [] w = refl
  each_last width p old i (r ∷ rs) w = go (leb (i + width) (length old)) refl (λ o. each_last width p o (i + length r) rs w.1)
    where
      n : length (stored_each (stored old i r) (i + length r) rs) ≡ length old
      n = each_length (stored old i r) (i + length r) rs ∙ stored_length old i r

      lead : length r ≡ width
      lead = w.0

      here : i + width ≡ i + length r
      here = omega (arith, lead)

      behind : (o : List ℕ) → stored_each o (i + length r) (map (last_by f) rs) ≡ stored_each o (i + length (last_by f r)) (map (last_by f) rs)
      behind o = ap (λ (m : ℕ). stored_each o (i + m) (map (last_by f) rs)) (sym (last_length r))

      go : (t : Bool) → leb (i + width) (length old) ≡ t
          → ((o : List ℕ) → last_changed f width (length rs) (i + length r) (stored_each o (i + length r) rs) ≡ stored_each o (i + length r) (map (last_by f) rs))
          → last_changed f width (suc (length rs)) i (stored_each (stored old i r) (i + length r) rs) ≡ stored_each (stored old i (last_by f r)) (i + length (last_by f r)) (map (last_by f) rs)
      go true e ih =
          let k = leb-true (i + width) (length old) e in
          let q : i + (width - 1) ≡ i + (length r - 1) = omega (arith, lead) in
          changed_one f width (length rs) i (stored_each (stored old i r) (i + length r) rs) (omega (arith, n, k))
          ∙ ap₂ (λ (j m : ℕ). last_changed f width (length rs) j (changed f (stored_each (stored old i r) (i + length r) rs) m)) here q
          ∙ ap (last_changed f width (length rs) (i + length r))
          (each_before (stored old i r) (i + length r) rs (i + (length r - 1)) (omega (arith, lead, p)) (omega (arith, stored_length old i r, k, lead, p))
          ∙ ap (λ (o : List ℕ). stored_each o (i + length r) rs) (stored_last old i r (omega (arith, lead, p)) (omega (arith, k, lead))))
          ∙ ih (stored old i (last_by f r))
          ∙ behind (stored old i (last_by f r))
      go false e ih =
          let k = leb-false (i + width) (length old) e in
          changed_past f width (length rs) i (stored_each (stored old i r) (i + length r) rs) (omega (arith, n, k))
          ∙ ap (λ (j : ℕ). last_changed f width (length rs) j (stored_each (stored old i r) (i + length r) rs)) here
          ∙ ih (stored old i r)
          ∙ ap (λ (o : List ℕ). stored_each o (i + length r) (map (last_by f) rs)) (stored_short old i r (omega (arith, k, lead)) ∙ sym (stored_short old i (last_by f r) (omega (arith, k, lead, last_length r))))
          ∙ behind (stored old i (last_by f r))

-- ---- records with a source

-- a part whose span word tells it
abbrev pub Narrow : Part → Type 0
Narrow x = (x.first ≤ x.past) × (x.past - x.first < span_base)

pub word_back : (x : Part) → Narrow x → word_part (part_word x) ≡ x
word_back x n =
    let a = span_offset_lem x.first (x.past - x.first) n.1 in
    let b = span_length_lem x.first (x.past - x.first) n.1 in
    let o = n.0 in
    let e : x.first + (x.past - x.first) ≡ x.past = omega arith in
    ap₂ part a (ap₂ (λ (i j : ℕ). i + j) a b ∙ e)

-- a change of parts, as one of span words
abbrev pub word_by : (Part → Part) → ℕ → ℕ
word_by f w = part_word (f (word_part w))

pub site_by : (rule : Rule) (k : ℕ) (r : List ℕ) (w : ℕ) → site_word rule k r w ≡ word_by (site_of rule k r) w
unfolding site_word
site_by rule k r w = refl

pub changed_by : (rule : Rule) (k : ℕ) (r : List ℕ) (width n i : ℕ) (words : List ℕ) → last_changed (site_word rule k r) width n i words ≡ last_changed (word_by (site_of rule k r)) width n i words
unfolding site_word
changed_by rule k r width n i words = refl

pub site_word_lem : (rule : Rule) (k : ℕ) (r : List ℕ) (x : Part) → Narrow x → site_word rule k r (part_word x) ≡ part_word (site_of rule k r x)
unfolding site_word
site_word_lem rule k r x n = ap (λ (y : Part). part_word (site_of rule k r y)) (word_back x n)

-- a site within the limit
pub site_narrow : (rule : Rule) (k : ℕ) (r : List ℕ) (x : Part) → k + length r ≤ limit → Narrow (site_of rule k r x)
site_narrow rule k r x h = let b = site_bounds rule k r x in (b.order, omega (arith, b.high, h))

module _ {A : Type 0} where
  abbrev pub AllNarrow : List (Sourced A) → Type 0
  AllNarrow [] = Unit {0}
  AllNarrow (x ∷ xs) = Narrow x.source × AllNarrow xs

  -- so that sources may be put in their place once more
  pub sited_narrow : (rule : Rule) (k : ℕ) (r : List ℕ) (xs : List (Sourced A)) → k + length r ≤ limit → AllNarrow (sited_all (site_of rule k r) xs)
  sited_narrow rule k r [] h = tt
  sited_narrow rule k r (x ∷ xs) h = (site_narrow rule k r x.source h, sited_narrow rule k r xs h)

  module _ (words : ℕ → A → List ℕ) (text : A → List ℕ) (width : ℕ) (wide : (o : ℕ) (x : A) → length (words o x) + 1 ≡ width) where
    pub records_wide : (o : ℕ) (xs : List (Sourced A)) → Wide width (records_of (sourced_record words) (sourced_text text) o xs)
    unfolding records_of
    records_wide o [] = tt
    records_wide o (x ∷ xs) = (length-append (words o x.thing) (part_word x.source ∷ []) ∙ wide o x.thing, records_wide (o + length (text x.thing)) xs)

    pub records_count : (o : ℕ) (xs : List (Sourced A)) → length (records_of (sourced_record words) (sourced_text text) o xs) ≡ length xs
    unfolding records_of
    records_count o [] = refl
    records_count o (x ∷ xs) = ap suc (records_count (o + length (text x.thing)) xs)

    module _ (f : Part → Part) where
      pub records_sited : (o : ℕ) (xs : List (Sourced A)) → AllNarrow xs
          → map (last_by (word_by f)) (records_of (sourced_record words) (sourced_text text) o xs) ≡ records_of (sourced_record words) (sourced_text text) o (sited_all f xs)
      unfolding records_of
      records_sited o [] n = refl
      records_sited o (x ∷ xs) n =
          ap₂ (λ (a : List ℕ) (b : List (List ℕ)). a ∷ b)
          (last_snoc (word_by f) (words o x.thing) (part_word x.source) ∙ ap (λ (y : Part). words o x.thing ++ (part_word (f y) ∷ [])) (word_back x.source n.0))
          (records_sited (o + length (text x.thing)) xs n.1)

      -- What is left of stored records, each of which tells its source in its last word, when these words are changed.
      pub sources_sited : (old : List ℕ) (i o : ℕ) (xs : List (Sourced A)) → AllNarrow xs
          → last_changed (word_by f) width (length xs) i (stored_each old i (records_of (sourced_record words) (sourced_text text) o xs))
          ≡ stored_each old i (records_of (sourced_record words) (sourced_text text) o (sited_all f xs))
      unfolding stored_each last_changed records_of
      sources_sited old i o [] n = refl
      sources_sited old i o (x ∷ xs) n = some (x ∷ xs) n (omega (arith, wide o x.thing))
        where
          some : (xs : List (Sourced A)) → AllNarrow xs → 0 < width
              → last_changed (word_by f) width (length xs) i (stored_each old i (records_of (sourced_record words) (sourced_text text) o xs))
              ≡ stored_each old i (records_of (sourced_record words) (sourced_text text) o (sited_all f xs))
          some xs n p =
              let rs = records_of (sourced_record words) (sourced_text text) o xs in
              ap (λ (m : ℕ). last_changed (word_by f) width m i (stored_each old i rs)) (sym (records_count o xs))
              ∙ each_last (word_by f) width p old i rs (records_wide o xs)
              ∙ ap (stored_each old i) (records_sited o xs n)

    -- The same from the promise of `resite`.
    pub resite_sources : (rule : Rule) (k : ℕ) (s old : List ℕ) (i o : ℕ) (xs : List (Sourced A)) {records records' : List ℕ}
        → length s ≤ limit → k ≤ length s → 0 < width → AllNarrow xs → records ≡ stored_each old i (records_of (sourced_record words) (sourced_text text) o xs)
        → Resite s k rule (length xs) width i records records' → records' ≡ stored_each old i (records_of (sourced_record words) (sourced_text text) o (sited_all (site_of rule k (drop k s)) xs))
    resite_sources rule k s old i o xs {records} {records'} h l p n e x =
        let g : within s k width ≡ true = rw (le-leb (length s) limit h, le-leb k (length s) l, le-leb 1 width p) in
        x.words ∙ ap (λ (t : Bool). pick t (last_changed (site_word rule k (drop k s)) width (length xs) i records) records) g
        ∙ ap (last_changed (site_word rule k (drop k s)) width (length xs) i) e
        ∙ changed_by rule k (drop k s) width (length xs) i (stored_each old i (records_of (sourced_record words) (sourced_text text) o xs))
        ∙ sources_sited (site_of rule k (drop k s)) old i o xs n
