-- Last words changed, record by record: what the loop keeps, and how it ends.
use mathlib.Core.Path.{◌≡◌, ◌∙◌, refl, sym, ap}
use mathlib.Core.List.{List, [], ◌∷◌}
use Prim.Native.Nat.{ℕ, zero, suc, ◌+◌, ◌-◌, ◌≤◌, ◌<◌}
use native.Mathlib.Numerals.{add-one}
use native.Mathlib.Nat.{sub-zero}
use native.Mathlib.Omega.{arith}
use lib.ListN.{length, drop, get_or, set, length-set, length-drop}
use lib.Seq.{set_split}
use borrow.Author.Tests.{le-leb, lt-leb}
use Rattle.lent.specs.Sizes.{limit, span_offset, span_length}
use Rattle.lent.specs.Sources.{Part, part, part_word}
use Rattle.places.specs.Tables.{Rule}
use Rattle.places.specs.Sites.{site_word}
use Rattle.places.specs.Moves.{SiteWord, changed, last_changed}
use Rattle.places.specs.Steps.{Stand, Stands, Paid, Sites, WordSites}
use Rattle.places.proofs.SiteLaws.{site_bounds}

-- ---- a span word

pub halves_low : (w : ℕ) → span_offset w + span_length w ≤ w
unfolding span_offset span_length
halves_low w = omega arith

-- within the limit, so that its halves are words
module _ {s : List ℕ} {k : ℕ} {rule : Rule} {first past : ℕ} {r : Stand} {site : Part} (fits : length s ≤ limit) (inside : k ≤ length s) (x : Sites s k rule first past r site) where
  pub sited_bounds : (site.first ≤ site.past) × (site.past ≤ limit)
  sited_bounds =
      let b = site_bounds rule k (drop k s) (part first past) in
      let lo = b.order in let hi = b.high in
      rw x.site (lo, omega (arith, hi, length-drop k s, fits, inside))

  pub word_is : (w : ℕ) → first ≡ span_offset w → past ≡ span_offset w + span_length w → part_word site ≡ site_word rule k (drop k s) w
  unfolding site_word
  word_is w e f = ap part_word x.site ∙ rw (e, f)

-- ---- the records

module _ (f : ℕ → ℕ) (width : ℕ) where
  -- no record is there whole
  pub changed_none : (n i : ℕ) (words : List ℕ) → length words < i + width → last_changed f width n i words ≡ words
  unfolding last_changed
  changed_none zero i words h = refl
  changed_none (suc n) i words h = rw (lt-leb (i + width) (length words) h) (changed_none n (i + width) words (omega arith))

  -- the first is not
  pub changed_past : (n i : ℕ) (words : List ℕ) → length words < i + width → last_changed f width (suc n) i words ≡ last_changed f width n (i + width) words
  unfolding last_changed
  changed_past n i words h = rw (lt-leb (i + width) (length words) h)

  -- one is
  pub changed_one : (n i : ℕ) (words : List ℕ) → i + width ≤ length words → last_changed f width (suc n) i words ≡ last_changed f width n (i + width) (changed f words (i + (width - 1)))
  unfolding last_changed
  changed_one n i words h = rw (le-leb (i + width) (length words) h)

pub set_changed : (f : ℕ → ℕ) (words : List ℕ) (i x : ℕ) → i < length words → x ≡ f (get_or words i 0) → set words i x ≡ changed f words i
set_changed f words i x h e = set_split words i x h ∙ rw (e, add-one i)

-- n records are done, up to the place i
pub record Resiting (s : List ℕ) (k : ℕ) (rule : Rule) (count width at : ℕ) (old new : List ℕ) (w : Stand) (i n : ℕ) : Type 0 where
  pub stands : Stands rule s k w
  pub paid : Paid w
  pub long : length new ≡ length old
  pub few : n ≤ count
  pub left : last_changed (site_word rule k (drop k s)) width (count - n) i new ≡ last_changed (site_word rule k (drop k s)) width count at old

pub resiting_none : {s : List ℕ} {k : ℕ} {rule : Rule} {count width at : ℕ} {old : List ℕ} {w : Stand} → Stands rule s k w → Paid w → Resiting s k rule count width at old old w at 0
resiting_none x p = record { stands = x; paid = p; long = refl; few = omega arith; left = rw sub-zero }

module _ {s : List ℕ} {k : ℕ} {rule : Rule} {count width at : ℕ} {old new : List ℕ} {w : Stand} {i n : ℕ} (x : Resiting s k rule count width at old new w i n) where
  pub resited_on : {r : Stand} {word : ℕ} (last : ℕ) → last ≡ i + (width - 1) → n < count → 1 ≤ width → i + width ≤ length new → WordSites s k rule (get_or new last 0) r word
      → Resiting s k rule count width at old (set new last word) r (i + width) (n + 1)
  resited_on {r} {word} last q h o l y =
      let f = site_word rule k (drop k s) in
      let e : count - n ≡ suc (count - (n + 1)) = omega arith in
      let c : set new last word ≡ changed f new last = set_changed f new last word (omega arith) y.site in
      record {
        stands = y.stands;
        paid = y.paid;
        long = length-set new last word ∙ x.long;
        few = omega arith;
        left = ap (last_changed f width (count - (n + 1)) (i + width)) (c ∙ ap (changed f new) q) ∙ sym (changed_one f width (count - (n + 1)) i new l)
            ∙ ap (λ (m : ℕ). last_changed f width m i new) (sym e) ∙ x.left;
      }

  pub resited_short : length new < i + width → new ≡ last_changed (site_word rule k (drop k s)) width count at old
  resited_short h = sym (changed_none (site_word rule k (drop k s)) width (count - n) i new h) ∙ x.left

  pub resited_all : count ≤ n → new ≡ last_changed (site_word rule k (drop k s)) width count at old
  unfolding last_changed
  resited_all h = let e : count - n ≡ 0 = omega arith in sym (rw e) ∙ x.left

-- ---- the gate

-- of one word
module _ {s : List ℕ} {k : ℕ} {rule : Rule} {word : ℕ} where
  pub word_done : {r : ℕ} → length s ≤ limit → k ≤ length s → r ≡ site_word rule k (drop k s) word → SiteWord s k rule word r
  word_done h l e = record { is = rw (le-leb (length s) limit h, le-leb k (length s) l) e }

-- a word by itself is a record of one word
pub only_word : (f : ℕ → ℕ) (word : ℕ) {words : List ℕ} → words ≡ last_changed f 1 1 0 (word ∷ []) → get_or words 0 0 ≡ f word
unfolding last_changed
only_word f word e = ap (λ (l : List ℕ). get_or l 0 0) e
