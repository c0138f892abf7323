-- Spans of the normalised text put into the input: what `places` makes of a word and of records is what the definition says.
use mathlib.Core.Path.{◌≡◌, ◌∙◌, refl, sym, ap, ap₂, subst}
use mathlib.Core.Bool.{Bool, true, false}
use mathlib.Core.List.{List, [], ◌∷◌}
use Prim.Native.Nat.{ℕ, ◌+◌, ◌-◌, ◌≤◌}
use native.Mathlib.Omega.{arith}
use lib.ListN.{length}
use lib.Dec.{ltb}
use borrow.Author.Tests.{le-leb, ltb-true, ltb-false}
use Rattle.lent.specs.Sizes.{limit, action_words}
use Rattle.lent.specs.Buffers.{stored_each}
use Rattle.lent.specs.Sources.{Part, part, part_word, Sourced, sourced, sited_all}
use Rattle.lent.specs.Table.{reads}
use Rattle.places.specs.declared.Rule.TheVariants.{Joined}
use Rattle.places.specs.Moves.{SiteWord, Resite}
use Rattle.places.specs.Sites.{text_of}
use Rattle.places.proofs.StillLaws.{still_site}
use Rattle.places.proofs.LastLaws.{Narrow, AllNarrow, site_word_lem, resite_sources}
use Rattle.records.specs.Actions.{Action, action_text}
use Rattle.actions.specs.Normal.{normalised}
use Rattle.actions.specs.Lists.{listed, normal_site}
use Rattle.actions.specs.Layout.{action_record, records_from}
use Rattle.actions.specs.Listing.{ReadAll, Settles}
use Rattle.actions.proofs.NormalLaws.{normalised_length}
use Rattle.actions.proofs.JoinLaws.{bytes_joined}
use Rattle.actions.proofs.SourceLaws.{Inside, EachInside, AllInside, listed_inside}

pub inside_narrow : (n : ℕ) → n ≤ limit → (x : Part) → Inside n x → Narrow x
inside_narrow n l x i = (omega (arith, i.some), omega (arith, i.inside))

pub each_narrow : (n : ℕ) → n ≤ limit → (xs : List (Sourced Action)) → EachInside n xs → AllNarrow xs
each_narrow n l [] i = tt
each_narrow n l (x ∷ xs) i = (inside_narrow n l x.source i.0, each_narrow n l xs i.1)

-- six words, and the last
pub record_wide : (o : ℕ) (x : Action) → length (action_record o x) + 1 ≡ action_words
unfolding action_record
record_wide o x = refl

-- every source of a normalised text that is read is narrow
pub listed_narrow : (s : List ℕ) → length s ≤ limit → (xs : List (Sourced Action)) → listed s ≡ reads xs → AllNarrow xs
listed_narrow s l xs e = each_narrow (length s) l xs (subst (AllInside (length s)) e (listed_inside s))

-- elsewhere or not
pub sited_still : {A : Type 0} (xs : List (Sourced A)) → sited_all (λ (y : Part). y) xs ≡ xs
sited_still [] = refl
sited_still {A = A} (x ∷ xs) = ap (λ (ys : List (Sourced A)). x ∷ ys) (sited_still xs)

-- where nothing was taken out nothing moves
normal_still : (t : List ℕ) → length t - length (normalised t) ≡ 0 → (x : Part) → Inside (length (normalised t)) x → normal_site t x ≡ x
normal_still t e x i =
    let n : length (text_of Joined t) ≡ length t = omega (arith, ap length (bytes_joined t), normalised_length t, e) in
    let a : 0 + x.first ≡ x.first = omega arith in
    let b : 0 + x.past ≡ x.past = omega arith in
    still_site Joined 0 t n x.first x.past (omega (arith, i.some)) (omega (arith, i.inside, normalised_length t)) ∙ ap₂ part a b

pub still_all : (f : Part → Part) (t : List ℕ) → length t - length (normalised t) ≡ 0 → (xs : List (Sourced Action)) → EachInside (length (normalised t)) xs
    → sited_all f xs ≡ sited_all (λ (x : Part). f (normal_site t x)) xs
still_all f t e [] i = refl
still_all f t e (x ∷ xs) i =
    ap₂ (λ (y : Part) (l : List (Sourced Action)). sourced x.thing (f y) ∷ l) (sym (normal_still t e x.source i.0)) (still_all f t e xs i.1)

module _ (s : List ℕ) (l : length s ≤ limit) where
  -- one span
  pub span_sited : (y : Part) → y.first ≤ y.past → y.past ≤ length (normalised s) → {span r : ℕ} → span ≡ part_word y → SiteWord s 0 Joined span r
      → r ≡ part_word (normal_site s y)
  span_sited y o i e x =
      x.is
      ∙ rw (le-leb (length s) limit l, le-leb 0 (length s) (omega arith), e)
      (site_word_lem Joined 0 s y (o, omega (arith, i, normalised_length s)))

  -- all records
  records_sited : {text text' records records₁ records₂ : List ℕ} {count used : ℕ} {id chain : Bool} (x : ReadAll (normalised s) 0 0 text text' records records₁ count used id chain)
      → Resite s 0 Joined count action_words 0 records₁ records₂ → records₂ ≡ stored_each records 0 (records_from 0 (sited_all (normal_site s) x.actions))
  records_sited {records = records} {records₁} {records₂} x m =
      resite_sources action_record action_text action_words record_wide Joined 0 s records 0 0 x.actions l (omega arith) (omega arith)
      (listed_narrow (normalised s) (omega (arith, normalised_length s)) x.actions x.all) x.laid.recorded
      (subst (λ (n : ℕ). Resite s 0 Joined n action_words 0 records₁ records₂) x.laid.counted m)

  -- nothing was taken out
  records_still : {text text' records records₁ : List ℕ} {count used : ℕ} {id chain : Bool} (x : ReadAll (normalised s) 0 0 text text' records records₁ count used id chain)
      → length s ≤ length (normalised s) → records₁ ≡ stored_each records 0 (records_from 0 (sited_all (normal_site s) x.actions))
  records_still {records = records} x h =
      let z : length s - length (normalised s) ≡ 0 = omega (arith, h) in
      x.laid.recorded
      ∙ ap (λ (ys : List (Sourced Action)). stored_each records 0 (records_from 0 ys))
      (sym (sited_still x.actions) ∙ still_all (λ (y : Part). y) s z x.actions (subst (AllInside (length (normalised s))) x.all (listed_inside (normalised s))))

  pub records_settled : {text text' records records₁ records₂ : List ℕ} {count used n : ℕ} {id chain : Bool} (x : ReadAll (normalised s) 0 0 text text' records records₁ count used id chain)
      → n ≡ length (normalised s) → Settles s n count records₁ records₂ → records₂ ≡ stored_each records 0 (records_from 0 (sited_all (normal_site s) x.actions))
  records_settled {records = records} {records₂ = records₂} {n = n} x e m = go (ltb n (length s)) refl
    where
      go : (t : Bool) → ltb n (length s) ≡ t → records₂ ≡ stored_each records 0 (records_from 0 (sited_all (normal_site s) x.actions))
      go true z = records_sited x (m.moved (ltb-true n (length s) z))
      go false z = let h = ltb-false n (length s) z in m.still h ∙ records_still x (omega (arith, e, h))
