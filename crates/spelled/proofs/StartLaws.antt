-- Where the texts of records start: the loop that looks for the first one, and that an offset past the buffer may be taken for its end.
use mathlib.Core.Path.{◌≡◌, ◌∙◌, refl, sym, ap, ap₂}
use mathlib.Core.Bool.{Bool, true, false}
use mathlib.Core.List.{List, [], ◌∷◌}
use mathlib.Core.Logic.{◌⊎◌, inl, inr, ⊎_elim}
use Prim.Native.Nat.{ℕ, zero, suc, ◌+◌, ◌*◌, ◌-◌, ◌≤◌, ◌<◌, min}
use native.Mathlib.Omega.{arith}
use native.Mathlib.Nat.{add-zero}
use lib.ListN.{length, take, drop, get_or, length-drop}
use lib.Seq.{get_or-drop, drop-drop}
use lib.Dec.{leb}
use borrow.Author.Tests.{lt-leb, leb-true, leb-false}
use Rattle.ascii.specs.Choice.{pick, and}
use Rattle.ascii.specs.Fold.{same}
use Rattle.ascii.proofs.TestLaws.{apart}
use Rattle.lent.specs.Sizes.{action_words, span_offset, span_length, room_for}
use Rattle.records.specs.Codes.{shape_of, has_a, has_b, has_c}
use Rattle.records.specs.declared.marking.Shape.{Shape}
use Rattle.records.specs.declared.marking.Shape.TheVariants.{NoCode as no_code, Bare as bare, One as one, Two as two, Setting as setting}
use Rattle.records.specs.Actions.{Action, action_text}
use Rattle.records.specs.Layout.{action_record}
use Rattle.records.specs.Marks.{marks_for, marks_of, known, spans_by, spans_of, span_end, end_most, inside, inside_all}
use Rattle.records.specs.Decoding.{Decoded, none, shows, action_in, decoded}
use Rattle.spelled.specs.Records.{whole, start, laid_by, record_in, offset_past, records_in}

-- ---- the loop

room_more : (n : ℕ) → action_words ≤ n → room_for action_words n ≡ suc (room_for action_words (n - action_words))
unfolding room_for
room_more n h = omega arith

room_none : (n : ℕ) → n < action_words → room_for action_words n ≡ 0
unfolding room_for
room_none n h = omega arith

-- the places of whole records, and past them
pub whole_at : (n k : ℕ) {m : ℕ} → k < m → m ≡ room_for action_words n → (k + 1) * action_words ≤ n
unfolding room_for
whole_at n k h e = omega arith

pub past_whole : (n k : ℕ) {m : ℕ} → m ≤ k → m ≡ room_for action_words n → n < (k + 1) * action_words
unfolding room_for
past_whole n k h e = omega arith

-- the code at a place has texts
abbrev pub texts_at : List ℕ → ℕ → Bool
texts_at w at = has_a (shape_of (get_or w at 0))

abbrev start_at : List ℕ → ℕ → ℕ
start_at w at = start (whole (drop at w)) (drop at w)

start_step : (w : List ℕ) (at : ℕ) → action_words ≤ length w - at → start_at w at ≡ pick (texts_at w at) (span_offset (get_or w (at + 2) 0)) (start_at w (at + action_words))
unfolding start
start_step w at h =
    let l : room_for action_words (length (drop at w)) ≡ suc (room_for action_words (length (drop (at + action_words) w))) =
    rw (length-drop, length-drop) (room_more (length w - at) h ∙ ap (λ (n : ℕ). suc (room_for action_words n)) (omega arith)) in
    rw (l, get_or-drop at w 0 0, get_or-drop at w 2 0, add-zero, drop-drop)

start_none : (w : List ℕ) (at : ℕ) → length w - at < action_words → start_at w at ≡ 0
unfolding start
start_none w at h =
    let l : room_for action_words (length (drop at w)) ≡ 0 = rw length-drop (room_none (length w - at) h) in
    rw l

-- no record before `at` has a text
pub record Sofar (w : List ℕ) (at : ℕ) : Type 0 where
  pub inside : at ≤ length w
  pub left : start (whole w) w ≡ start_at w at

module _ {w : List ℕ} {at : ℕ} (x : Sofar w at) where
  pub start_found : action_words ≤ length w - at → texts_at w at ≡ true → start (whole w) w ≡ span_offset (get_or w (at + 2) 0)
  start_found h e = x.left ∙ start_step w at h ∙ rw e

  pub start_passed : action_words ≤ length w - at → texts_at w at ≡ false → start (whole w) w ≡ start_at w (at + action_words)
  start_passed h e = x.left ∙ start_step w at h ∙ rw e

  pub start_ended : length w - at < action_words → start (whole w) w ≡ 0
  start_ended h = x.left ∙ start_none w at h

-- an offset is the upper half of a word
pub start_near : (n : ℕ) (w : List ℕ) → ((i : ℕ) → get_or w i 0 < 18446744073709551616) → start n w ≤ end_most
unfolding start span_offset
start_near zero w h = omega arith
start_near (suc n) w h = go (texts_at w 0) (start_near n (drop action_words w) (λ i. rw (get_or-drop action_words w i 0) (h (action_words + i))))
  where
    go : (t : Bool) → start n (drop action_words w) ≤ end_most → pick t (span_offset (get_or w 2 0)) (start n (drop action_words w)) ≤ end_most
    go true ih = let l = h 2 in omega (arith, l)
    go false ih = ih

-- the mark of the first text is that of the code
pub texts_mark : (code kind : ℕ) → get_or (marks_for code kind) 2 false ≡ has_a (shape_of code)
unfolding marks_for
texts_mark code kind = refl

-- ---- an offset past the buffer

-- a record without texts stands anywhere
pub no_b : (s : Shape) → has_a s ≡ false → has_b s ≡ false
no_b no_code e = refl
no_b bare e = refl
no_b one e = refl
no_b two e = e
no_b setting e = e

pub no_c : (s : Shape) (k : ℕ) → has_a s ≡ false → has_c s k ≡ false
no_c no_code k e = refl
no_c bare k e = refl
no_c one k e = refl
no_c two k e = refl
no_c setting k e = absurd (apart refl e)

module _ (text : List ℕ) where
  abbrev action_of : List ℕ → Action
  action_of w = action_in text (get_or w 0 0) (get_or w 1 0) (get_or w 2 0) (get_or w 3 0) (get_or w 4 0) (get_or w 5 0)

  bare_record : (w : List ℕ) → texts_at w 0 ≡ false → (o p : ℕ) → action_record o (action_of w) ≡ action_record p (action_of w)
  unfolding action_record action_in
  bare_record w e o p = rw (e, no_b (shape_of (get_or w 0 0)) e, no_c (shape_of (get_or w 0 0)) (get_or w 4 0) e)

  bare_text : (w : List ℕ) → texts_at w 0 ≡ false → length (action_text (action_of w)) ≡ 0
  unfolding action_text action_in
  bare_text w e = rw (e, no_b (shape_of (get_or w 0 0)) e, no_c (shape_of (get_or w 0 0)) (get_or w 4 0) e)

  pub bare_same : (w : List ℕ) → texts_at w 0 ≡ false → (o p : ℕ) → record_in text o w ≡ record_in text p w
  unfolding record_in decoded
  bare_same w e o p = go (and (known w) (inside_all (length text) (spans_of w)))
    where
      go : (t : Bool) → laid_by o w (pick t (shows (action_of w)) none) ≡ laid_by p w (pick t (shows (action_of w)) none)
      go true = ap (λ (r : List ℕ). pick (same (take 6 w) r) (shows (action_of w)) none) (bare_record w e o p)
      go false = refl

  bare_past : (w : List ℕ) → texts_at w 0 ≡ false → (o : ℕ) → (record_in text o w ≡ none) ⊎ (offset_past o (record_in text o w) ≡ o)
  unfolding record_in decoded
  bare_past w e o = go (and (known w) (inside_all (length text) (spans_of w)))
    where
      laid : (t : Bool) → (pick t (shows (action_of w)) none ≡ none) ⊎ (offset_past o (pick t (shows (action_of w)) none) ≡ o)
      laid true = inr (rw (bare_text w e) (add-zero o))
      laid false = inl refl

      go : (t : Bool) → (laid_by o w (pick t (shows (action_of w)) none) ≡ none) ⊎ (offset_past o (laid_by o w (pick t (shows (action_of w)) none)) ≡ o)
      go true = laid (same (take 6 w) (action_record o (action_of w)))
      go false = inl refl

  pub bare_more : (w : List ℕ) (o p n : ℕ) (v : List ℕ) → texts_at w 0 ≡ false → records_in text o n v ≡ records_in text p n v
      → records_in text (offset_past o (record_in text o w)) n v ≡ records_in text (offset_past p (record_in text p w)) n v
  bare_more w o p n v e ih = ⊎_elim gone (λ z. ⊎_elim (λ y. gone (bare_same w e o p ∙ y)) (kept z) (bare_past w e p)) (bare_past w e o)
    where
      gone : record_in text o w ≡ none → records_in text (offset_past o (record_in text o w)) n v ≡ records_in text (offset_past p (record_in text p w)) n v
      gone z = let y : record_in text p w ≡ none = bare_same w e p o ∙ z in rw (z, y)

      kept : offset_past o (record_in text o w) ≡ o → offset_past p (record_in text p w) ≡ p
          → records_in text (offset_past o (record_in text o w)) n v ≡ records_in text (offset_past p (record_in text p w)) n v
      kept z y = rw (z, y) ih

  -- where the first record has no text the others decide
  pub bare_first : (w : List ℕ) (n o : ℕ) → texts_at w 0 ≡ false → records_in text (start n (drop action_words w)) n (drop action_words w) ≡ records_in text o n (drop action_words w)
      → records_in text (start (suc n) w) (suc n) w ≡ records_in text o (suc n) w
  unfolding records_in start
  bare_first w n o e ih =
      let p = start n (drop action_words w) in
      rw e (ap₂ (λ (d : Decoded) (r : List Decoded). d ∷ r) (bare_same w e p o) (bare_more w p o n (drop action_words w) e ih))

  pub text_first : (w : List ℕ) (n : ℕ) → texts_at w 0 ≡ true → start (suc n) w ≡ span_offset (get_or w 2 0)
  unfolding start
  text_first w n e = rw e

  -- a first text past the buffer stands nowhere
  outside_none : (w : List ℕ) → texts_at w 0 ≡ true → length text < span_offset (get_or w 2 0) → (o : ℕ) → record_in text o w ≡ none
  unfolding record_in decoded spans_of spans_by marks_of marks_for inside_all inside span_end span_offset
  outside_none [] e h o = absurd (omega (arith, h))
  outside_none (x ∷ []) e h o = absurd (omega (arith, h))
  outside_none (x ∷ y ∷ []) e h o = absurd (omega (arith, h))
  outside_none (x ∷ y ∷ a ∷ r) e h o = rw (e, lt-leb (span_offset a + span_length a) (length text) (omega (arith, h))) (go (known (x ∷ y ∷ a ∷ r)))
    where
      go : (t : Bool) → laid_by o (x ∷ y ∷ a ∷ r) (pick (and t false) (shows (action_of (x ∷ y ∷ a ∷ r))) none) ≡ none
      go true = refl
      go false = refl

  pub start_low : (n : ℕ) (w : List ℕ) → records_in text (start n w) n w ≡ records_in text (min (start n w) (length text)) n w
  unfolding records_in start
  start_low zero w = refl
  start_low (suc n) w = go (texts_at w 0) refl (start_low n (drop action_words w))
    where
      far : (o : ℕ) → texts_at w 0 ≡ true → span_offset (get_or w 2 0) ≡ o → (t : Bool) → leb o (length text) ≡ t → records_in text o (suc n) w ≡ records_in text (min o (length text)) (suc n) w
      far o e q true f = let l = leb-true o (length text) f in ap (λ (p : ℕ). records_in text p (suc n) w) (omega (arith, l))
      far o e q false f =
          let l : length text < span_offset (get_or w 2 0) = rw q (leb-false o (length text) f) in
          rw (outside_none w e l o, outside_none w e l (min o (length text)))

      go : (t : Bool) → texts_at w 0 ≡ t → records_in text (start n (drop action_words w)) n (drop action_words w) ≡ records_in text (min (start n (drop action_words w)) (length text)) n (drop action_words w)
          → records_in text (start (suc n) w) (suc n) w ≡ records_in text (min (start (suc n) w) (length text)) (suc n) w
      go true e ih = far (start (suc n) w) e (sym (text_first w n e)) (leb (start (suc n) w) (length text)) refl
      go false e ih =
          let s : start (suc n) w ≡ start n (drop action_words w) = rw e in
          bare_first w n (min (start (suc n) w) (length text)) e (ih ∙ ap (λ (p : ℕ). records_in text (min p (length text)) n (drop action_words w)) (sym s))
