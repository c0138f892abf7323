-- The loop over records: the actions written so far, and the records still to come.
use Rattle.std.specs.Prelude.{Option, Some, None, Result, Ok, Err}
use mathlib.Core.Path.{◌≡◌, ◌∙◌, refl, sym, ap, subst}
use mathlib.Core.Bool.{Bool, true, false}
use mathlib.Core.List.{List, [], ◌∷◌, ◌++◌, map, append_assoc, append-nil}
use Prim.Native.Nat.{ℕ, zero, suc, ◌+◌, ◌*◌, ◌-◌, ◌≤◌, ◌<◌, min}
use native.Mathlib.Omega.{arith}
use native.Mathlib.Numerals.{add-one}
use native.Mathlib.Nat.{sub-zero}
use lib.ListN.{length, drop, length-append, length-map}
use lib.Seq.{drop-drop}
use lib.Dec.{leb}
use borrow.Author.Tests.{leb-true, leb-false, le-leb, lt-leb}
use Rattle.ascii.specs.Choice.{pick, and}
use Rattle.ascii.proofs.TestLaws.{apart, both}
use Rattle.lent.specs.Sizes.{limit, action_words}
use Rattle.lent.specs.Buffers.{zeros}
use Rattle.lent.proofs.SpanLaws.{room_is}
use Rattle.listing.specs.Json.{joined}
use Rattle.listing.specs.Promises.{Leaves}
use Rattle.listing.specs.Steps.{Puts, comma, Finished}
use Rattle.listing.specs.declared.ListingError.{ListingError}
use Rattle.listing.specs.declared.ListingError.TheVariants.{NoToken}
use Rattle.listing.proofs.PutLaws.{put_none, put_more}
use Rattle.listing.proofs.ElementLaws.{joined_more}
use Rattle.listing.proofs.EndLaws.{finished}
use Rattle.records.specs.Actions.{Action}
use Rattle.records.specs.Marks.{end_most}
use Rattle.records.specs.Decoding.{Decoded, none, shows}
use Rattle.spelled.specs.Spelling.{spell, spell_all}
use Rattle.spelled.specs.Condition.{isnt}
use Rattle.spelled.specs.Records.{whole, start, record_in, offset_past, records_in, records_of, shown}
use Rattle.spelled.specs.Writing.{holds, is_last, reach, fine, fails, verdict}
use Rattle.spelled.specs.Promises.{written_outcome}
use Rattle.spelled.specs.Steps.{stops, RowIs, RowsAre, PutEach}
use Rattle.spelled.specs.declared.writing.Row.{Row}
use Rattle.spelled.proofs.StartLaws.{start_low}

-- ---- one step of the definitions

module _ (text words : List ℕ) (o at m : ℕ) where
  abbrev next : Decoded
  next = record_in text o (drop at words)

  abbrev rest : List Decoded
  rest = records_in text (offset_past o next) m (drop (at + action_words) words)

  step : records_in text o (suc m) (drop at words) ≡ next ∷ rest
  unfolding records_in
  step = rw drop-drop

last_is : (text : List ℕ) (o m : ℕ) (words : List ℕ) (last : Bool) → last ≡ leb m 0 → is_last (records_in text o m words) ≡ last
unfolding records_in
last_is text o zero words last e = sym e
last_is text o (suc m) words last e = sym (e ∙ lt-leb (suc m) 0 (omega arith))

stopped : (k n : ℕ) (d : Decoded) (r : List Decoded) (last : Bool) → is_last r ≡ last → stops last k n d ≡ true → verdict k n (d ∷ r) ≡ fails k
unfolding verdict
stopped k n none r last l s = refl
stopped k n (shows x) r last l s = rw l (go (and (holds last x) (leb (reach k n x) limit)) s)
  where
    go : (t : Bool) → isnt t ≡ true → pick t (verdict (suc k) (reach k n x) r) (fails k) ≡ fails k
    go true h = absurd (apart refl (sym h))
    go false h = refl

went : (k n : ℕ) (x : Action) (r : List Decoded) (last : Bool) → is_last r ≡ last → and (holds last x) (leb (reach k n x) limit) ≡ true → verdict k n (shows x ∷ r) ≡ verdict (suc k) (reach k n x) r
unfolding verdict
went k n x r last l s = rw (l, s)

shown_more : (y : Action) (r : List Decoded) → shown (shows y ∷ r) ≡ y ∷ shown r
unfolding shown
shown_more y r = refl

spelt_append : (xs : List Action) (y : Action) → map spell (xs ++ (y ∷ [])) ≡ map spell xs ++ (spell y ∷ [])
spelt_append [] y = refl
spelt_append (x ∷ xs) y = ap (λ (l : List (List ℕ)). spell x ∷ l) (spelt_append xs y)

-- ---- so many are written

pub record Sofar (words text old new : List ℕ) (offset to count at : ℕ) : Type 0 where
  pub low : count ≤ whole words
  pub at_is : at ≡ count * action_words
  pub inside : (offset ≤ length text) × (offset ≤ end_most)
  pub near : to ≤ limit
  pub done : List Action
  pub count_is : length done ≡ count
  pub verdict_is : verdict 0 0 (records_of words text) ≡ verdict count to (records_in text offset (whole words - count) (drop at words))
  pub shown_is : shown (records_of words text) ≡ done ++ shown (records_in text offset (whole words - count) (drop at words))
  pub put : Puts old new 0 to (joined (map spell done))

pub begun : (words text old : List ℕ) {offset : ℕ} → offset ≡ min (start (whole words) words) (length text) → offset ≤ end_most → Sofar words text old old offset 0 0 0
unfolding joined
begun words text old {offset} e h =
    let r : records_of words text ≡ records_in text offset (whole words - 0) (drop 0 words) = rw (e, sub-zero) (start_low text (whole words) words) in
    record {
      low = omega arith;
      at_is = refl;
      inside = (omega (arith, e), h);
      near = omega arith;
      done = [];
      count_is = refl;
      verdict_is = ap (verdict 0 0) r;
      shown_is = ap shown r;
      put = put_none old 0;
    }

module _ {words text old new : List ℕ} {offset to count at : ℕ} (x : Sofar words text old new offset to count at) where
  -- the record at the place is a whole one
  pub fits_record : count < whole words → at + action_words ≤ length words
  fits_record h =
      let k : (count + 1) * action_words ≤ length words = (room_is action_words (length words) (count + 1) (omega arith)).0 (omega (arith, h)) in
      omega (arith, k, x.at_is)

  module _ (h : count < whole words) {last : Bool} (l : last ≡ leb (whole words) (count + 1)) where
    abbrev left : ℕ
    left = whole words - (count + 1)

    left_is : whole words - count ≡ suc left
    left_is = omega (arith, h)

    last_here : last ≡ leb left 0
    last_here = l ∙ go (leb (whole words) (count + 1)) refl
      where
        go : (t : Bool) → leb (whole words) (count + 1) ≡ t → t ≡ leb left 0
        go true e = sym (le-leb left 0 (omega (arith, leb-true (whole words) (count + 1) e)))
        go false e = sym (lt-leb left 0 (omega (arith, leb-false (whole words) (count + 1) e)))

    here : records_in text offset (whole words - count) (drop at words) ≡ next text words offset at left ∷ rest text words offset at left
    here = ap (λ (n : ℕ). records_in text offset n (drop at words)) left_is ∙ step text words offset at left

    is_last_lem : is_last (rest text words offset at left) ≡ last
    is_last_lem = last_is text (offset_past offset (next text words offset at left)) left (drop (at + action_words) words) last last_here

    -- one that fails ends it
    pub halted : {new' : List ℕ} {row : Option Row} → RowIs (length text) offset (record_in text offset (drop at words)) last count to new new' row → row ≡ None
        → PutEach words text old new' (Err count)
    halted {new'} w e =
        let r = subst (RowIs (length text) offset (record_in text offset (drop at words)) last count to new new') e w in
        let v : verdict 0 0 (records_of words text) ≡ fails count =
        x.verdict_is ∙ ap (verdict count to) here ∙ stopped count to (next text words offset at left) (rest text words offset at left) last is_last_lem r.1 in
        record { long = r.0 ∙ x.put.long; rows_are = v }

    -- one more
    pub turned : {new' : List ℕ} {row : Option Row} {put : Row} → RowIs (length text) offset (record_in text offset (drop at words)) last count to new new' row → row ≡ Some put
        → Sofar words text old new' put.past put.next (count + 1) (at + action_words)
    turned {new'} {row} {put} w f =
        let past = put.past in
        let after = put.next in
        let r = subst (RowIs (length text) offset (record_in text offset (drop at words)) last count to new new') f w in
        let d = next text words offset at left in
        let y = r.action in
        let e : d ≡ shows y = r.action_is in
        let p : offset_past offset d ≡ past = ap (offset_past offset) e ∙ sym r.past_is in
        let s : rest text words offset at left ≡ records_in text past left (drop (at + action_words) words) = ap (λ (o : ℕ). records_in text o left (drop (at + action_words) words)) p in
        let a : after ≡ reach count to y = omega (arith, r.put.next_is, length-append (comma count) (spell y)) in
        let g : records_in text offset (whole words - count) (drop at words) ≡ shows y ∷ records_in text past left (drop (at + action_words) words) =
        here ∙ ap (λ (d : Decoded). d ∷ rest text words offset at left) e ∙ ap (λ (q : List Decoded). shows y ∷ q) s in
        record {
          low = omega (arith, h);
          at_is = omega (arith, x.at_is);
          inside = r.inside;
          near = omega (arith, a, leb-true (reach count to y) limit (both (holds last y) (leb (reach count to y) limit) r.written).1);
          done = x.done ++ (y ∷ []);
          count_is = length-append x.done (y ∷ []) ∙ ap (λ (n : ℕ). n + 1) x.count_is;
          verdict_is =
              x.verdict_is ∙ ap (verdict count to) g
              ∙ went count to y (records_in text past left (drop (at + action_words) words)) last (ap is_last (sym s) ∙ is_last_lem) r.written
              ∙ rw (← a, ← add-one count);
          shown_is = x.shown_is ∙ ap (λ (q : List Decoded). x.done ++ shown q) g ∙ more y past;
          put = subst (Puts old new' 0 after) (spelt y) (put_more x.put r.put);
        }
      where
        more : (y : Action) (past : ℕ) → x.done ++ shown (shows y ∷ records_in text past left (drop (at + action_words) words)) ≡ (x.done ++ (y ∷ [])) ++ shown (records_in text past left (drop (at + action_words) words))
        more y past = ap (λ (q : List Action). x.done ++ q) (shown_more y (records_in text past left (drop (at + action_words) words))) ∙ sym (append_assoc x.done (y ∷ []) (shown (records_in text past left (drop (at + action_words) words))))

        spelt : (y : Action) → joined (map spell x.done) ++ (comma count ++ spell y) ≡ joined (map spell (x.done ++ (y ∷ [])))
        spelt y =
            let n : length (map spell x.done) ≡ count = length-map x.done spell ∙ x.count_is in
            ap (λ (k : ℕ). joined (map spell x.done) ++ (comma k ++ spell y)) (sym n) ∙ sym (joined_more (map spell x.done) (spell y)) ∙ ap joined (sym (spelt_append x.done y))

  -- all are written
  pub ended : whole words ≤ count → PutEach words text old new (Ok to)
  unfolding records_in verdict shown
  ended h =
      let z : whole words - count ≡ 0 = omega (arith, h) in
      let v : verdict 0 0 (records_of words text) ≡ fine to = x.verdict_is ∙ rw z in
      let s : shown (records_of words text) ≡ x.done = x.shown_is ∙ rw (z, append-nil) in
      record { long = x.put.long; rows_are = (v, subst (λ (xs : List Action). Puts old new 0 to (joined (map spell xs))) (sym s) x.put) }

-- ---- the end of the call

module _ {words text old mid : List ℕ} {rows : Result ℕ ℕ} (x : PutEach words text old mid rows) where
  pub each_failed : {k : ℕ} {new : List ℕ} → rows ≡ Err k → new ≡ zeros (length mid) → Leaves (written_outcome words text (length old)) old new (Err (NoToken k))
  unfolding written_outcome
  each_failed q e = rw (subst (RowsAre words text old mid) q x.rows_are) (record { answer = refl; buffer = e ∙ ap zeros x.long })

  pub each_written : {end : ℕ} {new : List ℕ} {r : Result ℕ ListingError} → rows ≡ Ok end → Finished mid new end r → Leaves (written_outcome words text (length old)) old new r
  unfolding written_outcome spell_all
  each_written q f = let w = subst (RowsAre words text old mid) q x.rows_are in rw w.0 (finished w.1 f)
