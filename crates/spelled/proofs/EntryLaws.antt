-- One record of lent words: where its texts must end, and that its words are those that a reader writes exactly if they end there.
use Rattle.std.specs.Prelude.{Some, None}
use mathlib.Core.Path.{◌≡◌, ◌∙◌, refl, sym, ap, subst}
use mathlib.Core.Bool.{Bool, true, false}
use mathlib.Core.List.{List, [], ◌∷◌}
use Prim.Native.Nat.{ℕ, ◌+◌, ◌*◌, ◌-◌, ◌/◌, ◌%◌, ◌^◌, ◌≤◌, ◌<◌}
use native.Mathlib.Omega.{arith}
use native.Mathlib.Nat.{add-zero, add_assoc}
use lib.ListN.{length, take, drop, get_or, length-take, length-drop}
use lib.Dec.{eqb, leb}
use borrow.Author.Tests.{eqb-true, eqb-false, eq-eqb, ne_eqb, leb-true, le-leb, lt-leb}
use Rattle.ascii.specs.Choice.{pick, and}
use Rattle.ascii.specs.Fold.{same}
use Rattle.ascii.proofs.TestLaws.{both, joins}
use Rattle.ascii.proofs.ListLaws.{next_byte}
use Rattle.lent.specs.Sizes.{action_words, span_base, span_word, span_offset, span_length}
use Rattle.records.specs.Codes.{shape_of, known_by, has_a, has_b, has_c}
use Rattle.records.specs.Actions.{present, slot_text}
use Rattle.records.specs.Layout.{slot_word, slot_end, action_record}
use Rattle.records.specs.Marks.{marks_for, marks_of, known, onto, spans_by, spans_of, span_end, end_most, inside, inside_all}
use Rattle.records.specs.Marks as Marks
use Rattle.records.specs.Decoding.{none, shows, slot_by, action_in, decoded}
use Rattle.single_action.specs.Plans.{cut}
use Rattle.spelled.specs.Records.{laid_by, record_in}
use Rattle.spelled.specs.Steps.{stood_at, end_by, text_end, slot_of, entry_action, Placed, ReadEntry}
use Rattle.spelled.specs.declared.entries.Entry.{Entry}

-- ---- one text

-- what is asked of its word: that it is in the buffer, and that it is written so
in_slot : Bool → ℕ → ℕ → Bool
in_slot true w n = inside n w
in_slot false w n = true

abbrev asked : Bool → ℕ → ℕ → List ℕ → Bool
asked m w o text = and (in_slot m w (length text)) (eqb w (slot_word o (slot_by m text w)))

module _ (text : List ℕ) (w : ℕ) where
  pub inside_is : inside (length text) w ≡ true → (span_end w ≤ length text) × (span_end w ≤ end_most)
  unfolding inside
  inside_is e =
      let h = both (leb (span_end w) (length text)) (leb (span_end w) end_most) e in
      (leb-true (span_end w) (length text) h.0, leb-true (span_end w) end_most h.1)

  cut_length : inside (length text) w ≡ true → length (Marks.cut text w) ≡ span_length w
  unfolding Marks.cut span_end
  cut_length e = let h = (inside_is e).0 in length-take (span_length w) (drop (span_offset w) text) ∙ rw length-drop (omega (arith, h))

word_at : (w o : ℕ) → eqb w (span_word o (span_length w)) ≡ eqb (span_offset w) o
unfolding span_word span_offset span_length
word_at w o = go (eqb (w / span_base) o) refl
  where
    go : (t : Bool) → eqb (w / span_base) o ≡ t → eqb w (o * span_base + w % span_base) ≡ t
    go true e = let d = eqb-true (w / span_base) o e in eq-eqb w (o * span_base + w % span_base) (omega (arith, d))
    go false e = let d = eqb-false (w / span_base) o e in ne_eqb w (o * span_base + w % span_base) (λ q. d (omega (arith, q)))

and_swap : (a t : Bool) → and a t ≡ and t a
and_swap true true = refl
and_swap true false = refl
and_swap false true = refl
and_swap false false = refl

asked_stood : (m : Bool) (w o : ℕ) (text : List ℕ) → asked m w o text ≡ stood_at m w o (length text)
unfolding in_slot
asked_stood false w o text = refl
asked_stood true w o text = go (inside (length text) w) refl
  where
    go : (t : Bool) → inside (length text) w ≡ t → and t (eqb w (span_word o (length (Marks.cut text w)))) ≡ and (eqb (span_offset w) o) t
    go true e = rw (cut_length text w e) (word_at w o ∙ and_swap true (eqb (span_offset w) o))
    go false e = and_swap false (eqb (span_offset w) o)

cut_at : (text : List ℕ) (w o p : ℕ) → span_offset w ≡ o → p - o ≡ span_length w → Marks.cut text w ≡ cut text o p
unfolding Marks.cut
cut_at text w o p f l = rw (f, l)

end_from_lem : (w o : ℕ) → span_offset w ≡ o → span_end w ≡ o + span_length w
unfolding span_end
end_from_lem w o f = rw f

-- a text that stands at o
module _ (text : List ℕ) where
  record Stood (m : Bool) (w o : ℕ) : Type 0 where
    low : o ≤ end_by m w o
    high : o ≤ length text → end_by m w o ≤ length text
    near : o ≤ end_most → end_by m w o ≤ end_most
    slot_is : slot_by m text w ≡ slot_of m (cut text o (end_by m w o))
    end_is : slot_end o (slot_by m text w) ≡ end_by m w o
    text_is : slot_text (slot_of m (cut text o (end_by m w o))) ≡ cut text o (end_by m w o)

  stood : (m : Bool) (w o : ℕ) → stood_at m w o (length text) ≡ true → Stood m w o
  stood false w o e =
      let z : o - o ≡ 0 = omega arith in
      record { low = omega arith; high = λ h. h; near = λ h. h; slot_is = refl; end_is = add-zero o; text_is = rw z }
  stood true w o e =
      let t = both (eqb (span_offset w) o) (inside (length text) w) e in
      let f = eqb-true (span_offset w) o t.0 in
      let i = inside_is text w t.1 in
      let d = end_from_lem w o f in
      let l : span_end w - o ≡ span_length w = omega (arith, d) in
      record {
        low = omega (arith, d);
        high = λ h. i.0;
        near = λ h. i.1;
        slot_is = ap present (cut_at text w o (span_end w) f l);
        end_is = ap (λ (n : ℕ). o + n) (cut_length text w t.1) ∙ sym d;
        text_is = refl;
      }

-- past the buffer nothing stands
past_out : (m : Bool) (w o n : ℕ) → n < o → n < text_end m w o n
unfolding text_end span_end
past_out false w o n h = go (eqb w 0)
  where
    go : (t : Bool) → n < pick t o (n + 1)
    go true = h
    go false = omega arith
past_out true w o n h = go (and (eqb (span_offset w) o) (inside n w)) refl
  where
    go : (t : Bool) → and (eqb (span_offset w) o) (inside n w) ≡ t → n < pick t (span_offset w + span_length w) (n + 1)
    go true e = let f = eqb-true (span_offset w) o (both (eqb (span_offset w) o) (inside n w) e).0 in omega (arith, f, h)
    go false e = omega arith

module _ (m : Bool) (w o n : ℕ) where
  end_stood : stood_at m w o n ≡ true → text_end m w o n ≡ end_by m w o
  unfolding text_end
  end_stood e = rw e

  -- and what ends within it stands
  stood_end : text_end m w o n ≤ n → stood_at m w o n ≡ true
  unfolding text_end
  stood_end h = go (stood_at m w o n) refl h
    where
      go : (t : Bool) → stood_at m w o n ≡ t → pick t (end_by m w o) (n + 1) ≤ n → t ≡ true
      go true e h = refl
      go false e h = absurd (omega (arith, h))

-- the word that it has, by the tests on it
module _ (w o n : ℕ) where
  pub absent_end : (t : Bool) → eqb w 0 ≡ t → text_end false w o n ≡ pick t o (n + 1)
  unfolding text_end
  absent_end t e = rw e

  pub elsewhere_end : (span_offset w ≡ o → ⊥) → text_end true w o n ≡ n + 1
  unfolding text_end
  elsewhere_end h = rw (ne_eqb (span_offset w) o h)

  pub long_end : n < span_end w → text_end true w o n ≡ n + 1
  unfolding text_end inside
  long_end h = rw (lt-leb (span_end w) n h) (go (eqb (span_offset w) o))
    where
      go : (t : Bool) → pick (and t false) (span_end w) (n + 1) ≡ n + 1
      go true = refl
      go false = refl

  pub far_end : end_most < span_end w → text_end true w o n ≡ n + 1
  unfolding text_end inside
  far_end h = rw (lt-leb (span_end w) end_most h) (go (eqb (span_offset w) o) (leb (span_end w) n))
    where
      go : (t u : Bool) → pick (and t (and u false)) (span_end w) (n + 1) ≡ n + 1
      go true true = refl
      go true false = refl
      go false u = refl

  pub present_end : span_offset w ≡ o → span_end w ≤ n → span_end w ≤ end_most → text_end true w o n ≡ span_end w
  unfolding text_end inside
  present_end e h k = rw (eq-eqb (span_offset w) o e, le-leb (span_end w) n h, le-leb (span_end w) end_most k)

-- a span word's halves
pub halves_low : (w : ℕ) → w < 18446744073709551616 → (span_offset w < span_base) × (span_length w < span_base)
unfolding span_offset span_length
halves_low w h = (omega (arith, h), omega arith)

-- ---- a record

inside_onto : (n : ℕ) (m : Bool) (w : ℕ) (r : List ℕ) → inside_all n (onto m w r) ≡ and (in_slot m w n) (inside_all n r)
unfolding inside_all in_slot
inside_onto n true w r = refl
inside_onto n false w r = refl

module _ (text : List ℕ) (o code n a b k c s : ℕ) (r : List ℕ) where
  abbrev words : List ℕ
  words = code ∷ n ∷ a ∷ b ∷ k ∷ c ∷ s ∷ r

  abbrev N : ℕ
  N = length text

  abbrev ma : Bool
  ma = has_a (shape_of code)

  abbrev mb : Bool
  mb = has_b (shape_of code)

  abbrev mc : Bool
  mc = has_c (shape_of code) k

  abbrev pub second_at : ℕ
  second_at = text_end ma a o N

  abbrev pub third_at : ℕ
  third_at = text_end mb b second_at N

  abbrev pub past_at : ℕ
  past_at = text_end mc c third_at N

  abbrev pub entry_of : Entry
  entry_of = record { code = code; number = n; kind = k; first = o; second = second_at; third = third_at; past = past_at }

  -- what is asked of the record
  in_all : Bool
  in_all = and (in_slot ma a N) (and (in_slot mb b N) (and (in_slot mc c N) true))

  as_written : Bool
  as_written =
      and (eqb a (slot_word o (slot_by ma text a)))
      (and (eqb b (slot_word (slot_end o (slot_by ma text a)) (slot_by mb text b)))
      (and (eqb c (slot_word (slot_end (slot_end o (slot_by ma text a)) (slot_by mb text b)) (slot_by mc text c))) true))

  in_nothing : inside_all N [] ≡ true
  unfolding inside_all
  in_nothing = refl

  record_by : record_in text o words ≡ laid_by o words (pick (and (known_by (shape_of code) k) in_all) (shows (action_in text code n a b k c)) none)
  unfolding record_in decoded known spans_of spans_by marks_of marks_for in_all
  record_by =
      rw (inside_onto N ma a (onto mb b (onto mc c [])), inside_onto N mb b (onto mc c []), inside_onto N mc c [], in_nothing)

  same_by : same (take 6 words) (action_record o (action_in text code n a b k c)) ≡ as_written
  unfolding action_record action_in same as_written
  same_by = rw (eq-eqb code code refl, eq-eqb n n refl, eq-eqb k k refl)

  pub unknown_none : known_by (shape_of code) k ≡ false → record_in text o words ≡ none
  unknown_none e = record_by ∙ rw e

  -- every text stands
  record AllStood : Type 0 where
    stood_a : stood_at ma a o N ≡ true
    stood_b : stood_at mb b second_at N ≡ true
    stood_c : stood_at mc c third_at N ≡ true

  -- where the last one ends within the buffer
  all_stood : past_at ≤ N → AllStood
  all_stood h = record {
    stood_a = stood_end ma a o N (le_of second_at (λ l. not_low (past_out mc c third_at N (past_out mb b second_at N l))));
    stood_b = stood_end mb b second_at N (le_of third_at (λ l. not_low (past_out mc c third_at N l)));
    stood_c = stood_end mc c third_at N h;
  }
    where
      not_low : N < past_at → ⊥
      not_low l = omega (arith, h, l)

      le_of : (p : ℕ) → (N < p → ⊥) → p ≤ N
      le_of p f = omega (arith, f)

  -- the offsets that the layout reaches are those of the places
  module _ (x : AllStood) where
    a_end : slot_end o (slot_by ma text a) ≡ second_at
    a_end = (stood text ma a o x.stood_a).end_is ∙ sym (end_stood ma a o N x.stood_a)

    b_end : slot_end (slot_end o (slot_by ma text a)) (slot_by mb text b) ≡ third_at
    b_end = rw a_end ((stood text mb b second_at x.stood_b).end_is ∙ sym (end_stood mb b second_at N x.stood_b))

    asked_a : asked ma a o text ≡ true
    asked_a = asked_stood ma a o text ∙ x.stood_a

    asked_b : asked mb b second_at text ≡ true
    asked_b = asked_stood mb b second_at text ∙ x.stood_b

    asked_c : asked mc c third_at text ≡ true
    asked_c = asked_stood mc c third_at text ∙ x.stood_c

    all_in : in_all ≡ true
    unfolding in_all
    all_in =
        joins (both (in_slot ma a N) _ asked_a).0
        (joins (both (in_slot mb b N) _ asked_b).0 (joins (both (in_slot mc c N) _ asked_c).0 refl))

    all_written : as_written ≡ true
    unfolding as_written
    all_written =
        rw (b_end, a_end)
        (joins (both (in_slot ma a N) _ asked_a).1 (joins (both (in_slot mb b N) _ asked_b).1 (joins (both (in_slot mc c N) _ asked_c).1 refl)))

  -- its words are those that a reader writes, and its action is the entry's
  pub known_shows : known_by (shape_of code) k ≡ true → past_at ≤ N → record_in text o words ≡ shows (entry_action text entry_of)
  unfolding action_in entry_action
  known_shows e h =
      let x = all_stood h in
      let w : same (take 6 words) (action_record o (action_in text code n a b k c)) ≡ true = same_by ∙ all_written x in
      let sa = (stood text ma a o x.stood_a).slot_is ∙ ap (λ (p : ℕ). slot_of ma (cut text o p)) (sym (end_stood ma a o N x.stood_a)) in
      let sb = (stood text mb b second_at x.stood_b).slot_is ∙ ap (λ (p : ℕ). slot_of mb (cut text second_at p)) (sym (end_stood mb b second_at N x.stood_b)) in
      let sc = (stood text mc c third_at x.stood_c).slot_is ∙ ap (λ (p : ℕ). slot_of mc (cut text third_at p)) (sym (end_stood mc c third_at N x.stood_c)) in
      record_by ∙ rw (e, all_in x, w) (rw (sa, sb, sc))

  -- one that is laid out so ends within the buffer
  laid_ends : o ≤ N → in_all ≡ true → as_written ≡ true → past_at ≤ N
  unfolding in_all as_written
  laid_ends l i w =
      let (ia, i₁) = both (in_slot ma a N) _ i in
      let (ib, i₂) = both (in_slot mb b N) _ i₁ in
      let (ic, i₃) = both (in_slot mc c N) _ i₂ in
      let (wa, w₁) = both (eqb a (slot_word o (slot_by ma text a))) _ w in
      let (wb, w₂) = both (eqb b (slot_word (slot_end o (slot_by ma text a)) (slot_by mb text b))) _ w₁ in
      let (wc, w₃) = both (eqb c (slot_word (slot_end (slot_end o (slot_by ma text a)) (slot_by mb text b)) (slot_by mc text c))) _ w₂ in
      let za : stood_at ma a o N ≡ true = sym (asked_stood ma a o text) ∙ joins ia wa in
      let sa = stood text ma a o za in
      let ea : slot_end o (slot_by ma text a) ≡ second_at = sa.end_is ∙ sym (end_stood ma a o N za) in
      let ha : second_at ≤ N = rw (end_stood ma a o N za) (sa.high l) in
      let zb : stood_at mb b second_at N ≡ true = sym (asked_stood mb b second_at text) ∙ joins ib (subst (λ (p : ℕ). eqb b (slot_word p (slot_by mb text b)) ≡ true) ea wb) in
      let sb = stood text mb b second_at zb in
      let eb : slot_end second_at (slot_by mb text b) ≡ third_at = sb.end_is ∙ sym (end_stood mb b second_at N zb) in
      let hb : third_at ≤ N = rw (end_stood mb b second_at N zb) (sb.high ha) in
      let ec : slot_end (slot_end o (slot_by ma text a)) (slot_by mb text b) ≡ third_at = ap (λ (p : ℕ). slot_end p (slot_by mb text b)) ea ∙ eb in
      let zc : stood_at mc c third_at N ≡ true = sym (asked_stood mc c third_at text) ∙ joins ic (subst (λ (p : ℕ). eqb c (slot_word p (slot_by mc text c)) ≡ true) ec wc) in
      rw (end_stood mc c third_at N zc) ((stood text mc c third_at zc).high hb)

  pub past_none : o ≤ N → N < past_at → record_in text o words ≡ none
  past_none l h = record_by ∙ go (known_by (shape_of code) k) in_all refl (same (take 6 words) (action_record o (action_in text code n a b k c))) refl
    where
      go : (q i : Bool) → in_all ≡ i → (w : Bool) → same (take 6 words) (action_record o (action_in text code n a b k c)) ≡ w
          → laid_by o words (pick (and q i) (shows (action_in text code n a b k c)) none) ≡ none
      go false i e w f = refl
      go true false e w f = refl
      go true true e true f = let p = laid_ends l e (sym same_by ∙ f) in absurd (omega (arith, p, h))
      go true true e false f = rw f

  pub entry_placed : known_by (shape_of code) k ≡ true → n < 2 ^ 64 → o ≤ N → o ≤ end_most → past_at ≤ N → Placed text entry_of
  unfolding entry_action
  entry_placed e w l m h =
      let x = all_stood h in
      let sa = stood text ma a o x.stood_a in
      let sb = stood text mb b second_at x.stood_b in
      let sc = stood text mc c third_at x.stood_c in
      let pa = end_stood ma a o N x.stood_a in
      let pb = end_stood mb b second_at N x.stood_b in
      let pc = end_stood mc c third_at N x.stood_c in
      let na : second_at ≤ end_most = rw pa (sa.near m) in
      let nb : third_at ≤ end_most = rw pb (sb.near na) in
      record {
        known = e;
        ascends = (rw pa sa.low, (rw pb sb.low, rw pc sc.low));
        inside = h;
        near = rw pc (sc.near nb);
        wide = w;
        a_is = rw pa sa.text_is;
        b_is = rw pb sb.text_is;
        c_is = rw pc sc.text_is;
      }

-- ---- as it is read at a place

marks_a : (code kind : ℕ) → get_or (marks_for code kind) 2 false ≡ has_a (shape_of code)
unfolding marks_for
marks_a code kind = refl

marks_b : (code kind : ℕ) → get_or (marks_for code kind) 3 false ≡ has_b (shape_of code)
unfolding marks_for
marks_b code kind = refl

marks_c : (code kind : ℕ) → get_or (marks_for code kind) 5 false ≡ has_c (shape_of code) kind
unfolding marks_for
marks_c code kind = refl

module _ (text words : List ℕ) (at o : ℕ) (fit : at + action_words ≤ length words) where
  abbrev word : ℕ → ℕ
  word k = get_or words (at + k) 0

  next_word : (k : ℕ) → k < action_words → drop (at + k) words ≡ word k ∷ drop (at + (k + 1)) words
  next_word k h = next_byte words (at + k) (omega (arith, fit)) ∙ rw (add_assoc at k 1)

  seven : drop at words ≡ get_or words at 0 ∷ word 1 ∷ word 2 ∷ word 3 ∷ word 4 ∷ word 5 ∷ word 6 ∷ drop (at + 7) words
  seven =
      next_byte words at (omega (arith, fit))
      ∙ ap (λ (r : List ℕ). get_or words at 0 ∷ r)
      (next_word 1 (omega arith)
      ∙ ap (λ (r : List ℕ). word 1 ∷ r)
      (next_word 2 (omega arith)
      ∙ ap (λ (r : List ℕ). word 2 ∷ r)
      (next_word 3 (omega arith)
      ∙ ap (λ (r : List ℕ). word 3 ∷ r)
      (next_word 4 (omega arith) ∙ ap (λ (r : List ℕ). word 4 ∷ r) (next_word 5 (omega arith) ∙ ap (λ (r : List ℕ). word 5 ∷ r) (next_word 6 (omega arith)))))))

  pub reads_unknown : known_by (shape_of (get_or words at 0)) (word 4) ≡ false → ReadEntry text o (drop at words) None
  reads_unknown e = record { answer = rw seven (unknown_none text o (get_or words at 0) (word 1) (word 2) (word 3) (word 4) (word 5) (word 6) (drop (at + 7) words) e); placed = tt }

  module _ (low : o ≤ length text) (near : o ≤ end_most) {ta tb tc : Bool} {second third past : ℕ} (ea : ta ≡ get_or (marks_for (get_or words at 0) (word 4)) 2 false) (eb : tb ≡ get_or (marks_for (get_or words at 0) (word 4)) 3 false)
      (ec : tc ≡ get_or (marks_for (get_or words at 0) (word 4)) 5 false) (e2 : second ≡ text_end ta (word 2) o (length text)) (e3 : third ≡ text_end tb (word 3) second (length text)) (e4 : past ≡ text_end tc (word 5) third (length text)) where
    second_is : second ≡ text_end (has_a (shape_of (get_or words at 0))) (word 2) o (length text)
    second_is = rw (e2, ea, marks_a (get_or words at 0) (word 4))

    third_is : third ≡ text_end (has_b (shape_of (get_or words at 0))) (word 3) second (length text)
    third_is = rw (e3, eb, marks_b (get_or words at 0) (word 4))

    past_is : past ≡ text_end (has_c (shape_of (get_or words at 0)) (word 4)) (word 5) third (length text)
    past_is = rw (e4, ec, marks_c (get_or words at 0) (word 4))

    third_at_lem : third ≡ third_at text o (get_or words at 0) (word 1) (word 2) (word 3) (word 4) (word 5) (word 6) (drop (at + 7) words)
    third_at_lem = third_is ∙ ap (λ (p : ℕ). text_end (has_b (shape_of (get_or words at 0))) (word 3) p (length text)) second_is

    past_at_lem : past ≡ past_at text o (get_or words at 0) (word 1) (word 2) (word 3) (word 4) (word 5) (word 6) (drop (at + 7) words)
    past_at_lem = past_is ∙ ap (λ (p : ℕ). text_end (has_c (shape_of (get_or words at 0)) (word 4)) (word 5) p (length text)) third_at_lem

    pub reads_past : length text < past → ReadEntry text o (drop at words) None
    reads_past h = record { answer = rw seven (past_none text o (get_or words at 0) (word 1) (word 2) (word 3) (word 4) (word 5) (word 6) (drop (at + 7) words) low (subst (λ (p : ℕ). length text < p) past_at_lem h)); placed = tt }

    abbrev made : Entry
    made = record { code = get_or words at 0; number = word 1; kind = word 4; first = o; second = second; third = third; past = past }

    made_is : entry_of text o (get_or words at 0) (word 1) (word 2) (word 3) (word 4) (word 5) (word 6) (drop (at + 7) words) ≡ made
    made_is = rw (← second_is, ← third_is, ← past_is)

    pub reads_stands : known_by (shape_of (get_or words at 0)) (word 4) ≡ true → word 1 < 2 ^ 64 → past ≤ length text → ReadEntry text o (drop at words) (Some made)
    reads_stands e w h =
        let l = subst (λ (p : ℕ). p ≤ length text) past_at_lem h in
        record {
          answer = rw seven (known_shows text o (get_or words at 0) (word 1) (word 2) (word 3) (word 4) (word 5) (word 6) (drop (at + 7) words) e l ∙ ap (λ (m : Entry). shows (entry_action text m)) made_is);
          placed = (subst (Placed text) made_is (entry_placed text o (get_or words at 0) (word 1) (word 2) (word 3) (word 4) (word 5) (word 6) (drop (at + 7) words) e w low near l), refl);
        }
