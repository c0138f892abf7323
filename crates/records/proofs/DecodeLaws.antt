-- What the layout writes is read back: records decoded through the buffer that holds their texts are the actions.
use mathlib.Core.Path.{◌≡◌, ◌∙◌, refl, sym, ap, ap₂}
use mathlib.Core.Bool.{Bool, true, false}
use mathlib.Core.List.{List, [], ◌∷◌, ◌++◌, append_assoc}
use Prim.Native.Nat.{ℕ, ◌+◌, ◌≤◌, ◌<◌}
use native.Mathlib.Omega.{arith}
use lib.ListN.{length, drop, length-append}
use lib.Seq.{drop_at, take_at}
use borrow.Author.Tests.{ltb-true, le-leb}
use Rattle.ascii.specs.Choice.{and}
use Rattle.lent.specs.Sizes.{action_words, span_base, span_word}
use Rattle.lent.specs.Sources.{Sourced, part_word}
use Rattle.lent.specs.Layout.{texts_of, words_of}
use Rattle.lent.proofs.SpanLaws.{span_offset_lem, span_length_lem}
use Rattle.records.specs.Actions.{Slot, absent, present, Action, slot_text, action_text}
use Rattle.records.specs.Layout.{slot_word, slot_end, action_record, full_record, full_text, words_from, texts}
use Rattle.records.specs.Codes.{shape_of, known_by, has_a, has_b, has_c}
use Rattle.records.specs.Marks.{marks_for, marks_of, known, onto, spans_by, spans_of, span_end, end_most, inside, inside_all, cut}
use Rattle.records.specs.Decoding.{Decoded, shows, slot_by, action_in, decoded, decoded_all, all_shown, stands, short, formed, short_texts, encodable}
use Rattle.ascii.proofs.TestLaws.{apart, both, joins}

-- a text that stands at its place is cut out again
pub cut_back : (text front t back : List ℕ) (o : ℕ) → length t < span_base → text ≡ front ++ (t ++ back) → length front ≡ o
    → cut text (span_word o (length t)) ≡ t
unfolding cut
cut_back text front t back o h e l =
    rw (span_offset_lem o (length t) h, span_length_lem o (length t) h, e, drop_at front (t ++ back) o l) (take_at t back (length t) refl)

pub inside_back : (n o m : ℕ) → m < span_base → o + m ≤ n → o + m ≤ end_most → inside n (span_word o m) ≡ true
unfolding inside span_end
inside_back n o m h k j = rw (span_offset_lem o m h, span_length_lem o m h) (joins (le-leb (o + m) n k) (le-leb (o + m) end_most j))

module _ (text front back : List ℕ) (o : ℕ) (l : length front ≡ o) where
  slot_back : (m : Bool) (s : Slot) → stands m s ≡ true → short s ≡ true → text ≡ front ++ (slot_text s ++ back) → slot_by m text (slot_word o s) ≡ s
  slot_back true absent f h e = absurd (apart f refl)
  slot_back true (present t) f h e = ap present (cut_back text front t back o (ltb-true (length t) span_base h) e l)
  slot_back false absent f h e = refl
  slot_back false (present t) f h e = absurd (apart f refl)

slot_inside : (n o : ℕ) (m : Bool) (s : Slot) (r : List ℕ) → stands m s ≡ true → short s ≡ true
    → slot_end o s ≤ n → slot_end o s ≤ end_most → inside_all n r ≡ true → inside_all n (onto m (slot_word o s) r) ≡ true
unfolding inside_all
slot_inside n o true absent r f h k j e = absurd (apart f refl)
slot_inside n o true (present t) r f h k j e = joins (inside_back n o (length t) (ltb-true (length t) span_base h) k j) e
slot_inside n o false absent r f h k j e = e
slot_inside n o false (present t) r f h k j e = absurd (apart f refl)

module _ (text front back : List ℕ) (o : ℕ) (l : length front ≡ o) (x : Action) (near : o + length (action_text x) ≤ end_most) (ok : formed x ≡ true) (sh : short_texts x ≡ true)
    (e : text ≡ front ++ (action_text x ++ back)) where
  abbrev A : List ℕ
  A = slot_text x.a

  abbrev B : List ℕ
  B = slot_text x.b

  abbrev C : List ℕ
  C = slot_text x.c

  e_a : text ≡ front ++ (A ++ (B ++ (C ++ back)))
  unfolding action_text
  e_a = e ∙ ap (λ (z : List ℕ). front ++ z) (append_assoc A (B ++ C) back ∙ ap (λ (z : List ℕ). A ++ z) (append_assoc B C back))

  e_b : text ≡ (front ++ A) ++ (B ++ (C ++ back))
  e_b = e_a ∙ sym (append_assoc front A (B ++ (C ++ back)))

  e_c : text ≡ ((front ++ A) ++ B) ++ (C ++ back)
  e_c = e_b ∙ sym (append_assoc (front ++ A) B (C ++ back))

  l_b : length (front ++ A) ≡ slot_end o x.a
  l_b = length-append front A ∙ ap (λ (n : ℕ). n + length A) l

  l_c : length ((front ++ A) ++ B) ≡ slot_end (slot_end o x.a) x.b
  l_c = length-append (front ++ A) B ∙ ap (λ (n : ℕ). n + length B) l_b

  end_near : slot_end (slot_end (slot_end o x.a) x.b) x.c ≤ end_most
  unfolding action_text
  end_near = omega (arith, near, length-append A (B ++ C), length-append B C)

  end_c : slot_end (slot_end (slot_end o x.a) x.b) x.c ≤ length text
  end_c = omega (arith, ap length e_c, length-append ((front ++ A) ++ B) (C ++ back), length-append C back, l_c)

  pub one_back : (last : ℕ) (rest : List ℕ) → decoded text (action_record o x ++ (last ∷ rest)) ≡ shows x
  unfolding decoded action_record known spans_of spans_by marks_of marks_for action_in formed short_texts inside_all
  one_back last rest =
      let ma : Bool = has_a (shape_of x.code) in
      let mb : Bool = has_b (shape_of x.code) in
      let mc : Bool = has_c (shape_of x.code) x.kind in
      let (kn, ok₁) = both (known_by (shape_of x.code) x.kind) (and (stands ma x.a) (and (stands mb x.b) (stands mc x.c))) ok in
      let (sa, ok₂) = both (stands ma x.a) (and (stands mb x.b) (stands mc x.c)) ok₁ in
      let (sb, sc) = both (stands mb x.b) (stands mc x.c) ok₂ in
      let (ha, sh₁) = both (short x.a) (and (short x.b) (short x.c)) sh in
      let (hb, hc) = both (short x.b) (short x.c) sh₁ in
      let ob : ℕ = slot_end o x.a in
      let oc : ℕ = slot_end (slot_end o x.a) x.b in
      let rc : List ℕ = onto mc (slot_word oc x.c) [] in
      let rb : List ℕ = onto mb (slot_word ob x.b) rc in
      let all : inside_all (length text) (onto ma (slot_word o x.a) rb) ≡ true =
      slot_inside (length text) o ma x.a rb sa ha (omega (arith, end_c)) (omega (arith, end_near))
      (slot_inside (length text) ob mb x.b rc sb hb (omega (arith, end_c)) (omega (arith, end_near))
      (slot_inside (length text) oc mc x.c [] sc hc (omega (arith, end_c)) (omega (arith, end_near)) refl)) in
      rw (
        kn,
        all,
        slot_back text front (B ++ (C ++ back)) o l (has_a (shape_of x.code)) x.a sa ha e_a,
        slot_back text (front ++ A) (C ++ back) (slot_end o x.a) l_b (has_b (shape_of x.code)) x.b sb hb e_b,
        slot_back text ((front ++ A) ++ B) back (slot_end (slot_end o x.a) x.b) l_c (has_c (shape_of x.code) x.kind) x.c sc hc e_c,
      )

-- the round trip, the records standing anywhere and their texts from the offset o on
pub all_back : (text front back rest : List ℕ) (o : ℕ) (xs : List (Sourced Action))
    → length front ≡ o → o + length (texts xs) ≤ end_most → encodable xs ≡ true → text ≡ front ++ (texts xs ++ back)
    → decoded_all text (length xs) (words_from o xs ++ rest) ≡ all_shown xs
unfolding decoded_all all_shown texts_of words_of encodable
all_back text front back rest o [] l n ok e = refl
all_back text front back rest o (x ∷ xs) l n ok e =
    let (first, others) = both (and (formed x.thing) (short_texts x.thing)) (encodable xs) ok in
    let (fo, sh) = both (formed x.thing) (short_texts x.thing) first in
    let o' : ℕ = o + length (full_text x) in
    let t = length-append (full_text x) (texts xs) in
    let e₁ : text ≡ front ++ (full_text x ++ (texts xs ++ back)) = e ∙ ap (λ (z : List ℕ). front ++ z) (append_assoc (full_text x) (texts xs) back) in
    let e₂ : text ≡ (front ++ full_text x) ++ (texts xs ++ back) = e₁ ∙ sym (append_assoc front (full_text x) (texts xs ++ back)) in
    let l₂ : length (front ++ full_text x) ≡ o' = length-append front (full_text x) ∙ ap (λ (n : ℕ). n + length (full_text x)) l in
    let d : drop action_words (full_record o x ++ (words_from o' xs ++ rest)) ≡ words_from o' xs ++ rest = unfold action_record in refl in
    rw (append_assoc (full_record o x) (words_from o' xs) rest, d)
    (ap₂ (λ (a : Decoded) (b : List Decoded). a ∷ b)
    (ap (decoded text) (append_assoc (action_record o x.thing) (part_word x.source ∷ []) (words_from o' xs ++ rest)) ∙ one_back text front (texts xs ++ back) o l x.thing (omega (arith, n, t)) fo sh e₁ (part_word x.source) (words_from o' xs ++ rest))
    (all_back text (front ++ full_text x) back rest o' xs l₂ (omega (arith, n, t)) others e₂))
