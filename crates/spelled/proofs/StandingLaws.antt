-- The records that a reader writes stand for the actions that it read, wherever their texts start.
use mathlib.Core.Path.{◌≡◌, ◌∙◌, refl, sym, ap, subst}
use mathlib.Core.Bool.{Bool, true, false}
use mathlib.Core.List.{List, [], ◌∷◌, ◌++◌, map, append_assoc}
use Prim.Native.Nat.{ℕ, suc, ◌+◌, ◌*◌, ◌≤◌, ◌<◌}
use native.Mathlib.Omega.{arith}
use lib.ListN.{length, take, drop, get_or, length-append}
use borrow.Author.Tests.{lt-ltb, ltb-true}
use Rattle.ascii.specs.Choice.{and}
use Rattle.ascii.proofs.SameLaws.{same_refl}
use Rattle.ascii.proofs.TestLaws.{apart, both, joins}
use Rattle.lent.specs.Sizes.{action_words, span_base, span_offset, room_for}
use Rattle.lent.specs.Sources.{Sourced, part_word}
use Rattle.lent.specs.Layout.{texts_of, words_of}
use Rattle.lent.specs.Table.{reads}
use Rattle.lent.proofs.SpanLaws.{span_offset_lem}
use Rattle.records.specs.Codes.{shape_of, known_by, has_a, has_b, has_c}
use Rattle.records.specs.Actions.{Slot, absent, present, Action, slot_text, action_text}
use Rattle.records.specs.Layout.{slot_word, action_record, full_record, full_text, words_from, texts}
use Rattle.records.specs.Marks.{end_most}
use Rattle.records.specs.Decoding.{Decoded, shows, stands, short, formed, short_texts, encodable}
use Rattle.records.proofs.DecodeLaws.{one_back}
use Rattle.records.proofs.LayoutLaws.{words_length}
use Rattle.single_action.proofs.MadeLaws as Made
use Rattle.actions.specs.Normal.{normalised}
use Rattle.actions.specs.Lists.{actions_of}
use Rattle.actions.proofs.LengthLaws.{Fits, actions_fit}
use Rattle.actions.proofs.NormalLaws.{normalised_length}
use Rattle.spelled.specs.Back.{things}
use Rattle.spelled.specs.Records.{whole, start, laid_by, record_in, records_in, records_of}
use Rattle.spelled.proofs.BareLaws.{piece_texts, Read, pieces_read}
use Rattle.spelled.proofs.StartLaws.{texts_at, no_b, no_c, bare_first, text_first}

-- ---- one record

-- the words from those of x on
abbrev pub words_on : ℕ → Action → ℕ → List ℕ → List ℕ
words_on o x s r = action_record o x ++ (s ∷ r)

pub first_six : (o : ℕ) (x : Action) (s : ℕ) (r : List ℕ) → take 6 (words_on o x s r) ≡ action_record o x
unfolding action_record
first_six o x s r = refl

pub behind_seven : (o : ℕ) (x : Action) (s : ℕ) (r : List ℕ) → drop action_words (words_on o x s r) ≡ r
unfolding action_record
behind_seven o x s r = refl

module _ (text front back : List ℕ) (o : ℕ) (l : length front ≡ o) (x : Action) (near : o + length (action_text x) ≤ end_most) (ok : formed x ≡ true) (sh : short_texts x ≡ true)
    (e : text ≡ front ++ (action_text x ++ back)) (s : ℕ) (r : List ℕ) where
  record_back : record_in text o (words_on o x s r) ≡ shows x
  unfolding record_in
  record_back =
      ap (laid_by o (words_on o x s r)) (one_back text front back o l x near ok sh e s r)
      ∙ rw (first_six o x s r, same_refl (action_record o x))

  -- the first text, if there is one, is at the offset
  start_here : texts_at (words_on o x s r) 0 ≡ true → span_offset (get_or (words_on o x s r) 2 0) ≡ o
  unfolding action_record formed short_texts
  start_here h =
      let a = (both (known_by (shape_of x.code) x.kind) _ ok).1 in
      let b = (both (stands (has_a (shape_of x.code)) x.a) _ a).0 in
      go (has_a (shape_of x.code)) h x.a b (both (short x.a) _ sh).0
    where
      go : (m : Bool) → m ≡ true → (a : Slot) → stands m a ≡ true → short a ≡ true → span_offset (slot_word o a) ≡ o
      go true h absent f q = absurd (apart f refl)
      go true h (present t) f q = span_offset_lem o (length t) (ltb-true (length t) span_base q)
      go false h a f q = absurd (apart h refl)

room_count : (n k : ℕ) → k < action_words → room_for action_words (n * action_words + k) ≡ n
unfolding room_for
room_count n k h = omega (arith, h)

all_short : (x : Action) → length (action_text x) < span_base → short_texts x ≡ true
unfolding short_texts action_text
all_short x l =
    let a = slot_text x.a in
    let b = slot_text x.b in
    let c = slot_text x.c in
    let p = length-append a (b ++ c) in
    let q = length-append b c in
    joins (lt-ltb (length a) span_base (omega (arith, l, p))) (joins (lt-ltb (length b) span_base (omega (arith, l, p, q))) (lt-ltb (length c) span_base (omega (arith, l, p, q))))

-- ---- a list of them

-- the words of y, and then those of ys
pub words_on_lem : (o : ℕ) (y : Sourced Action) (ys : List (Sourced Action)) (rest : List ℕ)
    → words_from o (y ∷ ys) ++ rest ≡ words_on o y.thing (part_word y.source) (words_from (o + length (full_text y)) ys ++ rest)
unfolding words_of
words_on_lem o y ys rest =
    append_assoc (full_record o y) (words_from (o + length (full_text y)) ys) rest
    ∙ append_assoc (action_record o y.thing) (part_word y.source ∷ []) (words_from (o + length (full_text y)) ys ++ rest)

module _ (text : List ℕ) where
  -- the texts of ys stand at o, with front before and back behind them
  record Stood (front back : List ℕ) (o : ℕ) (ys : List (Sourced Action)) : Type 0 where
    at_is : length front ≡ o
    near : o + length (texts ys) ≤ end_most
    fine : encodable ys ≡ true
    here : text ≡ front ++ (texts ys ++ back)

  module _ {front back : List ℕ} {o : ℕ} {y : Sourced Action} {ys : List (Sourced Action)} (x : Stood front back o (y ∷ ys)) where
    abbrev past : ℕ
    past = o + length (full_text y)

    parts : (formed y.thing ≡ true) × (short_texts y.thing ≡ true)
    unfolding encodable
    parts = both (formed y.thing) (short_texts y.thing) (both (and (formed y.thing) (short_texts y.thing)) (encodable ys) x.fine).0

    near_first : o + length (action_text y.thing) ≤ end_most
    unfolding texts_of
    near_first = omega (arith, x.near, length-append (full_text y) (texts ys))

    here_first : text ≡ front ++ (action_text y.thing ++ (texts ys ++ back))
    unfolding texts_of
    here_first = x.here ∙ ap (λ (z : List ℕ). front ++ z) (append_assoc (full_text y) (texts ys) back)

    onward : Stood (front ++ full_text y) back past ys
    unfolding texts_of encodable
    onward = record {
      at_is = length-append front (full_text y) ∙ ap (λ (n : ℕ). n + length (full_text y)) x.at_is;
      near = omega (arith, x.near, length-append (full_text y) (texts ys));
      fine = (both (and (formed y.thing) (short_texts y.thing)) (encodable ys) x.fine).1;
      here = here_first ∙ sym (append_assoc front (full_text y) (texts ys ++ back));
    }

  records_back : (front back : List ℕ) (o : ℕ) (ys : List (Sourced Action)) (rest : List ℕ) → Stood front back o ys
      → records_in text o (length ys) (words_from o ys ++ rest) ≡ map shows (things ys)
  unfolding records_in
  records_back front back o [] rest x = refl
  records_back front back o (y ∷ ys) rest x =
      let s = part_word y.source in
      let r = words_from (o + length (full_text y)) ys ++ rest in
      let d = record_back text front (texts ys ++ back) o x.at_is y.thing (near_first x) (parts x).0 (parts x).1 (here_first x) s r in
      ap (λ (w : List ℕ). records_in text o (suc (length ys)) w) (words_on_lem o y ys rest)
      ∙ rw (d, behind_seven o y.thing s r)
      (ap (λ (l : List Decoded). shows y.thing ∷ l) (records_back (front ++ full_text y) back (o + length (full_text y)) ys rest (onward x)))

  -- without a text the offset stays
  text_none : (x : Action) → formed x ≡ true → has_a (shape_of x.code) ≡ false → length (action_text x) ≡ 0
  unfolding formed action_text
  text_none x ok h =
      let s = shape_of x.code in
      let a = (both (known_by s x.kind) _ ok).1 in
      let b = both (stands (has_a s) x.a) _ a in
      let c = both (stands (has_b s) x.b) _ b.1 in
      rw (gone (has_a s) h x.a b.0, gone (has_b s) (no_b s h) x.b c.0, gone (has_c s x.kind) (no_c s x.kind h) x.c c.1)
    where
      gone : (m : Bool) → m ≡ false → (a : Slot) → stands m a ≡ true → slot_text a ≡ []
      gone true h a f = absurd (apart refl h)
      gone false h absent f = refl
      gone false h (present t) f = absurd (apart f refl)

  none_in : (o p : ℕ) (w : List ℕ) → records_in text o 0 w ≡ records_in text p 0 w
  unfolding records_in
  none_in o p w = refl

  texts_code : (o : ℕ) (x : Action) (s : ℕ) (r : List ℕ) → texts_at (words_on o x s r) 0 ≡ has_a (shape_of x.code)
  unfolding action_record
  texts_code o x s r = refl

  -- the offset that is looked for, or any where there is no text
  start_any : (front back : List ℕ) (o : ℕ) (ys : List (Sourced Action)) (rest : List ℕ) → Stood front back o ys
      → records_in text (start (length ys) (words_from o ys ++ rest)) (length ys) (words_from o ys ++ rest) ≡ records_in text o (length ys) (words_from o ys ++ rest)
  start_any front back o [] rest x = none_in (start 0 (words_from o [] ++ rest)) o (words_from o [] ++ rest)
  start_any front back o (y ∷ ys) rest x =
      ap (λ (v : List ℕ). records_in text (start (suc (length ys)) v) (suc (length ys)) v) (words_on_lem o y ys rest)
      ∙ go (has_a (shape_of y.thing.code)) refl (start_any (front ++ full_text y) back (o + length (full_text y)) ys rest (onward x))
      ∙ ap (λ (v : List ℕ). records_in text o (suc (length ys)) v) (sym (words_on_lem o y ys rest))
    where
      s : ℕ
      s = part_word y.source

      r : List ℕ
      r = words_from (o + length (full_text y)) ys ++ rest

      w : List ℕ
      w = words_on o y.thing s r

      go : (t : Bool) → has_a (shape_of y.thing.code) ≡ t → records_in text (start (length ys) r) (length ys) r ≡ records_in text (o + length (full_text y)) (length ys) r
          → records_in text (start (suc (length ys)) w) (suc (length ys)) w ≡ records_in text o (suc (length ys)) w
      go true e ih =
          let h : texts_at w 0 ≡ true = texts_code o y.thing s r ∙ e in
          ap (λ (p : ℕ). records_in text p (suc (length ys)) w)
          (text_first text w (length ys) h ∙ start_here text front (texts ys ++ back) o x.at_is y.thing (near_first x) (parts x).0 (parts x).1 (here_first x) s r h)
      go false e ih =
          let h : texts_at w 0 ≡ false = texts_code o y.thing s r ∙ e in
          let d : drop action_words w ≡ r = behind_seven o y.thing s r in
          let z : o + length (full_text y) ≡ o = omega (arith, text_none y.thing (parts x).0 e) in
          bare_first text w (length ys) o h (rw d (ih ∙ ap (λ (p : ℕ). records_in text p (length ys) r) z))

  -- what is left behind whole records is not read
  pub records_stand : (front back : List ℕ) (o : ℕ) (ys : List (Sourced Action)) (rest : List ℕ) → length rest < action_words
      → length front ≡ o → o + length (texts ys) ≤ end_most → encodable ys ≡ true → text ≡ front ++ (texts ys ++ back)
      → records_of (words_from o ys ++ rest) text ≡ map shows (things ys)
  records_stand front back o ys rest few l n ok e =
      let x : Stood front back o ys = record { at_is = l; near = n; fine = ok; here = e } in
      let k : whole (words_from o ys ++ rest) ≡ length ys = rw length-append (rw (words_length o ys) (room_count (length ys) (length rest) few)) in
      rw k (start_any front back o ys rest x ∙ records_back front back o ys rest x)

-- ---- a list that was accepted

-- each of its actions has its texts where its code says so
read_formed : (ps : List (List ℕ)) (ys : List (Sourced Action)) → Read ps (things ys) → length (texts ys) < span_base → encodable ys ≡ true
unfolding encodable texts_of
read_formed [] [] h l = refl
read_formed (p ∷ ps) [] h l = absurd h
read_formed [] (y ∷ ys) h l = absurd h
read_formed (p ∷ ps) (y ∷ ys) h l =
    let a = length-append (full_text y) (texts ys) in
    joins (joins (Made.made p y.thing h.0) (all_short y.thing (omega (arith, a, l)))) (read_formed ps ys h.1 (omega (arith, a, l)))

pub accepted_stands : (s : List ℕ) (ys : List (Sourced Action)) → actions_of s ≡ reads ys → length s < span_base → encodable ys ≡ true
accepted_stands s ys e l =
    let f = subst (Fits (length (normalised s))) e (actions_fit s) in
    read_formed (piece_texts (normalised s)) ys (pieces_read s ys e) (omega (arith, f, l, normalised_length s))
