-- The theorem of M-105. Texts are laid out one after another, so each ends within the texts of all, which are no longer than the input, or
-- by three bytes; and where a thing was read from is a part of the input (`Underline`).
use mathlib.Core.Path.{◌≡◌, refl}
use mathlib.Core.Bool.{Bool}
use mathlib.Core.List.{List, [], ◌∷◌, ◌++◌, append-nil, append_assoc}
use Prim.Native.Nat.{ℕ, suc, ◌+◌, ◌-◌, ◌≤◌}
use native.Mathlib.Omega.{arith}
use lib.ListN.{length, drop, length-append}
use lib.Seq.{drop-append_seam}
use Rattle.lent.specs.Sizes.{span_word}
use Rattle.lent.specs.Sources.{Part, part_word, Sourced}
use Rattle.lent.specs.Layout.{texts_of, words_of}
use Rattle.lent.proofs.SpanLaws.{span_offset_lem, span_length_lem}
use Rattle.records.specs.Actions.{Action, Slot, absent, present, slot_text, action_text}
use Rattle.records.specs.Layout.{slot_word, slot_end, action_record, full_record, full_text}
use Rattle.records.specs.Layout as Acts
use Rattle.variables.specs.Variables.{Variable, Selection, none, key, regex}
use Rattle.variables.specs.Layout.{selection_text, selection_span, variable_whole, variable_text, exclusion_whole, exclusion_text, selection_texts}
use Rattle.variables.specs.Layout as Spread
use Rattle.spans.specs.Conversion.{old_word}
use Rattle.spans.proofs.RoundLaws.{old_is}
use Rattle.spans.proofs.ConversionLaws.{low_both, made_near}
use Rattle.demands.specs.Underline.{Each}
use Rattle.demands.specs.StoredSpans.{old_limit, Kept, action_spans, variable_spans, RecordKept, RecordsKept}

-- ---- one word

-- what offsets, lengths and ends stay within: a setvar alone may be laid out in three bytes more than it has
abbrev pub near : ℕ
near = old_limit + 3

pub kept : (o l : ℕ) → o ≤ near → l ≤ near → Kept (span_word o l)
kept o l h k =
    let a = span_offset_lem o l (omega arith) in
    let b = span_length_lem o l (omega arith) in
    record { there = rw (a, b) (old_is o l (omega arith) (omega arith)); back = rw (a, b) (made_near o l old_word (low_both o l (omega arith) (omega arith))) }

pub nothing_kept : Kept 0
unfolding span_word
nothing_kept = kept 0 0 (omega arith) (omega arith)

-- of a part whose ends are near
abbrev pub Near : Part → Type 0
Near x = (x.first ≤ near) × (x.past ≤ near)

pub part_kept : (x : Part) → Near x → Kept (part_word x)
part_kept x h = kept x.first (x.past - x.first) h.0 (omega (arith, h.1))

-- ---- many records

-- Things with their records and texts, laid out from an offset: where each record's spans are kept, as long as its text ends near, all are.
module _ {A : Type 0} (spans : List Bool) (words : ℕ → A → List ℕ) (text : A → List ℕ) (C : A → Type 0)
    (wide : (o : ℕ) (x : A) → length (words o x) ≡ length spans)
    (one : (o : ℕ) (x : A) (more : List ℕ) → o + length (text x) ≤ near → C x → RecordKept spans (words o x ++ more)) where
  pub records_kept : (o : ℕ) (xs : List A) → o + length (texts_of text xs) ≤ near → Each C xs → (n : ℕ) (more : List ℕ) → RecordsKept spans n more
      → RecordsKept spans (length xs + n) (words_of words text o xs ++ more)
  unfolding RecordsKept words_of texts_of
  records_kept o [] h c n more k = let z : length {A = A} [] + n ≡ n = omega arith in rw z k
  records_kept o (x ∷ xs) h c n more k =
      let l = length-append (text x) (texts_of text xs) in
      let rest : List ℕ = words_of words text (o + length (text x)) xs ++ more in
      let e : (words o x ++ words_of words text (o + length (text x)) xs) ++ more ≡ words o x ++ rest = append_assoc (words o x) _ more in
      let d : drop (length spans) (words o x ++ rest) ≡ rest = rw (← wide o x) (drop-append_seam (words o x) rest) in
      let z : length (x ∷ xs) + n ≡ suc (length xs + n) = omega arith in
      rw (e, z, d) (one o x rest (omega (arith, l, h)) c.0, records_kept (o + length (text x)) xs (omega (arith, l, h)) c.1 n more k)

  -- and alone
  pub all_kept : (o : ℕ) (xs : List A) → o + length (texts_of text xs) ≤ near → Each C xs → RecordsKept spans (length xs) (words_of words text o xs)
  unfolding RecordsKept
  all_kept o xs h c =
      let z : length xs + 0 ≡ length xs = omega arith in
      rw (← z, ← append-nil (words_of words text o xs)) (records_kept o xs h c 0 [] tt)

-- ---- actions

-- read from a part that is near
abbrev pub From : {A : Type 0} → Sourced A → Type 0
From x = Near x.source

pub slot_kept : (o : ℕ) (t : Slot) → o + length (slot_text t) ≤ near → Kept (slot_word o t)
slot_kept o absent h = nothing_kept
slot_kept o (present t) h = kept o (length t) (omega (arith, h)) (omega (arith, h))

action_kept : (o : ℕ) (x : Sourced Action) (more : List ℕ) → o + length (full_text x) ≤ near → From x → RecordKept action_spans (full_record o x ++ more)
unfolding action_record action_text
action_kept o x more h c =
    let a = x.thing in
    let l = length-append (slot_text a.a) (slot_text a.b ++ slot_text a.c) in
    let m = length-append (slot_text a.b) (slot_text a.c) in (
      slot_kept o a.a (omega (arith, h, l, m)),
      (
        slot_kept (slot_end o a.a) a.b (omega (arith, h, l, m)),
        (slot_kept (slot_end (slot_end o a.a) a.b) a.c (omega (arith, h, l, m)), (part_kept x.source c, tt)),
      ),
    )

action_wide : (o : ℕ) (x : Sourced Action) → length (full_record o x) ≡ length action_spans
unfolding action_record
action_wide o x = refl

pub actions_kept : (o : ℕ) (xs : List (Sourced Action)) → o + length (Acts.texts xs) ≤ near → Each From xs → (n : ℕ) (more : List ℕ) → RecordsKept action_spans n more
    → RecordsKept action_spans (length xs + n) (Acts.words_from o xs ++ more)
actions_kept = records_kept action_spans full_record full_text From action_wide action_kept

-- ---- variables and exclusions

selection_kept : (o : ℕ) (t : Selection) → o + length (selection_text t) ≤ near → Kept (selection_span o t)
selection_kept o none h = nothing_kept
selection_kept o (key t) h = kept o (length t) (omega (arith, h)) (omega (arith, h))
selection_kept o (regex t) h = kept o (length t) (omega (arith, h)) (omega (arith, h))

pub targets_kept : (o : ℕ) (vs : List (Sourced Variable)) (es : List (Sourced (List ℕ))) → o + length (Spread.texts vs es) ≤ near → Each From vs → Each From es
    → (n : ℕ) (more : List ℕ) → RecordsKept variable_spans n more
    → RecordsKept variable_spans (length vs + (length es + n)) (Spread.words_from o vs es ++ more)
targets_kept o vs es h c d n more k =
    let l = length-append (selection_texts vs) (texts_of exclusion_text es) in
    let w = words_of variable_whole variable_text o vs in
    let u = words_of exclusion_whole exclusion_text (o + length (selection_texts vs)) es in
    rw (append_assoc w u more)
    (records_kept variable_spans variable_whole variable_text From (λ o x. refl) (λ o x more h c. (selection_kept o x.thing.chosen h, (part_kept x.source c, tt)))
    o vs (omega (arith, h, l)) c (length es + n) (u ++ more)
    (records_kept variable_spans exclusion_whole exclusion_text From (λ o x. refl) (λ o x more h c. (kept o (length x.thing) (omega (arith, h)) (omega (arith, h)), (part_kept x.source c, tt)))
    (o + length (selection_texts vs)) es (omega (arith, h, l)) d n more k))
