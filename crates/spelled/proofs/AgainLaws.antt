-- A list read, written and read again: the same records and texts, sources aside.
use Rattle.lent.specs.declared.gating.GateError.{GateError}
use Rattle.lent.specs.declared.gating.GateError.TheVariants.{TooLong, Short, NotAscii}
use Rattle.std.specs.Prelude.{Result, Ok, Err}
use mathlib.Core.Path.{◌≡◌, ◌∙◌, refl, sym, ap, subst}
use mathlib.Core.Bool.{Bool, true, false}
use mathlib.Core.List.{List, [], ◌∷◌, ◌++◌, append-nil}
use Prim.Native.Nat.{ℕ, suc, ◌+◌, ◌*◌, ◌≤◌, min}
use native.Mathlib.Omega.{arith}
use lib.ListN.{length, take, get_or, length-map}
use lib.Seq.{take-append_seam}
use lib.Dec.{ltb}
use borrow.Author.Tests.{ltb-false}
use Rattle.ascii.specs.Choice.{pick}
use Rattle.lent.specs.Sizes.{action_words, room_for}
use Rattle.lent.specs.Buffers.{padded}
use Rattle.lent.specs.Sources.{Sourced, part_word}
use Rattle.lent.specs.Layout.{texts_of, records_of}
use Rattle.lent.specs.Admission.{Opened}
use Rattle.lent.specs.Table.{Given, given, text_by, records_by, no_action, no_argument, no_variable, Refusal, too_long, not_ascii, short_buffer, no_room, named, unknown_operator, bad_cursor, refused, Outcome, refuses, reads, Filled, past_gate, given_by}
use Rattle.lent.specs.declared.refusing.Flaw.{Flaw}
use Rattle.lent.proofs.GateLaws.{open_is}
use Rattle.lent.proofs.SpanLaws.{room_is}
use Rattle.records.specs.Actions.{Action, action_text}
use Rattle.records.specs.Layout.{action_record, full_text, words_from, texts}
use Rattle.records.proofs.LayoutLaws.{words_length}
use Rattle.actions.specs.Lists.{actions_of}
use Rattle.actions.specs.Normal.{normalised}
use Rattle.actions.specs.Promises.{laid_out, roomed, actions_gate, actions_outcome, ParseActions}
use Rattle.actions.specs.Promises as Acting
use Rattle.actions.specs.declared.ActionsError.{ActionsError}
use Rattle.actions.specs.declared.Read.{Read}
use Rattle.actions.proofs.LengthLaws.{Fits, actions_fit}
use Rattle.actions.proofs.NormalLaws.{normalised_length}
use Rattle.listing.specs.Promises.{writes, buffer_by}
use Rattle.listing.specs.Promises as Listing
use Rattle.listing.specs.declared.ListingError.{ListingError}
use Rattle.spelled.specs.Spelling.{spell_all}
use Rattle.spelled.specs.Back.{things}
use Rattle.spelled.specs.Records.{shown}
use Rattle.spelled.specs.Records as Records
use Rattle.spelled.specs.Writing.{Verdict, fine, fails, verdict}
use Rattle.spelled.specs.Promises.{outcome_by, written_outcome, WriteActions}
use Rattle.spelled.specs.Calls.{StandFor, unsourced, count_in, used_in, bytes_in, SameList}
use Rattle.spelled.proofs.VerdictLaws.{Backed, backed, found_back, read_back, fine_writable, shown_back}
use Rattle.spelled.proofs.StandingLaws.{first_six, behind_seven, words_on_lem, records_stand, accepted_stands}

-- ---- what the answer 0 says of a reading

flaw_not : (f : Flaw) → (refused (named (no_argument f) 0 [] (record { first = 0; past = 0 }))).number ≡ 0 → ⊥
flaw_not Flaw.Absent e = omega (arith, e)
flaw_not Flaw.Unreadable e = omega (arith, e)
flaw_not Flaw.TooLarge e = omega (arith, e)

refusal_not : (f : Refusal) → (refused f).number ≡ 0 → ⊥
refusal_not too_long e = omega (arith, e)
refusal_not (not_ascii p) e = omega (arith, e)
refusal_not short_buffer e = omega (arith, e)
refusal_not (no_room n) e = omega (arith, e)
refusal_not (named no_action k n x) e = omega (arith, e)
refusal_not (named (no_argument f) k n x) e = flaw_not f e
refusal_not (named no_variable k n x) e = omega (arith, e)
refusal_not (unknown_operator p l x) e = omega (arith, e)
refusal_not bad_cursor e = omega (arith, e)

pub record Accepted (s : List ℕ) (n k m : ℕ) : Type 0 where
  pub list : List (Sourced Action)
  pub actions_are : actions_of s ≡ reads list
  pub opened : Opened s (min n k) (length s)
  pub fits : length list ≤ room_for action_words m
  pub outcome_is : actions_outcome s n k m ≡ reads (laid_out list)

pub accepted : (s : List ℕ) (n k m : ℕ) → (given_by (actions_outcome s n k m)).number ≡ 0 → Accepted s n k m
unfolding actions_outcome
accepted s n k m e = go (actions_gate s n k) refl (actions_of s) refl e
  where
    room : (ys : List (Sourced Action)) → actions_of s ≡ reads ys → actions_gate s n k ≡ (Ok tt) → (t : Bool) → ltb (room_for action_words m) (length ys) ≡ t
        → (given_by (pick t (refuses (no_room (length ys))) (reads (laid_out ys)))).number ≡ 0 → Accepted s n k m
    room ys a g true t h = absurd (omega (arith, h))
    room ys a g false t h = record {
      list = ys;
      actions_are = a;
      opened = (open_is s (min n k) (length s)).0 g;
      fits = ltb-false (room_for action_words m) (length ys) t;
      outcome_is = rw (g, a, t);
    }

    go : (g : Result Unit GateError) → actions_gate s n k ≡ g → (o : Outcome (List (Sourced Action))) → actions_of s ≡ o → (given_by (past_gate g (roomed m o))).number ≡ 0 → Accepted s n k m
    go (Err TooLong) g o a h = absurd (omega (arith, h))
    go (Err (NotAscii p)) g o a h = absurd (omega (arith, h))
    go (Err Short) g o a h = absurd (omega (arith, h))
    go (Ok tt) g (refuses f) a h = absurd (refusal_not f h)
    go (Ok tt) g (reads ys) a h = room ys a g (ltb (room_for action_words m) (length ys)) refl h

-- ---- lists of the same actions

texts_things : (ys : List (Sourced Action)) → texts ys ≡ texts_of action_text (things ys)
unfolding texts_of
texts_things [] = refl
texts_things (y ∷ ys) = ap (λ (l : List ℕ). full_text y ++ l) (texts_things ys)

words_things : (o : ℕ) (ys : List (Sourced Action)) (rest : List ℕ) → unsourced (length ys) (words_from o ys ++ rest) ≡ records_of action_record action_text o (things ys)
unfolding unsourced records_of
words_things o [] rest = refl
words_things o (y ∷ ys) rest =
    let s = part_word y.source in
    let r = words_from (o + length (full_text y)) ys ++ rest in
    ap (unsourced (suc (length ys))) (words_on_lem o y ys rest)
    ∙ rw (first_six o y.thing s r, behind_seven o y.thing s r) (ap (λ (l : List (List ℕ)). action_record o y.thing ∷ l) (words_things (o + length (full_text y)) ys rest))

things_count : (ys : List (Sourced Action)) → length (things ys) ≡ length ys
things_count ys = length-map ys (λ (y : Sourced Action). y.thing)

-- ---- what the answer 0 says of a writing

written_read : (words text : List ℕ) (n : ℕ) → (Listing.given_by (written_outcome words text n)).number ≡ 0
    → ((m : ℕ) × (verdict 0 0 (Records.records_of words text) ≡ fine m)) × (written_outcome words text n ≡ writes (spell_all (shown (Records.records_of words text))))
unfolding written_outcome
written_read words text n e = go (verdict 0 0 (Records.records_of words text)) refl e
  where
    xs : List ℕ
    xs = spell_all (shown (Records.records_of words text))

    fit : (t : Bool) → (Listing.given_by (pick t (Listing.no_room (length xs)) (writes xs))).number ≡ 0 → pick t (Listing.no_room (length xs)) (writes xs) ≡ writes xs
    fit true h = absurd (omega (arith, h))
    fit false h = refl

    go : (v : Verdict) → verdict 0 0 (Records.records_of words text) ≡ v → (Listing.given_by (outcome_by n xs v)).number ≡ 0
        → ((m : ℕ) × (verdict 0 0 (Records.records_of words text) ≡ fine m)) × (outcome_by n xs v ≡ writes xs)
    go (fine m) q h = ((m, q), fit (ltb n (length xs)) h)
    go (fails k) q h = absurd (omega (arith, h))

-- ---- three calls

-- a front that is padded
front_is : (n k : ℕ) (xs : List ℕ) → k ≡ length xs → take k (padded n xs) ≡ xs
front_is n k xs e = rw e (take-append_seam xs _)

module _ {s text text' work work' records records' : List ℕ} {r : Result Read ActionsError} (x : ParseActions s text text' work work' records records' r) (zero-first : (Acting.answer_given r).number ≡ 0) where
  a : Accepted s (length text) (length work) (length records)
  a = accepted s (length text) (length work) (length records) (ap (λ (g : Given). g.number) (sym x.answer) ∙ zero-first)

  abbrev ys : List (Sourced Action)
  ys = a.list

  given_first : Acting.answer_given r ≡ given 0 (length ys ∷ length (texts ys) ∷ [])
  given_first = x.answer ∙ ap given_by a.outcome_is

  count_is : count_in r ≡ length ys
  count_is = ap (λ (g : Given). get_or g.values 0 0) given_first

  used_is : used_in r ≡ length (texts ys)
  used_is = ap (λ (g : Given). get_or g.values 1 0) given_first

  text_is : text' ≡ padded (length text) (texts ys)
  text_is = x.texts ∙ ap (λ (o : Outcome Filled). text_by o text) a.outcome_is

  records_are : records' ≡ padded (length records) (words_from 0 ys)
  records_are = x.words ∙ ap (λ (o : Outcome Filled). records_by o records) a.outcome_is

  words_are : take (count_in r * action_words) records' ≡ words_from 0 ys
  words_are = ap (take (count_in r * action_words)) records_are ∙ front_is (length records) (count_in r * action_words) (words_from 0 ys) (ap (λ (n : ℕ). n * action_words) count_is ∙ sym (words_length 0 ys))

  short_texts_lem : length (texts ys) ≤ length s
  short_texts_lem =
      let f = subst (Fits (length (normalised s))) a.actions_are (actions_fit s) in
      omega (arith, f, normalised_length s)

  first_stands : StandFor (take (count_in r * action_words) records') text' (things ys)
  first_stands =
      let l = a.opened.within in
      let n = short_texts_lem in
      ap (λ (w : List ℕ). Records.records_of w text') words_are
      ∙ ap (Records.records_of (words_from 0 ys)) text_is
      ∙ ap (λ (w : List ℕ). Records.records_of w (padded (length text) (texts ys))) (sym (append-nil (words_from 0 ys)))
      ∙ records_stand (padded (length text) (texts ys)) [] _ 0 ys [] (omega arith) refl (omega (arith, l, n)) (accepted_stands s ys a.actions_are (omega (arith, l))) refl

  module _ {old new : List ℕ} {q : Result ℕ ListingError} (w : WriteActions (take (count_in r * action_words) records') text' old new q) (zero-written : (Listing.answer_given q).number ≡ 0) where
    b : ((m : ℕ) × (verdict 0 0 (Records.records_of (take (count_in r * action_words) records') text') ≡ fine m))
        × (written_outcome (take (count_in r * action_words) records') text' (length old) ≡ writes (spell_all (shown (Records.records_of (take (count_in r * action_words) records') text'))))
    b = written_read (take (count_in r * action_words) records') text' (length old) (ap (λ (g : Given). g.number) (sym w.answer) ∙ zero-written)

    shown_are : shown (Records.records_of (take (count_in r * action_words) records') text') ≡ things ys
    shown_are = ap shown first_stands ∙ shown_back (things ys)

    outcome_are : written_outcome (take (count_in r * action_words) records') text' (length old) ≡ writes (spell_all (things ys))
    outcome_are = b.1 ∙ ap (λ (xs : List Action). writes (spell_all xs)) shown_are

    bytes_is : bytes_in q ≡ length (spell_all (things ys))
    bytes_is = ap (λ (g : Given). get_or g.values 0 0) (w.answer ∙ ap Listing.given_by outcome_are)

    written_is : take (bytes_in q) new ≡ spell_all (things ys)
    written_is = ap (take (bytes_in q)) (w.buffer ∙ ap (λ (o : Listing.Outcome). buffer_by o (length old)) outcome_are) ∙ front_is (length old) (bytes_in q) (spell_all (things ys)) bytes_is

    back : Backed (things ys)
    back =
        let v = (fine_writable (take (count_in r * action_words) records') text' b.0.0 b.0.1).0 in
        let e : v.actions ≡ things ys = sym (shown_back v.actions) ∙ ap shown (sym v.standing) ∙ shown_are in
        subst Backed e (backed v.actions v.back)

    pub again : {text₂ text₂' work₂ work₂' records₂ records₂' : List ℕ} {r₂ : Result Read ActionsError} → ParseActions (take (bytes_in q) new) text₂ text₂' work₂ work₂' records₂ records₂' r₂
        → bytes_in q ≤ length text₂ → bytes_in q ≤ length work₂ → count_in r * action_words ≤ length records₂ → SameList r r₂ text' text₂' records' records₂'
    again {text₂} {text₂'} {work₂} {work₂'} {records₂} {records₂'} {r₂} y t k m =
        let xs = things ys in
        let p = back in
        let n = bytes_is in
        let room : length xs ≤ room_for action_words (length records₂) = (room_is action_words (length records₂) (length xs) (omega arith)).1 (omega (arith, m, count_is, things_count ys)) in
        let o = read_back xs p.all_low p.whole_back p.small (length text₂) (length work₂) (length records₂) (omega (arith, n, t)) (omega (arith, n, k)) room in
        let zs = (found_back xs p.all_low p.whole_back p.small).0 in
        let z : things zs ≡ xs = (found_back xs p.all_low p.whole_back p.small).2 in
        let f : actions_outcome (take (bytes_in q) new) (length text₂) (length work₂) (length records₂) ≡ reads (laid_out zs) = ap (λ (v : List ℕ). actions_outcome v (length text₂) (length work₂) (length records₂)) written_is ∙ o in
        let c : length zs ≡ length ys = sym (things_count zs) ∙ ap length z ∙ things_count ys in
        let u : texts zs ≡ texts ys = texts_things zs ∙ ap (texts_of action_text) z ∙ sym (texts_things ys) in
        let v : Acting.answer_given r₂ ≡ given 0 (length zs ∷ length (texts zs) ∷ []) = y.answer ∙ ap given_by f in
        record {
          answer = v ∙ rw (c, u) (sym given_first);
          texts =
              ap (take (used_in r)) (y.texts ∙ ap (λ (o : Outcome Filled). text_by o text₂) f)
              ∙ front_is (length text₂) (used_in r) (texts zs) (used_is ∙ ap length (sym u))
              ∙ u
              ∙ sym (ap (take (used_in r)) text_is ∙ front_is (length text) (used_in r) (texts ys) used_is);
          words =
              ap (unsourced (count_in r)) (y.words ∙ ap (λ (o : Outcome Filled). records_by o records₂) f)
              ∙ ap (λ (n : ℕ). unsourced n (padded (length records₂) (words_from 0 zs))) (count_is ∙ sym c)
              ∙ words_things 0 zs _
              ∙ ap (records_of action_record action_text 0) z
              ∙ sym (ap (unsourced (count_in r)) records_are ∙ ap (λ (n : ℕ). unsourced n (padded (length records) (words_from 0 ys))) count_is ∙ words_things 0 ys _);
        }
