-- The demand of M-109, action lists written back.
-- The idea: a call is decided by the verdict over its records, and that is fine exactly for a list whose spelling reads back to it.
use Rattle.std.specs.Prelude.{Result}
use mathlib.Core.Path.{◌≡◌, ◌∙◌, refl, sym, ap, subst}
use mathlib.Core.Bool.{Bool, true, false}
use mathlib.Core.List.{List, [], ◌∷◌}
use Prim.Native.Nat.{ℕ, ◌≤◌, ◌<◌}
use native.Mathlib.Omega.{arith}
use lib.ListN.{length}
use lib.Dec.{ltb}
use borrow.Author.Tests.{ltb-true, ltb-false}
use Rattle.lent.specs.Sizes.{limit}
use Rattle.lent.specs.Buffers.{zeros, padded}
use Rattle.lent.specs.Sources.{Sourced}
use Rattle.lent.specs.Table.{Given, given, reads}
use Rattle.lent.proofs.HighLaws.{low_high}
use Rattle.records.specs.Actions.{Action}
use Rattle.actions.specs.Lists.{actions_of}
use Rattle.actions.specs.Promises.{ParseActions}
use Rattle.listing.specs.Promises.{writes, no_room, no_token, given_by, buffer_by}
use Rattle.listing.specs.Promises as Listing
use Rattle.listing.specs.declared.ListingError.{ListingError}
use Rattle.spelled.specs.Spelling.{spell_all}
use Rattle.spelled.specs.Back.{things}
use Rattle.spelled.specs.Records.{records_of, shown}
use Rattle.spelled.specs.Writing.{Verdict, fine, fails, verdict}
use Rattle.spelled.specs.Promises.{written_outcome}
use Rattle.spelled.specs.Calls.{StandFor, Writable}
use Rattle.spelled.proofs.AsciiLaws.{read_low, high_ascii}
use Rattle.spelled.proofs.SmoothLaws.{smooth_written}
use Rattle.spelled.proofs.VerdictLaws.{fine_not, reads_as, fine_writable, writable_fine, shown_back}
use Rattle.spelled.proofs.StandingLaws.{records_stand, accepted_stands}
use Rattle.spelled.proofs.AgainLaws as Again
use Rattle.demands.specs.Calls.{Wrote, ActionRecords, write_actions_promise}
use Rattle.demands.specs.WrittenBack.{Plain, WrittenBack}

one_list : (words text : List ℕ) (xs ys : List Action) → StandFor words text xs → StandFor words text ys → xs ≡ ys
one_list words text xs ys p q = sym (shown_back xs) ∙ ap shown (sym p ∙ q) ∙ shown_back ys

-- ---- one call

module _ (i : ActionRecords) where
  abbrev list : List Action
  list = shown (records_of i.words i.texts)

  abbrev room : ℕ
  room = length i.buffer

  abbrev spelling : List ℕ
  spelling = spell_all list

  -- a list that stands there is the one that is written
  the-list : (w : Writable i.words i.texts) → spell_all w.actions ≡ spelling
  the-list w = ap spell_all (sym (shown_back w.actions) ∙ ap shown (sym w.standing))

  -- by the verdict: 19, 4 or 0
  data Came : Type 0 where
    failed : (k : ℕ) → (Writable i.words i.texts → ⊥) → written_outcome i.words i.texts room ≡ no_token k → Came
    short : Writable i.words i.texts → room < length spelling → written_outcome i.words i.texts room ≡ no_room (length spelling) → Came
    done : Writable i.words i.texts → length spelling ≤ room → written_outcome i.words i.texts room ≡ writes spelling → Came

  came : Came
  unfolding written_outcome
  came = go (verdict 0 0 (records_of i.words i.texts)) refl
    where
      fit : Writable i.words i.texts → (m : ℕ) → verdict 0 0 (records_of i.words i.texts) ≡ fine m → (t : Bool) → ltb room (length spelling) ≡ t → Came
      fit w m e true t = short w (ltb-true room (length spelling) t) (rw (e, t))
      fit w m e false t = done w (ltb-false room (length spelling) t) (rw (e, t))

      go : (v : Verdict) → verdict 0 0 (records_of i.words i.texts) ≡ v → Came
      go (fine m) e = fit (fine_writable i.words i.texts m e).0 m e (ltb room (length spelling)) refl
      go (fails k) e = failed k (λ w. fine_not (sym e ∙ (writable_fine i.words i.texts w).1)) (rw e)

  module _ (o : Wrote (Result ℕ ListingError)) (x : write_actions_promise i o) where
    abbrev Outcome : Type 0
    Outcome = Listing.Outcome

    abbrev number : ℕ
    number = (Listing.answer_given o.answer).number

    told : {c : Listing.Outcome} → written_outcome i.words i.texts room ≡ c → Listing.answer_given o.answer ≡ given_by c
    told e = x.answer ∙ ap given_by e

    numbered : {c : Listing.Outcome} → written_outcome i.words i.texts room ≡ c → number ≡ (given_by c).number
    numbered e = ap (λ (g : Given). g.number) (told e)

    held : {c : Listing.Outcome} → written_outcome i.words i.texts room ≡ c → o.buffer ≡ buffer_by c room
    held e = x.buffer ∙ ap (λ (c : Listing.Outcome). buffer_by c room) e

    written : number ≡ 0 → (w : Writable i.words i.texts) × (Listing.answer_given o.answer ≡ given 0 (length (spell_all w.actions) ∷ [])) × (o.buffer ≡ padded room (spell_all w.actions))
    written h = go came
      where
        go : Came → (w : Writable i.words i.texts) × (Listing.answer_given o.answer ≡ given 0 (length (spell_all w.actions) ∷ [])) × (o.buffer ≡ padded room (spell_all w.actions))
        go (failed k n e) = absurd (omega (arith, h, numbered e))
        go (short w l e) = absurd (omega (arith, h, numbered e))
        go (done w l e) = (w, told e ∙ ap (λ (s : List ℕ). given 0 (length s ∷ [])) (sym (the-list w)), held e ∙ ap (padded room) (sym (the-list w)))

    not_written_row : number ≡ 19 → Writable i.words i.texts → ⊥
    not_written_row h v = go came
      where
        go : Came → ⊥
        go (failed k n e) = n v
        go (short w l e) = omega (arith, h, numbered e)
        go (done w l e) = omega (arith, h, numbered e)

    unwritable : (Writable i.words i.texts → ⊥) → number ≡ 19
    unwritable h = go came
      where
        go : Came → number ≡ 19
        go (failed k n e) = numbered e
        go (short w l e) = absurd (h w)
        go (done w l e) = absurd (h w)

    no_room_row : number ≡ 4 → (w : Writable i.words i.texts) × (room < length (spell_all w.actions))
    no_room_row h = go came
      where
        go : Came → (w : Writable i.words i.texts) × (room < length (spell_all w.actions))
        go (failed k n e) = absurd (omega (arith, h, numbered e))
        go (short w l e) = (w, rw (the-list w) l)
        go (done w l e) = absurd (omega (arith, h, numbered e))

    too_long_row : (w : Writable i.words i.texts) → room < length (spell_all w.actions) → number ≡ 4
    too_long_row w h = go came
      where
        go : Came → number ≡ 4
        go (failed k n e) = absurd (n w)
        go (short v l e) = numbered e
        go (done v l e) = absurd (omega (arith, h, l, ap length (the-list w)))

    needed : number ≡ 4 → (w : Writable i.words i.texts) → Listing.answer_given o.answer ≡ given 4 (length (spell_all w.actions) ∷ [])
    needed h w = go came
      where
        go : Came → Listing.answer_given o.answer ≡ given 4 (length (spell_all w.actions) ∷ [])
        go (failed k n e) = absurd (n w)
        go (short v l e) = told e ∙ ap (λ (s : List ℕ). given 4 (length s ∷ [])) (sym (the-list w))
        go (done v l e) = absurd (omega (arith, h, numbered e))

    refused : (number ≡ 0 → ⊥) → o.buffer ≡ zeros room
    refused h = go came
      where
        go : Came → o.buffer ≡ zeros room
        go (failed k n e) = held e
        go (short w l e) = held e
        go (done w l e) = absurd (h (numbered e))

-- ---- lists that a reader accepted

plain : (s : List ℕ) (ys : List (Sourced Action)) → actions_of s ≡ reads ys → Plain s ys → length (spell_all (things ys)) ≤ limit
    → (words text : List ℕ) → StandFor words text (things ys) → Writable words text
plain s ys e p l words text st = record {
  actions = things ys;
  standing = st;
  back = reads_as (things ys) (read_low s ys e (high_ascii s (low_high s p.0))) (smooth_written s ys e p.1) l;
}

pub written_back : WrittenBack
written_back = record {
  written = written;
  not_written_row = λ i o x. (not_written_row i o x, unwritable i o x);
  no_room_row = λ i o x. (no_room_row i o x, λ v. too_long_row i o x v.0 v.1);
  needed = needed;
  refused = refused;
  one_list = one_list;
  standing = λ s ys e l text front back rest t n few.
      records_stand text front back (length front) ys rest few refl n (accepted_stands s ys e (omega (arith, l))) t;
  plain = plain;
  again = λ i o x zero-first buffer w y zero-written i₂ o₂ z same t k m.
      Again.again x zero-first y zero-written
      (subst (λ (s : List ℕ). ParseActions s i₂.0.text o₂.0.text i₂.1 o₂.1 i₂.0.records o₂.0.records o₂.0.answer) same z) t k m;
}
