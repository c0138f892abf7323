-- One record put: its action is the entry's, it is written where it is kept, and it ends where its spelling does.
use Rattle.std.specs.Prelude.{Option, Some, None}
use mathlib.Core.Path.{◌≡◌, ◌∙◌, refl, sym, ap, subst}
use mathlib.Core.Bool.{Bool, true, false}
use mathlib.Core.List.{List, ◌++◌}
use Prim.Native.Nat.{ℕ, ◌+◌, ◌-◌, ◌≤◌, ◌<◌}
use native.Mathlib.Omega.{arith}
use lib.ListN.{length, take, drop}
use lib.Seq.{take-add, drop-drop}
use lib.Dec.{eqb, ltb}
use borrow.Author.Tests.{le-leb, lt-leb, ltb-true, ltb-false, eq-eqb, ne_eqb}
use Rattle.ascii.specs.Choice.{and}
use Rattle.ascii.proofs.TestLaws.{apart, joins}
use Rattle.lent.specs.Sizes.{limit}
use Rattle.listing.specs.Steps.{Puts, comma}
use Rattle.listing.proofs.PutLaws.{put_more}
use Rattle.records.specs.Codes.{transformation_code, shape_of, has_a, has_b, has_c}
use Rattle.records.specs.Actions.{Action, action_text}
use Rattle.records.specs.Marks.{end_most}
use Rattle.records.specs.Decoding.{Decoded, none, shows, stands}
use Rattle.records.proofs.ShapeLaws.{known_past}
use Rattle.single_action.specs.Plans.{cut}
use Rattle.single_action.specs.declared.naming.Rule.{Rule}
use Rattle.single_action.proofs.CutLaws.{cut_length}
use Rattle.spelled.specs.Spelling.{spell}
use Rattle.spelled.specs.Condition.{isnt}
use Rattle.spelled.specs.Records.{record_in}
use Rattle.spelled.specs.Writing.{holds, reach}
use Rattle.spelled.specs.Steps.{slot_of, entry_action, Placed, EntryAt, reading_shows, ReadEntry, rule_for, mark_for, kept, closed, passed_all, keeps, RowIs}
use Rattle.spelled.specs.declared.entries.Entry.{Entry}
use Rattle.spelled.specs.declared.passing.Open.{Open}
use Rattle.spelled.proofs.KeptLaws.{Stands as StandsBy}
use Rattle.spelled.proofs.KeepLaws.{keeps_holds}

-- ---- an entry's texts are one part of the buffer

cut_both : (s : List ℕ) (f g p : ℕ) → f ≤ g → g ≤ p → cut s f g ++ cut s g p ≡ cut s f p
cut_both s f g p h k =
    let e : p - f ≡ (g - f) + (p - g) = omega arith in
    let d : f + (g - f) ≡ g = omega arith in
    ap (λ (l : List ℕ). cut s f g ++ take (p - g) l) (ap (λ (n : ℕ). drop n s) (sym d) ∙ sym (drop-drop (g - f) f s))
    ∙ sym (take-add (g - f) (p - g) (drop f s))
    ∙ ap (λ (n : ℕ). take n (drop f s)) (sym e)

module _ {text : List ℕ} {e : Entry} (x : Placed text e) where
  pub texts_cut : action_text (entry_action text e) ≡ cut text e.first e.past
  unfolding action_text
  texts_cut =
      let a = x.ascends in
      rw (x.a_is, x.b_is, x.c_is)
      (ap (λ (l : List ℕ). cut text e.first e.second ++ l) (cut_both text e.second e.third e.past a.1.0 a.1.1)
      ∙ cut_both text e.first e.second e.past a.0 (omega (arith, a.1.0, a.1.1)))

  past_texts : e.past ≡ e.first + length (action_text (entry_action text e))
  past_texts =
      let a = x.ascends in
      let l : length (action_text (entry_action text e)) ≡ e.past - e.first = ap length texts_cut ∙ cut_length text e.first e.past x.inside in
      omega (arith, l, a.0, a.1.0, a.1.1)

  pub code_low : e.code ≤ 32
  code_low = go (ltb transformation_code e.code) refl
    where
      go : (t : Bool) → ltb transformation_code e.code ≡ t → e.code ≤ 32
      go true q = absurd (apart x.known (known_past e.code e.kind (ltb-true transformation_code e.code q)))
      go false q = ltb-false transformation_code e.code q

  entry_stands : StandsBy (shape_of e.code) (entry_action text e)
  unfolding entry_action
  entry_stands =
      (x.known, (go (has_a (shape_of e.code)) (cut text e.first e.second), (go (has_b (shape_of e.code)) (cut text e.second e.third), go (has_c (shape_of e.code) e.kind) (cut text e.third e.past))))
    where
      go : (m : Bool) (t : List ℕ) → stands m (slot_of m t) ≡ true
      go true t = refl
      go false t = refl

  -- it is written where it is kept
  pub entry_holds : (last : Bool) {rule : Rule} {mark : ℕ} → rule ≡ rule_for e.code → mark ≡ mark_for rule (cut text e.first e.past)
      → holds last (entry_action text e) ≡ keeps rule mark last (entry_action text e)
  unfolding entry_action
  entry_holds last {rule} {mark} r m =
      let n : mark_for (rule_for e.code) (action_text (entry_action text e)) ≡ mark = rw (texts_cut, m, r) in
      keeps_holds (entry_action text e) entry_stands x.wide last ∙ rw (n, r)

  -- ---- the tests, one after another

  module _ (rule : Rule) (mark : ℕ) (last : Bool) where
    pub unkept : kept rule (entry_action text e) ≡ false → false ≡ keeps rule mark last (entry_action text e)
    unfolding keeps
    unkept k = rw k

    module _ (k : kept rule (entry_action text e) ≡ true) {p : Option Open}
        (q : p ≡ passed_all mark (cut text e.first e.second) (cut text e.second e.third) (cut text e.third e.past)) where
      kept_passed : keeps rule mark last (entry_action text e) ≡ closed mark last p
      unfolding keeps
      kept_passed = rw (k, x.a_is, x.b_is, x.c_is, q)

      pub kept_lost : p ≡ None → false ≡ keeps rule mark last (entry_action text e)
      kept_lost l = sym (kept_passed ∙ rw l)

      module _ {at_end : Open} (o : p ≡ Some at_end) where
        pub kept_last : last ≡ true → true ≡ keeps rule mark last (entry_action text e)
        kept_last l = sym (kept_passed ∙ rw (o, l))

        pub kept_open : last ≡ false → (at_end.mark ≡ mark → ⊥) → false ≡ keeps rule mark last (entry_action text e)
        kept_open l n = sym (kept_passed ∙ rw (o, l, ne_eqb at_end.mark mark n))

        pub kept_closed : last ≡ false → at_end.mark ≡ mark → eqb at_end.depth 0 ≡ keeps rule mark last (entry_action text e)
        kept_closed l n = sym (kept_passed ∙ rw (o, l, eq-eqb at_end.mark mark n))

-- ---- the record at a place

-- an entry that was read there
module _ {text : List ℕ} {o : ℕ} {w : List ℕ} {r : Option Entry} {e : Entry} (x : ReadEntry text o w r) (q : r ≡ Some e) where
  there : EntryAt text o (Some e)
  there = subst (EntryAt text o) q x.placed

  pub placed_there : Placed text e
  placed_there = there.0

  pub past_there : e.past ≡ o + length (action_text (entry_action text e))
  past_there = past_texts placed_there ∙ ap (λ (n : ℕ). n + length (action_text (entry_action text e))) there.1

  pub shown_there : record_in text o w ≡ shows (entry_action text e)
  shown_there = x.answer ∙ ap (reading_shows text) q

pub none_there : {text : List ℕ} {o : ℕ} {w : List ℕ} {r : Option Entry} → ReadEntry text o w r → r ≡ None → record_in text o w ≡ none
none_there {text} x q = x.answer ∙ ap (reading_shows text) q

module _ (n o : ℕ) (d : Decoded) (last : Bool) (k to : ℕ) (old new : List ℕ) where
  module _ {x : Action} (e : d ≡ shows x) where
    pub row_unwritten : holds last x ≡ false → length new ≡ length old → RowIs n o d last k to old new None
    row_unwritten h l = (l, rw (e, h))

    module _ {mid : List ℕ} {next end : ℕ} (p : Puts old mid to next (comma k)) (q : Puts mid new next end (spell x)) where
      end_is : end ≡ reach k to x
      end_is = omega (arith, p.next_is, q.next_is)

      pub row_long : limit < end → RowIs n o d last k to old new None
      row_long h = (q.long ∙ p.long, rw (e, lt-leb (reach k to x) limit (omega (arith, end_is, h))) (go (holds last x)))
        where
          go : (t : Bool) → isnt (and t false) ≡ true
          go true = refl
          go false = refl

      pub row_put : holds last x ≡ true → end ≤ limit → {past : ℕ} → past ≡ o + length (action_text x) → past ≤ n → past ≤ end_most
          → RowIs n o d last k to old new (Some (record { past = past; next = end }))
      row_put h l {past} f i m = record {
        action = x;
        action_is = e;
        written = joins h (le-leb (reach k to x) limit (omega (arith, end_is, l)));
        past_is = f;
        inside = (i, m);
        put = put_more p q;
      }
