-- Texts and records stored one after another, and zeros beyond them.
use mathlib.Core.Path.{◌≡◌, refl, ap, ◌∙◌}
use mathlib.Core.List.{List, [], ◌∷◌, ◌++◌}
use Prim.Native.Nat.{ℕ, ◌+◌, ◌-◌, ◌≤◌}
use native.Mathlib.Omega.{arith}
use lib.ListN.{length, drop, length-append, length-drop, length-map}
use lib.Seq.{length-take-le}
use Rattle.ascii.specs.Fold.{lower, lowered}
use Rattle.lent.specs.Sizes.{span_word}
use Rattle.lent.specs.Buffers.{stored}
use Rattle.lent.proofs.BufferLaws.{stored_length, stored_more}
use Rattle.single_action.specs.Actions.{action_text}
use Rattle.single_action.specs.Plans.{cut, origin_slot, origin_text, Lies, plan_action}
use Rattle.single_action.specs.declared.plans.Plan.{Plan}
use Rattle.single_action.specs.declared.plans.Origin.{Origin}
use Rattle.single_action.specs.declared.plans.Origin.TheVariants.{Absent, Copied, Lowered, Tx, One}
use Rattle.actions.specs.Layout.{slot_word, action_record}
use Rattle.actions.specs.Steps.{origin_word, Put}

-- ---- one text

-- a part that lies in the text is as long as its places say
pub cut_length : (s : List ℕ) (first past : ℕ) → first ≤ past → past ≤ length s → length (cut s first past) ≡ past - first
cut_length s first past h k = length-take-le (past - first) (drop first s) (rw length-drop (omega arith))

-- the two kinds of text that come from s
module _ (s : List ℕ) (o : Origin) (first past : ℕ) (l : Lies s o) where
  module _ (e : o ≡ Copied first past) where
    pub copied_lies : (first ≤ past) × (past ≤ length s)
    copied_lies = rw e at l

    pub copied_long : length (origin_text s o) ≡ past - first
    copied_long = rw e (cut_length s first past copied_lies.0 copied_lies.1)

    pub copied_put : (old : List ℕ) (at : ℕ) {new : List ℕ} → new ≡ stored old at (cut s first past)
        → (new ≡ stored old at (origin_text s o)) × (at + (past - first) ≡ at + length (origin_text s o))
    copied_put old at f = (rw e f, omega (arith, copied_long))

  module _ (e : o ≡ Lowered first past) where
    pub lowered_lies : (first ≤ past) × (past ≤ length s)
    lowered_lies = rw e at l

    pub lowered_long : length (origin_text s o) ≡ past - first
    lowered_long = rw e (length-map (cut s first past) lower ∙ cut_length s first past lowered_lies.0 lowered_lies.1)

    pub lowered_put : (old : List ℕ) (at : ℕ) {new : List ℕ} → new ≡ stored old at (lowered (cut s first past))
        → (new ≡ stored old at (origin_text s o)) × (at + (past - first) ≡ at + length (origin_text s o))
    lowered_put old at f = (rw e f, omega (arith, lowered_long))

-- the span word of a text, from where it starts up to where it ends
pub word_is : (s : List ℕ) (o : Origin) (at end : ℕ) → end ≡ at + length (origin_text s o) → origin_word o at end ≡ slot_word at (origin_slot s o)
word_is s Absent at end e = refl
word_is s (Copied first past) at end e = ap (span_word at) (omega arith)
word_is s (Lowered first past) at end e = ap (span_word at) (omega arith)
word_is s Tx at end e = ap (span_word at) (omega arith)
word_is s One at end e = ap (span_word at) (omega arith)

-- ---- one action

module _ (s : List ℕ) (p : Plan) where
  pub plan_length : length (action_text (plan_action s p)) ≡ length (origin_text s p.a) + (length (origin_text s p.b) + length (origin_text s p.c))
  unfolding action_text
  plan_length = rw (length-append, length-append)

  module _ (text : List ℕ) (used : ℕ) (h : used + length (action_text (plan_action s p)) ≤ length text) {t1 t2 t3 : List ℕ} {b c end : ℕ}
      (e1 : t1 ≡ stored text used (origin_text s p.a)) (b_is : b ≡ used + length (origin_text s p.a))
      (e2 : t2 ≡ stored t1 b (origin_text s p.b)) (c_is : c ≡ b + length (origin_text s p.b))
      (e3 : t3 ≡ stored t2 c (origin_text s p.c)) (end_is : end ≡ c + length (origin_text s p.c))
    where
      pub put_texts : t3 ≡ stored text used (action_text (plan_action s p))
      unfolding action_text
      put_texts =
          let f : b + length (origin_text s p.b) + length (origin_text s p.c) ≤ length t1 =
          rw (e1, stored_length) (omega (arith, h, plan_length, b_is)) in
          e3
          ∙ ap (λ (l : List ℕ). stored l c (origin_text s p.c)) e2
          ∙ ap (λ (n : ℕ). stored (stored t1 b (origin_text s p.b)) n (origin_text s p.c)) c_is
          ∙ stored_more t1 b (origin_text s p.b) (origin_text s p.c) f
          ∙ ap (λ (l : List ℕ). stored l b (origin_text s p.b ++ origin_text s p.c)) e1
          ∙ ap (λ (n : ℕ). stored (stored text used (origin_text s p.a)) n (origin_text s p.b ++ origin_text s p.c)) b_is
          ∙ stored_more text used (origin_text s p.a) (origin_text s p.b ++ origin_text s p.c) (rw length-append (omega (arith, h, plan_length)))

      pub put_all : (records : List ℕ) (at span : ℕ) {records' : List ℕ} {wa wb wc : ℕ}
          → wa ≡ origin_word p.a used b → wb ≡ origin_word p.b b c → wc ≡ origin_word p.c c end
          → records' ≡ stored records at (p.code ∷ p.number ∷ wa ∷ wb ∷ p.kind ∷ wc ∷ span ∷ [])
          → Put (plan_action s p) span used at text t3 records records' end
      unfolding action_record
      put_all records at span fa fb fc r = record {
        texts = put_texts;
        words =
            r ∙ rw (fa, fb, fc, word_is s p.a used b b_is, word_is s p.b b c c_is, word_is s p.c c end end_is, c_is, b_is);
        end = omega (arith, plan_length, end_is, c_is, b_is);
      }
