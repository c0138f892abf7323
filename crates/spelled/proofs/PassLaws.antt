-- A walk that small letters and the colon do not change comes to the same behind an action's name: what stands behind the colon decides.
use mathlib.Core.Path.{◌≡◌, ◌∙◌, refl, sym, ap}
use mathlib.Core.Bool.{true, false}
use mathlib.Core.List.{List, [], ◌∷◌, ◌++◌, append-nil}
use Prim.Native.Nat.{ℕ, ◌≤◌}
use native.Mathlib.Omega.{arith}
use borrow.Author.Tests.{ne_eqb}
use Rattle.ascii.specs.Classes.{within}
use Rattle.ascii.specs.Fold.{lowered}
use Rattle.ascii.proofs.ByteLaws.{bounds}
use Rattle.ascii.proofs.TestLaws.{both}
use Rattle.records.specs.Actions.{Slot, absent, present, Action, slot_text}
use Rattle.single_action.specs.Marks.{quotation}
use Rattle.single_action.specs.Table.{Row}
use Rattle.actions.specs.Pieces.{Nest, outside, nest_bare, nest_after, cuts}
use Rattle.spelled.specs.Spelling.{argument, with_argument, spell}
use Rattle.spelled.specs.Condition.{steady, uncut, nest_past}
use Rattle.spelled.specs.Texts.{walk_of}
use Rattle.spelled.proofs.RowLaws.{letters, Facts}
use Rattle.spelled.proofs.SingleLaws.{Spelt, shift, rowed, unspelt, spelt}

-- ---- any such walk

abbrev pub Passes : {A : Type 0} → (List ℕ → A) → Type 0
Passes f = (b : ℕ) (s : List ℕ) → 58 ≤ b → b ≤ 122 → (b ≡ 92 → ⊥) → f (b ∷ s) ≡ f s

module _ {A : Type 0} (f : List ℕ → A) (pass : Passes f) where
  past_letters : (l s : List ℕ) → letters l ≡ true → f (l ++ s) ≡ f s
  unfolding letters
  past_letters [] s h = refl
  past_letters (b ∷ r) s h =
      let p = both (within 97 122 b) (letters r) h in
      let g = bounds 97 122 b p.0 in
      let l = g.0 in
      pass b (r ++ s) (omega (arith, l)) g.1 (λ e. omega (arith, e, l)) ∙ past_letters r s p.1

  past_colon : (s : List ℕ) → f (58 ∷ s) ≡ f s
  past_colon s = pass 58 s (omega arith) (omega arith) (λ e. omega (arith, e))

  past_name : (r : Row) → Facts r → (s : Slot) → f (with_argument (lowered r.name) s) ≡ f (slot_text s)
  past_name r x absent = ap f (sym (append-nil (lowered r.name))) ∙ past_letters (lowered r.name) [] x.lettered
  past_name r x (present t) = past_letters (lowered r.name) (58 ∷ t) x.lettered ∙ past_colon t

  pub past_spelling : (x : Action) → f (spell x) ≡ f (walk_of x)
  unfolding argument
  past_spelling x = go (spelt x)
    where
      go : Spelt x → f (spell x) ≡ f (walk_of x)
      go (shift e s) = rw (s, e) (pass 116 (58 ∷ slot_text x.a) (omega arith) (omega arith) (λ e. omega (arith, e)) ∙ past_colon (slot_text x.a))
      go (rowed r f k e g s) = rw (s, e, g) (past_name r f (argument r.rule x))
      go (unspelt e g s) = rw (s, e, g)

-- ---- the walks of the condition

pub steady_passes : Passes steady
unfolding steady
steady_passes b s l h n = rw (ne_eqb b 92 n)

-- with nothing open
plain_byte : (b : ℕ) → 58 ≤ b → (cuts outside b ≡ false) × (nest_after outside b ≡ outside)
unfolding cuts nest_after nest_bare quotation
plain_byte b l = (
  rw (ne_eqb b 44 (λ e. omega (arith, e))),
  rw (ne_eqb b 34 (λ e. omega (arith, e)), ne_eqb b 39 (λ e. omega (arith, e)), ne_eqb b 40 (λ e. omega (arith, e)), ne_eqb b 41 (λ e. omega (arith, e))),
)

pub uncut_passes : Passes (uncut outside)
unfolding uncut
uncut_passes b s l h n = let x = plain_byte b l in rw (x.0, x.1)

pub nest_passes : Passes (nest_past outside)
unfolding nest_past
nest_passes b s l h n = ap (λ (m : Nest). nest_past m s) (plain_byte b l).1

-- an action's spelling is cut, and leaves open, what stands behind its colon
pub spelling_uncut : (x : Action) → uncut outside (spell x) ≡ uncut outside (walk_of x)
spelling_uncut x = past_spelling (uncut outside) uncut_passes x

pub spelling_nest : (x : Action) → nest_past outside (spell x) ≡ nest_past outside (walk_of x)
spelling_nest x = past_spelling (nest_past outside) nest_passes x
