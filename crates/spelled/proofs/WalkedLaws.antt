-- What the cutter makes of an action's spelling is what it makes of its texts, its mark being open.
use mathlib.Core.Path.{◌≡◌, ◌∙◌, refl, sym, ap, subst}
use mathlib.Core.Bool.{Bool, true, false}
use mathlib.Core.List.{List, [], ◌∷◌, ◌++◌, append-nil}
use Prim.Native.Nat.{ℕ, ◌+◌, ◌-◌}
use lib.Dec.{eqb}
use borrow.Author.Tests.{eqb-true, eqb-false, eq-eqb, ne_eqb}
use Rattle.ascii.specs.Choice.{pick, and, or}
use Rattle.ascii.specs.Text.{bytes}
use Rattle.ascii.specs.Fold.{same}
use Rattle.ascii.proofs.TestLaws.{apart, both, joins}
use Rattle.ascii.proofs.SameLaws.{same_true}
use Rattle.listing.specs.Json.{decimal}
use Rattle.records.specs.Codes.{text_kind}
use Rattle.records.specs.declared.marking.Shape.TheVariants.{Bare as bare}
use Rattle.records.specs.Actions.{Slot, absent, present, Action, slot_text, action_text}
use Rattle.records.specs.Decoding.{stands}
use Rattle.single_action.specs.Marks.{quotation}
use Rattle.single_action.specs.Setvar.{SetValue, text, int, increment, decrement, delete, macro}
use Rattle.single_action.specs.declared.naming.Rule.{Rule}
use Rattle.single_action.specs.declared.naming.Rule.TheVariants.{Plain as plain, Wanted as wanted, Unmarked as unmarked, UpTo as up_to, Severity as severity, Equation as equation, Expiry as expiry, Setting as setting}
use Rattle.actions.specs.Pieces.{Nest, nest, outside, nest_bare, nest_quoted, nest_after, cuts}
use Rattle.spelled.specs.Spelling.{has, between, marked, signed, value_in, setvar_in, bang, tail, setvar_text, argument}
use Rattle.spelled.specs.Condition.{isnt, uncut, nest_past, clean, rough, smooth}
use Rattle.spelled.specs.Steps.{mark_in, mark_for}
use Rattle.spelled.proofs.TextwiseLaws.{uncut_append, nest_append}
use Rattle.spelled.proofs.CalmLaws.{Smooth, uncut_past, nest_past_lem, calm_smooth, bang_smooth, decimal_smooth, signed_smooth}
use Rattle.single_action.proofs.MadeLaws.{shape_for}
use Rattle.spelled.proofs.KeptLaws.{Stands}
use Rattle.spelled.proofs.SpellLaws.{has_setvar}

-- ---- what leaves the cutter alone

-- the open mark is one, or none
abbrev Low : Nest → Type 0
Low n = or (eqb n.mark 0) (quotation n.mark) ≡ true

low_after : (n : Nest) (b : ℕ) → Low n → Low (nest_after n b)
unfolding nest_after nest_bare nest_quoted
low_after n b h = go (eqb n.mark 0) refl
  where
    bare : (q : Bool) → quotation b ≡ q → (o c : Bool) → Low (pick q (nest b n.depth) (pick o (nest 0 (n.depth + 1)) (pick c (nest 0 (n.depth - 1)) (nest 0 n.depth))))
    bare true e o c = rw e (or_true (eqb b 0))
      where
        or_true : (t : Bool) → or t true ≡ true
        or_true true = refl
        or_true false = refl
    bare false e true c = refl
    bare false e false true = refl
    bare false e false false = refl

    quoted : (t : Bool) → Low (pick t (nest 0 n.depth) (nest n.mark n.depth))
    quoted true = refl
    quoted false = h

    go : (t : Bool) → eqb n.mark 0 ≡ t → Low (pick t (pick (quotation b) (nest b n.depth) (pick (eqb b 40) (nest 0 (n.depth + 1)) (pick (eqb b 41) (nest 0 (n.depth - 1)) (nest 0 n.depth)))) (pick (eqb b n.mark) (nest 0 n.depth) (nest n.mark n.depth)))
    go true e = bare (quotation b) refl (eqb b 40) (eqb b 41)
    go false e = quoted (eqb b n.mark)

low_past : (n : Nest) (t : List ℕ) → Low n → Low (nest_past n t)
unfolding nest_past
low_past n [] h = h
low_past n (b ∷ r) h = low_past (nest_after n b) r (low_after n b h)

smooth_stays : (n : Nest) → Low n → (b : ℕ) → Smooth b → (cuts n b ≡ false) × (nest_after n b ≡ n)
unfolding cuts nest_after nest_bare nest_quoted
smooth_stays n h b x = (rw x.comma, rw (x.mark, x.opening, x.closing) (go (eqb n.mark 0) refl (eqb b n.mark) refl))
  where
    go : (t : Bool) → eqb n.mark 0 ≡ t → (u : Bool) → eqb b n.mark ≡ u → pick t (nest 0 n.depth) (pick u (nest 0 n.depth) (nest n.mark n.depth)) ≡ n
    go true e u f = ap (λ (m : ℕ). nest m n.depth) (sym (eqb-true n.mark 0 e))
    go false e true f =
        let q : quotation n.mark ≡ true = subst (λ (t : Bool). or t (quotation n.mark) ≡ true) e h in
        absurd (apart (ap quotation (eqb-true b n.mark f) ∙ q) x.mark)
    go false e false f = refl

-- a walk past such a text is a walk past nothing
module _ (n : Nest) (low : Low n) where
  uncut_gone : (s t : List ℕ) → smooth s ≡ true → uncut n (s ++ t) ≡ uncut n t
  uncut_gone = uncut_past n (smooth_stays n low)

  nest_gone : (s t : List ℕ) → smooth s ≡ true → nest_past n (s ++ t) ≡ nest_past n t
  nest_gone = nest_past_lem n (smooth_stays n low)

-- a setvar's value by its text alone
module _ {A : Type 0} (f : List ℕ → A) (gone : (s t : List ℕ) → smooth s ≡ true → f (s ++ t) ≡ f t) where
  alone : (s t : List ℕ) → smooth s ≡ true → t ≡ [] → f s ≡ f t
  alone s t h e = ap f (sym (append-nil s)) ∙ gone s [] h ∙ ap f (sym e)

  equals_gone : (t : List ℕ) → f (61 ∷ t) ≡ f t
  unfolding smooth quotation
  equals_gone t = gone (61 ∷ []) t refl

  step_smooth : (s n : ℕ) → smooth (s ∷ []) ≡ true → smooth (61 ∷ s ∷ signed n) ≡ true
  unfolding smooth quotation
  step_smooth s n h = joins (both (isnt (rough s)) true h).0 (signed_smooth n)

  text_gone : (t : List ℕ) → f (tail (text t)) ≡ f t
  unfolding bytes smooth quotation
  text_gone t = go (same t (49 ∷ [])) (same_true t (49 ∷ []))
    where
      go : (w : Bool) → (w ≡ true → t ≡ 49 ∷ []) → f (pick w [] (61 ∷ t)) ≡ f t
      go true e = sym (gone (49 ∷ []) [] refl) ∙ ap f (sym (e refl))
      go false e = equals_gone t

  decimal_gone : (n : ℕ) (t : List ℕ) → t ≡ [] → f (61 ∷ decimal n) ≡ f t
  decimal_gone n t e = equals_gone (decimal n) ∙ alone (decimal n) t (decimal_smooth n) e

  step_gone : (s n : ℕ) (t : List ℕ) → smooth (s ∷ []) ≡ true → t ≡ [] → f (61 ∷ s ∷ signed n) ≡ f t
  step_gone s n t h e = equals_gone (s ∷ signed n) ∙ gone (s ∷ []) (signed n) h ∙ alone (signed n) t (signed_smooth n) e

  tail_gone : (k n : ℕ) (t : List ℕ) → (text_kind k ≡ false → t ≡ []) → f (tail (value_in k n t)) ≡ f t
  unfolding value_in smooth quotation
  tail_gone k n t h =
      go (eqb k 1) (eqb k 2) (eqb k 3) (eqb k 4) (eqb k 6) (kind_of_lem 2 refl) (kind_of_lem 3 refl) (kind_of_lem 4 refl) (λ p u. h (rw (p, u)))
    where
      kind_of_lem : (j : ℕ) → text_kind j ≡ false → eqb k j ≡ true → t ≡ []
      kind_of_lem j e q = h (ap text_kind (eqb-true k j q) ∙ e)

      go : (p q r s u : Bool) → (q ≡ true → t ≡ []) → (r ≡ true → t ≡ []) → (s ≡ true → t ≡ []) → (p ≡ false → u ≡ false → t ≡ [])
          → f (tail (pick p (text t) (pick q (int n) (pick r (increment n) (pick s (decrement n) (pick u (macro t) delete)))))) ≡ f t
      go true q r s u a b c d = text_gone t
      go false true r s u a b c d = decimal_gone n t (a refl)
      go false false true s u a b c d = step_gone 43 n t refl (b refl)
      go false false false true u a b c d = step_gone 45 n t refl (c refl)
      go false false false false true a b c d = equals_gone t
      go false false false false false a b c d = ap f (sym (d refl refl))

-- ---- by rule

and_true : (t : Bool) → and t true ≡ t
and_true true = refl
and_true false = refl

-- what is open behind three texts
abbrev pub behind : ℕ → List ℕ → List ℕ → List ℕ → Nest
behind m a b c = nest_past (nest_past (nest_past (nest m 0) a) b) c

-- a walk over w is one over the three texts, and ends with only the mark open
pub record Walked (m : ℕ) (a b c w : List ℕ) : Type 0 where
  pub uncut_is : uncut outside w ≡ and (uncut (nest m 0) a) (and (uncut (nest_past (nest m 0) a) b) (uncut (nest_past (nest_past (nest m 0) a) b) c))
  pub clean_is : clean (nest_past outside w) ≡ and (eqb (behind m a b c).mark m) (eqb (behind m a b c).depth 0)

-- the mark around a text
mark_in_lem : (t : List ℕ) → (quotation (mark_in t) ≡ true) × (eqb (mark_in t) 44 ≡ false)
unfolding quotation
mark_in_lem t = go (has 39 t)
  where
    go : (h : Bool) → (quotation (pick h 34 39) ≡ true) × (eqb (pick h 34 39) 44 ≡ false)
    go true = (refl, refl)
    go false = (refl, refl)

or_true : (t : Bool) → or t true ≡ true
or_true true = refl
or_true false = refl

low_mark : (m : ℕ) → quotation m ≡ true → Low (nest m 0)
low_mark m q = rw q (or_true (eqb m 0))

module _ (m : ℕ) (q : quotation m ≡ true) (k : eqb m 44 ≡ false) where
  opens : nest_after outside m ≡ nest m 0
  unfolding nest_after nest_bare
  opens = rw q

  not_zero : eqb m 0 ≡ false
  unfolding quotation
  not_zero = ne_eqb m 0 (λ e. apart q (ap quotation e))

  -- it closes what it opened
  closes : (n : Nest) → clean (nest_after n m) ≡ and (eqb n.mark m) (eqb n.depth 0)
  unfolding nest_after nest_bare nest_quoted
  closes n = rw q (go (eqb n.mark 0) refl (eqb m n.mark) refl)
    where
      go : (t : Bool) → eqb n.mark 0 ≡ t → (u : Bool) → eqb m n.mark ≡ u
          → clean (pick t (nest m n.depth) (pick u (nest 0 n.depth) (nest n.mark n.depth))) ≡ and (eqb n.mark m) (eqb n.depth 0)
      go true e u f =
          let z : eqb n.mark m ≡ false = rw (eqb-true n.mark 0 e) (ne_eqb 0 m (λ p. apart (eq-eqb m 0 (sym p)) not_zero)) in
          rw (not_zero, z)
      go false e true f = rw (eq-eqb n.mark m (sym (eqb-true m n.mark f)))
      go false e false f = rw (e, ne_eqb n.mark m (λ p. eqb-false m n.mark f (sym p)))

  uncut_close : (n : Nest) → uncut n (m ∷ []) ≡ true
  unfolding uncut cuts
  uncut_close n = rw k

  between_uncut : (t : List ℕ) → uncut outside (between m t) ≡ uncut (nest m 0) t
  unfolding uncut cuts
  between_uncut t = rw (k, opens) (uncut_append (nest m 0) t (m ∷ []) ∙ rw (uncut_close (nest_past (nest m 0) t)) (and_true (uncut (nest m 0) t)))

  between_clean : (t : List ℕ) → clean (nest_past outside (between m t)) ≡ and (eqb (nest_past (nest m 0) t).mark m) (eqb (nest_past (nest m 0) t).depth 0)
  unfolding nest_past
  between_clean t = ap (λ (n : Nest). clean (nest_past n (t ++ (m ∷ [])))) opens ∙ ap clean (nest_append (nest m 0) t (m ∷ [])) ∙ closes (nest_past (nest m 0) t)

-- two texts with such bytes between
module _ (n : Nest) (low : Low n) (a s b : List ℕ) (h : smooth s ≡ true) where
  uncut_between : uncut n (a ++ (s ++ b)) ≡ and (uncut n a) (uncut (nest_past n a) b)
  uncut_between = uncut_append n a (s ++ b) ∙ ap (and (uncut n a)) (uncut_gone (nest_past n a) (low_past n a low) s b h)

  nest_between : nest_past n (a ++ (s ++ b)) ≡ nest_past (nest_past n a) b
  nest_between = nest_append n a (s ++ b) ∙ nest_gone (nest_past n a) (low_past n a low) s b h

absent_text : (s : Slot) → stands false s ≡ true → slot_text s ≡ []
absent_text absent e = refl
absent_text (present t) e = absurd (apart e refl)

-- by the texts that there are
module _ (w : List ℕ) where
  no_texts : smooth w ≡ true → Walked 0 [] [] [] w
  unfolding uncut nest_past
  no_texts h = let x = calm_smooth w h in record { uncut_is = x.whole_is; clean_is = ap clean x.closed }

  one_text : Walked 0 w [] [] w
  unfolding uncut nest_past
  one_text = record { uncut_is = sym (and_true (uncut outside w)); clean_is = refl }

marked_text : (t : List ℕ) → Walked (mark_in t) t [] [] (between (mark_in t) t)
unfolding uncut nest_past
marked_text t =
    let m = mark_in_lem t in
    record { uncut_is = between_uncut (mark_in t) m.0 m.1 t ∙ sym (and_true (uncut (nest (mark_in t) 0) t)); clean_is = between_clean (mark_in t) m.0 m.1 t }

equals_smooth : smooth (61 ∷ []) ≡ true
unfolding smooth quotation
equals_smooth = refl

two_texts : (a b : List ℕ) → Walked 0 a b [] (a ++ (61 ∷ b))
unfolding uncut nest_past
two_texts a b = record {
  uncut_is = uncut_between outside refl a (61 ∷ []) b equals_smooth ∙ ap (and (uncut outside a)) (sym (and_true (uncut (nest_past outside a) b)));
  clean_is = ap clean (nest_between outside refl a (61 ∷ []) b equals_smooth);
}

seconds_text : (a : List ℕ) (n : ℕ) → Walked 0 a [] [] (a ++ (61 ∷ decimal n))
unfolding uncut nest_past
seconds_text a n =
    let low = low_past outside a refl in
    record {
      uncut_is = uncut_append outside a (61 ∷ decimal n) ∙ ap (and (uncut outside a)) (decimal_gone (uncut (nest_past outside a)) (uncut_gone (nest_past outside a) low) n [] refl);
      clean_is = ap clean (nest_append outside a (61 ∷ decimal n) ∙ decimal_gone (nest_past (nest_past outside a)) (nest_gone (nest_past outside a) low) n [] refl);
    }

-- a setvar inside its marks
module _ (m : ℕ) (q : quotation m ≡ true) (x : Action) (h : text_kind x.kind ≡ false → slot_text x.c ≡ []) where
  abbrev A : List ℕ
  A = slot_text x.a

  abbrev B : List ℕ
  B = slot_text x.b

  abbrev C : List ℕ
  C = slot_text x.c

  abbrev value : SetValue
  value = value_in x.kind x.number C

  n₁-low : Low (nest_past (nest m 0) A)
  n₁-low = low_past (nest m 0) A (low_mark m q)

  n₂-low : Low (nest_past (nest_past (nest m 0) A) B)
  n₂-low = low_past (nest_past (nest m 0) A) B n₁-low

  dot_smooth : smooth (46 ∷ []) ≡ true
  unfolding smooth quotation
  dot_smooth = refl

  setvar_uncut : uncut (nest m 0) (setvar_text (setvar_in x)) ≡ and (uncut (nest m 0) A) (and (uncut (nest_past (nest m 0) A) B) (uncut (nest_past (nest_past (nest m 0) A) B) C))
  unfolding setvar_text
  setvar_uncut =
      uncut_gone (nest m 0) (low_mark m q) (bang value) (A ++ (46 ∷ (B ++ tail value))) (bang_smooth value)
      ∙ uncut_between (nest m 0) (low_mark m q) A (46 ∷ []) (B ++ tail value) dot_smooth
      ∙ ap (and (uncut (nest m 0) A))
      (uncut_append (nest_past (nest m 0) A) B (tail value)
      ∙ ap (and (uncut (nest_past (nest m 0) A) B)) (tail_gone (uncut (nest_past (nest_past (nest m 0) A) B)) (uncut_gone (nest_past (nest_past (nest m 0) A) B) n₂-low) x.kind x.number C h))

  setvar_nest : nest_past (nest m 0) (setvar_text (setvar_in x)) ≡ behind m A B C
  unfolding setvar_text
  setvar_nest =
      nest_gone (nest m 0) (low_mark m q) (bang value) (A ++ (46 ∷ (B ++ tail value))) (bang_smooth value)
      ∙ nest_between (nest m 0) (low_mark m q) A (46 ∷ []) (B ++ tail value) dot_smooth
      ∙ nest_append (nest_past (nest m 0) A) B (tail value)
      ∙ tail_gone (nest_past (nest_past (nest_past (nest m 0) A) B)) (nest_gone (nest_past (nest_past (nest m 0) A) B) n₂-low) x.kind x.number C h

setvar_walked : (t : List ℕ) (x : Action) → (text_kind x.kind ≡ false → slot_text x.c ≡ []) → Walked (mark_in t) (slot_text x.a) (slot_text x.b) (slot_text x.c) (between (mark_in t) (setvar_text (setvar_in x)))
setvar_walked t x h =
    let m = mark_in_lem t in
    record {
      uncut_is = between_uncut (mark_in t) m.0 m.1 (setvar_text (setvar_in x)) ∙ setvar_uncut (mark_in t) m.0 x h;
      clean_is = between_clean (mark_in t) m.0 m.1 (setvar_text (setvar_in x)) ∙ ap (λ (n : Nest). and (eqb n.mark (mark_in t)) (eqb n.depth 0)) (setvar_nest (mark_in t) m.0 x h);
    }

-- any action, by the rule of its code
module _ (x : Action) where
  abbrev WalkedBy : Rule → Type 0
  WalkedBy r = Walked (mark_for r (action_text x)) (slot_text x.a) (slot_text x.b) (slot_text x.c) (slot_text (argument r x))

  only_a : (b c : List ℕ) → slot_text x.b ≡ b → slot_text x.c ≡ c → b ≡ [] → c ≡ [] → action_text x ≡ slot_text x.a
  unfolding action_text
  only_a b c p q e f = rw (p, q, e, f) (append-nil (slot_text x.a))

  bare_walked : Stands bare x → (w : List ℕ) → smooth w ≡ true → Walked 0 (slot_text x.a) (slot_text x.b) (slot_text x.c) w
  bare_walked s w h = rw (absent_text x.a s.1.0, absent_text x.b s.1.1.0, absent_text x.c s.1.1.1) (no_texts w h)

  pub walked_by : (r : Rule) → Stands (shape_for r) x → WalkedBy r
  unfolding argument smooth marked
  walked_by plain s = bare_walked s [] refl
  walked_by wanted s = rw (absent_text x.b s.1.1.0, absent_text x.c s.1.1.1) (one_text (slot_text x.a))
  walked_by unmarked s =
      let b = absent_text x.b s.1.1.0 in
      let c = absent_text x.c s.1.1.1 in
      rw (only_a [] [] b c refl refl, b, c) (marked_text (slot_text x.a))
  walked_by (up_to most) s = bare_walked s (decimal x.number) (decimal_smooth x.number)
  walked_by severity s = bare_walked s (decimal x.number) (decimal_smooth x.number)
  walked_by equation s = rw (absent_text x.c s.1.1.1) (two_texts (slot_text x.a) (slot_text x.b))
  walked_by expiry s = rw (absent_text x.b s.1.1.0, absent_text x.c s.1.1.1) (seconds_text (slot_text x.a) x.number)
  walked_by setting s =
      let c : text_kind x.kind ≡ false → slot_text x.c ≡ [] = λ e. absent_text x.c (rw e at s.1.1.1) in
      rw (has_setvar x c) (setvar_walked (action_text x) x c)
