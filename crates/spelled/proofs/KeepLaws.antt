-- The tests on a record's numbers and texts are what its spelling reads back to: a record that is kept is one that is written.
use Rattle.std.specs.Prelude.{Option, None}
use mathlib.Core.Path.{◌≡◌, ◌∙◌, refl, sym, ap}
use mathlib.Core.Bool.{Bool, true, false}
use mathlib.Core.List.{List, [], ◌∷◌, ◌++◌}
use Prim.Native.Nat.{ℕ, ◌^◌, ◌<◌}
use lib.Dec.{eqb, ltb}
use Rattle.ascii.specs.Choice.{pick, and, or}
use Rattle.ascii.specs.Text.{bytes}
use Rattle.ascii.specs.Classes.{white}
use Rattle.ascii.specs.Fold.{lower}
use Rattle.ascii.specs.Splits.{leads}
use Rattle.ascii.proofs.TestLaws.{both, joins}
use Rattle.records.specs.Codes.{deny_code, transformation_code, shape_of}
use Rattle.records.specs.Actions.{Action, slot_text, action_text}
use Rattle.single_action.specs.Actions.{numbered}
use Rattle.single_action.specs.Marks.{quotation}
use Rattle.single_action.specs.Table.{rows}
use Rattle.single_action.specs.declared.naming.Rule.TheVariants.{Wanted as wanted}
use Rattle.actions.specs.Pieces.{Nest, nest, outside, nest_bare, nest_after, cuts}
use Rattle.spelled.specs.Spelling.{coded, argument, spell}
use Rattle.spelled.specs.Condition.{isnt, last_by, fits, steady, uncut, nest_past, clean, written}
use Rattle.spelled.specs.Condition as Condition
use Rattle.spelled.specs.Texts.{steady_texts, rule_in, end_of, walk_of, stays_by_texts}
use Rattle.spelled.specs.Back.{reads_back}
use Rattle.spelled.specs.Writing.{ascii, followed, holds}
use Rattle.spelled.specs.Steps.{opened, stays, passed, passed_on, passed_all, mark_for, closed, rule_for, kept, keeps}
use Rattle.spelled.specs.declared.passing.Open.{Open}
use Rattle.spelled.proofs.BackLaws.{exact}
use Rattle.spelled.proofs.PassLaws.{spelling_nest}
use Rattle.spelled.proofs.TextwiseLaws.{stays_by_texts_lem}
use Rattle.spelled.proofs.KeptLaws.{Stands, kept_is, stands_by}
use Rattle.spelled.proofs.WalkedLaws.{walked_by}

-- ---- the walk is the three tests at once

and_false : (t : Bool) → and t false ≡ false
and_false true = refl
and_false false = refl

and_true : (t : Bool) → and t true ≡ t
and_true true = refl
and_true false = refl

-- a text that is ASCII, keeps its line ends and is not cut
abbrev sound : Nest → List ℕ → Bool
sound n t = and (ascii t) (and (steady t) (uncut n t))

passed_is : (n : Nest) (t : List ℕ) → passed n t ≡ pick (sound n t) (opened (nest_past n t)) None
unfolding passed ascii steady uncut nest_past
passed_is n [] = refl
passed_is n (b ∷ r) =
    ap (λ (p : Option Open). pick (stays n b r) p None) (passed_is (nest_after n b) r)
    ∙ go (ltb b 128) (isnt (and (eqb b 92) (or (leads 10 r) (leads 13 r)))) (isnt (cuts n b)) (ascii r) (steady r) (uncut (nest_after n b) r) (opened (nest_past (nest_after n b) r))
  where
    go : (a s u x y z : Bool) (p : Option Open) → pick (and a (and s u)) (pick (and x (and y z)) p None) None ≡ pick (and (and a x) (and (and s y) (and u z))) p None
    go true true true x y z p = refl
    go true true false x y z p = rw (and_false y, and_false x)
    go true false u x y z p = rw (and_false x)
    go false s u x y z p = refl

-- three texts one after another
module _ (m : ℕ) (a b c : List ℕ) where
  abbrev n₁ : Nest
  n₁ = nest_past (nest m 0) a

  abbrev n₂ : Nest
  n₂ = nest_past n₁ b

  abbrev n₃ : Nest
  n₃ = nest_past n₂ c

  all_passed : passed_all m a b c ≡ pick (and (sound (nest m 0) a) (and (sound n₁ b) (sound n₂ c))) (opened n₃) None
  all_passed =
      ap (λ (p : Option Open). passed_on (passed_on p b) c) (passed_is (nest m 0) a)
      ∙ first (sound (nest m 0) a)
    where
      second : (t : Bool) → passed_on (pick t (opened n₂) None) c ≡ pick (and t (sound n₂ c)) (opened n₃) None
      second true = passed_is n₂ c
      second false = refl

      first : (t : Bool) → passed_on (passed_on (pick t (opened n₁) None) b) c ≡ pick (and t (and (sound n₁ b) (sound n₂ c))) (opened n₃) None
      first true = ap (λ (p : Option Open). passed_on p c) (passed_is n₁ b) ∙ second (sound n₁ b)
      first false = refl

-- ---- a record

ascii_both : (a b : List ℕ) → ascii (a ++ b) ≡ and (ascii a) (ascii b)
unfolding ascii
ascii_both [] b = refl
ascii_both (x ∷ a) b = go (ltb x 128) (ascii_both a b)
  where
    go : (t : Bool) → ascii (a ++ b) ≡ and (ascii a) (ascii b) → and t (ascii (a ++ b)) ≡ and (and t (ascii a)) (ascii b)
    go true e = e
    go false e = refl

texts_ascii : (x : Action) → ascii (action_text x) ≡ and (ascii (slot_text x.a)) (and (ascii (slot_text x.b)) (ascii (slot_text x.c)))
unfolding action_text
texts_ascii x = ascii_both (slot_text x.a) (slot_text x.b ++ slot_text x.c) ∙ ap (and (ascii (slot_text x.a))) (ascii_both (slot_text x.b) (slot_text x.c))

-- the action behind it can do it no harm
pub deny_stays : Condition.stays (numbered deny_code 0) ≡ true
unfolding Condition.stays fits coded rows Condition.same_action Condition.same_slot Condition.canon Condition.texts_fit spell argument steady last_by uncut nest_after nest_bare cuts quotation bytes lower white
deny_stays = refl

module _ (x : Action) where
  back_last : reads_back (followed true x) ≡ stays_by_texts x
  unfolding written
  back_last = sym (exact (x ∷ [])) ∙ stays_by_texts_lem x

  back_before : reads_back (followed false x) ≡ and (stays_by_texts x) (clean (nest_past outside (walk_of x)))
  unfolding written
  back_before =
      sym (exact (x ∷ numbered deny_code 0 ∷ []))
      ∙ rw (deny_stays, stays_by_texts_lem x, spelling_nest x, and_true (clean (nest_past outside (walk_of x))))

  -- with the test for what follows
  back_by : (last : Bool) → reads_back (followed last x) ≡ and (stays_by_texts x) (or last (clean (nest_past outside (walk_of x))))
  back_by true = back_last ∙ sym (and_true (stays_by_texts x))
  back_by false = back_before

  walk_of_lem : walk_of x ≡ slot_text (argument (rule_for x.code) x)
  unfolding rule_for argument
  walk_of_lem = go (eqb x.code transformation_code)
    where
      go : (t : Bool) → pick t (slot_text x.a) (slot_text (argument (rule_in (coded rows x.code)) x)) ≡ slot_text (argument (pick t wanted (rule_in (coded rows x.code))) x)
      go true = refl
      go false = refl

closed_by : (m : ℕ) (last p : Bool) (n : Nest) → closed m last (pick p (opened n) None) ≡ and p (or last (and (eqb n.mark m) (eqb n.depth 0)))
closed_by m last true n = refl
closed_by m last false n = refl

-- two tests that hold together are one
either_way : (x y : Bool) → (x ≡ true → y ≡ true) → (y ≡ true → x ≡ true) → x ≡ y
either_way true true f g = refl
either_way true false f g = sym (f refl)
either_way false true f g = g refl
either_way false false f g = refl

regrouped : (aa ab ac sa sb sc ua ub uc f e k : Bool) → and (and aa (and ab ac)) (and (and f (and (and sa (and sb sc)) (and e (and ua (and ub uc))))) k)
    ≡ and (and f e) (and (and (and aa (and sa ua)) (and (and ab (and sb ub)) (and ac (and sc uc)))) k)
regrouped aa ab ac sa sb sc ua ub uc f e k = either_way _ _ there back
  where
    there : and (and aa (and ab ac)) (and (and f (and (and sa (and sb sc)) (and e (and ua (and ub uc))))) k) ≡ true
        → and (and f e) (and (and (and aa (and sa ua)) (and (and ab (and sb ub)) (and ac (and sc uc)))) k) ≡ true
    there h =
        let (l, r) = both (and aa (and ab ac)) _ h in
        let (la, l₁) = both aa (and ab ac) l in
        let (lb, lc) = both ab ac l₁ in
        let (r₁, rk) = both (and f (and (and sa (and sb sc)) (and e (and ua (and ub uc))))) k r in
        let (rf, r₂) = both f _ r₁ in
        let (rs, r₃) = both (and sa (and sb sc)) _ r₂ in
        let (ra, rs₁) = both sa (and sb sc) rs in
        let (rb, rc) = both sb sc rs₁ in
        let (re, ru) = both e _ r₃ in
        let (va, ru₁) = both ua (and ub uc) ru in
        let (vb, vc) = both ub uc ru₁ in
        joins (joins rf re) (joins (joins (joins la (joins ra va)) (joins (joins lb (joins rb vb)) (joins lc (joins rc vc)))) rk)

    back : and (and f e) (and (and (and aa (and sa ua)) (and (and ab (and sb ub)) (and ac (and sc uc)))) k) ≡ true
        → and (and aa (and ab ac)) (and (and f (and (and sa (and sb sc)) (and e (and ua (and ub uc))))) k) ≡ true
    back h =
        let (l, r) = both (and f e) _ h in
        let (lf, le) = both f e l in
        let (r₁, rk) = both (and (and aa (and sa ua)) (and (and ab (and sb ub)) (and ac (and sc uc)))) k r in
        let (ra, r₂) = both (and aa (and sa ua)) _ r₁ in
        let (rb, rc) = both (and ab (and sb ub)) (and ac (and sc uc)) r₂ in
        let (la, ra₁) = both aa (and sa ua) ra in
        let (ma, va) = both sa ua ra₁ in
        let (lb, rb₁) = both ab (and sb ub) rb in
        let (mb, vb) = both sb ub rb₁ in
        let (lc, rc₁) = both ac (and sc uc) rc in
        let (mc, vc) = both sc uc rc₁ in
        joins (joins la (joins lb lc)) (joins (joins lf (joins (joins ma (joins mb mc)) (joins le (joins va (joins vb vc))))) rk)

-- a record that is kept is one that is written
pub keeps_holds : (x : Action) → Stands (shape_of x.code) x → x.number < 2 ^ 64 → (last : Bool) → holds last x ≡ keeps (rule_for x.code) (mark_for (rule_for x.code) (action_text x)) last x
unfolding holds keeps stays_by_texts steady_texts
keeps_holds x w h last =
    let r = rule_for x.code in
    let m = mark_for r (action_text x) in
    let a = slot_text x.a in
    let b = slot_text x.b in
    let c = slot_text x.c in
    let walk = walked_by x r (stands_by x h w) in
    let u : uncut outside (walk_of x) ≡ and (uncut (nest m 0) a) (and (uncut (n₁ m a b c) b) (uncut (n₂ m a b c) c)) = ap (uncut outside) (walk_of_lem x) ∙ walk.uncut_is in
    let k : clean (nest_past outside (walk_of x)) ≡ and (eqb (n₃ m a b c).mark m) (eqb (n₃ m a b c).depth 0) = ap (λ (t : List ℕ). clean (nest_past outside t)) (walk_of_lem x) ∙ walk.clean_is in
    let e : isnt (last_by white false (end_of x)) ≡ isnt (last_by white false (end_of x)) = refl in
    rw (back_by x last, texts_ascii x, u, k)
    (regrouped (ascii a) (ascii b) (ascii c) (steady a) (steady b) (steady c) (uncut (nest m 0) a) (uncut (n₁ m a b c) b) (uncut (n₂ m a b c) c) (fits x) (isnt (last_by white false (end_of x))) (or last (and (eqb (n₃ m a b c).mark m) (eqb (n₃ m a b c).depth 0)))
    ∙ ap (λ (t : Bool). and t (and (and (sound (nest m 0) a) (and (sound (n₁ m a b c) b) (sound (n₂ m a b c) c))) (or last (and (eqb (n₃ m a b c).mark m) (eqb (n₃ m a b c).depth 0))))) (kept_is x w.0 w.1.0 w.1.1.0 w.1.1.1 h)
    ∙ ap (and (kept r x)) (sym (closed_by m last (and (sound (nest m 0) a) (and (sound (n₁ m a b c) b) (sound (n₂ m a b c) c))) (n₃ m a b c)) ∙ ap (closed m last) (sym (all_passed m a b c))))
