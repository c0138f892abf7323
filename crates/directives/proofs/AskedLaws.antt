-- What is asked of rules, in plain words: which rule lacks its id, and that the first such is the answer unless a fault stands before it.
use Rattle.std.specs.Prelude.{Result, Ok, Err}
use mathlib.Core.Path.{◌≡◌, refl, sym, ap, ◌∙◌, subst}
use mathlib.Core.Logic.{◌↔◌, ◌⊎◌, inl, inr, ⊎_elim}
use Prim.Native.Nat.{ℕ}
use native.Mathlib.Omega.{arith}
use mathlib.Core.Bool.{Bool, true, false, not}
use mathlib.Core.List.{List, [], ◌∷◌, ◌++◌, append-nil}
use lib.ListN.{length}
use lib.Dec.{eqb}
use borrow.Author.Tests.{eqb-true, eq-eqb}
use Rattle.ascii.specs.Choice.{and, or, bit}
use Rattle.lent.specs.Sources.{Sourced}
use Rattle.lexer.specs.Tokens.{reading}
use Rattle.records.specs.Actions.{Action}
use Rattle.records.specs.Codes.{id_code, chain_code}
use Rattle.actions.specs.Having.{has}
use Rattle.directives.specs.Groups.{Item, items}
use Rattle.directives.specs.Directives.{Directive as Entry, Fault, id_missing, item_read, over, end_of, directives}
use Rattle.directives.specs.Layout.{actions_in}
use Rattle.directives.specs.Versions.{Version, TwoSix, TwoSeven, is_rule, chained_on, lacks_id, asked, lead_by, leading, directives_for}
use Rattle.directives.specs.Steps.{chained_by}
use Rattle.directives.specs.Calls.{AllGood, none, also, Has, at_first, further, NoRules, none as no_rule, also as another, Continued, Unidentified, Identified, Sound, FirstMissing, Faulty, in_item, missing, at_end}
use Rattle.directives.proofs.OrderLaws as Order
use Rattle.directives.proofs.VersionLaws.{for_good}

-- ---- tests

differ : true ≡ false → ⊥
differ e = absurd (omega (arith, ap bit e))

two : (a b : Bool) → and a b ≡ true → (a ≡ true) × (b ≡ true)
two true b e = (refl, e)
two false b e = absurd (differ (sym e))

no : (a : Bool) → not a ≡ true → a ≡ false
no true e = absurd (differ (sym e))
no false e = refl

-- ---- an action of a code

has_there : (code : ℕ) (xs : List (Sourced Action)) → has code xs ≡ true → Has code xs
unfolding has
has_there code [] e = absurd (differ (sym e))
has_there code (x ∷ xs) e = go (eqb x.thing.code code) refl e (has_there code xs)
  where
    go : (t : Bool) → eqb x.thing.code code ≡ t → or t (has code xs) ≡ true → (has code xs ≡ true → Has code xs) → Has code (x ∷ xs)
    go true q h next = at_first (eqb-true x.thing.code code q)
    go false q h next = further (next h)

has_back : (code : ℕ) {xs : List (Sourced Action)} → Has code xs → has code xs ≡ true
unfolding has
has_back code (at_first {x} e) = rw (eq-eqb x.thing.code code e)
has_back code (further {x} {xs} h) = go (eqb x.thing.code code) (has_back code h)
  where
    go : (t : Bool) → has code xs ≡ true → or t (has code xs) ≡ true
    go true e = refl
    go false e = e

-- ---- the last rule

chained_front : (c : Bool) (es ds : List Entry) → chained_by c (es ++ ds) ≡ chained_by (chained_by c es) ds
unfolding chained_by
chained_front c [] ds = refl
chained_front c (e ∷ es) ds = chained_front (chained_on c e.body) es ds

over_others : (c : Bool) {ds : List Entry} → NoRules ds → chained_by c ds ≡ c
unfolding chained_by
over_others c no_rule = refl
over_others c (another {d} {ds} e h) = rw e (over_others c h)

-- it has `chain`; or, where none of them is a rule, what stood before them has
data Chained (c : Bool) (ds : List Entry) : Type 0 where
  from_before : c ≡ true → NoRules ds → Chained c ds
  from_last : Continued ds → Chained c ds

chained_there : (c : Bool) (ds : List Entry) → chained_by c ds ≡ true → Chained c ds
unfolding chained_by
chained_there c [] e = from_before e no_rule
chained_there c (d ∷ ds) e = go (is_rule d.body) refl (chained_there (chained_on c d.body) ds e)
  where
    go : (t : Bool) → is_rule d.body ≡ t → Chained (chained_on c d.body) ds → Chained c (d ∷ ds)
    go t q (from_last k) =
        from_last (record { passed = d ∷ k.passed; last = k.last; between = k.between; list = ap (λ (l : List Entry). d ∷ l) k.list; rule = k.rule; chain = k.chain; others = k.others })
    go true q (from_before h n) =
        from_last (record { passed = []; last = d; between = ds; list = refl; rule = q; chain = has_there chain_code (actions_in d.body) (rw q at h); others = n })
    go false q (from_before h n) = from_before (rw q at h) (another q n)

continued_there : (ds : List Entry) → chained_by false ds ≡ true → Continued ds
continued_there ds e = go (chained_there false ds e)
  where
    go : Chained false ds → Continued ds
    go (from_before h n) = absurd (differ (sym h))
    go (from_last k) = k

continued_back : (ds : List Entry) → Continued ds → chained_by false ds ≡ true
unfolding chained_by
continued_back ds k =
    ap (chained_by false) k.list
    ∙ chained_front false k.passed (k.last ∷ k.between)
    ∙ over_others (chained_on (chained_by false k.passed) k.last.body) k.others
    ∙ rw k.rule (has_back chain_code k.chain)

-- ---- a rule without its id

module _ (ds : List Entry) (d : Entry) where
  lacks_there : lacks_id (chained_by false ds) d.body ≡ true → Unidentified ds d
  lacks_there e =
      let a = two (is_rule d.body) _ e in
      let b = two (not (chained_by false ds)) _ a.1 in
      record {
        rule = a.0;
        alone = λ k. differ (sym (continued_back ds k) ∙ no (chained_by false ds) b.0);
        bare = λ h. differ (sym (has_back id_code h) ∙ no (has id_code (actions_in d.body)) b.1);
      }

  lacks_back : Unidentified ds d → lacks_id (chained_by false ds) d.body ≡ true
  lacks_back u = rw u.rule (go (chained_by false ds) refl (has id_code (actions_in d.body)) refl)
    where
      go : (c : Bool) → chained_by false ds ≡ c → (h : Bool) → has id_code (actions_in d.body) ≡ h → and (not c) (not h) ≡ true
      go true p h q = absurd (u.alone (continued_there ds p))
      go false p true q = absurd (u.bare (has_there id_code (actions_in d.body) q))
      go false p false q = refl

-- ---- directives that are asked

-- each has its id, or needs none
data Passing : Bool → List Entry → Type 0 where
  all : {c : Bool} → Passing c []
  more : {c : Bool} {d : Entry} {ds : List Entry} → lacks_id c d.body ≡ false → Passing (chained_on c d.body) ds → Passing c (d ∷ ds)

asked_front : {A : Type 0} (o : Result A Fault) (ds : List Entry) {c : Bool} {es : List Entry} → Passing c es → asked c (es ++ ds) o ≡ asked (chained_by c es) ds o
unfolding asked chained_by
asked_front o ds all = refl
asked_front o ds (more e p) = rw e (asked_front o ds p)

asked_all : {A : Type 0} (o : Result A Fault) {c : Bool} {es : List Entry} → Passing c es → asked c es o ≡ o
unfolding asked
asked_all o all = refl
asked_all o (more e p) = rw e (asked_all o p)

passing_behind : (es : List Entry) {c : Bool} {ds : List Entry} → Passing c (es ++ ds) → Passing (chained_by c es) ds
unfolding chained_by
passing_behind [] p = p
passing_behind (e ∷ es) (more q p) = passing_behind es p

-- the first that lacks it
record Lacking (c : Bool) (ds : List Entry) : Type 0 where
  pub passed : List Entry
  pub first : Entry
  pub after : List Entry
  pub list : ds ≡ passed ++ first ∷ after
  pub passing : Passing c passed
  pub lacks : lacks_id (chained_by c passed) first.body ≡ true

decide : (c : Bool) (ds : List Entry) → Passing c ds ⊎ Lacking c ds
unfolding chained_by
decide c [] = inl all
decide c (d ∷ ds) = go (lacks_id c d.body) refl (decide (chained_on c d.body) ds)
  where
    go : (t : Bool) → lacks_id c d.body ≡ t → Passing (chained_on c d.body) ds ⊎ Lacking (chained_on c d.body) ds → Passing c (d ∷ ds) ⊎ Lacking c (d ∷ ds)
    go true q k = inr (record { passed = []; first = d; after = ds; list = refl; passing = all; lacks = q })
    go false q (inl p) = inl (more q p)
    go false q (inr k) = inr (record { passed = d ∷ k.passed; first = k.first; after = k.after; list = ap (λ (l : List Entry). d ∷ l) k.list; passing = more q k.passing; lacks = k.lacks })

-- that is to be identified
passing_identified : (ds : List Entry) → Passing false ds → Identified ds
passing_identified ds p passed d after e u = go (passing_behind passed (subst (Passing false) e p))
  where
    go : Passing (chained_by false passed) (d ∷ after) → ⊥
    go (more q r) = differ (sym (lacks_back passed d u) ∙ q)

identified_passing : (ds : List Entry) → Identified ds → Passing false ds
identified_passing ds h = ⊎_elim (λ p. p) (λ k. absurd (h k.passed k.first k.after k.list (lacks_there k.passed k.first k.lacks))) (decide false ds)

asked_lacking : {A : Type 0} (o : Result A Fault) {c : Bool} {ds : List Entry} (k : Lacking c ds) → asked c ds o ≡ Err (id_missing k.first.line)
unfolding asked
asked_lacking o {c} k = ap (λ (l : List Entry). asked c l o) k.list ∙ asked_front o (k.first ∷ k.after) k.passing ∙ rw k.lacks

-- ---- the directives before the first fault

module _ (s : List ℕ) where
  abbrev lead : List Item → List Entry
  lead = over lead_by s []

  lead_front : (xs : List Item) {passed : List Item} {ds : List Entry} → AllGood s passed ds → lead (passed ++ xs) ≡ ds ++ lead xs
  unfolding over
  lead_front xs none = refl
  lead_front xs (also {d = d} p a) = rw p (ap (λ (l : List Entry). d ∷ l) (lead_front xs a))

  lead_good : {xs : List Item} {ds : List Entry} → AllGood s xs ds → lead xs ≡ ds
  unfolding over
  lead_good {xs} {ds} a = ap lead (sym (append-nil xs)) ∙ lead_front [] a ∙ append-nil ds

  lead_bad : (passed : List Item) (this : Item) (after : List Item) {ds : List Entry} {f : Fault} → AllGood s passed ds → item_read s this ≡ Err f → lead (passed ++ this ∷ after) ≡ ds
  unfolding over
  lead_bad passed item after {ds} a q = lead_front (item ∷ after) a ∙ rw q (append-nil ds)

  lead_more : (passed : List Item) (this : Item) (after : List Item) {ds : List Entry} {d : Entry} → AllGood s passed ds → item_read s this ≡ Ok d → lead (passed ++ this ∷ after) ≡ ds ++ d ∷ lead after
  unfolding over
  lead_more passed item after a q = lead_front (item ∷ after) a ∙ rw q

  -- each is that of an item, all before which are good
  record Split (xs : List Item) (es : List Entry) (d : Entry) : Type 0 where
    pub passed : List Item
    pub item : Item
    pub after : List Item
    pub list : xs ≡ passed ++ item ∷ after
    pub good_before : AllGood s passed es
    pub read : item_read s item ≡ Ok d

  lead_split : (xs : List Item) (es : List Entry) (d : Entry) (after : List Entry) → lead xs ≡ es ++ d ∷ after → Split xs es d
  unfolding over
  lead_split [] es d after e = absurd (nothing es e)
    where
      nothing : (es : List Entry) → [] ≡ es ++ d ∷ after → ⊥
      nothing [] e = let z : ◌≡◌ {A = ℕ} 0 1 = cc in absurd (omega arith)
      nothing (x ∷ es) e = let z : ◌≡◌ {A = ℕ} 0 1 = cc in absurd (omega arith)
  lead_split (x ∷ xs) es d after e = go (item_read s x) refl es e (λ fs. lead_split xs fs d after)
    where
      nothing : (es : List Entry) → [] ≡ es ++ d ∷ after → ⊥
      nothing [] e = let z : ◌≡◌ {A = ℕ} 0 1 = cc in absurd (omega arith)
      nothing (x ∷ es) e = let z : ◌≡◌ {A = ℕ} 0 1 = cc in absurd (omega arith)

      head : Entry → List Entry → Entry
      head y [] = y
      head y (z ∷ zs) = z

      rest : List Entry → List Entry
      rest [] = []
      rest (z ∷ zs) = zs

      go : (r : Result Entry Fault) → item_read s x ≡ r → (es : List Entry) → lead_by r (lead xs) ≡ es ++ d ∷ after → ((fs : List Entry) → lead xs ≡ fs ++ d ∷ after → Split xs fs d) → Split (x ∷ xs) es d
      go (Err f) q es e next = absurd (nothing es e)
      go (Ok y) q [] e next = record { passed = []; item = x; after = xs; list = refl; good_before = none; read = q ∙ ap (λ (l : List Entry). Ok (head y l)) e }
      go (Ok y) q (z ∷ fs) e next =
          let k = next fs (ap rest e) in
          record { passed = x ∷ k.passed; item = k.item; after = k.after; list = ap (λ (l : List Item). x ∷ l) k.list; good_before = also (q ∙ ap (λ (l : List Entry). Ok (head y l)) e) k.good_before; read = k.read }

-- ---- a whole text

module _ (s : List ℕ) where
  abbrev all_items : List Item
  all_items = items false (reading s).tokens

  abbrev end : Result (List Entry) Fault
  end = end_of (length s) (reading s).stop

  leading_is : leading s ≡ over lead_by s [] all_items
  unfolding leading
  leading_is = refl

  seven_is : directives_for TwoSeven s ≡ asked false (over lead_by s [] all_items) (directives s)
  unfolding directives_for
  seven_is = ap (λ (l : List Entry). asked false l (directives s)) leading_is

  -- nothing is missing: as for 2.6
  unasked : {ds : List Entry} → over lead_by s [] all_items ≡ ds → Identified ds → directives_for TwoSeven s ≡ directives s
  unasked {ds} e h = seven_is ∙ asked_all (directives s) (subst (Passing false) (sym e) (identified_passing ds h))

  sound_in : {ds : List Entry} → over lead_by s [] all_items ≡ ds → Passing false (over lead_by s [] all_items) → Identified ds
  sound_in {ds} e p = passing_identified ds (subst (Passing false) e p)

  kept : (f : Fault) → Passing false (over lead_by s [] all_items) → Faulty TwoSix s end all_items f → Faulty TwoSeven s end all_items f
  kept f p (in_item x) =
      in_item (record {
        passed = x.passed;
        this = x.this;
        after = x.after;
        entries = x.entries;
        list = x.list;
        good_before = x.good_before;
        sound_before = sound_in (ap (over lead_by s []) x.list ∙ lead_bad s x.passed x.this x.after x.good_before x.fault) p;
        fault = x.fault;
      })
  kept f p (missing l h m e) = absurd h
  kept f p (at_end ds a h e) = at_end ds a (sound_in (lead_good s a) p) e

  lacked : Lacking false (over lead_by s [] all_items) → (l : ℕ) × FirstMissing s all_items l
  lacked k =
      let i = lead_split s all_items k.passed k.first k.after k.list in (
        k.first.line,
        record {
          passed = i.passed;
          this = i.item;
          after = i.after;
          entries = k.passed;
          entry = k.first;
          list = i.list;
          good_before = i.good_before;
          identified_before = passing_identified k.passed k.passing;
          read = i.read;
          unidentified = lacks_there k.passed k.first k.lacks;
          line = refl;
        },
      )

  missed : (l : ℕ) → FirstMissing s all_items l → directives_for TwoSeven s ≡ Err (id_missing l)
  missed l m =
      let k : Lacking false (over lead_by s [] all_items) =
      record {
        passed = m.entries;
        first = m.entry;
        after = over lead_by s [] m.after;
        list = ap (over lead_by s []) m.list ∙ lead_more s m.passed m.this m.after m.good_before m.read;
        passing = identified_passing m.entries m.identified_before;
        lacks = lacks_back m.entries m.entry m.unidentified;
      } in
      seven_is ∙ asked_lacking (directives s) k ∙ ap (λ (n : ℕ). Err (id_missing n)) m.line

  seven_faulty : (f : Fault) → directives_for TwoSeven s ≡ Err f → Faulty TwoSeven s end all_items f
  unfolding lacked
  seven_faulty f e =
      ⊎_elim (λ p. kept f p ((Order.text_faulty s f).0 (sym (seven_is ∙ asked_all (directives s) p) ∙ e)))
      (λ k. let m = lacked k in missing m.0 tt m.1 (ap fault_in_lem (sym e ∙ seven_is ∙ asked_lacking (directives s) k)))
      (decide false (over lead_by s [] all_items))
    where
      fault_in_lem : Result (List Entry) Fault → Fault
      fault_in_lem (Err g) = g
      fault_in_lem (Ok ds) = id_missing 0

  faulty_seven : (f : Fault) → Faulty TwoSeven s end all_items f → directives_for TwoSeven s ≡ Err f
  faulty_seven f (in_item x) =
      unasked (ap (over lead_by s []) x.list ∙ lead_bad s x.passed x.this x.after x.good_before x.fault) x.sound_before
      ∙ (Order.text_faulty s f).1 (in_item (record {
        passed = x.passed;
        this = x.this;
        after = x.after;
        entries = x.entries;
        list = x.list;
        good_before = x.good_before;
        sound_before = tt;
        fault = x.fault;
      }))
  faulty_seven f (missing l h m e) = missed l m ∙ ap (λ (g : Fault). Err g) (sym e)
  faulty_seven f (at_end ds a h e) = unasked (lead_good s a) h ∙ (Order.text_faulty s f).1 (at_end ds a tt e)

  -- a fault is the answer exactly when it is the first in text order
  pub text_faulty : (v : Version) (f : Fault) → (directives_for v s ≡ Err f) ↔ Faulty v s (end_of (length s) (reading s).stop) (items false (reading s).tokens) f
  unfolding directives_for
  text_faulty TwoSix f = Order.text_faulty s f
  text_faulty TwoSeven f = (seven_faulty f, faulty_seven f)

  seven_good : (ds : List Entry) → directives_for TwoSeven s ≡ Ok ds → AllGood s all_items ds × (Identified ds × (end ≡ Ok []))
  seven_good ds e =
      let w = (Order.text_good s ds).0 (for_good TwoSeven s ds e) in
      ⊎_elim (λ p. (w.0, (sound_in (lead_good s w.0) p, w.1)))
      (λ k. absurd (never (sym (seven_is ∙ asked_lacking (directives s) k) ∙ e)))
      (decide false (over lead_by s [] all_items))
    where
      never : {f : Fault} → ◌≡◌ {A = Result (List Entry) Fault} (Err f) (Ok ds) → ⊥
      never q = let z : ◌≡◌ {A = ℕ} 0 1 = cc in absurd (omega arith)

  -- number 0, 4 aside: each item is good and reading came to the end, and where ids are asked for none is missing
  pub text_good : (v : Version) (ds : List Entry) → (directives_for v s ≡ Ok ds) ↔ (AllGood s (items false (reading s).tokens) ds × (Sound v ds × (end_of (length s) (reading s).stop ≡ Ok [])))
  unfolding directives_for
  text_good TwoSix ds = (λ e. let w = (Order.text_good s ds).0 e in (w.0, (tt, w.1)), λ h. (Order.text_good s ds).1 (h.0, h.1.1))
  text_good TwoSeven ds = (seven_good ds, λ h. unasked (lead_good s h.0) h.1.0 ∙ (Order.text_good s ds).1 (h.0, h.1.1))
