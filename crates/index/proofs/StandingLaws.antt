-- What follows of the rules that stand after any calls from an index of zeros.
use Rattle.std.specs.Prelude.{Option, Some, None, Ok, Result}
use mathlib.Core.Path.{◌≡◌, ◌∙◌, refl, sym, ap, ap₂}
use mathlib.Core.Bool.{Bool, true, false}
use mathlib.Core.List.{List, [], ◌∷◌, ◌++◌, append_assoc}
use mathlib.Core.Logic.{◌↔◌}
use Prim.Native.Nat.{ℕ, suc, ◌+◌, ◌-◌, ◌≤◌, ◌<◌}
use native.Mathlib.Omega.{arith}
use lib.ListN.{length, get_or, replicate-append-replicate}
use lib.Dec.{eqb, ltb}
use borrow.Author.Tests.{eqb-true, eqb-false, eq-eqb, lt-ltb, le-ltb, ltb-true, ltb-false}
use Rattle.ascii.specs.Choice.{pick}
use Rattle.lent.specs.Buffers.{zeros}
use Rattle.lent.specs.Sizes.{room_for}
use Rattle.lent.specs.Table.{Given, given}
use Rattle.rules.specs.Entries.{entries_of, entries, id_code, first_of}
use Rattle.rules.specs.Selectors.{matched}
use Rattle.rules.specs.declared.selecting.RuleIdSelector.{RuleIdSelector}
use Rattle.index.specs.Standing.{Rule, name_of, line_of, Distinct, none, more, from, insert, entered, afresh, without, Verdict, verdict, placing, passes, taken, full, enters}
use Rattle.index.specs.Words.{pairs, laid, places_in, sound}
use Rattle.index.specs.Promises.{Added, AddError, Removed, Broken, Adds, Removes, added_given, removed_given, added_by, add_answer, add_leaves, remove_answer, remove_leaves}
use Rattle.index.specs.Histories.{Event, removed_in, standing, accepting, added_told, removed_told}
use Rattle.index.specs.Runs.{Ran, done, added, took}
use Rattle.index.proofs.RuleLaws.{from_cons, from_tail, line_past, line_low, line_insert, line_inserted, insert_new, length_insert}
use Rattle.index.proofs.WordLaws.{Holds, room, laid_length, laid_count, laid_rules, laid_sound}
use Rattle.index.proofs.LaidLaws.{laid_answer, laid_removed}
use Rattle.index.proofs.HistoryLaws.{index_afresh, index_holds, zeros_laid}

-- ---- rules entered one after another

length_entered : (xs rs : List Rule) → length (entered xs rs) ≡ length xs + length rs
unfolding entered
length_entered [] rs = omega arith
length_entered (x ∷ xs) rs = length_entered xs (insert x rs) ∙ (let e = length_insert x rs in omega arith)

pub length_afresh : (xs : List Rule) → length (afresh xs) ≡ length xs
length_afresh xs = length_entered xs [] ∙ omega arith

-- where the whole ascends, so did what it was entered into, and the rule that came first was new
entered_sorted : (xs rs : List Rule) → from 0 (entered xs rs) ≡ true → from 0 rs ≡ true
unfolding entered
entered_sorted [] rs f = f
entered_sorted (x ∷ xs) rs f = (insert_new x 0 rs (entered_sorted xs (insert x rs) f)).0

entered_new : (x : Rule) (xs rs : List Rule) → from 0 (entered (x ∷ xs) rs) ≡ true → line_of x.id rs ≡ None
unfolding entered
entered_new x xs rs f = (insert_new x 0 rs (entered_sorted xs (insert x rs) f)).1

-- the line of an id in either of two lists, the first one's first
abbrev either : Option ℕ → Option ℕ → Option ℕ
either None b = b
either (Some l) b = Some l

either_none : (a : Option ℕ) → either a None ≡ a
either_none None = refl
either_none (Some l) = refl

line_entered : (id : ℕ) (xs rs : List Rule) → from 0 (entered xs rs) ≡ true → line_of id (entered xs rs) ≡ either (line_of id rs) (line_of id xs)
unfolding entered line_of
line_entered id [] rs f = sym (either_none (line_of id rs))
line_entered id (x ∷ xs) rs f = line_entered id xs (insert x rs) f ∙ go (eqb x.id id) refl (entered_new x xs rs f)
  where
    go : (b : Bool) → eqb x.id id ≡ b → line_of x.id rs ≡ None →
        either (line_of id (insert x rs)) (line_of id xs) ≡ either (line_of id rs) (pick b (Some x.line) (line_of id xs))
    go true e m =
        let q = eqb-true x.id id e in
        let a : line_of id (insert x rs) ≡ Some x.line = rw (← q) (line_inserted x rs m) in
        let b : line_of id rs ≡ None = rw (← q) m in
        rw (a, b)
    go false e m = rw (line_insert x id rs (eqb-false x.id id e))

pub line_afresh : (id : ℕ) (xs : List Rule) → from 0 (afresh xs) ≡ true → line_of id (afresh xs) ≡ line_of id xs
unfolding line_of
line_afresh id xs f = line_entered id xs [] f

-- an id that was there before is none of theirs
entered_apart : (id l : ℕ) (xs rs : List Rule) → from 0 (entered xs rs) ≡ true → line_of id rs ≡ Some l → line_of id xs ≡ None
unfolding entered line_of
entered_apart id l [] rs f e = refl
entered_apart id l (x ∷ xs) rs f e =
    let d : x.id ≡ id → ⊥ = λ q. (let m : line_of id rs ≡ None = rw (← q) (entered_new x xs rs f) in let z : ◌≡◌ {A = ℕ} 0 1 = cc in omega arith) in
    line_past id x xs d ∙ entered_apart id l xs (insert x rs) f (line_insert x id rs d ∙ e)

entered_distinct : (xs rs : List Rule) → from 0 (entered xs rs) ≡ true → Distinct xs
unfolding entered
entered_distinct [] rs f = none
entered_distinct (x ∷ xs) rs f = more (entered_apart x.id x.line xs (insert x rs) f (line_inserted x rs (entered_new x xs rs f))) (entered_distinct xs (insert x rs) f)

-- as many are left, in whatever order they came
length_rest : (t : ℕ → Bool) (x : Rule) (rs : List Rule) → length (without t (insert x rs)) ≡ length (without t (x ∷ rs))
unfolding without insert
length_rest t x [] = refl
length_rest t x (y ∷ r) = go (length_rest t x r) (ltb x.id y.id) (t x.id) refl (t y.id) refl
  where
    go : length (without t (insert x r)) ≡ length (pick (t x.id) (without t r) (x ∷ without t r)) → (b c : Bool) → t x.id ≡ c → (d : Bool) → t y.id ≡ d →
        length (without t (pick b (x ∷ y ∷ r) (y ∷ insert x r))) ≡ length (pick (t x.id) (pick (t y.id) (without t r) (y ∷ without t r)) (x ∷ pick (t y.id) (without t r) (y ∷ without t r)))
    go ih true c e d k = refl
    go ih false true e true k = rw (e, k) (rw e at ih)
    go ih false true e false k = rw (e, k) (ap suc (rw e at ih))
    go ih false false e true k = rw (e, k) (rw e at ih)
    go ih false false e false k = rw (e, k) (ap suc (rw e at ih))

length_left : (t : ℕ → Bool) (xs rs : List Rule) → length (without t (entered xs rs)) ≡ length (without t xs) + length (without t rs)
unfolding without entered
length_left t [] rs = omega arith
length_left t (x ∷ xs) rs = length_left t xs (insert x rs) ∙ ap (λ (k : ℕ). length (without t xs) + k) (length_rest t x rs) ∙ go (t x.id)
  where
    go : (b : Bool) → length (without t xs) + length (pick b (without t rs) (x ∷ without t rs)) ≡ length (pick b (without t xs) (x ∷ without t xs)) + length (without t rs)
    go true = refl
    go false = omega arith

-- ---- lists that ascend and have the same rules are one list

other : {l : ℕ} {a b : Option ℕ} → a ≡ Some l → b ≡ None → a ≡ b → ⊥
other e f q = let z : ◌≡◌ {A = ℕ} 0 1 = cc in omega arith

line_here : (x : Rule) (r : List Rule) → line_of x.id (x ∷ r) ≡ Some x.line
unfolding line_of
line_here x r = rw (eq-eqb x.id x.id refl)

line_before : (id n : ℕ) (y : Rule) (r : List Rule) → from n (y ∷ r) ≡ true → id < y.id → line_of id (y ∷ r) ≡ None
line_before id n y r f h = line_low id y.id (y ∷ r) h (from_cons y.id y r (omega arith) (from_tail n y r f))

pub same_lists : (m n : ℕ) (xs ys : List Rule) → from m xs ≡ true → from n ys ≡ true → ((id : ℕ) → line_of id xs ≡ line_of id ys) → xs ≡ ys
unfolding line_of
same_lists m n [] [] f g e = refl
same_lists m n [] (y ∷ ys) f g e = absurd (other (line_here y ys) refl (sym (e y.id)))
same_lists m n (x ∷ xs) [] f g e = absurd (other (line_here x xs) refl (e x.id))
same_lists m n (x ∷ xs) (y ∷ ys) f g e =
    go (same_lists (suc x.id) (suc y.id) xs ys (from_tail m x xs f) (from_tail n y ys g)) (ltb x.id y.id) refl (ltb y.id x.id) refl
  where
    tails : x.id ≡ y.id → (id : ℕ) (b : Bool) → eqb x.id id ≡ b → line_of id xs ≡ line_of id ys
    tails q id true k =
        let j = eqb-true x.id id k in
        line_low id (suc x.id) xs (omega arith) (from_tail m x xs f) ∙ sym (line_low id (suc y.id) ys (omega arith) (from_tail n y ys g))
    tails q id false k =
        let j = eqb-false x.id id k in
        sym (line_past id x xs j) ∙ e id ∙ line_past id y ys (λ i. j (q ∙ i))

    go : (((id : ℕ) → line_of id xs ≡ line_of id ys) → xs ≡ ys) → (b : Bool) → ltb x.id y.id ≡ b → (d : Bool) → ltb y.id x.id ≡ d → x ∷ xs ≡ y ∷ ys
    go ih true k d l = absurd (other (line_here x xs) (line_before x.id n y ys g (ltb-true x.id y.id k)) (e x.id))
    go ih false k true l = absurd (other (line_here y ys) (line_before y.id m x xs f (ltb-true y.id x.id l)) (sym (e y.id)))
    go ih false k false l =
        let a = ltb-false x.id y.id k in
        let b = ltb-false y.id x.id l in
        let q : x.id ≡ y.id = omega arith in
        let p : Some x.line ≡ Some y.line = sym (line_here x xs) ∙ e x.id ∙ ap (λ (i : ℕ). line_of i (y ∷ ys)) q ∙ line_here y ys in
        let r : x.line ≡ y.line = cc in
        let s : x ≡ y = ap₂ (λ (i j : ℕ). record { id = i; line = j }) q r in
        ap₂ (λ (z : Rule) (zs : List Rule). z ∷ zs) s (ih (λ id. tails q id (eqb x.id id) refl))

-- ---- after any calls

module _ {n : ℕ} {s : List ℕ} {h : List Event} (some : 1 ≤ n) (q : Ran (zeros n) h s) where
  held : Holds n (afresh (standing h))
  held = index_holds some q

  pub stand_fit : length (standing h) ≤ places_in n
  stand_fit = rw (← length_afresh (standing h)) held.fits

  pub as_long : length s ≡ n
  as_long = ap length (index_afresh some q) ∙ laid_length held

  pub stand_apart : Distinct (standing h)
  stand_apart = entered_distinct (standing h) [] held.sorted

  -- the same rules, by whatever calls, are the same words
  pub same_words : {t : List ℕ} {k : List Event} → Ran (zeros n) k t → ((id : ℕ) → line_of id (standing h) ≡ line_of id (standing k)) → s ≡ t
  same_words {t} {k} w e =
      let g = index_holds some w in
      index_afresh some q
      ∙ ap (laid n) (same_lists 0 0 (afresh (standing h)) (afresh (standing k)) held.sorted g.sorted (λ id. line_afresh id (standing h) held.sorted ∙ e id ∙ sym (line_afresh id (standing k) g.sorted)))
      ∙ sym (index_afresh some w)

  module _ {actions : List ℕ} {line : ℕ} {new : List ℕ} {r : Result Added AddError} (a : Adds actions line s new r) where
    row : (v : Verdict) → added_given (added_by (laid n (afresh (standing h))) v) ≡ added_told (places_in n) (length (afresh (standing h))) v
    row passes = rw (laid_count held)
    row (taken l) = refl
    row full = rw (laid_length held)
    row (enters x) = rw (laid_count held)

    judged_so : (f : Option ℕ) → verdict (places_in n) (afresh (standing h)) f line ≡ verdict (places_in n) (standing h) f line
    judged_so None = refl
    judged_so (Some id) = rw (length_afresh, line_afresh id (standing h) held.sorted)

    pub told_added : added_given r ≡ added_told (places_in n) (length (standing h)) (verdict (places_in n) (standing h) (name_of (entries actions)) line)
    told_added =
        ap added_given (laid_answer held (rw (index_afresh some q) at a))
        ∙ row (verdict (places_in n) (afresh (standing h)) (name_of (entries actions)) line)
        ∙ rw (judged_so (name_of (entries actions)), length_afresh)

    -- 17 for a new id exactly if as many rules stand as there are places; 16 exactly if a rule with the id stands, with its line
    module _ (id : ℕ) (e : name_of (entries actions) ≡ Some id) where
      pub full_exactly : line_of id (standing h) ≡ None → ((added_given r).number ≡ 17) ↔ (length (standing h) ≡ places_in n)
      full_exactly m = (λ k. there (ltb (length (standing h)) (places_in n)) refl k, back)
        where
          number : {b : Bool} → ltb (length (standing h)) (places_in n) ≡ b → (added_given r).number ≡ (added_told (places_in n) (length (standing h)) (pick b (enters (record { id = id; line = line })) full)).number
          number l = ap (λ (g : Given). g.number) told_added ∙ rw (e, m, l)

          there : (b : Bool) → ltb (length (standing h)) (places_in n) ≡ b → (added_given r).number ≡ 17 → length (standing h) ≡ places_in n
          there true l k = absurd (omega (arith, sym (number l) ∙ k))
          there false l k = let j = ltb-false (length (standing h)) (places_in n) l in omega (arith, stand_fit)

          back : length (standing h) ≡ places_in n → (added_given r).number ≡ 17
          back j = number (le-ltb (length (standing h)) (places_in n) (omega arith))

      pub taken_exactly : (l : ℕ) → (added_given r ≡ given 16 (l ∷ [])) ↔ (line_of id (standing h) ≡ Some l)
      taken_exactly l = (λ k. there (line_of id (standing h)) (ltb (length (standing h)) (places_in n)) refl (sym (rw e at told_added) ∙ k), λ m. rw (e, m) at told_added)
        where
          there : (f : Option ℕ) (b : Bool) → ltb (length (standing h)) (places_in n) ≡ b →
              added_told (places_in n) (length (standing h)) (placing (places_in n) (length (standing h)) (record { id = id; line = line }) f) ≡ given 16 (l ∷ []) → f ≡ Some l
          there (Some k) b j g = ap (λ (i : Given). Some (get_or i.values 0 0)) g
          there None true j g = let k = ap (λ (i : Given). i.number) g in absurd (omega (arith, rw j at k))
          there None false j g = let k = ap (λ (i : Given). i.number) g in absurd (omega (arith, rw j at k))

  module _ {selector : RuleIdSelector} {new : List ℕ} {r : Result Removed Broken} (a : Removes selector s new r) where
    pub told_removed : removed_given r ≡ removed_told selector (standing h)
    unfolding without
    told_removed =
        let w : length (without (matched selector) (afresh (standing h))) ≡ length (without (matched selector) (standing h)) = length_left (matched selector) (standing h) [] ∙ omega arith in
        ap removed_given (laid_removed held (rw (index_afresh some q) at a)) ∙ rw (w, length_afresh)

-- ---- built afresh by calls

-- one call for each rule, by the record of its id alone
abbrev id_record : ℕ → List ℕ
id_record id = id_code ∷ id ∷ 0 ∷ 0 ∷ 0 ∷ 0 ∷ 0 ∷ []

id_named : (id : ℕ) → name_of (entries (id_record id)) ≡ Some id
unfolding first_of entries entries_of room_for
id_named id = refl

-- a new rule, where there is a place, is added by one call
add_new : {n : ℕ} {rs : List Rule} (x : Rule) → Holds n rs → line_of x.id rs ≡ None → length rs < places_in n →
    Adds (id_record x.id) x.line (laid n rs) (laid n (insert x rs)) (Ok (Added.Entered (length rs + 1)))
unfolding add_answer add_leaves
add_new {n} {rs} x k m l =
    let t = lt-ltb (length rs) (places_in n) l in
    let i = id_named x.id in record {
      answer = rw (laid_sound k, laid_rules k, laid_length k, i, m, t, laid_count k);
      index = rw (laid_sound k, laid_rules k, laid_length k, i, m, t) (rw (laid_rules k, laid_length k));
    }

build : {n : ℕ} (xs rs : List Rule) → Holds n (entered xs rs) → Ran (laid n rs) (accepting xs) (laid n (entered xs rs))
unfolding entered accepting
build [] rs k = done
build {n} (x ∷ xs) rs k =
    let c = length_entered xs (insert x rs) in
    let d = length_insert x rs in
    let g : Holds n rs = record { some = k.some; sorted = entered_sorted (x ∷ xs) rs k.sorted; fits = omega (arith, k.fits) } in
    let a = add_new x g (entered_new x xs rs k.sorted) (omega (arith, k.fits)) in
    rw (id_named x.id) at (added a (build xs (insert x rs) k))

-- The index after any calls is the one that adding just the standing rules to zeros leaves, and none of those is refused.
pub built_afresh : {n : ℕ} {t : List ℕ} {h : List Event} → 1 ≤ n → Ran (zeros n) h t → Ran (zeros n) (accepting (standing h)) t
built_afresh {n} {h = h} some q = rw (zeros_laid n some, index_afresh some q) (build (standing h) [] (index_holds some q))

-- the rules that calls accept, each once and none removed, are the rules that stand
never_removed : (xs : List Rule) (id : ℕ) → removed_in (accepting xs) id ≡ false
unfolding accepting removed_in
never_removed [] id = refl
never_removed (x ∷ xs) id = never_removed xs id

pub all_stand : (xs : List Rule) → standing (accepting xs) ≡ xs
unfolding accepting standing
all_stand [] = refl
all_stand (x ∷ xs) = rw (never_removed xs x.id, all_stand xs)

-- More zeros behind the slice are more places: it is the longer slice after adding the rules that stand.
pub grown : {n : ℕ} {t : List ℕ} {h : List Event} → 1 ≤ n → Ran (zeros n) h t → (m : ℕ) → Ran (zeros (n + m)) (accepting (standing h)) (t ++ zeros m)
unfolding laid places_in
grown {n} {h = h} some q m =
    let k = index_holds some q in
    let w : List ℕ = length (afresh (standing h)) ∷ pairs (afresh (standing h)) in
    let e : n - length w + m ≡ n + m - length w = omega (arith, room k) in
    let g : Holds (n + m) (afresh (standing h)) = record { some = omega arith; sorted = k.sorted; fits = omega (arith, k.fits) } in
    let l : laid n (afresh (standing h)) ++ zeros m ≡ laid (n + m) (afresh (standing h)) = append_assoc w (zeros (n - length w)) (zeros m) ∙ rw (replicate-append-replicate, e) in
    rw (zeros_laid (n + m) (omega arith), index_afresh some q, l) (build (standing h) [] g)

-- ---- no words at all

pub none_stand : {s t : List ℕ} {h : List Event} → s ≡ [] → Ran s h t → (t ≡ []) × (standing h ≡ [])
unfolding standing add_answer add_leaves remove_answer remove_leaves sound
none_stand e done = (e, refl)
none_stand e (added a q) = let b = rw e at a in rw b.answer (none_stand b.index q)
none_stand e (took a q) = let b = rw e at a in rw b.answer (none_stand b.index q)
