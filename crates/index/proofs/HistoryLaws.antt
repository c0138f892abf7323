-- After any calls from an index of zeros, the slice is the index of the rules that stand by the history of the calls.
-- The idea: removing goes past entering, so one call more at the front of a history is one step of the rules that stood before.
use Rattle.std.specs.Prelude.{Option, Some, None, Result}
use mathlib.Core.Path.{◌≡◌, ◌∙◌, refl, sym, ap, subst}
use mathlib.Core.Bool.{Bool, true, false}
use mathlib.Core.List.{List, [], ◌∷◌}
use Prim.Native.Nat.{ℕ, zero, suc, ◌-◌, ◌≤◌}
use native.Mathlib.Omega.{arith}
use lib.ListN.{length}
use lib.Dec.{ltb}
use borrow.Author.Tests.{ltb-true}
use Rattle.ascii.specs.Choice.{pick, or}
use Rattle.lent.specs.Buffers.{zeros}
use Rattle.rules.specs.Entries.{entries}
use Rattle.rules.specs.Selectors.{matched}
use Rattle.rules.specs.declared.selecting.RuleIdSelector.{RuleIdSelector}
use Rattle.index.specs.Standing.{Rule, name_of, line_of, from, insert, entered, afresh, without, Verdict, verdict, passes, taken, full, enters}
use Rattle.index.specs.Words.{pairs, laid, places_in}
use Rattle.index.specs.Promises.{Added, AddError, Removed, Broken, Adds, Removes, added_by, left_by}
use Rattle.index.specs.Histories.{Event, accepted, removed, refused, removed_in, standing}
use Rattle.index.specs.Runs.{add_event, remove_event, Ran, done, added, took}
use Rattle.index.proofs.RuleLaws.{from_insert, from_without, length_insert, length_without, without_insert, without_both, without_none, without_same}
use Rattle.index.proofs.WordLaws.{Holds, laid_length, laid_rules}
use Rattle.index.proofs.LaidLaws.{laid_answer, laid_leaves, laid_removed, laid_kept}

-- what one call does to the rules that stand, and to the slice
record Step (n : ℕ) (rs : List Rule) (new : List ℕ) (event : Event) : Type 0 where
  next : List Rule
  left : new ≡ laid n next
  held : Holds n next
  carried : (h : List Event) → entered (standing h) (without (removed_in h) next) ≡ entered (standing (event ∷ h)) (without (removed_in (event ∷ h)) rs)

-- ---- what a history removes

gone_refused : (h : List Event) (i : ℕ) → removed_in (refused ∷ h) i ≡ removed_in h i
unfolding removed_in
gone_refused h i = refl

gone_accepted : (m : Option ℕ) (l : ℕ) (h : List Event) (i : ℕ) → removed_in (accepted m l ∷ h) i ≡ removed_in h i
unfolding removed_in
gone_accepted m l h i = refl

gone_removed : (selector : RuleIdSelector) (h : List Event) (i : ℕ) → removed_in (removed selector ∷ h) i ≡ or (matched selector i) (removed_in h i)
unfolding removed_in
gone_removed selector h i = refl

gone_none : (i : ℕ) → removed_in [] i ≡ false
unfolding removed_in
gone_none i = refl

-- ---- one call

module _ {n : ℕ} {rs : List Rule} (x : Holds n rs) {actions : List ℕ} {line : ℕ} {new : List ℕ} {r : Result Added AddError} (a : Adds actions line (laid n rs) new r) where
  judge : Verdict
  judge = verdict (places_in n) rs (name_of (entries actions)) line

  answered : {v : Verdict} → judge ≡ v → r ≡ added_by (laid n rs) v
  unfolding judge
  answered e = laid_answer x a ∙ ap (added_by (laid n rs)) e

  leaves : {v : Verdict} → judge ≡ v → new ≡ left_by (laid n rs) v
  unfolding judge
  leaves e = laid_leaves x a ∙ ap (left_by (laid n rs)) e

  -- a refusal leaves rules and slice
  refusing : new ≡ laid n rs → Step n rs new refused
  unfolding standing
  refusing l = record {
    next = rs;
    left = l;
    held = x;
    carried = λ h. ap (entered (standing h)) (sym (without_same (removed_in h) (removed_in (refused ∷ h)) (gone_refused h) rs));
  }

  passing : name_of (entries actions) ≡ None → Step n rs new (accepted None line)
  unfolding standing judge
  passing e = record {
    next = rs;
    left = leaves {v = passes} (rw e);
    held = x;
    carried = λ h. ap (entered (standing h)) (sym (without_same (removed_in h) (removed_in (accepted None line ∷ h)) (gone_accepted None line h) rs));
  }

  module _ (id : ℕ) where
    it : Rule
    it = record { id = id; line = line }

    entering : name_of (entries actions) ≡ Some id → line_of id rs ≡ None → ltb (length rs) (places_in n) ≡ true → Step n rs new (accepted (Some id) line)
    unfolding standing entered judge it
    entering e m l = record {
      next = insert it rs;
      left = leaves {v = enters it} (rw (e, m, l)) ∙ rw (laid_length x, laid_rules x);
      held = (let k = ltb-true (length rs) (places_in n) l in record { some = x.some; sorted = from_insert it 0 rs (omega arith) m x.sorted; fits = rw (length_insert it rs) (omega arith) });
      carried = λ h. rw (without_insert (removed_in h) it 0 rs x.sorted, without_same (removed_in h) (removed_in (accepted (Some id) line ∷ h)) (gone_accepted (Some id) line h) rs) (go h (removed_in h id));
    }
      where
        go : (h : List Event) (b : Bool) → entered (standing h) (pick b (without (removed_in h) rs) (insert it (without (removed_in h) rs)))
            ≡ entered (pick b (standing h) (it ∷ standing h)) (without (removed_in h) rs)
        go h true = refl
        go h false = refl

    by_room : name_of (entries actions) ≡ Some id → line_of id rs ≡ None → (b : Bool) → ltb (length rs) (places_in n) ≡ b → Step n rs new (add_event actions line r)
    unfolding judge it
    by_room e m true l = rw (answered {v = enters it} (rw (e, m, l)), e) (entering e m l)
    by_room e m false l = rw (answered {v = full} (rw (e, m, l))) (refusing (leaves {v = full} (rw (e, m, l))))

    by_line : name_of (entries actions) ≡ Some id → (f : Option ℕ) → line_of id rs ≡ f → Step n rs new (add_event actions line r)
    unfolding judge
    by_line e None m = by_room e m (ltb (length rs) (places_in n)) refl
    by_line e (Some l) m = rw (answered {v = taken l} (rw (e, m))) (refusing (leaves {v = taken l} (rw (e, m))))

  by_name : (f : Option ℕ) → name_of (entries actions) ≡ f → Step n rs new (add_event actions line r)
  unfolding judge
  by_name None e = rw (answered {v = passes} (rw e), e) (passing e)
  by_name (Some id) e = by_line id e (line_of id rs) refl

module _ {n : ℕ} {rs : List Rule} (x : Holds n rs) {selector : RuleIdSelector} {new : List ℕ} {r : Result Removed Broken} (a : Removes selector (laid n rs) new r) where
  removing : Step n rs new (remove_event selector r)
  unfolding standing
  removing = rw (laid_removed x a) record {
    next = without (matched selector) rs;
    left = laid_kept x a;
    held = record { some = x.some; sorted = from_without (matched selector) 0 rs x.sorted; fits = omega (arith, x.fits, length_without (matched selector) rs) };
    carried = λ h. ap (entered (standing h)) (without_both (matched selector) (removed_in h) (removed_in (removed selector ∷ h)) (gone_removed selector h) rs);
  }

-- ---- any calls

-- What stood and was not removed since, and the rules that stand by the calls.
abbrev now : List Event → List Rule → List Rule
now h rs = entered (standing h) (without (removed_in h) rs)

record Kept (n : ℕ) (rs : List Rule) (h : List Event) (t : List ℕ) : Type 0 where
  slice : t ≡ laid n (now h rs)
  held : Holds n (now h rs)

further : {n : ℕ} {rs : List Rule} {new t : List ℕ} {event : Event} {h : List Event} (s : Step n rs new event) → Kept n s.next h t → Kept n rs (event ∷ h) t
further {n} {h = h} s k = record { slice = k.slice ∙ ap (laid n) (s.carried h); held = subst (Holds n) (s.carried h) k.held }

ran_kept : {n : ℕ} {rs : List Rule} {s t : List ℕ} {h : List Event} → Holds n rs → s ≡ laid n rs → Ran s h t → Kept n rs h t
unfolding standing entered
ran_kept {n} {rs} x e done = let w = without_none (removed_in []) gone_none rs in record { slice = rw w e; held = rw w x }
ran_kept {n} {rs} x e (added {actions} {line} {old} {new} {r = r} a q) =
    let s = by_name x (rw e at a) (name_of (entries actions)) refl in
    further s (ran_kept {rs = s.next} s.held s.left q)
ran_kept {n} {rs} x e (took {selector} {old} {new} {r = r} a q) =
    let s = removing x (rw e at a) in
    further s (ran_kept {rs = s.next} s.held s.left q)

-- ---- from an index of zeros

pub zeros_laid : (n : ℕ) → 1 ≤ n → zeros n ≡ laid n []
unfolding laid pairs
zeros_laid zero h = absurd (omega arith)
zeros_laid (suc m) h = let e : suc m - 1 ≡ m = omega arith in rw e

pub zeros_hold : (n : ℕ) → 1 ≤ n → Holds n []
unfolding from
zeros_hold n h = record { some = h; sorted = refl; fits = omega arith }

module _ {n : ℕ} {t : List ℕ} {h : List Event} (some : 1 ≤ n) (q : Ran (zeros n) h t) where
  -- M-106: after any calls, the slice is the index built afresh from the rules then standing, zeros beyond.
  pub index_afresh : t ≡ laid n (afresh (standing h))
  unfolding without
  index_afresh = (ran_kept (zeros_hold n some) (zeros_laid n some) q).slice

  pub index_holds : Holds n (afresh (standing h))
  unfolding without
  index_holds = (ran_kept (zeros_hold n some) (zeros_laid n some) q).held
