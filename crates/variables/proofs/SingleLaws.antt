-- One piece read by places: the name up to its colon, the selection behind it, and what its first byte says.
use Rattle.std.specs.Prelude.{Option, Some, None, Result, Ok, Err}
use mathlib.Core.Path.{◌≡◌, ◌∙◌, refl, sym, ap}
use mathlib.Core.Bool.{Bool, true, false}
use mathlib.Core.List.{List, [], ◌∷◌}
use Prim.Native.Nat.{ℕ, ◌+◌, ◌-◌, ◌≤◌, ◌<◌}
use native.Mathlib.Omega.{arith}
use lib.ListN.{length, take, drop, get_or, length-drop, drop_of_length-le}
use lib.Seq.{drop-drop}
use lib.Dec.{eqb, ltb}
use borrow.Author.Tests.{eq-eqb, ne_eqb, le-ltb, lt-ltb, ltb-true}
use Rattle.ascii.specs.Choice.{and}
use Rattle.ascii.specs.Splits.{Split, first_of}
use Rattle.ascii.proofs.ListLaws.{next_byte, rest_is}
use Rattle.ascii.proofs.SplitLaws.{joined, first_fits, split_at}
use Rattle.lent.specs.Sizes.{span_word}
use Rattle.lent.specs.Sources.{Part, part as placed, Sourced, sourced}
use Rattle.names.specs.Variables.{variable_code}
use Rattle.variables.specs.Variables.{at_colon, is_regex, selection, Single, unknown, named, split_single, single, Targets, targets, refused, with_variable, front_of, if_known, with_exclusion, Excluding, as_written, looked_up, piece}
use Rattle.variables.specs.Steps.{part, selection_after, Chose, Found, Missed, Singles, behind_mark, IsExclusion, IsUnknown, Pieced}
use Rattle.variables.specs.declared.singles.Chosen.{Chosen}
use Rattle.variables.specs.declared.singles.Chosen.TheVariants.{Key, Regex}
use Rattle.variables.specs.declared.singles.Entry.{Entry}
use Rattle.variables.specs.declared.singles.Entry.TheVariants.{Variable as Var, Exclusion}
use Rattle.variables.specs.declared.singles.UnknownName.{UnknownName}
use Rattle.variables.proofs.PlaceLaws.{part_length}

-- ---- at the colon

module _ (t : List ℕ) where
  split_is : (counts : Bool) → split_single (at_colon t) counts
      ≡ named (variable_code (take (first_of 58 t) t)) (take (first_of 58 t) t) counts (selection_after (drop (first_of 58 t) t))
  split_is counts = ap (λ (x : Split). split_single x counts) (split_at 58 t) ∙ go (take (first_of 58 t) t) (drop (first_of 58 t) t)
    where
      go : (a l : List ℕ) → split_single (joined a l) counts ≡ named (variable_code a) a counts (selection_after l)
      go a [] = refl
      go a (b ∷ r) = refl

  front_is : front_of (at_colon t) ≡ take (first_of 58 t) t
  front_is = ap front_of (split_at 58 t) ∙ go (take (first_of 58 t) t) (drop (first_of 58 t) t)
    where
      go : (a l : List ℕ) → front_of (joined a l) ≡ a
      go a [] = refl
      go a (b ∷ r) = refl

-- ---- a selection

and_false : (b : Bool) → and b false ≡ false
and_false true = refl
and_false false = refl

module _ (t : List ℕ) where
  pub short_no_regex : length t ≤ 2 → false ≡ is_regex t
  short_no_regex h = sym (rw (le-ltb 2 (length t) h, and_false (eqb (get_or t (length t - 1) 0) 47), and_false (eqb (get_or t 0 0) 47)))

  pub slash_first : 2 < length t → get_or t 0 0 ≡ 47 → eqb (get_or t (length t - 1) 0) 47 ≡ is_regex t
  slash_first h e = sym (rw (eq-eqb (get_or t 0 0) 47 e, lt-ltb 2 (length t) h) (go (eqb (get_or t (length t - 1) 0) 47)))
    where
      go : (b : Bool) → and b true ≡ b
      go true = refl
      go false = refl

  pub other_first : (get_or t 0 0 ≡ 47 → ⊥) → false ≡ is_regex t
  other_first h = sym (rw (ne_eqb (get_or t 0 0) 47 h))

  regex_long : is_regex t ≡ true → 2 < length t
  regex_long e = ltb-true 2 (length t) (go (eqb (get_or t 0 0) 47) (eqb (get_or t (length t - 1) 0) 47) (ltb 2 (length t)) e)
    where
      go : (a b d : Bool) → and a (and b d) ≡ true → d ≡ true
      go true true d e = e
      go true false d e = let z : ◌≡◌ {A = ℕ} 0 1 = cc in absurd (omega arith)
      go false b d e = let z : ◌≡◌ {A = ℕ} 0 1 = cc in absurd (omega arith)

module _ (p : List ℕ) (colon : ℕ) where
  pub chose_none : 0 < length p → length p ≤ colon → Chose p (selection_after (drop colon p)) None
  chose_none l h = rw (drop_of_length-le p h) (record { number = refl; span = λ o. refl; text = record { is = refl; lies = tt; short = l } })

  module _ (h : colon < length p) where
    abbrev rest : List ℕ
    rest = drop (colon + 1) p

    after_is : selection_after (drop colon p) ≡ selection rest
    after_is = ap selection_after (next_byte p colon h)

    rest_long : length rest ≡ length p - (colon + 1)
    rest_long = length-drop (colon + 1) p

    pub chose_key : is_regex rest ≡ false
        → Chose p (selection_after (drop colon p)) (Some (Key (placed (colon + 1) (length p))))
    unfolding selection
    chose_key e = rw (after_is, e) (record {
      number = refl;
      span = λ o. ap (span_word o) (sym rest_long);
      text = record { is = rest_is p (colon + 1); lies = (omega arith, omega arith); short = omega (arith, rest_long) };
    })

    pub chose_regex : is_regex rest ≡ true
        → Chose p (selection_after (drop colon p)) (Some (Regex (placed (colon + 1 + 1) (length p - 1))))
    unfolding selection
    chose_regex e =
        let l = regex_long rest e in
        let i : colon + 1 + 1 ≤ length p - 1 = omega (arith, rest_long) in
        let n : length p - 1 - (colon + 1 + 1) ≡ length rest - 2 = omega (arith, rest_long) in
        let t : part p (colon + 1 + 1) (length p - 1) ≡ take (length rest - 2) (drop 1 rest) = rw n (ap (take (length rest - 2)) (sym (drop-drop 1 (colon + 1) p))) in
        let m : length p - 1 - (colon + 1 + 1) ≡ length (take (length rest - 2) (drop 1 rest)) = sym (part_length p (colon + 1 + 1) (length p - 1) (omega arith)) ∙ ap length t in
        rw (after_is, e) (record {
          number = refl;
          span = λ o. ap (span_word o) m;
          text = record { is = t; lies = (i, omega arith); short = omega (arith, m) };
        })

-- ---- a variable's name

module _ (p : List ℕ) (first q : ℕ) (counts : Bool) (h : first ≤ length p) (e : q ≡ first_of 58 (take (length p - first) (drop first p))) where
  q_is : q ≡ first_of 58 (drop first p)
  q_is = e ∙ ap (first_of 58) (rest_is p first)

  pub colon_fits : first + q ≤ length p
  colon_fits = omega (arith, q_is, first_fits 58 (drop first p), length-drop first p)

  pub name_is : take (first + q - first) (drop first p) ≡ take (first_of 58 (drop first p)) (drop first p)
  name_is = let k : first + q - first ≡ first_of 58 (drop first p) = omega (arith, q_is) in ap (λ (n : ℕ). take n (drop first p)) k

  module _ (l : Option ℕ) (f : l ≡ variable_code (take (first + q - first) (drop first p))) where
    by_lookup : split_single (at_colon (drop first p)) counts ≡ named l (take (first + q - first) (drop first p)) counts (selection_after (drop (first + q) p))
    by_lookup =
        let n = first_of 58 (drop first p) in
        split_is (drop first p) counts
        ∙ ap (λ (x : List ℕ). named (variable_code x) x counts (selection_after (drop n (drop first p)))) (sym name_is)
        ∙ ap (λ (x : Option ℕ). named x (take (first + q - first) (drop first p)) counts (selection_after (drop n (drop first p)))) (sym f)
        ∙ ap (λ (x : List ℕ). named l (take (first + q - first) (drop first p)) counts (selection_after x))
        (drop-drop n first p ∙ ap (λ (i : ℕ). drop (first + i) p) (sym q_is))

    pub named_unknown : l ≡ None → Missed p (split_single (at_colon (drop first p)) counts) first (first + q)
    named_unknown g = record {
      is = by_lookup ∙ ap (λ (x : Option ℕ). named x (take (first + q - first) (drop first p)) counts (selection_after (drop (first + q) p))) g;
      ordered = omega arith;
      inside = colon_fits;
    }

    pub named_code : (code : ℕ) → l ≡ Some code → (r : Option Chosen) → Chose p (selection_after (drop (first + q) p)) r
        → Found p (split_single (at_colon (drop first p)) counts)
        (Var (record { code = code; counts = counts; chosen = r }))
    named_code code g r x = record {
      v = record { code = code; counts = counts; chosen = selection_after (drop (first + q) p) };
      is = by_lookup ∙ ap (λ (x : Option ℕ). named x (take (first + q - first) (drop first p)) counts (selection_after (drop (first + q) p))) g;
      held = record { words = λ o. rw (x.number, x.span o); text = x.text };
    }

-- ---- by its first byte

single_counts : (p : List ℕ) → 0 < length p → get_or p 0 0 ≡ 38 → single p ≡ split_single (at_colon (drop 1 p)) true
unfolding single
single_counts [] l e = absurd (omega arith)
single_counts (b ∷ r) l e = rw (eq-eqb b 38 e)

single_plain : (p : List ℕ) → 0 < length p → (get_or p 0 0 ≡ 38 → ⊥) → single p ≡ split_single (at_colon (drop 0 p)) false
unfolding single
single_plain [] l h = absurd (omega arith)
single_plain (b ∷ r) l h = rw (ne_eqb b 38 h)

pub unknown_first : (x : Part) (y : Single) (n : List ℕ) → y ≡ unknown n → (ts : Targets) → with_variable x y ts ≡ refused 0 n x
unknown_first x y n e ts = ap (λ (y : Single). with_variable x y ts) e ∙ go ts
  where
    go : (ts : Targets) → with_variable x (unknown n) ts ≡ refused 0 n x
    go (targets vs es) = refl
    go (refused i m z) = refl

pub plain_mark : (p : List ℕ) → (get_or p 0 0 ≡ 33 → ⊥) → (x : Part) (es : List (Sourced (List ℕ))) → behind_mark x p es ≡ es
plain_mark [] h x es = refl
plain_mark (b ∷ r) h x es = rw (ne_eqb b 33 h)

module _ (ex : Excluding) where
  unmarked : (p : List ℕ) → 0 < length p → (get_or p 0 0 ≡ 33 → ⊥) → (x : Part) (ts : Targets) → piece ex x p ts ≡ with_variable x (single p) ts
  unmarked [] l h x ts = refl
  unmarked (b ∷ r) l h x ts = rw (ne_eqb b 33 h)

  module _ (p : List ℕ) (l : 0 < length p) (h : get_or p 0 0 ≡ 33 → ⊥) where
    pieced : (r : Result Entry UnknownName) → Singles p (single p) r → Pieced ex p r
    pieced (Ok (Var e)) x = record {
      v = x.v;
      is = λ z ts. unmarked p l h z ts ∙ ap (λ (y : Single). with_variable z y ts) x.is;
      plain = plain_mark p h;
      held = x.held;
    }
    pieced (Ok (Exclusion t)) x = absurd x
    pieced (Err u) x = record {
      is = λ z ts. unmarked p l h z ts ∙ unknown_first z (single p) (part p u.begin u.end) x.is ts;
      ordered = x.ordered;
      inside = x.inside;
    }

    pub pieced_counts : get_or p 0 0 ≡ 38 → (r : Result Entry UnknownName) → Singles p (split_single (at_colon (drop 1 p)) true) r → Pieced ex p r
    pieced_counts e r x = pieced r (rw (single_counts p l e) x)

    pub pieced_plain : (get_or p 0 0 ≡ 38 → ⊥) → (r : Result Entry UnknownName) → Singles p (split_single (at_colon (drop 0 p)) false) r → Pieced ex p r
    pieced_plain e r x = pieced r (rw (single_plain p l e) x)

-- ---- an exclusion

pub has_mark : (p : List ℕ) → 0 < length p → get_or p 0 0 ≡ 33 → (x : Part) (es : List (Sourced (List ℕ))) → behind_mark x p es ≡ sourced (drop 1 p) x ∷ es
has_mark [] l e x es = absurd (omega arith)
has_mark (b ∷ r) l e x es = rw (eq-eqb b 33 e)

marked_by : (ex : Excluding) (p : List ℕ) → 0 < length p → get_or p 0 0 ≡ 33 → (x : Part) (ts : Targets) → piece ex x p ts ≡ ex x (drop 1 p) ts
marked_by ex [] l e x ts = absurd (omega arith)
marked_by ex (b ∷ r) l e x ts = rw (eq-eqb b 33 e)

module _ (p : List ℕ) (l : 0 < length p) (e : get_or p 0 0 ≡ 33) where
  pub marked_written : IsExclusion as_written p
  marked_written = record { is = marked_by as_written p l e; mark = has_mark p l e }

  module _ (q : ℕ) (f : q ≡ first_of 58 (take (length p - 1) (drop 1 p))) (k : Option ℕ) (g : k ≡ variable_code (take (1 + q - 1) (drop 1 p))) where
    looked : (z : Part) (ts : Targets) → piece looked_up z p ts ≡ if_known z k (take (1 + q - 1) (drop 1 p)) (with_exclusion z (drop 1 p) ts)
    looked z ts =
        let n = front_is (drop 1 p) ∙ sym (name_is p 1 q false (omega arith) f) in
        marked_by looked_up p l e z ts
        ∙ ap (λ (x : List ℕ). if_known z (variable_code x) x (with_exclusion z (drop 1 p) ts)) n
        ∙ ap (λ (x : Option ℕ). if_known z x (take (1 + q - 1) (drop 1 p)) (with_exclusion z (drop 1 p) ts)) (sym g)

    pub marked_known : (code : ℕ) → k ≡ Some code → IsExclusion looked_up p
    marked_known code i = record {
      is = λ z ts. looked z ts ∙ ap (λ (x : Option ℕ). if_known z x (take (1 + q - 1) (drop 1 p)) (with_exclusion z (drop 1 p) ts)) i;
      mark = has_mark p l e;
    }

    pub marked_unknown : k ≡ None → IsUnknown looked_up p 1 (1 + q)
    marked_unknown i = record {
      is = λ z ts. looked z ts ∙ ap (λ (x : Option ℕ). if_known z x (take (1 + q - 1) (drop 1 p)) (with_exclusion z (drop 1 p) ts)) i;
      ordered = omega arith;
      inside = colon_fits p 1 q false (omega arith) f;
    }
