-- Cutting by places: a quoted run passed at once, and what the loop of part_end keeps.
use mathlib.Core.Path.{◌≡◌, ◌∙◌, refl, ap}
use mathlib.Core.Logic.{◌⊎◌, inl, inr, ⊎_elim}
use mathlib.Core.Bool.{Bool, true, false}
use mathlib.Core.List.{List, [], ◌∷◌}
use Prim.Native.Nat.{ℕ, suc, ◌+◌, ◌-◌, ◌≤◌, ◌<◌}
use native.Mathlib.Numerals.{one-add}
use native.Mathlib.Omega.{arith}
use lib.ListN.{length, drop, get_or, length-drop}
use lib.Seq.{drop-drop}
use lib.Dec.{eqb}
use borrow.Author.Tests.{eqb-true, ne_eqb}
use Rattle.ascii.specs.Choice.{pick, and, or}
use Rattle.ascii.specs.Trim.{leading}
use Rattle.ascii.specs.Splits.{first_of}
use Rattle.ascii.proofs.SplitLaws.{first_fits}
use Rattle.single_action.specs.Marks.{quotation}
use Rattle.actions.specs.Pieces.{Nest, nest, outside, nest_bare, nest_quoted, nest_after, cuts, part_length}
use Rattle.actions.proofs.PieceLaws.{part_stop, part_more, part_end}

and_false : (t : Bool) → and t false ≡ false
and_false true = refl
and_false false = refl

-- ---- with a mark open

module _ (m d : ℕ) (shut : eqb m 0 ≡ false) where
  -- nothing cuts
  quoted_uncut : (b : ℕ) → cuts (nest m d) b ≡ false
  unfolding cuts
  quoted_uncut b = rw shut (and_false (eqb b 44))

  -- and only the mark closes
  quoted_next : (b : ℕ) (r : List ℕ) → part_length (nest m d) (b ∷ r) ≡ 1 + part_length (pick (eqb b m) (nest 0 d) (nest m d)) r
  unfolding part_length nest_after nest_quoted
  quoted_next b r = rw (quoted_uncut b, shut)

  quoted_suc : (l : List ℕ) → first_of m l < length l → part_length (nest m d) l ≡ suc (first_of m l) + part_length (nest 0 d) (drop (suc (first_of m l)) l)
  unfolding leading
  quoted_suc [] h = absurd (omega arith)
  quoted_suc (b ∷ r) h = quoted_next b r ∙ go (eqb b m) (quoted_suc r) h
    where
      go : (t : Bool) → (first_of m r < length r → part_length (nest m d) r ≡ suc (first_of m r) + part_length (nest 0 d) (drop (suc (first_of m r)) r))
          → pick (pick t false true) (1 + first_of m r) 0 < suc (length r)
          → 1 + part_length (pick t (nest 0 d) (nest m d)) r ≡ suc (pick (pick t false true) (1 + first_of m r) 0) + part_length (nest 0 d) (drop (suc (pick (pick t false true) (1 + first_of m r) 0)) (b ∷ r))
      go true ih h = omega arith
      go false ih h = rw (one-add (first_of m r)) (omega (arith, ih (omega arith)))

  quoted_open : (l : List ℕ) → length l ≤ first_of m l → part_length (nest m d) l ≡ first_of m l
  unfolding leading part_length
  quoted_open [] h = refl
  quoted_open (b ∷ r) h = quoted_next b r ∙ go (eqb b m) (quoted_open r) h
    where
      go : (t : Bool) → (length r ≤ first_of m r → part_length (nest m d) r ≡ first_of m r)
          → suc (length r) ≤ pick (pick t false true) (1 + first_of m r) 0
          → 1 + part_length (pick t (nest 0 d) (nest m d)) r ≡ pick (pick t false true) (1 + first_of m r) 0
      go true ih h = absurd (omega arith)
      go false ih h = omega (arith, ih (omega arith))

-- ---- a mark, with none open

-- a mark is one of two bytes
pub mark_is : (b : ℕ) → (b ≡ 34) ⊎ (b ≡ 39) → quotation b ≡ true
unfolding quotation
mark_is b h = ⊎_elim (λ e. rw e) (λ e. rw e) h

mark_cases : (b : ℕ) → quotation b ≡ true → (b ≡ 34) ⊎ (b ≡ 39)
unfolding quotation
mark_cases b h = go (eqb b 34) (eqb b 39) refl refl h
  where
    go : (t u : Bool) → eqb b 34 ≡ t → eqb b 39 ≡ u → or t u ≡ true → (b ≡ 34) ⊎ (b ≡ 39)
    go true u e f k = inl (eqb-true b 34 e)
    go false true e f k = inr (eqb-true b 39 f)
    go false false e f k = let z : ◌≡◌ {A = ℕ} 0 1 = cc in absurd (omega arith)

mark_full : (b : ℕ) → quotation b ≡ true → eqb b 0 ≡ false
mark_full b h = ⊎_elim (λ e. rw e) (λ e. rw e) (mark_cases b h)

mark_uncut : (d b : ℕ) → quotation b ≡ true → cuts (nest 0 d) b ≡ false
unfolding cuts
mark_uncut d b h = ⊎_elim (λ e. rw e) (λ e. rw e) (mark_cases b h)

mark_nest : (d b : ℕ) → quotation b ≡ true → nest_after (nest 0 d) b ≡ nest b d
unfolding nest_after nest_bare
mark_nest d b h = rw h

-- ---- other bytes, with no mark open

module _ (d b : ℕ) where
  comma_cuts : b ≡ 44 → d ≡ 0 → cuts (nest 0 d) b ≡ true
  unfolding cuts
  comma_cuts e f = rw (e, f)

  other_uncut : (b ≡ 44 → ⊥) → cuts (nest 0 d) b ≡ false
  unfolding cuts
  other_uncut n = rw (ne_eqb b 44 n)

  deep_uncut : (d ≡ 0 → ⊥) → cuts (nest 0 d) b ≡ false
  unfolding cuts
  deep_uncut n = rw (ne_eqb d 0 n) (and_false (eqb b 44))

  opened : b ≡ 40 → nest_after (nest 0 d) b ≡ nest 0 (d + 1)
  unfolding nest_after nest_bare quotation
  opened e = rw e

  closed : b ≡ 41 → nest_after (nest 0 d) b ≡ nest 0 (d - 1)
  unfolding nest_after nest_bare quotation
  closed e = rw e

  unmoved : (b ≡ 34 → ⊥) → (b ≡ 39 → ⊥) → (b ≡ 40 → ⊥) → (b ≡ 41 → ⊥) → nest_after (nest 0 d) b ≡ nest 0 d
  unfolding nest_after nest_bare quotation
  unmoved p q r s = rw (ne_eqb b 34 p, ne_eqb b 39 q, ne_eqb b 40 r, ne_eqb b 41 s)

-- ---- the loop

-- the part that starts at `from` goes on at `at`, with no mark open and `depth` brackets
pub record Cutting (s : List ℕ) (from at depth : ℕ) : Type 0 where
  pub inside : at ≤ length s
  pub shallow : depth + from ≤ at
  pub place : from + part_length outside (drop from s) ≡ at + part_length (nest 0 depth) (drop at s)

pub cutting_none : (s : List ℕ) (from : ℕ) → from ≤ length s → Cutting s from from 0
cutting_none s from h = record { inside = h; shallow = omega arith; place = refl }

module _ {s : List ℕ} {from at depth : ℕ} (x : Cutting s from at depth) where
  pub cutting_end : length s ≤ at → at ≡ from + part_length outside (drop from s)
  cutting_end h = omega (arith, x.place, part_end (nest 0 depth) s at h)

  module _ (h : at < length s) where
    -- a comma outside brackets cuts
    pub cutting_stop : get_or s at 0 ≡ 44 → depth ≡ 0 → at ≡ from + part_length outside (drop from s)
    cutting_stop e f = omega (arith, x.place, part_stop (nest 0 depth) s at h (comma_cuts depth (get_or s at 0) e f))

    module _ (e : cuts (nest 0 depth) (get_or s at 0) ≡ false) where
      next : {n : Nest} → nest_after (nest 0 depth) (get_or s at 0) ≡ n → from + part_length outside (drop from s) ≡ at + 1 + part_length n (drop (at + 1) s)
      next f = omega (arith, x.place, part_more (nest 0 depth) s at h e ∙ ap (λ n. 1 + part_length n (drop (at + 1) s)) f)

      on : {d : ℕ} → nest_after (nest 0 depth) (get_or s at 0) ≡ nest 0 d → d ≤ depth + 1 → Cutting s from (at + 1) d
      on f k = record { inside = omega arith; shallow = omega (arith, x.shallow); place = next f }

    -- brackets count, and other bytes change nothing
    pub cutting_opened : get_or s at 0 ≡ 40 → Cutting s from (at + 1) (depth + 1)
    cutting_opened e = on (other_uncut depth (get_or s at 0) (λ f. omega arith)) (opened depth (get_or s at 0) e) (omega arith)

    pub cutting_shut : get_or s at 0 ≡ 41 → Cutting s from (at + 1) (depth - 1)
    cutting_shut e = on (other_uncut depth (get_or s at 0) (λ f. omega arith)) (closed depth (get_or s at 0) e) (omega arith)

    pub cutting_deep : get_or s at 0 ≡ 44 → (depth ≡ 0 → ⊥) → Cutting s from (at + 1) depth
    cutting_deep e n =
        on (deep_uncut depth (get_or s at 0) n) (unmoved depth (get_or s at 0) (λ f. omega arith) (λ f. omega arith) (λ f. omega arith) (λ f. omega arith)) (omega arith)

    pub cutting_other : (get_or s at 0 ≡ 34 → ⊥) → (get_or s at 0 ≡ 39 → ⊥) → (get_or s at 0 ≡ 40 → ⊥) → (get_or s at 0 ≡ 41 → ⊥) → (get_or s at 0 ≡ 44 → ⊥) → Cutting s from (at + 1) depth
    cutting_other p q r t u = on (other_uncut depth (get_or s at 0) u) (unmoved depth (get_or s at 0) p q r t) (omega arith)

    -- a mark opens a run of k bytes, up to the next one or to the end
    module _ (opens : quotation (get_or s at 0) ≡ true) (k : ℕ) (e : k ≡ first_of (get_or s at 0) (drop (at + 1) s)) where
      mark_shut : eqb (get_or s at 0) 0 ≡ false
      mark_shut = mark_full (get_or s at 0) opens

      quoting : from + part_length outside (drop from s) ≡ at + 1 + part_length (nest (get_or s at 0) depth) (drop (at + 1) s)
      quoting = next (mark_uncut depth (get_or s at 0) opens) (mark_nest depth (get_or s at 0) opens)

      pub run_fits : at + (1 + k) ≤ length s
      run_fits = omega (arith, first_fits (get_or s at 0) (drop (at + 1) s), length-drop (at + 1) s)

      pub cutting_open : length s ≤ at + (1 + k) → at + (1 + k) ≡ from + part_length outside (drop from s)
      cutting_open h = omega (arith, quoting, quoted_open (get_or s at 0) depth mark_shut (drop (at + 1) s) (omega (arith, length-drop (at + 1) s)))

      pub cutting_closed : at + (1 + k) < length s → Cutting s from (at + (1 + k) + 1) depth
      cutting_closed h =
          let run = first_of (get_or s at 0) (drop (at + 1) s) in
          let f : at + 1 + suc run ≡ at + (1 + k) + 1 = omega arith in
          let g : drop (suc run) (drop (at + 1) s) ≡ drop (at + (1 + k) + 1) s = drop-drop (suc run) (at + 1) s ∙ ap (λ n. drop n s) f in
          record {
            inside = omega arith;
            shallow = omega (arith, x.shallow);
            place = omega (arith, quoting, quoted_suc (get_or s at 0) depth mark_shut (drop (at + 1) s) (omega (arith, length-drop (at + 1) s)), ap (part_length (nest 0 depth)) g);
          }
