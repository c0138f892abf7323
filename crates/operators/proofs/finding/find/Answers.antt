-- Each call is lent a rest of the trimmed text (FindLaws), so that its answer is the definition's.
use mathlib.Core.Path.{◌≡◌, ◌∙◌, sym, ap}
use mathlib.Core.Bool.{Bool, true}
use Prim.Native.Nat.{◌+◌, ◌-◌}
use lib.ListN.{take, drop}
use native.Mathlib.Omega.{arith}
use Rattle.ascii.specs.Classes.{white}
use Rattle.std.specs.Prelude.{ℕ, List}
use Rattle.ascii.specs.Trim.{trim_ends, leading_white, trimmed_part}
use Rattle.ascii.specs.declared.trimming.Part.{Part}
use Rattle.ascii.proofs.TrimLaws.{ends_fit}
use Rattle.operators.specs.Operators.{starts, name_length, after_name}
use Rattle.operators.specs.Places.{sign_width, text_end, after_at, is_named, found_of}
use Rattle.operators.proofs.FindLaws.{Begun, text_at, end_in_lem, body_in, body_at, name_at_lem, tail_in, tail_at, argument_in_lem}
use Rattle.operators.proofs.NameLaws.{name_ended}
use Rattle.operators.proofs.finding.find.Goals as goal

-- the trimmed text's two places
first_is : (s : List ℕ) → {p : Part} → p ≡ trimmed_part s → p.first ≡ leading_white s
first_is _ e = ap (λ (p : Part). p.first) e

past_is : (s : List ℕ) → {p : Part} → p ≡ trimmed_part s → p.past ≡ text_end s
past_is _ e = ap (λ (p : Part). p.past) e

pub slice_bounds-text-end : goal.slice_bounds-text-end
slice_bounds-text-end c = omega (arith, past_is c.args.s.now c.trimmed-trimmed.ensures, ends_fit white c.args.s.now)

-- what is known once the sign is passed
negated_is : (s : List ℕ) → {p : Part} → {r : Bool} → p ≡ trimmed_part s → r ≡ starts 33 (take (p.past - p.first) (drop p.first s))
    → r ≡ starts 33 (trim_ends s)
negated_is s e r = r ∙ ap (starts 33) (text_at s _ _ (first_is s e) (past_is s e))

begun : (s : List ℕ) → {p : Part} → {w : ℕ} → p ≡ trimmed_part s → w ≡ sign_width (take (p.past - p.first) (drop p.first s))
    → Begun s p.first p.past w
begun s e w = record {
  first = first_is s e;
  past = past_is s e;
  sign = w ∙ ap sign_width (text_at s _ _ (first_is s e) (past_is s e));
}

pub overflow_add-body : goal.overflow_add-body
overflow_add-body c =
    let b = begun c.args.s.now c.trimmed-trimmed.ensures c.sign_width-width.ensures in
    omega (arith, body_in b, end_in_lem b)

pub slice_bounds-starts_with-count : goal.slice_bounds-starts_with-count
slice_bounds-starts_with-count c =
    let b = begun c.args.s.now c.trimmed-trimmed.ensures c.sign_width-width.ensures in
    body_in b

pub slice_bounds-starts_with-start : goal.slice_bounds-starts_with-start
slice_bounds-starts_with-start c =
    let b = begun c.args.s.now c.trimmed-trimmed.ensures c.sign_width-width.ensures in
    omega (arith, body_in b)

pub slice_bounds-starts_with-end : goal.slice_bounds-starts_with-end
slice_bounds-starts_with-end c =
    let b = begun c.args.s.now c.trimmed-trimmed.ensures c.sign_width-width.ensures in
    omega (arith, end_in_lem b)

-- whether a name is written
module _ {s : List ℕ} {begin end width : ℕ} (k : Begun s begin end width) where
  named_is : {r : Bool} → r ≡ starts 64 (take (end - (begin + width)) (drop (begin + width) s)) → r ≡ is_named s
  named_is r = r ∙ ap (starts 64) (body_at k)

  written : {r : Bool} → r ≡ starts 64 (take (end - (begin + width)) (drop (begin + width) s)) → r ≡ true → is_named s ≡ true
  written r f = sym (named_is r) ∙ f

  -- the name's length
  module _ (h : is_named s ≡ true) where
    length_is : {n : ℕ} → n ≡ name_length (take (end - (begin + width + 1)) (drop (begin + width + 1) s)) → n ≡ name_length (after_at s)
    length_is n = n ∙ ap name_length (name_at_lem k h)

    -- the whitespace after it
    gap_is : {n g : ℕ} → n ≡ name_length (after_at s) → g ≡ leading_white (take (end - (begin + width + 1 + n)) (drop (begin + width + 1 + n) s))
        → g ≡ leading_white (after_name (after_at s))
    gap_is n g = g ∙ ap leading_white (tail_at k h _ n)

pub returns-then-not-starts_with : goal.returns-then-not-starts_with
unfolding found_of
returns-then-not-starts_with c =
    let b = begun c.args.s.now c.trimmed-trimmed.ensures c.sign_width-width.ensures in
    let n = sym (named_is b c.starts_with.ensures) ∙ c.if-not-starts_with.true in
    rw (n, negated_is c.args.s.now c.trimmed-trimmed.ensures c.starts_with-negated.ensures, b.first, b.past, b.sign)

pub overflow_add-past : goal.overflow_add-past
overflow_add-past c =
    let b = begun c.args.s.now c.trimmed-trimmed.ensures c.sign_width-width.ensures in
    let h = written b c.starts_with.ensures c.if-not-starts_with.false in
    omega (arith, tail_in b h _ (length_is b h c.name_length.ensures), end_in_lem b)

pub slice_bounds-gap_width-count : goal.slice_bounds-gap_width-count
slice_bounds-gap_width-count c =
    let b = begun c.args.s.now c.trimmed-trimmed.ensures c.sign_width-width.ensures in
    let h = written b c.starts_with.ensures c.if-not-starts_with.false in
    omega (arith, tail_in b h _ (length_is b h c.name_length.ensures))

pub slice_bounds-gap_width-start : goal.slice_bounds-gap_width-start
slice_bounds-gap_width-start c =
    let b = begun c.args.s.now c.trimmed-trimmed.ensures c.sign_width-width.ensures in
    let h = written b c.starts_with.ensures c.if-not-starts_with.false in
    omega (arith, tail_in b h _ (length_is b h c.name_length.ensures))

pub gap_width-gap-requires : goal.gap_width-gap-requires
gap_width-gap-requires c =
    let b = begun c.args.s.now c.trimmed-trimmed.ensures c.sign_width-width.ensures in
    let h = written b c.starts_with.ensures c.if-not-starts_with.false in
    ap name_length (tail_at b h _ (length_is b h c.name_length.ensures)) ∙ name_ended (after_at c.args.s.now)

pub overflow_add-result : goal.overflow_add-result
overflow_add-result c =
    let b = begun c.args.s.now c.trimmed-trimmed.ensures c.sign_width-width.ensures in
    let h = written b c.starts_with.ensures c.if-not-starts_with.false in
    omega (arith, argument_in_lem b h _ (length_is b h c.name_length.ensures) _ (gap_is b h (length_is b h c.name_length.ensures) c.gap_width-gap.ensures), end_in_lem b)

pub returns : goal.returns
unfolding found_of
returns c =
    let b = begun c.args.s.now c.trimmed-trimmed.ensures c.sign_width-width.ensures in
    let h = written b c.starts_with.ensures c.if-not-starts_with.false in
    rw (h, negated_is c.args.s.now c.trimmed-trimmed.ensures c.starts_with-negated.ensures, b.first, b.past, b.sign, length_is b h c.name_length.ensures, gap_is b h (length_is b h c.name_length.ensures) c.gap_width-gap.ensures)
