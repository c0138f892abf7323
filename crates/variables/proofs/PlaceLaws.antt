-- Pieces by places: a bar cuts a list, and trimming cuts a part.
use mathlib.Core.Path.{◌≡◌, ◌∙◌, refl, sym, ap, ap₂}
use mathlib.Core.Bool.{Bool, true, false}
use mathlib.Core.List.{List, [], ◌∷◌}
use Prim.Native.Nat.{ℕ, suc, ◌+◌, ◌-◌, ◌≤◌, ◌<◌}
use native.Mathlib.Numerals.{one-add}
use native.Mathlib.Omega.{arith}
use lib.ListN.{length, take, drop, length-drop, drop_of_length-le}
use lib.Seq.{length-take-le, take-add, take-take, drop_at, drop-drop}
use lib.Dec.{eqb}
use Rattle.ascii.specs.Choice.{pick}
use Rattle.ascii.specs.Classes.{white}
use Rattle.ascii.specs.Trim.{strip_start, strip_end, leading, trim_ends, leading_white, trimmed_part}
use Rattle.ascii.specs.Splits.{first_of}
use Rattle.lent.specs.Sources.{Part, part as placed}
use Rattle.ascii.proofs.ListLaws.{rest_is}
use Rattle.ascii.proofs.TrimLaws.{ends_are, ends_fit}
use Rattle.ascii.proofs.SplitLaws.{first_fits}
use Rattle.variables.specs.Parts.{onto, cut, Piece, place_of, kept, filled_from, pieces_from}
use Rattle.variables.specs.Steps.{part, NextPiece}

-- ---- the first part of a list, and the pieces after it

record Cuts (n : ℕ) (t : List ℕ) (l : List (List ℕ)) : Type 0 where
  pub others : List (List ℕ)
  pub list : l ≡ take n t ∷ others
  pub after : (k : ℕ) → filled_from k others ≡ pieces_from k (drop (n + 1) t)

cuts : (t : List ℕ) → Cuts (first_of 124 t) t (cut t)
unfolding cut leading pieces_from filled_from strip_start strip_end
cuts [] = record { others = []; list = refl; after = λ k. refl }
cuts (b ∷ r) = go (eqb b 124) (cuts r)
  where
    go : (e : Bool) → Cuts (first_of 124 r) r (cut r)
        → Cuts (pick (pick e false true) (1 + first_of 124 r) 0) (b ∷ r) (pick e ([] ∷ cut r) (onto b (cut r)))
    go true x = record { others = cut r; list = refl; after = λ k. refl }
    go false x =
        let e : 1 + first_of 124 r + 1 ≡ suc (first_of 124 r + 1) = omega arith in
        record { others = x.others; list = rw one-add (ap (onto b) x.list); after = λ k. rw e (x.after k) }

pub pieces_step : (k : ℕ) (t : List ℕ) → pieces_from k t
    ≡ kept (trim_ends (take (first_of 124 t) t)) (place_of k (take (first_of 124 t) t)) (pieces_from (k + first_of 124 t + 1) (drop (first_of 124 t + 1) t))
unfolding pieces_from filled_from
pieces_step k t =
    let x = cuts t in
    let n = first_of 124 t in
    ap (filled_from k) x.list
    ∙ ap (kept (trim_ends (take n t)) (place_of k (take n t))) (x.after (k + length (take n t) + 1) ∙ ap (λ (i : ℕ). pieces_from (k + i + 1) (drop (n + 1) t)) (length-take-le n t (first_fits 124 t)))

-- ---- a part of a part

pub inner : (w l n : ℕ) (t : List ℕ) → w + l ≤ n → w ≤ length t → take l (drop w (take n t)) ≡ take l (drop w t)
inner w l n t h k =
    let e : n ≡ w + (n - w) = omega arith in
    ap (λ (m : ℕ). take l (drop w (take m t))) e
    ∙ ap (λ (u : List ℕ). take l (drop w u)) (take-add w (n - w) t)
    ∙ ap (take l) (drop_at (take w t) (take (n - w) (drop w t)) w (length-take-le w t k))
    ∙ take-take l (n - w) (drop w t) (omega arith)

-- so a part of a part is a part, by added places
pub part_part : (s : List ℕ) (first past begin end : ℕ) → first ≤ past → past ≤ length s → begin ≤ end → end ≤ past - first
    → part (part s first past) begin end ≡ part s (first + begin) (first + end)
part_part s first past begin end h i j k =
    let n : first + end - (first + begin) ≡ end - begin = omega arith in
    inner begin (end - begin) (past - first) (drop first s) (omega arith) (omega (arith, length-drop first s))
    ∙ ap (take (end - begin)) (drop-drop begin first s) ∙ rw n

pub part_length : (s : List ℕ) (first past : ℕ) → past ≤ length s → length (part s first past) ≡ past - first
part_length s first past h = length-take-le (past - first) (drop first s) (omega (arith, length-drop first s))

-- ---- the next piece

kept_some : (p : List ℕ) (x : Part) (ps : List Piece) → 0 < length p → kept p x ps ≡ record { text = p; place = x } ∷ ps
kept_some [] x ps h = absurd (omega arith)
kept_some (b ∷ p) x ps h = refl

kept_none : (p : List ℕ) (x : Part) (ps : List Piece) → length p ≤ 0 → kept p x ps ≡ ps
kept_none [] x ps h = refl
kept_none (b ∷ p) x ps h = absurd (omega arith)

-- n bytes stand before the next bar, and r is where the part up to it is trimmed
module _ (s : List ℕ) (at n : ℕ) (h : at < length s) (e : n ≡ first_of 124 (take (length s - at) (drop at s))) where
  n_is : n ≡ first_of 124 (drop at s)
  n_is = e ∙ ap (first_of 124) (rest_is s at)

  pub bar_fits : at + n ≤ length s
  bar_fits = omega (arith, n_is, first_fits 124 (drop at s), length-drop at s)

  abbrev whole : List ℕ
  whole = take (at + n - at) (drop at s)

  whole_is : whole ≡ take (first_of 124 (drop at s)) (drop at s)
  whole_is = let k : at + n - at ≡ first_of 124 (drop at s) = omega (arith, n_is) in ap (λ (m : ℕ). take m (drop at s)) k

  step : pieces_from at (drop at s) ≡ kept (trim_ends whole) (place_of at whole) (pieces_from (at + n + 1) (drop (at + n + 1) s))
  step =
      let m = first_of 124 (drop at s) in
      let k : at + (m + 1) ≡ at + n + 1 = omega (arith, n_is) in
      let j : at + m + 1 ≡ at + n + 1 = omega (arith, n_is) in
      pieces_step at (drop at s)
      ∙ ap₂ (λ (p r : List ℕ). kept (trim_ends p) (place_of at p) (pieces_from (at + m + 1) r)) (sym whole_is) (drop-drop (m + 1) at s ∙ ap (λ (i : ℕ). drop i s) k)
      ∙ ap (λ (i : ℕ). kept (trim_ends whole) (place_of at whole) (pieces_from i (drop (at + n + 1) s))) j

  module _ (r : Part) (f : r ≡ trimmed_part whole) where
    first_is : r.first ≡ leading_white whole
    first_is = ap (λ (p : Part). p.first) f

    past_is : r.past ≡ leading_white whole + length (trim_ends whole)
    past_is = ap (λ (p : Part). p.past) f

    whole_long : length whole ≡ n
    whole_long = part_length s at (at + n) bar_fits ∙ omega arith

    pub trim_fits : at + r.past ≤ at + n
    trim_fits = omega (arith, past_is, ends_fit white whole, whole_long)

    pub trim_first : at + r.first ≤ at + n
    trim_first = omega (arith, first_is, ends_fit white whole, whole_long)

    trimmed_is : trim_ends whole ≡ part s (at + r.first) (at + r.past)
    trimmed_is =
        let w = leading_white whole in
        let l = length (trim_ends whole) in
        let i : at + (w + l) - (at + w) ≡ l = omega arith in
        sym (ends_are white whole)
        ∙ inner w l (at + n - at) (drop at s) (omega (arith, ends_fit white whole, whole_long)) (omega (arith, ends_fit white whole, whole_long, length-drop at s, bar_fits))
        ∙ ap (take l) (drop-drop w at s)
        ∙ rw (first_is, past_is, i)

    place_is : place_of at whole ≡ placed (at + r.first) (at + r.past)
    place_is = rw (first_is, past_is)

    pub piece_found : r.first < r.past → NextPiece s at (at + r.first) (at + r.past) (at + n + 1)
    piece_found g = record {
      list = step ∙ kept_some (trim_ends whole) (place_of at whole) _ (omega (arith, first_is, past_is))
          ∙ ap₂ (λ (p : List ℕ) (x : Part). record { text = p; place = x } ∷ pieces_from (at + n + 1) (drop (at + n + 1) s)) trimmed_is place_is;
      begun = omega arith;
      some = omega arith;
      before = omega (arith, trim_fits);
      inside = omega (arith, bar_fits);
    }

    pub part_empty : r.past ≤ r.first → pieces_from (at + n + 1) (drop (at + n + 1) s) ≡ pieces_from at (drop at s)
    part_empty g = sym (step ∙ kept_none (trim_ends whole) (place_of at whole) _ (omega (arith, first_is, past_is)))

-- found from a place further on, with only empty parts before it
pub next_from : {s : List ℕ} {from at first past next : ℕ} → from ≤ at → pieces_from at (drop at s) ≡ pieces_from from (drop from s)
    → NextPiece s at first past next → NextPiece s from first past next
next_from h e x = record { list = sym e ∙ x.list; begun = omega (arith, x.begun); some = x.some; before = x.before; inside = x.inside }

pub pieces_end : (s : List ℕ) (at from : ℕ) → length s ≤ at → pieces_from at (drop at s) ≡ pieces_from from (drop from s) → pieces_from from (drop from s) ≡ []
unfolding cut pieces_from filled_from strip_start strip_end
pieces_end s at from h e = sym e ∙ rw (drop_of_length-le s h)
