-- The two loops over a list: the pieces read so far and those still to come make the whole, and what was read is written.
use mathlib.Core.Path.{◌≡◌, ◌∙◌, refl, sym, ap, ap₂}
use mathlib.Core.List.{List, [], ◌∷◌, ◌++◌, append_assoc, append-nil}
use Prim.Native.Nat.{ℕ, suc, ◌+◌, ◌-◌, ◌*◌, ◌≤◌, ◌<◌}
use native.Mathlib.Omega.{arith}
use mathlib.Core.Bool.{Bool, true, false}
use mathlib.Core.Logic.{inl, inr}
use lib.ListN.{length, take, drop, get_or, length-append, length-drop}
use lib.Seq.{get_or-take, get_or-drop}
use lib.Dec.{eqb}
use borrow.Author.Tests.{eqb-true, eqb-false, ne_eqb}
use Rattle.ascii.specs.Choice.{pick}
use Rattle.ascii.proofs.ListLaws.{rest_is}
use Rattle.lent.specs.Sizes.{limit, span_word, variable_words}
use Rattle.lent.specs.Sources.{Part, part as placed, Sourced, sourced}
use Rattle.lent.specs.Buffers.{stored}
use Rattle.lent.specs.Layout.{texts_of}
use Rattle.lent.proofs.LayoutLaws.{texts_more, count_more}
use Rattle.variables.specs.Parts.{Piece, pieces_from, pieces}
use Rattle.variables.specs.Variables.{Variable, variable, Targets, targets, refused, with_variable, with_exclusion, piece, read_all}
use Rattle.variables.specs.Layout.{variable_text, exclusion_text, selection_texts, variable_whole, exclusion_whole}
use Rattle.variables.specs.Steps.{part, NextPiece, excluding_of, whole_words, behind_mark, excluded_of, IsVariable, IsExclusion, IsUnknown, Lies, entry_part, text_at, WroteVariables, WroteExclusions, AllRead, Stopped, Added, AllOrNone, kept_of}
use Rattle.variables.specs.declared.singles.Exclusions.{Exclusions}
use Rattle.variables.specs.declared.singles.Entry.{Entry}
use Rattle.variables.specs.declared.singles.Entry.TheVariants.{Exclusion}
use Rattle.variables.proofs.PlaceLaws.{part_length, part_part}
use Rattle.variables.proofs.SingleLaws.{plain_mark, has_mark}
use Rattle.variables.proofs.LayoutLaws.{wrote_none, wrote_more}

-- ---- before what is still to come

abbrev ahead : List (Sourced Variable) → List (Sourced (List ℕ)) → ℕ → Targets → Targets
ahead vs es i (targets us ds) = targets (vs ++ us) (es ++ ds)
ahead vs es i (refused j name x) = refused (i + j) name x

ahead_none : (ts : Targets) → ts ≡ ahead [] [] 0 ts
ahead_none (targets vs es) = refl
ahead_none (refused j name x) = let e : 0 + j ≡ j = omega arith in rw e

module _ (vs : List (Sourced Variable)) (es : List (Sourced (List ℕ))) (i : ℕ) where
  ahead_variable : (x : Part) (v : Variable) (ts : Targets) → ahead vs es i (with_variable x (variable v) ts) ≡ ahead (vs ++ (sourced v x ∷ [])) es (i + 1) ts
  ahead_variable x v (targets us ds) = ap (λ (l : List (Sourced Variable)). targets l (es ++ ds)) (sym (append_assoc vs (sourced v x ∷ []) us))
  ahead_variable x v (refused j name y) = let e : i + suc j ≡ i + 1 + j = omega arith in rw e

  ahead_exclusion : (x : Part) (t : List ℕ) (ts : Targets) → ahead vs es i (with_exclusion x t ts) ≡ ahead vs (es ++ (sourced t x ∷ [])) (i + 1) ts
  ahead_exclusion x t (targets us ds) = ap (targets (vs ++ us)) (sym (append_assoc es (sourced t x ∷ []) ds))
  ahead_exclusion x t (refused j name y) = let e : i + suc j ≡ i + 1 + j = omega arith in rw e

-- ---- the first loop

pub record Sofar (n : Exclusions) (s : List ℕ) (offset place : ℕ) (text₀ records₀ text records : List ℕ) (at variables excluded used : ℕ) : Type 0 where
  pub vs : List (Sourced Variable)
  pub es : List (Sourced (List ℕ))
  pub read : read_all (excluding_of n) (pieces s) ≡ ahead vs es (variables + excluded) (read_all (excluding_of n) (pieces_from at (drop at s)))
  pub marked : excluded_of (pieces s) ≡ es ++ excluded_of (pieces_from at (drop at s))
  pub excluded_are : excluded ≡ length es
  pub wrote : WroteVariables offset place text₀ text records₀ records vs used (place + variables)
  pub low : used + length (texts_of exclusion_text es) + (variables + excluded) ≤ offset + at
  pub inside : at ≤ length s + 1
  pub fits : used + length (texts_of exclusion_text es) ≤ offset + length s
  pub few : variables + excluded ≤ length s

pub begun : (n : Exclusions) (s text records : List ℕ) (offset place : ℕ) → Sofar n s offset place text records text records 0 0 0 offset
unfolding texts_of
begun n s text records offset place = record {
  vs = [];
  es = [];
  read = ahead_none (read_all (excluding_of n) (pieces s));
  marked = refl;
  excluded_are = refl;
  wrote = let z : place + 0 ≡ place = omega arith in rw z (wrote_none variable_whole variable_text offset place text records);
  low = omega arith;
  inside = omega arith;
  fits = omega arith;
  few = omega arith;
}

pub wide_variable : (o : ℕ) (v : Sourced Variable) → length (variable_whole o v) ≡ variable_words
wide_variable o v = refl

pub wide_exclusion : (o : ℕ) (e : Sourced (List ℕ)) → length (exclusion_whole o e) ≡ variable_words
wide_exclusion o e = refl

module _ {n : Exclusions} {s : List ℕ} {offset place : ℕ} {text₀ records₀ text records : List ℕ} {at variables excluded used : ℕ}
    (x : Sofar n s offset place text₀ records₀ text records at variables excluded used) (short : length s ≤ limit) (low : (offset ≤ limit) × (place ≤ limit)) where
  pub used_low : used ≤ limit + limit
  used_low = omega (arith, x.fits, low.0)

  pub some_low : variables + excluded ≤ limit
  some_low = omega (arith, x.few)

  -- nothing is left
  left_is : pieces_from at (drop at s) ≡ [] → read_all (excluding_of n) (pieces s) ≡ targets x.vs x.es
  unfolding read_all
  left_is e =
      x.read ∙ ap (λ (l : List Piece). ahead x.vs x.es (variables + excluded) (read_all (excluding_of n) l)) e
      ∙ ap₂ targets (append-nil x.vs) (append-nil x.es)

  unmarked_left : pieces_from at (drop at s) ≡ [] → excluded_of (pieces s) ≡ x.es
  unfolding excluded_of
  unmarked_left e = x.marked ∙ ap (λ (l : List Piece). x.es ++ excluded_of l) e ∙ append-nil x.es

  pub ended : pieces_from at (drop at s) ≡ [] → AllRead n s offset place text₀ text records₀ records variables excluded used
  ended e =
      let m = unmarked_left e in
      record {
        vs = x.vs;
        read = left_is e ∙ ap (targets x.vs) (sym m);
        excluded_are = x.excluded_are ∙ ap length (sym m);
        fits = rw m (omega (arith, length-append (selection_texts x.vs) (texts_of exclusion_text x.es), x.wrote.used_is, x.fits));
        few = omega (arith, x.few);
        wrote = x.wrote;
      }

  module _ (first past next : ℕ) (p : NextPiece s at first past next) where
    abbrev this : List ℕ
    this = part s first past

    abbrev later : Targets
    later = read_all (excluding_of n) (pieces_from next (drop next s))

    pub this_long : length this ≡ past - first
    this_long = part_length s first past (omega (arith, p.before, p.inside))

    pub this_some : 0 < length this
    this_some = omega (arith, this_long, p.some)

    all_is : read_all (excluding_of n) (pieces s) ≡ ahead x.vs x.es (variables + excluded) (piece (excluding_of n) (placed first past) this later)
    unfolding read_all
    all_is = x.read ∙ ap (λ (l : List Piece). ahead x.vs x.es (variables + excluded) (read_all (excluding_of n) l)) p.list

    mark_is : excluded_of (pieces s) ≡ x.es ++ behind_mark (placed first past) this (excluded_of (pieces_from next (drop next s)))
    unfolding excluded_of
    mark_is = x.marked ∙ ap (λ (l : List Piece). x.es ++ excluded_of l) p.list

    -- a name that is none
    pub stopped : (begin end : ℕ) → IsUnknown (excluding_of n) this begin end → Stopped n s (variables + excluded) (first + begin) (first + end) first past
    stopped begin end u =
        let k : end ≤ past - first = omega (arith, this_long, u.inside) in
        let z : variables + excluded + 0 ≡ variables + excluded = omega arith in
        record {
          read = all_is ∙ ap (ahead x.vs x.es (variables + excluded)) (u.is (placed first past) later) ∙ rw z
              (ap (λ (t : List ℕ). refused (variables + excluded) t (placed first past)) (part_part s first past begin end (omega (arith, p.some)) (omega (arith, p.before, p.inside)) u.ordered k));
          ordered = omega (arith, u.ordered);
          inside = omega (arith, k, p.some, p.before, p.inside);
        }

    -- an exclusion
    pub passed : IsExclusion (excluding_of n) this → Sofar n s offset place text₀ records₀ text records next variables (excluded + 1) used
    passed u =
        let d = sourced (drop 1 this) (placed first past) in
        let t = texts_more exclusion_text x.es d in
        let grown : used + length (texts_of exclusion_text (x.es ++ (d ∷ []))) + (variables + (excluded + 1)) ≤ offset + next =
        omega (arith, x.low, ap length t, length-append (texts_of exclusion_text x.es) (drop 1 this), length-drop 1 this, this_long, this_some, p.begun, p.some, p.before) in
        record {
          vs = x.vs;
          es = x.es ++ (d ∷ []);
          read = all_is ∙ ap (ahead x.vs x.es (variables + excluded)) (u.is (placed first past) later)
              ∙ ahead_exclusion x.vs x.es (variables + excluded) (placed first past) (drop 1 this) later
              ∙ ap (λ (i : ℕ). ahead x.vs (x.es ++ (d ∷ [])) i later) (omega arith);
          marked = mark_is ∙ ap (λ (l : List (Sourced (List ℕ))). x.es ++ l) (u.mark (placed first past) (excluded_of (pieces_from next (drop next s))))
              ∙ sym (append_assoc x.es (d ∷ []) (excluded_of (pieces_from next (drop next s))));
          excluded_are = omega (arith, x.excluded_are, count_more x.es d);
          wrote = x.wrote;
          low = grown;
          inside = p.inside;
          fits = omega (arith, grown, p.inside);
          few = omega (arith, x.low, this_long, p.begun, p.some, p.before, p.inside);
        }

    -- a variable
    module _ (e : Entry) (u : IsVariable (excluding_of n) this e) where
      pub entry_lies : Lies this (entry_part e)
      entry_lies = u.held.text.lies

      pub turned : (text' records' : List ℕ) {used' : ℕ} → text' ≡ stored text used (text_at this (entry_part e))
          → records' ≡ stored records ((place + variables) * variable_words) (whole_words used e first (length this))
          → used' ≡ used + length (text_at this (entry_part e))
          → Sofar n s offset place text₀ records₀ text' records' next (variables + 1) excluded used'
      turned text' records' {used'} a b f =
          let t = u.held.text in
          let v = sourced u.v (placed first past) in
          let w : whole_words used e first (length this) ≡ variable_whole used v = ap₂ (λ (l : List ℕ) (k : ℕ). l ++ (span_word first k ∷ [])) (u.held.words used) this_long in
          let grown : used' + length (texts_of exclusion_text x.es) + (variables + 1 + excluded) ≤ offset + next = omega (arith, x.low, f, ap length t.is, t.short, this_long, p.begun, p.some, p.before) in
          record {
            vs = x.vs ++ (v ∷ []);
            es = x.es;
            read = all_is ∙ ap (ahead x.vs x.es (variables + excluded)) (u.is (placed first past) later)
                ∙ ahead_variable x.vs x.es (variables + excluded) (placed first past) u.v later
                ∙ ap (λ (i : ℕ). ahead (x.vs ++ (v ∷ [])) x.es i later) (omega arith);
            marked = mark_is ∙ ap (λ (l : List (Sourced (List ℕ))). x.es ++ l) (u.plain (placed first past) (excluded_of (pieces_from next (drop next s))));
            excluded_are = x.excluded_are;
            wrote = let z : place + (variables + 1) ≡ place + variables + 1 = omega arith in
                rw z (wrote_more x.wrote wide_variable v text' records' (text_at this (entry_part e)) (whole_words used e first (length this)) used'
                t.is w f a b);
            low = grown;
            inside = p.inside;
            fits = omega (arith, grown, p.inside);
            few = omega (arith, x.low, this_long, p.begun, p.some, p.before, p.inside);
          }

-- ---- the second loop

no_more : (es : List (Sourced (List ℕ))) → length es ≡ 0 → es ≡ []
no_more [] e = refl
no_more (x ∷ es) e = absurd (omega (arith, e))

pub record Adding (s : List ℕ) (offset place : ℕ) (text₀ records₀ text records : List ℕ) (at used count : ℕ) : Type 0 where
  pub es : List (Sourced (List ℕ))
  pub marked : excluded_of (pieces s) ≡ es ++ excluded_of (pieces_from at (drop at s))
  pub wrote : WroteExclusions offset place text₀ text records₀ records es used count
  pub used_low : used ≤ offset + at
  pub count_low : count ≤ place + at
  pub inside : at ≤ length s + 1

pub add_begun : (s text records : List ℕ) (offset place : ℕ) → Adding s offset place text records text records 0 offset place
add_begun s text records offset place = record {
  es = [];
  marked = refl;
  wrote = wrote_none exclusion_whole exclusion_text offset place text records;
  used_low = omega arith;
  count_low = omega arith;
  inside = omega arith;
}

-- the entry of an exclusion whose piece has that length
abbrev pub exclusion_entry : ℕ → Entry
exclusion_entry n = Exclusion (placed 1 n)

module _ {s : List ℕ} {offset place : ℕ} {text₀ records₀ text records : List ℕ} {at used count : ℕ} (x : Adding s offset place text₀ records₀ text records at used count) where
  pub add_ended : pieces_from at (drop at s) ≡ [] → Added (excluded_of (pieces s)) offset place text₀ text records₀ records used
  unfolding excluded_of
  add_ended e =
      let m : excluded_of (pieces s) ≡ x.es = x.marked ∙ ap (λ (l : List Piece). x.es ++ excluded_of l) e ∙ append-nil x.es in
      rw (m, ← x.wrote.count_is) x.wrote

  -- the list ended with some still asked for: these are all
  pub add_ended_kept : (kept : ℕ) → (kept ≡ 0 → ⊥) → pieces_from at (drop at s) ≡ [] → Added (kept_of kept (excluded_of (pieces s))) offset place text₀ text records₀ records used
  add_ended_kept kept h e = rw (ne_eqb kept 0 h) (add_ended e)

  -- as many are written as are kept
  pub add_done : (kept : ℕ) → AllOrNone kept (excluded_of (pieces s)) → count ≡ place + kept → Added (kept_of kept (excluded_of (pieces s))) offset place text₀ text records₀ records used
  add_done kept k c = go (eqb kept 0) refl k
    where
      written : length x.es ≡ kept
      written = omega (arith, x.wrote.count_is)

      none : kept ≡ 0 → Added [] offset place text₀ text records₀ records used
      none z =
          let n : place + 0 ≡ count = omega arith in
          rw (n, ← no_more x.es (written ∙ z)) x.wrote

      all : kept ≡ length (excluded_of (pieces s)) → Added (excluded_of (pieces s)) offset place text₀ text records₀ records used
      all e =
          let rest = excluded_of (pieces_from at (drop at s)) in
          let l : length rest ≡ 0 = omega (arith, written, ap length x.marked, length-append x.es rest) in
          let m : excluded_of (pieces s) ≡ x.es = x.marked ∙ ap (λ (l : List (Sourced (List ℕ))). x.es ++ l) (no_more rest l) ∙ append-nil x.es in
          rw (m, ← x.wrote.count_is) x.wrote

      go : (t : Bool) → eqb kept 0 ≡ t → AllOrNone kept (excluded_of (pieces s)) → Added (pick t [] (excluded_of (pieces s))) offset place text₀ text records₀ records used
      go true z q = none (eqb-true kept 0 z)
      go false z (inl q) = absurd (eqb-false kept 0 z q)
      go false z (inr q) = all q

  module _ (first past next : ℕ) (p : NextPiece s at first past next) where
    pub piece_long : length (part s first past) ≡ past - first
    piece_long = part_length s first past (omega (arith, p.before, p.inside))

    piece_some : 0 < length (part s first past)
    piece_some = omega (arith, piece_long, p.some)

    first_byte : get_or (part s first past) 0 0 ≡ get_or s first 0
    first_byte =
        let z : first + 0 ≡ first = omega arith in
        get_or-take (past - first) (drop first s) 0 0 (omega (arith, p.some)) ∙ get_or-drop first s 0 0 ∙ ap (λ (i : ℕ). get_or s i 0) z

    mark_at : excluded_of (pieces s) ≡ x.es ++ behind_mark (placed first past) (part s first past) (excluded_of (pieces_from next (drop next s)))
    unfolding excluded_of
    mark_at = x.marked ∙ ap (λ (l : List Piece). x.es ++ excluded_of l) p.list

    -- no exclusion
    pub add_passed : (get_or s first 0 ≡ 33 → ⊥) → Adding s offset place text₀ records₀ text records next used count
    add_passed h = record {
      es = x.es;
      marked = mark_at ∙ ap (λ (l : List (Sourced (List ℕ))). x.es ++ l) (plain_mark (part s first past) (λ e. h (sym first_byte ∙ e)) (placed first past) (excluded_of (pieces_from next (drop next s))));
      wrote = x.wrote;
      used_low = omega (arith, x.used_low, p.begun, p.some, p.before);
      count_low = omega (arith, x.count_low, p.begun, p.some, p.before);
      inside = p.inside;
    }

    pub add_lies : Lies (part s first past) (entry_part (exclusion_entry (past - first)))
    add_lies = (omega (arith, p.some), omega (arith, piece_long))

    -- an exclusion
    pub add_turned : get_or s first 0 ≡ 33 → (text' records' : List ℕ) {used' : ℕ} → text' ≡ stored text used (part (part s first past) 1 (past - first))
        → records' ≡ stored records (count * variable_words) (whole_words used (exclusion_entry (past - first)) first (length (part s first past)))
        → used' ≡ used + length (part (part s first past) 1 (past - first))
        → Adding s offset place text₀ records₀ text' records' next used' (count + 1)
    add_turned h text' records' {used'} a b f =
        let q = part s first past in
        let t : part q 1 (past - first) ≡ drop 1 q = ap (λ (k : ℕ). take (k - 1) (drop 1 q)) (sym piece_long) ∙ rest_is q 1 in
        let l : length (drop 1 q) ≡ past - first - 1 = length-drop 1 q ∙ ap (λ (k : ℕ). k - 1) piece_long in
        let d = sourced (drop 1 q) (placed first past) in
        let r : whole_words used (exclusion_entry (past - first)) first (length q) ≡ exclusion_whole used d = rw (l, piece_long) in
        record {
          es = x.es ++ (d ∷ []);
          marked = mark_at ∙ ap (λ (l : List (Sourced (List ℕ))). x.es ++ l) (has_mark q piece_some (first_byte ∙ h) (placed first past) (excluded_of (pieces_from next (drop next s))))
              ∙ sym (append_assoc x.es (d ∷ []) (excluded_of (pieces_from next (drop next s))));
          wrote = wrote_more x.wrote wide_exclusion d text' records' (part q 1 (past - first)) (whole_words used (exclusion_entry (past - first)) first (length q)) used'
              t r f a b;
          used_low = omega (arith, x.used_low, f, ap length t, l, p.begun, p.some, p.before);
          count_low = omega (arith, x.count_low, p.begun, p.some, p.before);
          inside = p.inside;
        }
