-- From a list read to what read_targets promises: one law for each way out.
use mathlib.Core.Path.{◌≡◌, ◌∙◌, refl, sym, ap, ap₂, subst}
use mathlib.Core.Bool.{Bool, true, false}
use mathlib.Core.Logic.{inl, inr}
use mathlib.Core.List.{List, [], ◌∷◌, ◌++◌}
use Prim.Native.Nat.{ℕ, ◌+◌, ◌*◌, ◌≤◌}
use native.Mathlib.Omega.{arith}
use lib.ListN.{length, length-append}
use lib.Dec.{eqb}
use borrow.Author.Tests.{ne_eqb}
use Rattle.ascii.specs.Choice.{pick}
use Rattle.lent.specs.Sizes.{variable_words}
use Rattle.lent.specs.Sources.{Part, part as placed, Sourced}
use Rattle.lent.specs.Buffers.{zeros, stored, stored_each, joined}
use Rattle.lent.specs.Endings.{starts}
use Rattle.lent.specs.Layout.{texts_of, each_text, records_of}
use Rattle.lent.proofs.BufferLaws.{each_append, each_fits, joined_append}
use Rattle.lent.proofs.LayoutLaws.{texts_joined}
use Rattle.lent.proofs.EndLaws.{refused_text_lem}
use Rattle.lent.proofs.StartLaws.{starts_is}
use Rattle.variables.specs.Parts.{pieces}
use Rattle.variables.specs.Variables.{Variable, targets, refused, read_all}
use Rattle.variables.specs.Layout.{variable_whole, exclusion_whole, variable_text, exclusion_text, selection_texts, texts}
use Rattle.variables.specs.Steps.{part, excluding_of, excluded_of, AllRead, Stopped, Added, AllOrNone, kept_count, kept_of, hanging, targets_of}
use Rattle.variables.specs.Cores.{records_from, ReadTargets}
use Rattle.variables.specs.declared.TargetsError.TheVariants.{Unknown, Unfit}
use Rattle.variables.specs.declared.Reached.{Reached}
use Rattle.variables.specs.declared.TargetsError.{TargetsError}
use Rattle.std.specs.Prelude.{Result, Ok, Err}
use Rattle.variables.specs.declared.singles.Exclusions.{Exclusions}
use Rattle.variables.specs.declared.singles.Exclusions.TheVariants.{AsWritten, LookedUp}
use Rattle.variables.proofs.PlaceLaws.{part_length}
use Rattle.variables.proofs.LayoutLaws.{text_next, words_next}
use Rattle.variables.proofs.ScanLaws.{wide_variable}

-- ---- which exclusions are kept

kept_all : (es : List (Sourced (List ℕ))) → kept_of (length es) es ≡ es
kept_all [] = refl
kept_all (e ∷ es) = rw (ne_eqb (length (e ∷ es)) 0 (omega arith))

pub hanging_kept : (n : Exclusions) (vs : List (Sourced Variable)) (es : List (Sourced (List ℕ)))
    → hanging n (targets vs es) ≡ targets vs (kept_of (kept_count n (length vs) (length es)) es)
hanging_kept AsWritten [] es = refl
hanging_kept AsWritten (v ∷ vs) es = rw (ne_eqb (length (v ∷ vs)) 0 (omega arith)) (ap (targets (v ∷ vs)) (sym (kept_all es)))
hanging_kept LookedUp vs es = ap (targets vs) (sym (kept_all es))

pub kept_long : (n : Exclusions) (variables : ℕ) (es : List (Sourced (List ℕ)))
    → kept_count n variables (length es) ≡ length (kept_of (kept_count n variables (length es)) es)
kept_long LookedUp variables es = ap length (sym (kept_all es))
kept_long AsWritten variables es = go (eqb variables 0)
  where
    go : (t : Bool) → pick t 0 (length es) ≡ length (kept_of (pick t 0 (length es)) es)
    go true = refl
    go false = ap length (sym (kept_all es))

kept_short : (kept : ℕ) (es : List (Sourced (List ℕ))) → length (texts_of exclusion_text (kept_of kept es)) ≤ length (texts_of exclusion_text es)
unfolding texts_of
kept_short kept es = go (eqb kept 0)
  where
    go : (t : Bool) → length (texts_of exclusion_text (pick t [] es)) ≤ length (texts_of exclusion_text es)
    go true = omega arith
    go false = omega arith

pub kept_low : (n : Exclusions) (kept variables excluded : ℕ) → kept ≡ kept_count n variables excluded → kept ≤ excluded
kept_low LookedUp kept variables excluded e = omega arith
kept_low AsWritten kept variables excluded e = go (eqb variables 0) e
  where
    go : (t : Bool) → kept ≡ pick t 0 excluded → kept ≤ excluded
    go true e = omega arith
    go false e = omega arith

pub all_or_none : (n : Exclusions) (kept variables excluded : ℕ) (es : List (Sourced (List ℕ))) → kept ≡ kept_count n variables excluded → excluded ≡ length es → AllOrNone kept es
all_or_none LookedUp kept variables excluded es e l = inr (e ∙ l)
all_or_none AsWritten kept variables excluded es e l = go (eqb variables 0) e
  where
    go : (t : Bool) → kept ≡ pick t 0 excluded → AllOrNone kept es
    go true e = inl e
    go false e = inr (e ∙ l)

-- ---- what a list is read to

-- a name that is none
pub targets_refused : (n : Exclusions) (s : List ℕ) (i : ℕ) (name : List ℕ) (x : Part) → read_all (excluding_of n) (pieces s) ≡ refused i name x
    → targets_of n s ≡ refused i name x
unfolding targets_of
targets_refused n s i name x e = ap (hanging n) e ∙ go n
  where
    go : (n : Exclusions) → hanging n (refused i name x) ≡ refused i name x
    go AsWritten = refl
    go LookedUp = refl

-- variables, and the exclusions that are kept
pub targets_read : (n : Exclusions) (s : List ℕ) (vs : List (Sourced Variable)) → read_all (excluding_of n) (pieces s) ≡ targets vs (excluded_of (pieces s))
    → targets_of n s ≡ targets vs (kept_of (kept_count n (length vs) (length (excluded_of (pieces s)))) (excluded_of (pieces s)))
unfolding targets_of
targets_read n s vs e = ap (hanging n) e ∙ hanging_kept n vs (excluded_of (pieces s))

-- ---- the ways out

abbrev reached : ℕ → ℕ → Result Reached TargetsError
reached count offset = Ok (record { count = count; offset = offset })

pub used_fits : {n : Exclusions} {s : List ℕ} {offset place : ℕ} {text text₁ records records₁ : List ℕ} {variables excluded used : ℕ}
    → AllRead n s offset place text text₁ records records₁ variables excluded used → used ≤ offset + length s
used_fits {n} {s} x = omega (arith, x.wrote.used_is, x.fits, length-append (selection_texts x.vs) (texts_of exclusion_text (excluded_of (pieces s))))

module _ (n : Exclusions) (s : List ℕ) (offset place : ℕ) (text records : List ℕ) where
  pub core_unfit : starts (length s) (length text) offset place ≡ false → ReadTargets n s offset place text text records records (Err Unfit)
  core_unfit h = record { answer = rw h; texts = rw h; words = rw h }

  module _ (h : starts (length s) (length text) offset place ≡ true) where
    room : offset + length s ≤ length text
    room = ((starts_is (length s) (length text) offset place).0 h).room

    -- a name that is none: its bytes stand at the front of the text, and all else is zero
    pub core_unknown : {piece begin end first past : ℕ} → Stopped n s piece begin end first past → (text₁ records₁ : List ℕ) {text₂ records₂ : List ℕ}
        → length text₁ ≡ length text → length records₁ ≡ length records
        → text₂ ≡ stored (zeros (length text₁)) 0 (part s begin end) → records₂ ≡ zeros (length records₁)
        → ReadTargets n s offset place text text₂ records records₂ (Err (Unknown piece (length (part s begin end)) first past))
    core_unknown {piece} {begin} {end} {first} {past} x text₁ records₁ l m d b =
        let e = targets_refused n s piece (part s begin end) (placed first past) x.read in
        let k = part_length s begin end x.inside in
        record {
          answer = rw (h, e);
          texts = rw (h, e) (refused_text_lem text (part s begin end) (d ∙ ap (λ (i : ℕ). stored (zeros i) 0 (part s begin end)) l) (omega (arith, k, x.inside, room)));
          words = rw (h, e) (b ∙ ap zeros m);
        }

    module _ {text₁ records₁ : List ℕ} {variables excluded used : ℕ} (x : AllRead n s offset place text text₁ records records₁ variables excluded used)
        (kept : ℕ) (k : kept ≡ kept_count n variables excluded) where
      abbrev es : List (Sourced (List ℕ))
      es = kept_of kept (excluded_of (pieces s))

      kept_is : kept ≡ kept_count n (length x.vs) (length (excluded_of (pieces s)))
      kept_is = let v : variables ≡ length x.vs = omega (arith, x.wrote.count_is) in k ∙ ap₂ (kept_count n) v x.excluded_are

      targets_are : targets_of n s ≡ targets x.vs es
      targets_are = targets_read n s x.vs x.read ∙ ap (λ (i : ℕ). targets x.vs (kept_of i (excluded_of (pieces s)))) (sym kept_is)

      kept_count_lem : kept ≡ length es
      kept_count_lem =
          subst (λ (i : ℕ). i ≡ length (kept_of i (excluded_of (pieces s)))) (sym kept_is) (kept_long n (length x.vs) (excluded_of (pieces s)))

      count_is : variables + kept ≡ length x.vs + length es
      count_is = omega (arith, x.wrote.count_is, kept_count_lem)

      module _ {text₂ records₂ : List ℕ} {past : ℕ} (y : Added es used (place + variables) text₁ text₂ records₁ records₂ past) where
        texts_long : length (texts x.vs es) ≡ length (selection_texts x.vs) + length (texts_of exclusion_text es)
        texts_long = length-append (selection_texts x.vs) (texts_of exclusion_text es)

        past_is : past ≡ offset + length (texts x.vs es)
        past_is = omega (arith, y.used_is, x.wrote.used_is, texts_long)

        all_texts : joined (each_text variable_text x.vs ++ each_text exclusion_text es) ≡ texts x.vs es
        all_texts = joined_append (each_text variable_text x.vs) (each_text exclusion_text es) ∙ ap₂ (λ (a b : List ℕ). a ++ b) (texts_joined variable_text x.vs) (texts_joined exclusion_text es)

        texts_fit_lem : offset + length (texts x.vs es) ≤ length text
        texts_fit_lem = omega (arith, room, x.fits, texts_long, length-append (selection_texts x.vs) (texts_of exclusion_text (excluded_of (pieces s))), kept_short kept (excluded_of (pieces s)))

        text_is : text₂ ≡ stored text offset (texts x.vs es)
        text_is =
            y.text_laid ∙ ap₂ (λ (l : List ℕ) (i : ℕ). stored_each l i (each_text exclusion_text es)) x.wrote.text_laid (text_next x.wrote)
            ∙ sym (each_append text offset (each_text variable_text x.vs) (each_text exclusion_text es))
            ∙ each_fits text offset (each_text variable_text x.vs ++ each_text exclusion_text es) (rw all_texts texts_fit_lem)
            ∙ ap (stored text offset) all_texts

        words_are : records₂ ≡ stored_each records (place * variable_words) (records_from offset x.vs es)
        words_are =
            y.words_laid ∙ ap₂ (λ (l : List ℕ) (i : ℕ). stored_each l i (records_of exclusion_whole exclusion_text used es)) x.wrote.words_laid (words_next x.wrote wide_variable)
            ∙ sym (each_append records (place * variable_words) (records_of variable_whole variable_text offset x.vs) (records_of exclusion_whole exclusion_text used es))
            ∙ ap (λ (o : ℕ). stored_each records (place * variable_words) (records_of variable_whole variable_text offset x.vs ++ records_of exclusion_whole exclusion_text o es)) x.wrote.used_is

        pub core_read : ReadTargets n s offset place text text₂ records records₂ (Ok (record { count = variables + kept; offset = past }))
        core_read = record {
          answer = rw (h, targets_are) (ap₂ reached count_is past_is);
          texts = rw (h, targets_are) text_is;
          words = rw (h, targets_are) words_are;
        }
