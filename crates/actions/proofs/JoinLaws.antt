-- The text without its line continuations is what `places` reads by the rule `Joined`.
use mathlib.Core.Path.{◌≡◌, ◌∙◌, refl, sym, ap}
use mathlib.Core.Bool.{Bool, true, false, true≢false, false≢true}
use mathlib.Core.List.{List, [], ◌∷◌, ◌++◌}
use Prim.Native.Nat.{ℕ}
use lib.Dec.{eqb}
use borrow.Author.Tests.{eqb-true}
use Rattle.ascii.specs.Choice.{pick, and, or}
use Rattle.places.specs.declared.acting.Mode.{Mode as Walking}
use Rattle.places.specs.declared.acting.Mode.TheVariants.{Plain as plain, Escaped as escaped, Stayed as stayed, AfterCr as after_cr, Margin as margin}
use Rattle.places.specs.declared.Rule.TheVariants.{Joined}
use Rattle.places.specs.Scans.{pass, keep, spell_by, spell}
use Rattle.places.specs.Tables.{skipped, line_next, plain_join, margin_join, joining}
use Rattle.places.specs.Sites.{text_of}
use Rattle.actions.specs.declared.normalising.Mode.{Mode}
use Rattle.actions.specs.declared.normalising.Mode.TheVariants.{Plain, Held, AfterCr, Margin}
use Rattle.actions.specs.Normal.{plain_mode, plain_text, margin_mode, margin_text, mode_after, text_given, text_held, normalised_from, normalised}

-- the normaliser's mode for each of the table's
abbrev mode_of : Walking → Mode
mode_of plain = Plain
mode_of escaped = Held
mode_of stayed = Plain
mode_of after_cr = AfterCr
mode_of margin = Margin

-- a backslash is taken out only before a line end
abbrev Fit : Walking → List ℕ → Type 0
Fit plain s = Unit {0}
Fit escaped s = line_next s ≡ true
Fit stayed s = Unit {0}
Fit after_cr s = Unit {0}
Fit margin s = Unit {0}

-- a backslash that is held back for nothing
held_for_nothing : (s : List ℕ) → line_next s ≡ false → normalised_from Held s ≡ 92 ∷ normalised_from Plain s
unfolding normalised_from mode_after text_given text_held line_next
held_for_nothing [] e = refl
held_for_nothing (b ∷ r) e = go (eqb b 10) (eqb b 13) e
  where
    go : (t u : Bool) → or t u ≡ false
        → pick t [] (pick u [] (92 ∷ plain_text b)) ++ normalised_from (pick t Margin (pick u AfterCr (plain_mode b))) r ≡ 92 ∷ (plain_text b ++ normalised_from (plain_mode b) r)
    go true u e = absurd (true≢false e)
    go false true e = absurd (true≢false e)
    go false false e = refl

module _ (b : ℕ) (r : List ℕ) (ih : (m : Walking) → Fit m r → spell joining m r ≡ normalised_from (mode_of m) r) where
  plain_step : spell_by (plain_join b r) (λ m. spell joining m r) ≡ plain_text b ++ normalised_from (plain_mode b) r
  plain_step = go (eqb b 92) (line_next r) refl refl
    where
      go : (t u : Bool) → eqb b 92 ≡ t → line_next r ≡ u
          → spell_by (pick (and t u) (pass escaped) (keep b plain)) (λ m. spell joining m r) ≡ pick t [] (b ∷ []) ++ normalised_from (pick t Held Plain) r
      go true true e f = ih escaped f
      go true false e f =
          ap (λ (l : List ℕ). b ∷ l) (ih plain tt) ∙ ap (λ (x : ℕ). x ∷ normalised_from Plain r) (eqb-true b 92 e) ∙ sym (held_for_nothing r f)
      go false u e f = ap (λ (l : List ℕ). b ∷ l) (ih plain tt)

  margin_step : spell_by (margin_join b r) (λ m. spell joining m r) ≡ margin_text b ++ normalised_from (margin_mode b) r
  margin_step = go (skipped b) plain_step
    where
      go : (t : Bool) → spell_by (plain_join b r) (λ m. spell joining m r) ≡ plain_text b ++ normalised_from (plain_mode b) r
          → spell_by (pick t (pass margin) (plain_join b r)) (λ m. spell joining m r) ≡ pick t [] (plain_text b) ++ normalised_from (pick t Margin (plain_mode b)) r
      go true p = ih margin tt
      go false p = p

  escaped_step : (t u : Bool) → or t u ≡ true
      → spell_by (pick t (pass margin) (pass after_cr)) (λ m. spell joining m r)
      ≡ pick t [] (pick u [] (92 ∷ plain_text b)) ++ normalised_from (pick t Margin (pick u AfterCr (plain_mode b))) r
  escaped_step true u e = ih margin tt
  escaped_step false true e = ih after_cr tt
  escaped_step false false e = absurd (false≢true e)

  cr_step : (t : Bool) → spell_by (pick t (pass margin) (margin_join b r)) (λ m. spell joining m r) ≡ pick t [] (margin_text b) ++ normalised_from (pick t Margin (margin_mode b)) r
  cr_step true = ih margin tt
  cr_step false = margin_step

bytes_from : (m : Walking) (s : List ℕ) → Fit m s → spell joining m s ≡ normalised_from (mode_of m) s
unfolding spell joining normalised_from mode_after text_given text_held line_next
bytes_from plain [] f = refl
bytes_from escaped [] f = absurd (false≢true f)
bytes_from stayed [] f = refl
bytes_from after_cr [] f = refl
bytes_from margin [] f = refl
bytes_from plain (b ∷ r) f = plain_step b r (λ m. bytes_from m r)
bytes_from escaped (b ∷ r) f = escaped_step b r (λ m. bytes_from m r) (eqb b 10) (eqb b 13) f
bytes_from stayed (b ∷ r) f = plain_step b r (λ m. bytes_from m r)
bytes_from after_cr (b ∷ r) f = cr_step b r (λ m. bytes_from m r) (eqb b 10)
bytes_from margin (b ∷ r) f = margin_step b r (λ m. bytes_from m r)

pub bytes_joined : (s : List ℕ) → text_of Joined s ≡ normalised s
unfolding normalised
bytes_joined s = bytes_from plain s tt
