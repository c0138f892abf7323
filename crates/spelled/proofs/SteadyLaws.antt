-- A text in which no backslash stands right before LF or CR is left alone by the normaliser.
use mathlib.Core.Path.{◌≡◌, ◌∙◌, refl, sym, ap}
use mathlib.Core.Bool.{Bool, true, false}
use mathlib.Core.List.{List, [], ◌∷◌, ◌++◌}
use Prim.Native.Nat.{ℕ}
use lib.Dec.{eqb}
use borrow.Author.Tests.{eqb-true}
use Rattle.ascii.specs.Choice.{pick, and, or}
use Rattle.ascii.specs.Splits.{leads}
use Rattle.ascii.proofs.TestLaws.{both, or_false, joins}
use Rattle.actions.specs.Normal.{mode_after, text_given, text_held, normalised_from, normalised}
use Rattle.actions.specs.declared.normalising.Mode.TheVariants.{Plain as plain, Held as held}
use Rattle.listing.specs.Json.{trail, joined}
use Rattle.spelled.specs.Condition.{isnt, steady}
use Rattle.spelled.proofs.TestLaws.{denied, deny}

-- a backslash that is held back for nothing
pub held_for_nothing : (s : List ℕ) → leads 10 s ≡ false → leads 13 s ≡ false → normalised_from held s ≡ 92 ∷ normalised_from plain s
unfolding normalised_from mode_after text_given text_held
held_for_nothing [] e f = refl
held_for_nothing (b ∷ r) e f = rw (e, f)

pub normal_steady : (s : List ℕ) → steady s ≡ true → normalised_from plain s ≡ s
unfolding normalised_from mode_after text_given text_held steady
normal_steady [] h = refl
normal_steady (b ∷ r) h =
    let p = both (isnt (and (eqb b 92) (or (leads 10 r) (leads 13 r)))) (steady r) h in
    go (eqb b 92) refl (denied (and (eqb b 92) (or (leads 10 r) (leads 13 r))) p.0) (normal_steady r p.1)
  where
    go : (t : Bool) → eqb b 92 ≡ t → and t (or (leads 10 r) (leads 13 r)) ≡ false → normalised_from plain r ≡ r
        → pick t [] (b ∷ []) ++ normalised_from (pick t held plain) r ≡ b ∷ r
    go true e f ih =
        let n = or_false (leads 10 r) (leads 13 r) f in
        held_for_nothing r n.0 n.1 ∙ ap (λ (l : List ℕ). 92 ∷ l) ih ∙ ap (λ (c : ℕ). c ∷ r) (sym (eqb-true b 92 e))
    go false e f ih = ap (λ (l : List ℕ). b ∷ l) ih

pub normalised_steady : (s : List ℕ) → steady s ≡ true → normalised s ≡ s
unfolding normalised
normalised_steady s h = normal_steady s h

-- what follows begins with or-false LF nor CR
abbrev pub Quiet : List ℕ → Type 0
Quiet s = (leads 10 s ≡ false) × (leads 13 s ≡ false)

-- two steady texts, where the second begins with or-false
pub steady_joins : (s t : List ℕ) → steady s ≡ true → Quiet t → steady t ≡ true → steady (s ++ t) ≡ true
unfolding steady
steady_joins [] t h q k = k
steady_joins (b ∷ []) t h q k = joins (deny (go (eqb b 92))) k
  where
    go : (x : Bool) → and x (or (leads 10 t) (leads 13 t)) ≡ false
    go true = rw (q.0, q.1)
    go false = refl
steady_joins (b ∷ c ∷ r) t h q k =
    let p = both (isnt (and (eqb b 92) (or (eqb c 10) (eqb c 13)))) (steady (c ∷ r)) h in
    joins p.0 (steady_joins (c ∷ r) t p.1 q k)

abbrev pub AllSteady : List (List ℕ) → Type 0
AllSteady [] = Unit {0}
AllSteady (p ∷ ps) = (steady p ≡ true) × AllSteady ps

quiet_trail : (ps : List (List ℕ)) → Quiet (trail ps)
unfolding trail
quiet_trail [] = (refl, refl)
quiet_trail (p ∷ ps) = (refl, refl)

steady_trail : (ps : List (List ℕ)) → AllSteady ps → steady (trail ps) ≡ true
unfolding trail steady
steady_trail [] h = refl
steady_trail (p ∷ ps) h = steady_joins p (trail ps) h.0 (quiet_trail ps) (steady_trail ps h.1)

pub steady_joined : (ps : List (List ℕ)) → AllSteady ps → steady (joined ps) ≡ true
unfolding joined steady
steady_joined [] h = refl
steady_joined (p ∷ ps) h = steady_joins p (trail ps) h.0 (quiet_trail ps) (steady_trail ps h.1)
