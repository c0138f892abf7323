-- A list whose spelling is read back to it passes the condition.
use mathlib.Core.Path.{◌≡◌, ◌∙◌, refl, sym, ap, subst}
use mathlib.Core.Bool.{Bool, true, false}
use mathlib.Core.List.{List, [], ◌∷◌, ◌++◌, map, append-nil}
use Prim.Native.Nat.{ℕ, suc, ◌+◌, ◌≤◌, ◌<◌}
use native.Mathlib.Omega.{arith}
use lib.Dec.{eqb}
use borrow.Author.Tests.{eqb-true}
use Rattle.ascii.specs.Choice.{and, or}
use Rattle.ascii.specs.Classes.{white}
use Rattle.ascii.specs.Trim.{strip_end, trim_ends}
use Rattle.ascii.specs.Splits.{leads}
use Rattle.ascii.proofs.TestLaws.{both, joins}
use Rattle.records.specs.Actions.{Action}
use Rattle.single_action.specs.Actions.{done, single}
use Rattle.actions.specs.Normal.{normalised_from, normalised}
use Rattle.actions.specs.declared.normalising.Mode.TheVariants.{Plain as plain}
use Rattle.actions.specs.Pieces.{Nest, outside, nest_after, cuts, cut_by, parts_from}
use Rattle.actions.proofs.PieceLaws.{cut_outside}
use Rattle.listing.specs.Json.{trail, joined}
use Rattle.spelled.specs.Spelling.{spell, spell_all}
use Rattle.spelled.specs.Condition.{isnt, last_by, steady, solid, uncut, nest_past, clean, stays, written}
use Rattle.spelled.proofs.TestLaws.{deny, fails, succeeds}
use Rattle.spelled.proofs.BareLaws.{keep_text, texts_of, piece_texts, Read, Accepted, accepted_read}
use Rattle.spelled.proofs.CutLaws.{clean_outside, parts_last, parts_more}
use Rattle.spelled.proofs.SteadyLaws.{AllSteady, normalised_steady}
use Rattle.spelled.proofs.TextLaws.{start_alone}
use Rattle.spelled.proofs.ListLaws.{spelt_first}
use Rattle.spelled.proofs.MadeLaws.{made}
use Rattle.spelled.proofs.LooseLaws.{loose, loose_append, ends_loose, end_lost, read_loose, spell_loose}
use Rattle.spelled.proofs.LostLaws.{normal_lost, bulk, Parted, parted, parts_some, parts_bulk, pieces_bulk, load, read_load, joined_load, comma_more}

-- ---- the first part of a text that begins with p

data FirstPart (n : Nest) (p s : List ℕ) : Type 0 where
  cut_at : (q r : List ℕ) → p ≡ q ++ (44 ∷ r) → parts_from n (p ++ s) ≡ q ∷ parts_from outside (r ++ s) → FirstPart n p s
  goes_on : uncut n p ≡ true → (q : List ℕ) (ps : List (List ℕ)) → parts_from (nest_past n p) s ≡ q ∷ ps → parts_from n (p ++ s) ≡ (p ++ q) ∷ ps → FirstPart n p s

first_part : (n : Nest) (p s : List ℕ) → FirstPart n p s
unfolding parts_from uncut nest_past cuts
first_part n [] s = go (parts_from n s) refl (parts_some n s)
  where
    go : (l : List (List ℕ)) → parts_from n s ≡ l → Parted l → FirstPart n [] s
    go l e (parted q ps) = goes_on refl q ps e e
first_part n (b ∷ r) s = go (cuts n b) refl (first_part (nest_after n b) r s)
  where
    go : (t : Bool) → cuts n b ≡ t → FirstPart (nest_after n b) r s → FirstPart n (b ∷ r) s
    go true e h =
        cut_at [] r (ap (λ (c : ℕ). c ∷ r) (eqb-true b 44 (both (eqb b 44) (and (eqb n.mark 0) (eqb n.depth 0)) e).0))
        (ap (λ (t : Bool). cut_by t b (parts_from (nest_after n b) (r ++ s))) e ∙ ap (λ (m : Nest). [] ∷ parts_from m (r ++ s)) (cut_outside n b e))
    go false e (cut_at q t f g) =
        cut_at (b ∷ q) t (ap (λ (l : List ℕ). b ∷ l) f)
        (ap (λ (t : Bool). cut_by t b (parts_from (nest_after n b) (r ++ s))) e ∙ ap (cut_by false b) g)
    go false e (goes_on u q ps f g) =
        goes_on (joins (deny e) u) q ps f
        (ap (λ (t : Bool). cut_by t b (parts_from (nest_after n b) (r ++ s))) e ∙ ap (cut_by false b) g)

-- a comma that does not cut stands in the part
comma_held : (m : Nest) (s q : List ℕ) (ps : List (List ℕ)) → clean m ≡ false → parts_from m (44 ∷ s) ≡ q ∷ ps → 1 ≤ loose q
unfolding parts_from cuts
comma_held m s q ps c e = go (parts_from (nest_after m 44) s) (parts_some (nest_after m 44) s) (rw c at e)
  where
    go : (l : List (List ℕ)) → Parted l → cut_by false 44 l ≡ q ∷ ps → 1 ≤ loose q
    go l (parted p qs) e = let f : 44 ∷ p ≡ q = cc in omega (arith, comma_more p, ap loose f)

-- ---- what the first of two parts was read as

read_kept : (t : List ℕ) (ps : List (List ℕ)) (x : Action) (xs : List Action) → bulk ps < load (x ∷ xs)
    → Read (keep_text t ps) (x ∷ xs) → (single t ≡ done x) × Read ps xs
read_kept [] ps x xs h e = absurd (omega (arith, read_load ps (x ∷ xs) e))
read_kept (b ∷ r) ps x xs h e = e

module _ (x : Action) (xs : List Action) where
  part_read : (p : List ℕ) (ps : List (List ℕ)) → bulk ps < load (x ∷ xs) → Read (texts_of (p ∷ ps)) (x ∷ xs)
      → (single (trim_ends p) ≡ done x) × Read (texts_of ps) xs
  unfolding texts_of
  part_read p ps h e = read_kept (trim_ends p) (texts_of ps) x xs (omega (arith, pieces_bulk ps)) e

  -- no comma of a spelling cuts
  no_cut : (s q r : List ℕ) → suc (loose (spell x ++ s)) ≤ load (x ∷ xs) → spell x ≡ q ++ (44 ∷ r)
      → Read (texts_of (q ∷ parts_from outside (r ++ s))) (x ∷ xs) → ⊥
  no_cut s q r h e f =
      let w : loose (spell x) ≡ loose q + suc (loose r) = ap loose e ∙ loose_append q (44 ∷ r) ∙ ap (λ (n : ℕ). loose q + n) (comma_more r) in
      let v = loose_append (spell x) s in
      let u = loose_append r s in
      let b : bulk (parts_from outside (r ++ s)) < load (x ∷ xs) = omega (arith, parts_bulk outside (r ++ s), w, v, u) in
      let g = part_read q (parts_from outside (r ++ s)) b f in
      omega (arith, read_loose (trim_ends q) x g.0, ends_loose white q, spell_loose x, w)

-- ---- all of them

abbrev Cut : List Action → Type 0
Cut [] = Unit {0}
Cut (x ∷ []) = (uncut outside (spell x) ≡ true) × (single (trim_ends (spell x)) ≡ done x)
Cut (x ∷ y ∷ r) = (uncut outside (spell x) ≡ true) × (single (trim_ends (spell x)) ≡ done x) × (clean (nest_past outside (spell x)) ≡ true) × Cut (y ∷ r)

some_load : (x : Action) (xs : List Action) → 0 < load (x ∷ xs)
unfolding load
some_load x xs = omega arith

none_bulk : bulk [] ≡ 0
unfolding bulk
none_bulk = refl

more_bulk : (p : List ℕ) (ps : List (List ℕ)) → bulk (p ∷ ps) ≡ suc (loose p) + bulk ps
unfolding bulk
more_bulk p ps = refl

last_cut : (x : Action) → Read (piece_texts (spell x ++ [])) (x ∷ [])
    → suc (loose (spell x ++ [])) ≤ load (x ∷ []) → Cut (x ∷ [])
last_cut x e l = go (first_part outside (spell x) [])
  where
    go : FirstPart outside (spell x) [] → Cut (x ∷ [])
    go (cut_at q r f g) = absurd (no_cut x [] [] q r l f (rw g at e))
    go (goes_on u q ps f g) =
        let h = rw (append-nil (spell x), parts_last outside (spell x) u) at e in
        (u, (part_read x [] (spell x) [] (omega (arith, some_load x [], none_bulk)) h).0)

module _ (x : Action) (xs : List Action) (rest : List ℕ)
    (e : Read (piece_texts (spell x ++ (44 ∷ rest))) (x ∷ xs))
    (l : suc (loose (spell x ++ (44 ∷ rest))) ≤ load (x ∷ xs))
    (m : suc (loose rest) ≤ load xs) where
  first_cut : (uncut outside (spell x) ≡ true) × (single (trim_ends (spell x)) ≡ done x) × (clean (nest_past outside (spell x)) ≡ true)
      × (Read (piece_texts rest) xs)
  first_cut = go (first_part outside (spell x) (44 ∷ rest))
    where
      small : suc (loose rest) < load (x ∷ xs)
      small = omega (arith, l, loose_append (spell x) (44 ∷ rest), comma_more rest)

      closed : uncut outside (spell x) ≡ true → (q : List ℕ) (ps : List (List ℕ)) → parts_from (nest_past outside (spell x)) (44 ∷ rest) ≡ q ∷ ps
          → parts_from outside (spell x ++ (44 ∷ rest)) ≡ (spell x ++ q) ∷ ps
          → clean (nest_past outside (spell x)) ≡ false → ⊥
      closed u q ps f g c =
          let n = nest_past outside (spell x) in
          let b : suc (loose q) + bulk ps ≡ suc (suc (loose rest)) = sym (more_bulk q ps) ∙ ap bulk (sym f) ∙ parts_bulk n (44 ∷ rest) ∙ ap suc (comma_more rest) in
          let o = comma_held n rest q ps c f in
          let h = part_read x xs (spell x ++ q) ps (omega (arith, b, small)) (rw g at e) in
          omega (arith, read_load (texts_of ps) xs h.1, pieces_bulk ps, b, o, m)

      go : FirstPart outside (spell x) (44 ∷ rest)
          → (uncut outside (spell x) ≡ true) × (single (trim_ends (spell x)) ≡ done x) × (clean (nest_past outside (spell x)) ≡ true)
          × (Read (piece_texts rest) xs)
      go (cut_at q r f g) = absurd (no_cut x xs (44 ∷ rest) q r l f (rw g at e))
      go (goes_on u q ps f g) =
          let c = succeeds (clean (nest_past outside (spell x))) (closed u q ps f g) in
          let h = rw (parts_more outside (spell x) rest u (clean_outside (nest_past outside (spell x)) c)) at e in
          let p = part_read x xs (spell x) (parts_from outside rest) (omega (arith, parts_bulk outside rest, small)) h in
          (u, p.0, c, p.1)

all_cut : (xs : List Action) → Read (piece_texts (joined (map spell xs))) xs → Cut xs
unfolding joined trail
all_cut [] e = tt
all_cut (x ∷ []) e = last_cut x e (joined_load x [])
all_cut (x ∷ y ∷ r) e =
    let f = first_cut x (y ∷ r) (joined (map spell (y ∷ r))) e (joined_load x (y ∷ r)) (joined_load y r) in
    (f.0, f.1, f.2, all_cut (y ∷ r) f.3)

-- ---- nothing was normalised

steady_left : (s t : List ℕ) → steady (s ++ t) ≡ true → steady s ≡ true
unfolding steady
steady_left [] t h = refl
steady_left (b ∷ []) t h = go (eqb b 92)
  where
    go : (u : Bool) → and (isnt (and u false)) true ≡ true
    go true = refl
    go false = refl
steady_left (b ∷ c ∷ r) t h =
    let p = both (isnt (and (eqb b 92) (or (eqb c 10) (eqb c 13)))) (steady (c ∷ (r ++ t))) h in
    joins p.0 (steady_left (c ∷ r) t p.1)

steady_right : (s t : List ℕ) → steady (s ++ t) ≡ true → steady t ≡ true
unfolding steady
steady_right [] t h = h
steady_right (b ∷ r) t h = steady_right r t (both (isnt (and (eqb b 92) (or (leads 10 (r ++ t)) (leads 13 (r ++ t))))) (steady (r ++ t)) h).1

trail_steady : (ps : List (List ℕ)) → steady (trail ps) ≡ true → AllSteady ps
unfolding trail steady
trail_steady [] h = tt
trail_steady (p ∷ ps) h = (steady_left p (trail ps) h, trail_steady ps (steady_right p (trail ps) h))

joined_steady : (ps : List (List ℕ)) → steady (joined ps) ≡ true → AllSteady ps
unfolding joined
joined_steady [] h = tt
joined_steady (p ∷ ps) h = (steady_left p (trail ps) h, trail_steady ps (steady_right p (trail ps) h))

read_steady : (x : Action) (xs : List Action) → Accepted (spell_all (x ∷ xs)) (x ∷ xs) → steady (joined (map spell (x ∷ xs))) ≡ true
unfolding spell_all normalised
read_steady x xs a = succeeds (steady s) lost
  where
    s : List ℕ
    s = joined (map spell (x ∷ xs))

    lost : steady s ≡ false → ⊥
    lost h =
        omega (
          arith,
          read_load (piece_texts (normalised_from plain s)) (x ∷ xs) (accepted_read s (x ∷ xs) a),
          pieces_bulk (parts_from outside (normalised_from plain s)),
          parts_bulk outside (normalised_from plain s),
          normal_lost plain s h,
          joined_load x xs,
        )

-- ---- each stays

read_solid : (x : Action) → single (trim_ends (spell x)) ≡ done x → solid (spell x) ≡ true
read_solid x e = deny (fails (last_by white false (spell x)) lost)
  where
    lost : last_by white false (spell x) ≡ true → ⊥
    lost h =
        let t : loose (trim_ends (spell x)) ≡ loose (strip_end white (spell x)) = ap (λ (l : List ℕ). loose (strip_end white l)) (start_alone white (spell x) (spelt_first x)) in
        omega (arith, end_lost (spell x) h, t, read_loose (trim_ends (spell x)) x e, spell_loose x)

read_stays : (x : Action) → uncut outside (spell x) ≡ true → single (trim_ends (spell x)) ≡ done x → steady (spell x) ≡ true → stays x ≡ true
unfolding stays
read_stays x u e s = joins (made (trim_ends (spell x)) x e) (joins s (joins (read_solid x e) u))

cut_written : (xs : List Action) → Cut xs → AllSteady (map spell xs) → written xs ≡ true
unfolding written
cut_written [] c s = refl
cut_written (x ∷ []) c s = read_stays x c.0 c.1 s.0
cut_written (x ∷ y ∷ r) c s = joins (read_stays x c.0 c.1 s.0) (joins c.2 (cut_written (y ∷ r) c.3 s.1))

pub back_written : (xs : List Action) → Accepted (spell_all xs) xs → written xs ≡ true
unfolding written spell_all
back_written [] a = refl
back_written (x ∷ xs) a =
    let s = joined (map spell (x ∷ xs)) in
    let h = read_steady x xs a in
    let f = subst (λ (t : List ℕ). Read (piece_texts t) (x ∷ xs)) (normalised_steady s h) (accepted_read s (x ∷ xs) a) in
    cut_written (x ∷ xs) (all_cut (x ∷ xs) f) (joined_steady (map spell (x ∷ xs)) h)
