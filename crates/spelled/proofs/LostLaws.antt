-- What normalising, cutting and reading do to the count of whitespace and commas.
use mathlib.Core.Path.{◌≡◌, ◌∙◌, refl, sym, ap, subst}
use mathlib.Core.Bool.{Bool, true, false}
use mathlib.Core.List.{List, [], ◌∷◌, ◌++◌, map}
use mathlib.Core.Logic.{◌⊎◌, inl, inr}
use Prim.Native.Nat.{ℕ, suc, ◌+◌, ◌≤◌, ◌<◌}
use native.Mathlib.Omega.{arith}
use lib.Dec.{eqb}
use borrow.Author.Tests.{eqb-true}
use Rattle.ascii.specs.Choice.{and, or}
use Rattle.ascii.specs.Classes.{white}
use Rattle.ascii.specs.Trim.{trim_ends}
use Rattle.ascii.specs.Splits.{leads}
use Rattle.ascii.proofs.TestLaws.{apart, both}
use Rattle.records.specs.Actions.{Action, action_text}
use Rattle.actions.specs.Normal.{mode_after, text_given, normalised_from}
use Rattle.actions.specs.declared.normalising.Mode.{Mode}
use Rattle.actions.specs.declared.normalising.Mode.TheVariants.{Plain as plain, Held as held, AfterCr as after_cr, Margin as margin}
use Rattle.actions.specs.Pieces.{Nest, nest_after, cuts, cut_by, parts_from}
use Rattle.listing.specs.Json.{trail, joined}
use Rattle.spelled.specs.Spelling.{spell}
use Rattle.spelled.specs.Condition.{isnt, steady}
use Rattle.spelled.proofs.TestLaws.{either}
use Rattle.spelled.proofs.BareLaws.{keep_text, texts_of, Read}
use Rattle.spelled.proofs.CountLaws.{count, cons_count}
use Rattle.spelled.proofs.CountListLaws as C
use Rattle.spelled.proofs.LooseLaws.{is_loose, tidy_loose, loose, loose_append, ends_loose, read_loose, spell_loose}

nil_loose : loose [] ≡ 0
unfolding count
nil_loose = refl

comma_loose : loose (44 ∷ []) ≡ 1
unfolding count white
comma_loose = refl

ten_loose : loose (10 ∷ []) ≡ 1
unfolding count white
ten_loose = refl

thirteen_loose : loose (13 ∷ []) ≡ 1
unfolding count white
thirteen_loose = refl

-- ---- normalising

abbrev one : ℕ → ℕ
one b = loose (b ∷ [])

normal_given : (m : Mode) (b : ℕ) (r : List ℕ) → loose (normalised_from m (b ∷ r)) ≤ one b + loose (normalised_from (mode_after m b) r)
normal_given m b r = C.normal_given is_loose tidy_loose m b r

cons_loose : (b : ℕ) (r : List ℕ) → loose (b ∷ r) ≡ one b + loose r
cons_loose b r = cons_count is_loose b r

normal_loose : (m : Mode) (s : List ℕ) → loose (normalised_from m s) ≤ loose s
normal_loose m s = C.normal_count is_loose tidy_loose m s

-- a backslash is held back in every mode
holds_back : (m : Mode) → mode_after m 92 ≡ held
unfolding mode_after white
holds_back plain = refl
holds_back held = refl
holds_back after_cr = refl
holds_back margin = refl

-- a line end behind a backslash goes, and gives nothing
line_lost : (c : ℕ) → one c ≡ 1 → text_given held c ≡ [] → (s : List ℕ) → leads c s ≡ true → loose (normalised_from held s) < loose s
unfolding normalised_from
line_lost c o g [] h = absurd (apart h refl)
line_lost c o g (b ∷ r) h = subst (λ (d : ℕ). loose (normalised_from held (d ∷ r)) < loose (d ∷ r)) (sym (eqb-true b c h)) lost
  where
    lost : loose (normalised_from held (c ∷ r)) < loose (c ∷ r)
    lost = rw g (omega (arith, normal_loose (mode_after held c) r, cons_loose c r, o))

feed_lost : (s : List ℕ) → leads 10 s ≡ true → loose (normalised_from held s) < loose s
unfolding text_given
feed_lost s h = line_lost 10 ten_loose refl s h

return_lost : (s : List ℕ) → leads 13 s ≡ true → loose (normalised_from held s) < loose s
unfolding text_given
return_lost s h = line_lost 13 thirteen_loose refl s h

-- where a backslash stands before LF or CR, one of them is lost
pub normal_lost : (m : Mode) (s : List ℕ) → steady s ≡ false → loose (normalised_from m s) < loose s
unfolding steady
normal_lost m [] h = absurd (apart refl h)
normal_lost m (b ∷ r) h = go (and (eqb b 92) (or (leads 10 r) (leads 13 r))) refl h (λ h. normal_lost (mode_after m b) r h)
  where
    slash : (eqb b 92 ≡ true) × (or (leads 10 r) (leads 13 r) ≡ true) → loose (normalised_from held r) < loose r → loose (normalised_from m (b ∷ r)) < loose (b ∷ r)
    slash p l =
        let e = eqb-true b 92 p.0 in
        let k : mode_after m b ≡ held = ap (mode_after m) e ∙ holds_back m in
        let g = subst (λ (n : Mode). loose (normalised_from m (b ∷ r)) ≤ one b + loose (normalised_from n r)) k (normal_given m b r) in
        omega (arith, g, l, cons_loose b r)

    ended : (leads 10 r ≡ true) ⊎ (leads 13 r ≡ true) → loose (normalised_from held r) < loose r
    ended (inl e) = feed_lost r e
    ended (inr e) = return_lost r e

    go : (t : Bool) → and (eqb b 92) (or (leads 10 r) (leads 13 r)) ≡ t → and (isnt t) (steady r) ≡ false
        → (steady r ≡ false → loose (normalised_from (mode_after m b) r) < loose r) → loose (normalised_from m (b ∷ r)) < loose (b ∷ r)
    go true e h ih =
        let p = both (eqb b 92) (or (leads 10 r) (leads 13 r)) e in
        slash p (ended (either (leads 10 r) (leads 13 r) p.1))
    go false e h ih = omega (arith, ih h, normal_given m b r, cons_loose b r)

-- ---- cutting: every part counts one more

unfoldable pub bulk : List (List ℕ) → ℕ
bulk [] = 0
bulk (p ∷ ps) = suc (loose p) + bulk ps

cut_bulk : (t : Bool) (b : ℕ) (p : List ℕ) (ps : List (List ℕ)) → (t ≡ true → b ≡ 44) → bulk (cut_by t b (p ∷ ps)) ≡ one b + bulk (p ∷ ps)
unfolding bulk
cut_bulk true b p ps e = rw (e refl) (omega (arith, comma_loose, nil_loose))
cut_bulk false b p ps e = omega (arith, cons_loose b p)

-- there is always a part
pub data Parted : List (List ℕ) → Type 0 where
  parted : (p : List ℕ) (ps : List (List ℕ)) → Parted (p ∷ ps)

cut_parted : (t : Bool) (b : ℕ) (ps : List (List ℕ)) → Parted (cut_by t b ps)
cut_parted true b ps = parted [] ps
cut_parted false b [] = parted (b ∷ []) []
cut_parted false b (p ∷ ps) = parted (b ∷ p) ps

pub parts_some : (n : Nest) (s : List ℕ) → Parted (parts_from n s)
unfolding parts_from
parts_some n [] = parted [] []
parts_some n (b ∷ r) = cut_parted (cuts n b) b (parts_from (nest_after n b) r)

cut_comma : (n : Nest) (b : ℕ) → cuts n b ≡ true → b ≡ 44
unfolding cuts
cut_comma n b e = eqb-true b 44 (both (eqb b 44) (and (eqb n.mark 0) (eqb n.depth 0)) e).0

nil_bulk : bulk ([] ∷ []) ≡ suc (loose [])
unfolding bulk count
nil_bulk = refl

pub parts_bulk : (n : Nest) (s : List ℕ) → bulk (parts_from n s) ≡ suc (loose s)
unfolding parts_from
parts_bulk n [] = nil_bulk
parts_bulk n (b ∷ r) = go (parts_from (nest_after n b) r) (parts_some (nest_after n b) r) (parts_bulk (nest_after n b) r)
  where
    go : (ps : List (List ℕ)) → Parted ps → bulk ps ≡ suc (loose r) → bulk (cut_by (cuts n b) b ps) ≡ suc (loose (b ∷ r))
    go ps (parted p qs) h = cut_bulk (cuts n b) b p qs (cut_comma n b) ∙ omega (arith, h, cons_loose b r)

keep_bulk : (p : List ℕ) (ps : List (List ℕ)) → bulk (keep_text p ps) ≤ suc (loose p) + bulk ps
unfolding bulk
keep_bulk [] ps = omega arith
keep_bulk (b ∷ r) ps = omega arith

pub pieces_bulk : (ps : List (List ℕ)) → bulk (texts_of ps) ≤ bulk ps
unfolding texts_of bulk
pieces_bulk [] = omega arith
pieces_bulk (p ∷ ps) = omega (arith, keep_bulk (trim_ends p) (texts_of ps), ends_loose white p, pieces_bulk ps)

-- ---- reading

unfoldable pub load : List Action → ℕ
load [] = 0
load (x ∷ xs) = suc (loose (action_text x)) + load xs

pub read_load : (ps : List (List ℕ)) (xs : List Action) → Read ps xs → load xs ≤ bulk ps
unfolding load bulk
read_load [] [] h = omega arith
read_load [] (x ∷ xs) h = absurd h
read_load (p ∷ ps) [] h = absurd h
read_load (p ∷ ps) (x ∷ xs) h = omega (arith, read_loose p x h.0, read_load ps xs h.1)

-- ---- the spelling of a list

pub comma_more : (s : List ℕ) → loose (44 ∷ s) ≡ suc (loose s)
unfolding count white
comma_more s = refl

trail_load : (xs : List Action) → loose (trail (map spell xs)) ≤ load xs
unfolding trail load
trail_load [] = omega (arith, nil_loose)
trail_load (x ∷ xs) =
    omega (arith, comma_more (spell x ++ trail (map spell xs)), loose_append (spell x) (trail (map spell xs)), spell_loose x, trail_load xs)

pub joined_load : (x : Action) (xs : List Action) → suc (loose (joined (map spell (x ∷ xs)))) ≤ load (x ∷ xs)
unfolding joined load
joined_load x xs = omega (arith, loose_append (spell x) (trail (map spell xs)), spell_loose x, trail_load xs)
