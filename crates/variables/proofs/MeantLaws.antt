-- Either every name of a list is meant, and the list is read; or one is missing, and it is refused there.
use Rattle.std.specs.Prelude.{Option, Some, None}
use mathlib.Core.Path.{◌≡◌, ◌∙◌, refl, sym, ap}
use mathlib.Core.Bool.{Bool, true, false}
use mathlib.Core.List.{List, [], ◌∷◌, ◌++◌}
use mathlib.Core.Logic.{◌⊎◌, inl, inr}
use Prim.Native.Nat.{ℕ, suc}
use native.Mathlib.Omega.{arith}
use lib.ListN.{length}
use lib.Dec.{eqb}
use Rattle.ascii.specs.Splits.{Split, whole, halves}
use Rattle.lent.specs.Sources.{Part, Sourced, sourced}
use Rattle.names.specs.Variables.{variable_code}
use Rattle.variables.specs.Parts.{Piece}
use Rattle.variables.specs.Variables.{at_colon, front_of, Selection, none, selection, Variable, Single, variable, named, split_single, single, Targets, targets, refused, with_variable, with_exclusion, if_known, piece, read_all}
use Rattle.variables.specs.Steps.{excluding_of, behind_mark, excluded_of}
use Rattle.variables.specs.Calls.{name, asked, Meant, unasked, found, AllMeant, none as none_meant, also, Missing, unmarked, unmarked_of}
use Rattle.variables.specs.declared.singles.Exclusions.{Exclusions}
use Rattle.variables.specs.declared.singles.Exclusions.TheVariants.{AsWritten, LookedUp}
use Rattle.variables.proofs.SingleLaws.{unknown_first}

-- ---- one piece

-- what the lookup of a name tells: a variable, or the name
abbrev chosen_by : Split → Selection
chosen_by (whole s) = none
chosen_by (halves s t) = selection t

split_by : (x : Split) (counts : Bool) → split_single x counts ≡ named (variable_code (front_of x)) (front_of x) counts (chosen_by x)
split_by (whole s) counts = refl
split_by (halves s t) counts = refl

-- a piece that is read, as an exclusion or as a variable
data Reads (n : Exclusions) (p : List ℕ) : Type 0 where
  excludes : (e : List ℕ) → ((z : Part) (ts : Targets) → piece (excluding_of n) z p ts ≡ with_exclusion z e ts)
      → ((z : Part) (es : List (Sourced (List ℕ))) → behind_mark z p es ≡ sourced e z ∷ es)
      → ((q : Piece) (ps : List Piece) → length (unmarked p q ps) ≡ length ps) → Reads n p
  adds : (v : Variable) → ((z : Part) (ts : Targets) → piece (excluding_of n) z p ts ≡ with_variable z (variable v) ts)
      → ((z : Part) (es : List (Sourced (List ℕ))) → behind_mark z p es ≡ es)
      → ((q : Piece) (ps : List Piece) → length (unmarked p q ps) ≡ suc (length ps)) → Reads n p

-- or refused with its name
abbrev Refuses : Exclusions → List ℕ → List ℕ → Type 0
Refuses n p x = (z : Part) (ts : Targets) → piece (excluding_of n) z p ts ≡ refused 0 x z

-- by what is asked and found
data Judged (n : Exclusions) (p : List ℕ) : Type 0 where
  fine : Meant n p → Reads n p → Judged n p
  bad : (x : List ℕ) → asked n p ≡ name x → variable_code x ≡ None → Refuses n p x → Judged n p

module _ (n : Exclusions) where
  -- a variable, by its name up to the colon
  by_name : (p : List ℕ) (x : Split) (counts : Bool) → asked n p ≡ name (front_of x)
      → ((z : Part) (ts : Targets) → piece (excluding_of n) z p ts ≡ with_variable z (split_single x counts) ts)
      → ((z : Part) (es : List (Sourced (List ℕ))) → behind_mark z p es ≡ es) → ((q : Piece) (ps : List Piece) → length (unmarked p q ps) ≡ suc (length ps)) → Judged n p
  by_name p x counts a h m u = go (variable_code (front_of x)) refl
    where
      go : (l : Option ℕ) → variable_code (front_of x) ≡ l → Judged n p
      go (Some c) e =
          let y = split_by x counts ∙ ap (λ (l : Option ℕ). named l (front_of x) counts (chosen_by x)) e in
          fine (found (front_of x) c a e) (adds (record { code = c; counts = counts; chosen = chosen_by x }) (λ z ts. h z ts ∙ ap (λ (y : Single). with_variable z y ts) y) m u)
      go None e =
          let y = split_by x counts ∙ ap (λ (l : Option ℕ). named l (front_of x) counts (chosen_by x)) e in
          bad (front_of x) a e (λ z ts. h z ts ∙ unknown_first z (split_single x counts) (front_of x) y ts)

-- an exclusion, by whether its name is looked up
behind : (n : Exclusions) (b : ℕ) (r : List ℕ) → eqb b 33 ≡ true → Judged n (b ∷ r)
behind AsWritten b r e = fine (unasked (rw e)) (excludes r (λ z ts. rw e) (λ z es. rw e) (λ q ps. rw e))
behind LookedUp b r e = go (variable_code (front_of (at_colon r))) refl
  where
    go : (l : Option ℕ) → variable_code (front_of (at_colon r)) ≡ l → Judged LookedUp (b ∷ r)
    go (Some c) f =
        fine (found (front_of (at_colon r)) c (rw e) f)
        (excludes r (λ z ts. rw e (ap (λ (l : Option ℕ). if_known z l (front_of (at_colon r)) (with_exclusion z r ts)) f)) (λ z es. rw e) (λ q ps. rw e))
    go None f =
        bad (front_of (at_colon r)) (rw e) f (λ z ts. rw e (ap (λ (l : Option ℕ). if_known z l (front_of (at_colon r)) (with_exclusion z r ts)) f))

judged : (n : Exclusions) (p : List ℕ) → Judged n p
unfolding single
judged n [] = by_name n [] (at_colon []) false refl (λ z ts. refl) (λ z es. refl) (λ q ps. refl)
judged n (b ∷ r) = go (eqb b 33) refl (eqb b 38) refl
  where
    go : (t : Bool) → eqb b 33 ≡ t → (u : Bool) → eqb b 38 ≡ u → Judged n (b ∷ r)
    go true e u f = behind n b r e
    go false e true f = by_name n (b ∷ r) (at_colon r) true (rw (e, f)) (λ z ts. rw (e, f)) (λ z es. rw e) (λ q ps. rw e)
    go false e false f = by_name n (b ∷ r) (at_colon (b ∷ r)) false (rw (e, f)) (λ z ts. rw (e, f)) (λ z es. rw e) (λ q ps. rw e)

-- ---- a list

-- every name is meant: so many variables are read, and the exclusions
pub record Understood (n : Exclusions) (ps : List Piece) : Type 0 where
  pub vs : List (Sourced Variable)
  pub read : read_all (excluding_of n) ps ≡ targets vs (excluded_of ps)
  pub count : length vs ≡ length (unmarked_of ps)

module _ (n : Exclusions) where
  -- a name is not both a variable's and none
  never : {p : List ℕ} {x : List ℕ} → Meant n p → asked n p ≡ name x → variable_code x ≡ None → ⊥
  never (unasked e) a u = let z : ◌≡◌ {A = ℕ} 0 1 = cc in omega arith
  never {p} {x} (found y c e f) a u =
      let k : y ≡ x = cc in
      let l : Some c ≡ None = sym f ∙ ap variable_code k ∙ u in
      let z : ◌≡◌ {A = ℕ} 0 1 = cc in
      omega arith

  reads_of : {p : List ℕ} → Meant n p → Reads n p
  reads_of {p} m = go (judged n p)
    where
      go : Judged n p → Reads n p
      go (fine m r) = r
      go (bad x a u h) = absurd (never m a u)

  refuses_of : (p x : List ℕ) → asked n p ≡ name x → variable_code x ≡ None → Refuses n p x
  refuses_of p x a u = go (judged n p)
    where
      go : Judged n p → Refuses n p x
      go (fine m r) = absurd (never m a u)
      go (bad y b v h) = let k : y ≡ x = cc in λ z ts. h z ts ∙ ap (λ (t : List ℕ). refused 0 t z) k

  pub all_or_missing : (ps : List Piece) → AllMeant n ps ⊎ Missing n ps
  all_or_missing [] = inl none_meant
  all_or_missing (p ∷ ps) = go (judged n p.text) (all_or_missing ps)
    where
      go : Judged n p.text → AllMeant n ps ⊎ Missing n ps → AllMeant n (p ∷ ps) ⊎ Missing n (p ∷ ps)
      go (bad x a u h) y = inr (record { passed = []; this = p; after = ps; text = x; list = refl; meant = none_meant; asks = a; unknown = u })
      go (fine m r) (inl y) = inl (also m y)
      go (fine m r) (inr y) = inr (record {
        passed = p ∷ y.passed;
        this = y.this;
        after = y.after;
        text = y.text;
        list = ap (λ (l : List Piece). p ∷ l) y.list;
        meant = also m y.meant;
        asks = y.asks;
        unknown = y.unknown;
      })

  pub understood : {ps : List Piece} → AllMeant n ps → Understood n ps
  unfolding read_all excluded_of unmarked_of
  understood none_meant = record { vs = []; read = refl; count = refl }
  understood (also {p} {ps} m a) = go (reads_of m) (understood a)
    where
      go : Reads n p.text → Understood n ps → Understood n (p ∷ ps)
      go (excludes e h k u) y = record {
        vs = y.vs;
        read = h p.place (read_all (excluding_of n) ps) ∙ ap (with_exclusion p.place e) y.read ∙ ap (targets y.vs) (sym (k p.place (excluded_of ps)));
        count = y.count ∙ sym (u p (unmarked_of ps));
      }
      go (adds v h k u) y = record {
        vs = sourced v p.place ∷ y.vs;
        read = h p.place (read_all (excluding_of n) ps) ∙ ap (with_variable p.place (variable v)) y.read ∙ ap (targets (sourced v p.place ∷ y.vs)) (sym (k p.place (excluded_of ps)));
        count = ap suc y.count ∙ sym (u p (unmarked_of ps));
      }

  -- what is read before a refusal only counts
  refused_after : {ps : List Piece} (rest : List Piece) (x : List ℕ) (z : Part) → AllMeant n ps → read_all (excluding_of n) rest ≡ refused 0 x z
      → read_all (excluding_of n) (ps ++ rest) ≡ refused (length ps) x z
  unfolding read_all
  refused_after rest x z none_meant e = e
  refused_after rest x z (also {p} {ps} m a) e = go (reads_of m) (refused_after rest x z a e)
    where
      go : Reads n p.text → read_all (excluding_of n) (ps ++ rest) ≡ refused (length ps) x z
          → piece (excluding_of n) p.place p.text (read_all (excluding_of n) (ps ++ rest)) ≡ refused (suc (length ps)) x z
      go (excludes d h k u) y = h p.place (read_all (excluding_of n) (ps ++ rest)) ∙ ap (with_exclusion p.place d) y
      go (adds v h k u) y = h p.place (read_all (excluding_of n) (ps ++ rest)) ∙ ap (with_variable p.place (variable v)) y

  pub refused_there : {ps : List Piece} (m : Missing n ps) → read_all (excluding_of n) ps ≡ refused (length m.passed) m.text m.this.place
  unfolding read_all
  refused_there m =
      ap (read_all (excluding_of n)) m.list
      ∙ refused_after (m.this ∷ m.after) m.text m.this.place m.meant
      (refuses_of m.this.text m.text m.asks m.unknown m.this.place (read_all (excluding_of n) m.after))
