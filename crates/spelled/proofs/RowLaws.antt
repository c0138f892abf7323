-- What every row of the table computes to: its name read, with and without an argument, the rule of its code, and that its name is of small letters.
use mathlib.Core.Path.{◌≡◌, ◌∙◌, refl, sym, ap, subst}
use mathlib.Core.Bool.{Bool, true, false}
use mathlib.Core.List.{List, [], ◌∷◌, ◌++◌, map}
use Prim.Native.Nat.{ℕ}
use native.Mathlib.Omega.{arith}
use lib.ListN.{length}
use lib.Dec.{eqb, ltb}
use borrow.Author.Tests.{eqb-true}
use Rattle.ascii.specs.Choice.{pick, and}
use Rattle.ascii.specs.Classes.{white, within}
use Rattle.ascii.specs.Fold.{lowered, same_lowered}
use Rattle.records.specs.Codes.{transformation_code}
use Rattle.records.specs.Actions.{Slot, absent, present, Action}
use Rattle.single_action.specs.declared.naming.Rule.{Rule}
use Rattle.single_action.specs.declared.naming.Rule.TheVariants.{Plain as plain, Wanted as wanted, Unmarked as unmarked, UpTo as up_to, Severity as severity, Equation as equation, Expiry as expiry, Setting as setting}
use Rattle.single_action.specs.Table.{Row, rows, Found, found, missing, find}
use Rattle.single_action.specs.Actions.{Single, with_text, with_none, single}
use Rattle.spelled.specs.Spelling.{coded, with_argument}
use Rattle.spelled.specs.Condition.{same_action, canon, texts_fit, fits_by, first_by, last_by}
use Rattle.spelled.specs.Texts.{rule_in}
use Rattle.spelled.specs.Cases.{Back_of}

-- small letters only
unfoldable pub letters : List ℕ → Bool
letters [] = true
letters (b ∷ r) = and (within 97 122 b) (letters r)

-- a bound that 20 digits take
abbrev pub small : Rule → Bool
small plain = true
small wanted = true
small unmarked = true
small (up_to most) = ltb most 100000000000000000000
small severity = true
small equation = true
small expiry = true
small setting = true

-- a rule, on an argument that may be absent
abbrev pub ruled_by : Rule → Row → Slot → Single
ruled_by u r absent = with_none u r
ruled_by u r (present t) = with_text u r t

pub record Facts (r : Row) : Type 0 where
  pub given : (t : List ℕ) → single (lowered r.name ++ (58 ∷ t)) ≡ with_text r.rule r t
  pub bare : single (lowered r.name) ≡ with_none r.rule r
  pub coding : eqb r.code transformation_code ≡ false
  pub fitting : (x : Action) → fits_by (coded rows r.code) x ≡ and (same_action x (canon r.rule x)) (texts_fit r.rule x)
  pub ruling : rule_in (coded rows r.code) ≡ r.rule
  pub bounded : small r.rule ≡ true
  pub first : (s : List ℕ) → first_by white (lowered r.name ++ s) ≡ false
  pub some : ltb 0 (length (lowered r.name)) ≡ true
  pub last : (d : Bool) → last_by white d (lowered r.name) ≡ false
  pub lettered : letters (lowered r.name) ≡ true

-- ---- one of them

pub data In (r : Row) : List Row → Type 0 where
  here : (rs : List Row) → In r (r ∷ rs)
  there : (q : Row) (rs : List Row) → In r rs → In r (q ∷ rs)

-- what two columns of a table agree in, they agree in at every row
alike : {A : Type 0} (f g : Row → A) (r : Row) (rs : List Row) → map f rs ≡ map g rs → In r rs → f r ≡ g r
alike {A} f g r rs e (here qs) = let h : ◌≡◌ {A = A} (f r) (g r) = cc in h
alike {A} f g r rs e (there q qs i) = let h : map f qs ≡ map g qs = cc in alike f g r qs h i

pub facts : (r : Row) → In r rows → Facts r
unfolding Back_of letters
facts r i = record {
  given = λ t. alike (λ (q : Row). single (lowered q.name ++ (58 ∷ t))) (λ (q : Row). with_text q.rule q t) r rows refl i;
  bare = alike (λ (q : Row). single (lowered q.name)) (λ (q : Row). with_none q.rule q) r rows refl i;
  coding = alike (λ (q : Row). eqb q.code transformation_code) (λ (q : Row). false) r rows refl i;
  fitting = λ x. alike (λ (q : Row). fits_by (coded rows q.code) x) (λ (q : Row). and (same_action x (canon q.rule x)) (texts_fit q.rule x)) r rows refl i;
  ruling = alike (λ (q : Row). rule_in (coded rows q.code)) (λ (q : Row). q.rule) r rows refl i;
  bounded = alike (λ (q : Row). small q.rule) (λ (q : Row). true) r rows refl i;
  first = λ s. alike (λ (q : Row). first_by white (lowered q.name ++ s)) (λ (q : Row). false) r rows refl i;
  some = alike (λ (q : Row). ltb 0 (length (lowered q.name))) (λ (q : Row). true) r rows refl i;
  last = λ d. alike (λ (q : Row). last_by white d (lowered q.name)) (λ (q : Row). false) r rows refl i;
  lettered = alike (λ (q : Row). letters (lowered q.name)) (λ (q : Row). true) r rows refl i;
}

-- a row that is picked by a test from the first on
picked : (test : Bool) (q r : Row) (rs : List Row) (f : Found) → pick test (found q) f ≡ found r → (f ≡ found r → In r rs) → In r (q ∷ rs)
picked true q r rs f e ih = let g : q ≡ r = cc in subst (λ (z : Row). In z (q ∷ rs)) g (here rs)
picked false q r rs f e ih = there q rs (ih e)

none_found : (r : Row) → missing ≡ found r → ⊥
none_found r e = let z : ◌≡◌ {A = ℕ} 0 1 = cc in omega arith

-- a row that is found by its code
pub coded_in : (rs : List Row) (k : ℕ) (r : Row) → coded rs k ≡ found r → In r rs
unfolding coded
coded_in [] k r e = absurd (none_found r e)
coded_in (q ∷ rs) k r e = picked (eqb q.code k) q r rs (coded rs k) e (coded_in rs k r)

pub coded_is : (rs : List Row) (k : ℕ) (r : Row) → coded rs k ≡ found r → r.code ≡ k
unfolding coded
coded_is [] k r e = absurd (none_found r e)
coded_is (q ∷ rs) k r e = go (eqb q.code k) refl e (coded_is rs k r)
  where
    go : (t : Bool) → eqb q.code k ≡ t → pick t (found q) (coded rs k) ≡ found r → (coded rs k ≡ found r → r.code ≡ k) → r.code ≡ k
    go true f e ih = let g : q ≡ r = cc in ap (λ (z : Row). z.code) (sym g) ∙ eqb-true q.code k f
    go false f e ih = ih e

-- a row that is found by its name
pub found_in : (rs : List Row) (name : List ℕ) (r : Row) → find rs name ≡ found r → In r rs
unfolding find
found_in [] name r e = absurd (none_found r e)
found_in (q ∷ rs) name r e = picked (same_lowered q.name name) q r rs (find rs name) e (found_in rs name r)

-- the spelling of an action, read
pub read_argument : (r : Row) → Facts r → (s : Slot) → single (with_argument (lowered r.name) s) ≡ ruled_by r.rule r s
read_argument r f absent = f.bare
read_argument r f (present t) = f.given t
