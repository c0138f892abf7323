-- Every action that is read from a piece fits: `fits` asks no more than that a reader makes the record.
use Rattle.ascii.specs.declared.numbers.NumberError.TheVariants.{Unreadable, TooLarge}
use Rattle.ascii.specs.declared.numbers.NumberError.{NumberError}
use Rattle.std.specs.Prelude.{Option, Some, None, Result, Ok, Err}
use mathlib.Core.Path.{◌≡◌, ◌∙◌, refl, sym, ap, subst}
use mathlib.Core.Bool.{Bool, true, false}
use mathlib.Core.List.{List, [], ◌∷◌}
use Prim.Native.Nat.{ℕ, ◌^◌, ◌≤◌, ◌<◌, ◌-◌}
use native.Mathlib.Omega.{arith}
use lib.ListN.{drop}
use lib.Dec.{eqb, leb, ltb}
use borrow.Author.Tests.{eqb-false, le-leb, lt-ltb}
use Rattle.ascii.specs.Choice.{pick, and, or}
use Rattle.ascii.specs.Text.{bytes}
use Rattle.ascii.specs.Fold.{lower, lowered, same}
use Rattle.ascii.specs.Trim.{strip_start, trim_ends}
use Rattle.ascii.specs.Splits.{Split, whole, halves, split, leads}
use Rattle.ascii.specs.Numbers.{unsigned_by, signed_word, complement}
use Rattle.ascii.specs.Numerals.{Signed, positive, negative}
use Rattle.ascii.proofs.SignedLaws.{unsigned_value, signed_value}
use Rattle.ascii.proofs.TestLaws.{both, joins}
use Rattle.names.specs.Tables as N
use Rattle.names.specs.Severities.{severities, severity_code}
use Rattle.records.specs.Codes.{transformation_code}
use Rattle.records.specs.Actions.{Slot, absent, present, Action, slot_text}
use Rattle.single_action.specs.Marks.{quotation, stripped, unpaired}
use Rattle.single_action.specs.Setvar.{SetValue, text, int, increment, decrement, delete, macro, VarName, var_name, Setvar, setvar_of, name_by, name_of, has_macro, amount, number_or, plain_value, value_of, assigned, setvar_bare, setvar}
use Rattle.single_action.specs.declared.naming.Rule.{Rule}
use Rattle.single_action.specs.declared.naming.Rule.TheVariants.{Plain as plain, Wanted as wanted, Unmarked as unmarked, UpTo as up_to, Severity as severity, Equation as equation, Expiry as expiry, Setting as setting}
use Rattle.single_action.specs.Table.{Row, rows, Found, found, missing, find}
use Rattle.single_action.specs.Actions.{numbered, worded, Single, done, bad, unknown, kind_of, number_of, text_of, setvar_action, number_by, or_word, severity_number, both_by, expiry_by, seconds, with_text, with_none, found_by, named, split_by, transforms, single}
use Rattle.spelled.specs.Spelling.{coded, has, value_in, setvar_in}
use Rattle.spelled.specs.Condition.{isnt, same_action, canon, last_by, textual, value_fits, name_fits, named_fits, setvar_fits, texts_fit, fits_by, fits}
use Rattle.spelled.proofs.TestLaws.{deny}
use Rattle.spelled.proofs.PartLaws.{end_last, ends_first, join_by, split_join, first_half, split_free, has_parts, leads_part, lowered_has, lowered_leads, lowered_small}
use Rattle.spelled.proofs.SameLaws.{true_action}
use Rattle.spelled.proofs.RowLaws.{Facts, facts, found_in}

-- ---- a setvar's name

-- what is asked of the collection in any case
abbrev Cased : VarName → Type 0
Cased n = and (isnt (has 46 n.collection)) (same (lowered n.collection) n.collection) ≡ true

tx_cased : Cased (var_name (bytes "tx") [])
unfolding bytes has lower same
tx_cased = refl

tx_bang : isnt (leads 33 (bytes "tx")) ≡ true
unfolding bytes
tx_bang = refl

tx_equals : isnt (has 61 (bytes "tx")) ≡ true
unfolding bytes has
tx_equals = refl

one_fits : value_fits (text (bytes "1")) ≡ true
unfolding bytes same
one_fits = refl

name_cased : (s : List ℕ) → Cased (name_of s)
unfolding name_of
name_cased s = go (split 46 s) (split_free 46 s)
  where
    go : (x : Split) → has 46 (first_half x) ≡ false → Cased (name_by x)
    go (whole k) h = tx_cased
    go (halves c k) h = joins (deny (lowered_has 46 c (omega arith) ∙ h)) (lowered_small c)

name_fits_lem : (s : List ℕ) → leads 33 s ≡ false → has 61 s ≡ false → name_fits (name_of s).collection (name_of s).key ≡ true
unfolding name_of name_fits has
name_fits_lem s l h = go (split 46 s) (split_join 46 s)
  where
    go : (x : Split) → join_by 46 x ≡ s → name_fits (name_by x).collection (name_by x).key ≡ true
    go (whole k) e = joins tx_bang (joins tx_equals (deny (rw (← e) at h)))
    go (halves c k) e =
        let p = has_parts 61 c (46 ∷ k) (rw (← e) at h) in
        let b = leads_part 33 c (46 ∷ k) (rw (← e) at l) in
        joins (deny (lowered_leads 33 c (omega arith) ∙ b)) (joins (deny (lowered_has 61 c (omega arith) ∙ p.0)) (deny p.1))

-- ---- its value

complement_small : (v : ℕ) → v ≤ 2 ^ 63 → complement v < 2 ^ 64
complement_small v h = go (eqb v 0) refl
  where
    go : (t : Bool) → eqb v 0 ≡ t → pick t 0 (2 ^ 64 - v) < 2 ^ 64
    go true e = omega arith
    go false e = omega (arith, eqb-false v 0 e)

signed_small : (s : List ℕ) (w : ℕ) → signed_word s ≡ Ok w → w < 2 ^ 64
signed_small s w e = go ((signed_value s w).0 e)
  where
    go : {s : List ℕ} {w : ℕ} → Signed s w → w < 2 ^ 64
    go (positive u h) = omega arith
    go (negative {v = v} d h) = complement_small v h

amount_small : (s : List ℕ) → ltb (amount (signed_word s)) (2 ^ 64) ≡ true
amount_small s = go (signed_word s) (signed_small s)
  where
    go : (n : Result ℕ NumberError) → ((w : ℕ) → n ≡ Ok w → w < 2 ^ 64) → ltb (amount n) (2 ^ 64) ≡ true
    go (Ok w) h = lt-ltb w (2 ^ 64) (h w refl)
    go (Err Unreadable) h = refl
    go (Err TooLarge) h = refl

int_small : (s : List ℕ) (n : ℕ) → leads 45 s ≡ false → signed_word s ≡ Ok n → n < 2 ^ 63
unfolding signed_word
int_small [] n h e = let z : ◌≡◌ {A = ℕ} 0 1 = cc in absurd (omega arith)
int_small (b ∷ r) n h e = let p = (unsigned_value (2 ^ 63 - 1) (b ∷ r) n).0 (rw h at e) in omega (arith, p.1)

value_fits_lem : (s : List ℕ) → value_fits (value_of s) ≡ true
unfolding value_of plain_value textual
value_fits_lem s = go (has_macro s) refl (leads 43 s) refl (leads 45 s) refl (signed_word s) refl
  where
    ored : (b c : Bool) → c ≡ true → or b c ≡ true
    ored true c e = refl
    ored false c e = e

    number : has_macro s ≡ false → leads 43 s ≡ false → leads 45 s ≡ false → (n : Result ℕ NumberError) → signed_word s ≡ n → value_fits (number_or s n) ≡ true
    number m p d (Ok n) e = lt-ltb n (2 ^ 63) (int_small s n d e)
    number m p d (Err Unreadable) e = ored (same s (bytes "1")) (textual s) (rw (m, p, d, e))
    number m p d (Err TooLarge) e = ored (same s (bytes "1")) (textual s) (rw (m, p, d, e))

    go : (t : Bool) → has_macro s ≡ t → (u : Bool) → leads 43 s ≡ u → (v : Bool) → leads 45 s ≡ v → (n : Result ℕ NumberError) → signed_word s ≡ n
        → value_fits (pick t (macro s) (pick u (increment (amount (signed_word (drop 1 s)))) (pick v (decrement (amount (signed_word (drop 1 s)))) (number_or s n)))) ≡ true
    go true m u p v d n e = m
    go false m true p v d n e = amount_small (drop 1 s)
    go false m false p true d n e = amount_small (drop 1 s)
    go false m false p false d n e = number m p d n e

named_by : (v : SetValue) (c k : List ℕ) → name_fits c k ≡ true → named_fits v c k ≡ true
named_by (text t) c k h = h
named_by (int n) c k h = h
named_by (increment n) c k h = h
named_by (decrement n) c k h = h
named_by delete c k h = refl
named_by (macro t) c k h = h

bare_fits : (s : List ℕ) → setvar_fits (setvar_bare s) ≡ true
unfolding setvar_bare setvar_fits
bare_fits s = go (leads 33 s) refl (split 61 s) (split_join 61 s) (split_free 61 s)
  where
    all : (n : List ℕ) (v : SetValue) → leads 33 n ≡ false → has 61 n ≡ false → value_fits v ≡ true → setvar_fits (setvar_of (name_of n) v) ≡ true
    all n v l h f = joins (name_cased n) (joins (named_by v (name_of n).collection (name_of n).key (name_fits_lem n l h)) f)

    go : (t : Bool) → leads 33 s ≡ t → (x : Split) → join_by 61 x ≡ s → has 61 (first_half x) ≡ false
        → setvar_fits (pick t (setvar_of (name_of (drop 1 s)) delete) (assigned x)) ≡ true
    go true l x e h = joins (name_cased (drop 1 s)) refl
    go false l (whole n) e h = all n (text (bytes "1")) (ap (leads 33) e ∙ l) h one_fits
    go false l (halves n v) e h = all n (value_of v) (leads_part 33 n (61 ∷ v) (ap (leads 33) e ∙ l)) h (value_fits_lem v)

-- every setvar that is read fits
pub setvar_fits_lem : (s : List ℕ) → setvar_fits (setvar s) ≡ true
unfolding setvar
setvar_fits_lem s = bare_fits (unpaired (trim_ends s))

value_in_of : (v : SetValue) → value_in (kind_of v) (number_of v) (slot_text (text_of v)) ≡ v
unfolding value_in
value_in_of (text t) = refl
value_in_of (int n) = refl
value_in_of (increment n) = refl
value_in_of (decrement n) = refl
value_in_of delete = refl
value_in_of (macro t) = refl

setvar_in_of : (k : ℕ) (v : Setvar) → setvar_in (setvar_action k v) ≡ v
setvar_in_of k v = ap (setvar_of v.name) (value_in_of v.value)

-- ---- by the rule

-- what is said of an action that is made by the rule u for the code k
pub record Made (u : Rule) (k : ℕ) (x : Action) : Type 0 where
  pub coded_by : x.code ≡ k
  pub canonical : canon u x ≡ x
  pub fitted : texts_fit u x ≡ true

abbrev pub MadeBy : Rule → ℕ → Single → Type 0
MadeBy u k (done x) = Made u k x
MadeBy u k (bad flaw n) = Unit {0}
MadeBy u k (unknown n) = Unit {0}

number_fits : (most n : ℕ) (t : List ℕ) → unsigned_by most t ≡ Ok n → leb n most ≡ true
number_fits most n t e = le-leb n most ((unsigned_value most t n).0 e).1

-- the codes of a table are small
unfoldable all_small : List N.Row → Bool
all_small [] = true
all_small (r ∷ rs) = and (leb r.code 255) (all_small rs)

rows_small : (rs : List N.Row) (name : List ℕ) (n : ℕ) → all_small rs ≡ true → N.find rs name ≡ Some n → leb n 255 ≡ true
unfolding all_small N.find
rows_small [] name n h e = let z : ◌≡◌ {A = ℕ} 0 1 = cc in absurd (omega arith)
rows_small (r ∷ rs) name n h e =
    let p = both (leb r.code 255) (all_small rs) h in
    go (same r.name name) e p.0 (λ e. rows_small rs name n p.1 e)
  where
    go : (t : Bool) → pick t (Some r.code) (N.find rs name) ≡ Some n → leb r.code 255 ≡ true → (N.find rs name ≡ Some n → leb n 255 ≡ true) → leb n 255 ≡ true
    go true e p ih = let g : r.code ≡ n = cc in rw (← g) p
    go false e p ih = ih e

severity_small : (t : List ℕ) (n : ℕ) → severity_code t ≡ Some n → leb n 255 ≡ true
unfolding severity_code severities all_small
severity_small t n e = rows_small severities (lowered t) n refl e

severity_fits : (t : List ℕ) (n : ℕ) → severity_number t ≡ Ok n → leb n 255 ≡ true
unfolding severity_number
severity_fits t n e = go (unsigned_by 255 t) refl (severity_code t) refl e
  where
    go : (x : Result ℕ NumberError) → unsigned_by 255 t ≡ x → (l : Option ℕ) → severity_code t ≡ l → or_word x t ≡ Ok n → leb n 255 ≡ true
    go (Ok m) f l g e = number_fits 255 n t (f ∙ e)
    go (Err Unreadable) f (Some m) g e = severity_small t n (g ∙ (let h : m ≡ n = cc in ap Some h))
    go (Err Unreadable) f None g e = let z : ◌≡◌ {A = ℕ} 0 1 = cc in absurd (omega arith)
    go (Err TooLarge) f l g e = let z : ◌≡◌ {A = ℕ} 0 1 = cc in absurd (omega arith)

-- a number that was read, by a rule that keeps it
number_made : (u : Rule) (r : Row) (n : Result ℕ NumberError) → ((v : ℕ) → canon u (numbered r.code v) ≡ numbered r.code v)
    → ((v : ℕ) → n ≡ Ok v → texts_fit u (numbered r.code v) ≡ true) → MadeBy u r.code (number_by r n)
number_made u r (Ok v) c f = record { coded_by = refl; canonical = c v; fitted = f v refl }
number_made u r (Err Unreadable) c f = tt
number_made u r (Err TooLarge) c f = tt

rule_made : (u : Rule) (r : Row) (t : List ℕ) → MadeBy u r.code (with_text u r t)
unfolding with_text canon texts_fit
rule_made plain r t = record { coded_by = refl; canonical = refl; fitted = refl }
rule_made wanted r t = record { coded_by = refl; canonical = refl; fitted = refl }
rule_made unmarked r t = record {
  coded_by = refl;
  canonical = refl;
  fitted = joins (deny (ends_first quotation t)) (deny (end_last quotation (strip_start quotation t)));
}
rule_made (up_to most) r t = number_made (up_to most) r (unsigned_by most t) (λ v. refl) (λ v e. number_fits most v t e)
rule_made severity r t = number_made severity r (severity_number (stripped t)) (λ v. refl) (λ v e. severity_fits (stripped t) v e)
rule_made equation r t = go (split 61 t) (split_free 61 t)
  where
    go : (x : Split) → has 61 (first_half x) ≡ false → Made equation r.code (both_by r.code x)
    go (whole a) h = record { coded_by = refl; canonical = refl; fitted = deny h }
    go (halves a b) h = record { coded_by = refl; canonical = refl; fitted = deny h }
rule_made expiry r t = go (split 61 t) (split_free 61 t)
  where
    soon : (b : List ℕ) (n : Result ℕ NumberError) → unsigned_by 18446744073709551615 b ≡ n → leb (seconds n) 18446744073709551615 ≡ true
    soon b (Ok n) e = number_fits 18446744073709551615 n b e
    soon b (Err Unreadable) e = refl
    soon b (Err TooLarge) e = refl

    go : (x : Split) → has 61 (first_half x) ≡ false → Made expiry r.code (expiry_by r.code x)
    go (whole a) h = record { coded_by = refl; canonical = refl; fitted = joins (deny h) refl }
    go (halves a b) h = record { coded_by = refl; canonical = refl; fitted = joins (deny h) (soon b (unsigned_by 18446744073709551615 b) refl) }
rule_made setting r t = record {
  coded_by = refl;
  canonical = ap (setvar_action r.code) (setvar_in_of r.code (setvar t));
  fitted = ap setvar_fits (setvar_in_of r.code (setvar t)) ∙ setvar_fits_lem t;
}

none_made : (u : Rule) (r : Row) → MadeBy u r.code (with_none u r)
unfolding with_none canon texts_fit last_by has
none_made plain r = record { coded_by = refl; canonical = refl; fitted = refl }
none_made wanted r = tt
none_made unmarked r = record { coded_by = refl; canonical = refl; fitted = refl }
none_made (up_to most) r = tt
none_made severity r = tt
none_made equation r = tt
none_made expiry r = record { coded_by = refl; canonical = refl; fitted = refl }
none_made setting r = tt

-- ---- a piece

abbrev Fit : Single → Type 0
Fit (done x) = fits x ≡ true
Fit (bad flaw n) = Unit {0}
Fit (unknown n) = Unit {0}

made_fits : (r : Row) → Facts r → (x : Action) → Made r.rule r.code x → fits x ≡ true
unfolding fits
made_fits r f x m =
    let w = same_action x (worded transformation_code (slot_text x.a)) in
    ap (λ (k : ℕ). pick (eqb k transformation_code) w (fits_by (coded rows k) x)) m.coded_by
    ∙ ap (λ (t : Bool). pick t w (fits_by (coded rows r.code) x)) f.coding
    ∙ f.fitting x
    ∙ joins (true_action x (canon r.rule x) (sym m.canonical)) m.fitted

made_single : (r : Row) → Facts r → (s : Single) → MadeBy r.rule r.code s → Fit s
made_single r f (done x) m = made_fits r f x m
made_single r f (bad flaw n) m = tt
made_single r f (unknown n) m = tt

row_fits : (f : Found) (name : List ℕ) (s : Slot) → find rows name ≡ f → Fit (found_by f name s)
row_fits (found r) name absent e = made_single r (facts r (found_in rows name r e)) (with_none r.rule r) (none_made r.rule r)
row_fits (found r) name (present t) e = made_single r (facts r (found_in rows name r e)) (with_text r.rule r t) (rule_made r.rule r t)
row_fits missing name s e = tt

shift_fits : (t : List ℕ) → fits (worded transformation_code t) ≡ true
unfolding fits
shift_fits t = true_action (worded transformation_code t) (worded transformation_code t) refl

single_fits : (q : List ℕ) → Fit (single q)
unfolding single named
single_fits q = go (transforms q) (split 58 q)
  where
    go : (t : Bool) (x : Split) → Fit (pick t (done (worded transformation_code (drop 2 q))) (split_by x))
    go true x = shift_fits (drop 2 q)
    go false (whole n) = row_fits (find rows (lowered n)) (lowered n) absent refl
    go false (halves n t) = row_fits (find rows (lowered n)) (lowered n) (present t) refl

-- an action that is read from any piece fits
pub made : (q : List ℕ) (x : Action) → single q ≡ done x → fits x ≡ true
made q x e = subst Fit e (single_fits q)
