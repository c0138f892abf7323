-- An action that fits is read back from its spelling, whatever its rule.
use Rattle.std.specs.Prelude.{Ok}
use mathlib.Core.Path.{◌≡◌, ◌∙◌, refl, sym, ap}
use mathlib.Core.Bool.{Bool, true, false}
use mathlib.Core.List.{List, [], ◌∷◌}
use Prim.Native.Nat.{ℕ, ◌≤◌, ◌<◌}
use native.Mathlib.Omega.{arith}
use lib.Dec.{eqb, leb}
use borrow.Author.Tests.{leb-true, ltb-true, ne_eqb}
use Rattle.ascii.specs.Choice.{pick}
use Rattle.ascii.specs.Text.{bytes}
use Rattle.ascii.specs.Classes.{digit}
use Rattle.ascii.specs.Fold.{lowered, same}
use Rattle.ascii.specs.Trim.{strip_end}
use Rattle.ascii.specs.Numbers.{all_digits, unsigned_by}
use Rattle.ascii.proofs.NumberLaws.{digit_bounds, in_bound}
use Rattle.ascii.proofs.TestLaws.{apart, both}
use Rattle.records.specs.Codes.{transformation_code}
use Rattle.records.specs.Actions.{Action, slot_text}
use Rattle.single_action.specs.Marks.{quotation, stripped}
use Rattle.single_action.specs.declared.naming.Rule.{Rule}
use Rattle.single_action.specs.declared.naming.Rule.TheVariants.{Plain as plain, Wanted as wanted, Unmarked as unmarked, UpTo as up_to, Severity as severity, Equation as equation, Expiry as expiry, Setting as setting}
use Rattle.single_action.specs.Table.{Row, rows, Found, found, missing}
use Rattle.single_action.specs.Actions.{numbered, worded, done, severity_number, with_text, with_none, single}
use Rattle.listing.specs.Json.{decimal}
use Rattle.spelled.specs.Spelling.{coded, has, marked, setvar_in, argument, with_argument, spell}
use Rattle.spelled.specs.Condition.{isnt, same_action, canon, first_by, last_by, texts_fit, fits}
use Rattle.spelled.proofs.TestLaws.{denied}
use Rattle.spelled.proofs.DecimalLaws.{digits_cons, decimal_digits, decimal_unsigned}
use Rattle.spelled.proofs.TextLaws.{split_back, start_alone, end_alone, stripped_between, mark_is}
use Rattle.spelled.proofs.SetvarLaws.{setvar_back}
use Rattle.spelled.proofs.SameLaws.{action_true}
use Rattle.spelled.proofs.RowLaws.{small, ruled_by, Facts, facts, coded_in, coded_is, read_argument}

-- ---- digits have no marks

digit_mark : (b : ℕ) → digit b ≡ true → quotation b ≡ false
unfolding quotation
digit_mark b d = let g = digit_bounds b d in rw (ne_eqb b 34 (λ e. omega (arith, e, g.0)), ne_eqb b 39 (λ e. omega (arith, e, g.0)))

digits_first : (s : List ℕ) → all_digits s ≡ true → first_by quotation s ≡ false
digits_first [] d = refl
digits_first (b ∷ r) d = digit_mark b (digits_cons b r d).0

digits_last : (x : Bool) (s : List ℕ) → x ≡ false → all_digits s ≡ true → last_by quotation x s ≡ false
unfolding last_by
digits_last x [] e d = e
digits_last x (b ∷ r) e d = let p = digits_cons b r d in digits_last (quotation b) r (digit_mark b p.0) p.1

pub decimal_stripped : (n : ℕ) → stripped (decimal n) ≡ decimal n
decimal_stripped n =
    let d = decimal_digits n in
    ap (strip_end quotation) (start_alone quotation (decimal n) (digits_first (decimal n) d))
    ∙ end_alone quotation (decimal n) (digits_last false (decimal n) refl d)

-- ---- by the rule

number_back : (most n : ℕ) → n ≤ most → n < 100000000000000000000 → unsigned_by most (decimal n) ≡ Ok n
number_back most n h k = decimal_unsigned n k most ∙ in_bound most n h

pub rule_back : (u : Rule) (r : Row) (x : Action) → small u ≡ true → r.code ≡ x.code → texts_fit u x ≡ true
    → ruled_by u r (argument u x) ≡ done (canon u x)
unfolding texts_fit argument canon severity_number with_text with_none marked
rule_back plain r x s e h = ap (λ (k : ℕ). done (numbered k 0)) e
rule_back wanted r x s e h = ap (λ (k : ℕ). done (worded k (slot_text x.a))) e
rule_back unmarked r x s e h =
    let t = slot_text x.a in
    let m : ℕ = pick (has 39 t) 34 39 in
    let p = both (isnt (first_by quotation t)) (isnt (last_by quotation false t)) h in
    rw (e, stripped_between m t (mark_is (has 39 t)) (denied (first_by quotation t) p.0) (denied (last_by quotation false t) p.1))
rule_back (up_to most) r x s e h =
    let l = leb-true x.number most h in
    let k = ltb-true most 100000000000000000000 s in
    rw (number_back most x.number l (omega arith), e)
rule_back severity r x s e h =
    let l = leb-true x.number 255 h in
    rw (decimal_stripped x.number, number_back 255 x.number l (omega arith), e)
rule_back equation r x s e h =
    rw (split_back 61 (slot_text x.a) (slot_text x.b) (denied (has 61 (slot_text x.a)) h), e)
rule_back expiry r x s e h =
    let p = both (isnt (has 61 (slot_text x.a))) (leb x.number 18446744073709551615) h in
    let l = leb-true x.number 18446744073709551615 p.1 in
    rw (split_back 61 (slot_text x.a) (decimal x.number) (denied (has 61 (slot_text x.a)) p.0), number_back 18446744073709551615 x.number l (omega arith), e)
rule_back setting r x s e h = rw (setvar_back (setvar_in x) h, e)

-- ---- what a spelling is

pub data Spelt (x : Action) : Type 0 where
  shift : eqb x.code transformation_code ≡ true → spell x ≡ 116 ∷ 58 ∷ slot_text x.a → Spelt x
  rowed : (r : Row) → Facts r → r.code ≡ x.code → eqb x.code transformation_code ≡ false → coded rows x.code ≡ found r
      → spell x ≡ with_argument (lowered r.name) (argument r.rule x) → Spelt x
  unspelt : eqb x.code transformation_code ≡ false → coded rows x.code ≡ missing → spell x ≡ [] → Spelt x

pub spelt : (x : Action) → Spelt x
unfolding spell
spelt x = go (eqb x.code transformation_code) refl (coded rows x.code) refl
  where
    go : (t : Bool) → eqb x.code transformation_code ≡ t → (f : Found) → coded rows x.code ≡ f → Spelt x
    go true e f g = shift e (rw e)
    go false e (found r) g = rowed r (facts r (coded_in rows x.code r g)) (coded_is rows x.code r g) e g (rw (e, g))
    go false e missing g = unspelt e g (rw (e, g))

pub read_shift : (t : List ℕ) → single (116 ∷ 58 ∷ t) ≡ done (worded transformation_code t)
unfolding single bytes same
read_shift t = refl

pub single_back : (x : Action) → fits x ≡ true → single (spell x) ≡ done x
unfolding fits
single_back x h = go (spelt x)
  where
    go : Spelt x → single (spell x) ≡ done x
    go (shift e s) = rw (s, read_shift (slot_text x.a)) (ap done (sym (action_true x (worded transformation_code (slot_text x.a)) (rw e at h))))
    go (rowed r f k e g s) =
        let p = both (same_action x (canon r.rule x)) (texts_fit r.rule x) (rw (e, g) at h) in
        ap single s ∙ read_argument r f (argument r.rule x) ∙ rule_back r.rule r x f.bounded k p.1
        ∙ ap done (sym (action_true x (canon r.rule x) p.0))
    go (unspelt e g s) = absurd (apart (rw (e, g) at h) refl)
