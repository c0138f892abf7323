-- No whitespace at the end: a spelling ends in it exactly when the text that stands last and bare does, and what is read from a trimmed piece never.
use Rattle.ascii.specs.declared.numbers.NumberError.TheVariants.{Unreadable, TooLarge}
use Rattle.ascii.specs.declared.numbers.NumberError.{NumberError}
use Rattle.std.specs.Prelude.{Result, Ok, Err}
use mathlib.Core.Path.{◌≡◌, ◌∙◌, refl, sym, ap, subst}
use mathlib.Core.Bool.{Bool, true, false}
use mathlib.Core.List.{List, [], ◌∷◌, ◌++◌}
use Prim.Native.Nat.{ℕ}
use native.Mathlib.Omega.{arith}
use lib.ListN.{drop}
use lib.Dec.{eqb}
use borrow.Author.Tests.{eqb-true, ne_eqb}
use Rattle.ascii.specs.Choice.{pick, and}
use Rattle.ascii.specs.Text.{bytes}
use Rattle.ascii.specs.Classes.{white}
use Rattle.ascii.specs.Fold.{lowered, same}
use Rattle.ascii.specs.Splits.{Split, whole, halves, split}
use Rattle.ascii.specs.Numbers.{all_digits, unsigned_by}
use Rattle.ascii.proofs.ByteLaws.{above}
use Rattle.ascii.proofs.NumberLaws.{digit_bounds}
use Rattle.ascii.proofs.TestLaws.{both}
use Rattle.records.specs.Codes.{transformation_code}
use Rattle.records.specs.Actions.{Slot, absent, present, Action, slot_text}
use Rattle.single_action.specs.Marks.{stripped}
use Rattle.single_action.specs.declared.naming.Rule.{Rule}
use Rattle.single_action.specs.declared.naming.Rule.TheVariants.{Plain as plain, Wanted as wanted, Unmarked as unmarked, UpTo as up_to, Severity as severity, Equation as equation, Expiry as expiry, Setting as setting}
use Rattle.single_action.specs.Table.{Row, rows, Found, found, missing, find}
use Rattle.single_action.specs.Actions.{numbered, worded, Single, done, bad, unknown, number_by, severity_number, both_by, expiry_by, with_text, with_none, found_by, named, split_by, transforms, single}
use Rattle.listing.specs.Json.{decimal}
use Rattle.spelled.specs.Spelling.{coded, has, between, marked, setvar_in, setvar_text, argument, with_argument, spell}
use Rattle.spelled.specs.Condition.{last_by}
use Rattle.spelled.specs.Texts.{rule_in, end_text, end_of}
use Rattle.spelled.proofs.DecimalLaws.{digits_cons, decimal_digits}
use Rattle.spelled.proofs.TextLaws.{last_append}
use Rattle.spelled.proofs.PartLaws.{join_by, split_join}
use Rattle.spelled.proofs.RowLaws.{Facts, facts, found_in}
use Rattle.spelled.proofs.SingleLaws.{Spelt, shift, rowed, unspelt, spelt}

-- ---- of a spelling

abbrev pub Ending : List ℕ → Type 0
Ending t = last_by white false t ≡ false

nil_ending : Ending []
unfolding last_by
nil_ending = refl

digits_ending : (d : Bool) (s : List ℕ) → d ≡ false → all_digits s ≡ true → last_by white d s ≡ false
unfolding last_by white
digits_ending d [] e h = e
digits_ending d (b ∷ r) e h =
    let p = digits_cons b r h in
    let g = digit_bounds b p.0 in
    digits_ending (white b) r (rw (above 9 13 b (omega (arith, g.0)) (omega (arith, g.0)), ne_eqb b 32 (λ e. omega (arith, e, g.0)))) p.1

decimal_ending : (n : ℕ) → Ending (decimal n)
decimal_ending n = digits_ending false (decimal n) refl (decimal_digits n)

last_mark : (d : Bool) (t : List ℕ) (h : Bool) → last_by white d (between (pick h 34 39) t) ≡ false
unfolding last_by white
last_mark d t true = last_append white (white 34) t 34 []
last_mark d t false = last_append white (white 39) t 39 []

marked_ending : (t : List ℕ) → Ending (marked t)
unfolding marked
marked_ending t = last_mark false t (has 39 t)

equals_ending : (a b : List ℕ) → last_by white false (a ++ (61 ∷ b)) ≡ last_by white false b
unfolding white
equals_ending a b = last_append white false a 61 b

colon_ending : (n t : List ℕ) → last_by white false (n ++ (58 ∷ t)) ≡ last_by white false t
unfolding white
colon_ending n t = last_append white false n 58 t

argument_last : (u : Rule) (x : Action) → last_by white false (slot_text (argument u x)) ≡ last_by white false (end_text u x)
unfolding argument
argument_last plain x = refl
argument_last wanted x = refl
argument_last unmarked x = marked_ending (slot_text x.a) ∙ sym nil_ending
argument_last (up_to most) x = decimal_ending x.number ∙ sym nil_ending
argument_last severity x = decimal_ending x.number ∙ sym nil_ending
argument_last equation x = equals_ending (slot_text x.a) (slot_text x.b)
argument_last expiry x = equals_ending (slot_text x.a) (decimal x.number) ∙ decimal_ending x.number ∙ sym nil_ending
argument_last setting x = marked_ending (setvar_text (setvar_in x)) ∙ sym nil_ending

name_last : (r : Row) → Facts r → (s : Slot) → last_by white false (with_argument (lowered r.name) s) ≡ last_by white false (slot_text s)
name_last r f absent = f.last false ∙ sym nil_ending
name_last r f (present t) = colon_ending (lowered r.name) t

shift_last : (t : List ℕ) → last_by white false (116 ∷ 58 ∷ t) ≡ last_by white false t
unfolding last_by white
shift_last t = refl

-- a spelling ends in whitespace exactly when that text does
pub spelling_last : (x : Action) → last_by white false (spell x) ≡ last_by white false (end_of x)
spelling_last x = go (spelt x)
  where
    go : Spelt x → last_by white false (spell x) ≡ last_by white false (end_of x)
    go (shift e s) = rw (s, e) (shift_last (slot_text x.a))
    go (rowed r f k e g s) = rw (s, e, g) (name_last r f (argument r.rule x) ∙ argument_last r.rule x)
    go (unspelt e g s) = rw (s, e, g)

-- ---- of what is read from a piece that does not end in whitespace

abbrev EndsIn : Rule → ℕ → Single → Type 0
EndsIn u k (done x) = (x.code ≡ k) × Ending (end_text u x)
EndsIn u k (bad flaw n) = Unit {0}
EndsIn u k (unknown n) = Unit {0}

-- a number, by a rule with no such text
number_ending : (u : Rule) (r : Row) (n : Result ℕ NumberError) → ((v : ℕ) → end_text u (numbered r.code v) ≡ []) → EndsIn u r.code (number_by r n)
number_ending u r (Ok v) e = (refl, ap (last_by white false) (e v) ∙ nil_ending)
number_ending u r (Err Unreadable) e = tt
number_ending u r (Err TooLarge) e = tt

rule_ending : (u : Rule) (r : Row) (t : List ℕ) → Ending t → EndsIn u r.code (with_text u r t)
unfolding with_text
rule_ending plain r t h = (refl, nil_ending)
rule_ending wanted r t h = (refl, h)
rule_ending unmarked r t h = (refl, nil_ending)
rule_ending (up_to most) r t h = number_ending (up_to most) r (unsigned_by most t) (λ v. refl)
rule_ending severity r t h = number_ending severity r (severity_number (stripped t)) (λ v. refl)
rule_ending equation r t h = go (split 61 t) (split_join 61 t)
  where
    go : (x : Split) → join_by 61 x ≡ t → EndsIn equation r.code (done (both_by r.code x))
    go (whole a) e = (refl, nil_ending)
    go (halves a b) e = (refl, sym (equals_ending a b) ∙ ap (last_by white false) e ∙ h)
rule_ending expiry r t h = go (split 61 t)
  where
    go : (x : Split) → EndsIn expiry r.code (done (expiry_by r.code x))
    go (whole a) = (refl, nil_ending)
    go (halves a b) = (refl, nil_ending)
rule_ending setting r t h = (refl, nil_ending)

none_ending : (u : Rule) (r : Row) → EndsIn u r.code (with_none u r)
unfolding with_none
none_ending plain r = (refl, nil_ending)
none_ending wanted r = tt
none_ending unmarked r = (refl, nil_ending)
none_ending (up_to most) r = tt
none_ending severity r = tt
none_ending equation r = tt
none_ending expiry r = (refl, nil_ending)
none_ending setting r = tt

abbrev pub Ended : Single → Type 0
Ended (done x) = Ending (end_of x)
Ended (bad flaw n) = Unit {0}
Ended (unknown n) = Unit {0}

row_ended : (r : Row) → Facts r → (s : Single) → EndsIn r.rule r.code s → Ended s
row_ended r f (done x) h =
    ap (λ (k : ℕ). last_by white false (pick (eqb k transformation_code) (slot_text x.a) (end_text (rule_in (coded rows k)) x))) h.0
    ∙ ap (λ (t : Bool). last_by white false (pick t (slot_text x.a) (end_text (rule_in (coded rows r.code)) x))) f.coding
    ∙ ap (λ (u : Rule). last_by white false (end_text u x)) f.ruling
    ∙ h.1
row_ended r f (bad flaw n) h = tt
row_ended r f (unknown n) h = tt

found_ended : (f : Found) (name : List ℕ) (s : Slot) → Ending (slot_text s) → find rows name ≡ f → Ended (found_by f name s)
found_ended (found r) name absent h e = row_ended r (facts r (found_in rows name r e)) (with_none r.rule r) (none_ending r.rule r)
found_ended (found r) name (present t) h e = row_ended r (facts r (found_in rows name r e)) (with_text r.rule r t) (rule_ending r.rule r t h)
found_ended missing name s h e = tt

drop_ending : (q : List ℕ) → transforms q ≡ true → Ending q → Ending (drop 2 q)
unfolding same bytes last_by white
drop_ending [] t h = h
drop_ending (b ∷ []) t h = nil_ending
drop_ending (b ∷ c ∷ r) t h =
    let p = both (eqb b 116) (and (eqb c 58) true) t in
    let q = both (eqb c 58) true p.1 in
    subst (λ (c : ℕ). last_by white (white c) r ≡ false) (eqb-true c 58 q.0) h

pub single_ended : (q : List ℕ) → Ending q → Ended (single q)
unfolding single named
single_ended q h = go (transforms q) refl (split 58 q) (split_join 58 q)
  where
    go : (t : Bool) → transforms q ≡ t → (x : Split) → join_by 58 x ≡ q → Ended (pick t (done (worded transformation_code (drop 2 q))) (split_by x))
    go true t x e = drop_ending q t h
    go false t (whole n) e = found_ended (find rows (lowered n)) (lowered n) absent nil_ending refl
    go false t (halves n a) e = found_ended (find rows (lowered n)) (lowered n) (present a) (sym (colon_ending n a) ∙ ap (last_by white false) e ∙ h) refl
