-- A piece is refused for a flaw exactly where `Flaws` says so, and the Rust refuses it with its one error.
-- The idea: a row's rule says what is read, ascii's laws what a text denotes; `t:` is no row's name.
use Rattle.ascii.specs.declared.numbers.NumberError.TheVariants.{Unreadable, TooLarge}
use Rattle.ascii.specs.declared.numbers.NumberError.{NumberError}
use Rattle.std.specs.Prelude.{Option, Some, None, Result, Ok, Err}
use mathlib.Core.Path.{◌≡◌, ◌∙◌, refl, sym, ap, subst}
use mathlib.Core.Bool.{Bool, true, false}
use mathlib.Core.List.{List, [], ◌∷◌}
use mathlib.Core.Logic.{◌↔◌}
use Prim.Native.Nat.{ℕ, ◌+◌, ◌≤◌, ◌<◌}
use native.Mathlib.Omega.{arith}
use denote.Enum.Declared.{tag_of}
use lib.ListN.{length, drop}
use lib.Dec.{eqb}
use borrow.Author.Tests.{eqb-true, ne_eqb}
use Rattle.ascii.specs.Choice.{pick, and, bit}
use Rattle.ascii.specs.Text.{bytes}
use Rattle.ascii.specs.Classes.{within, digit}
use Rattle.ascii.specs.Fold.{lower, lowered, same}
use Rattle.ascii.specs.Numbers.{all_digits, unsigned_by}
use Rattle.ascii.specs.Numerals.{Unsigned, bare, plus}
use Rattle.ascii.specs.Splits.{Split, whole, halves, split}
use Rattle.ascii.proofs.ByteLaws.{bounds}
use Rattle.ascii.proofs.SameLaws.{never, and_left, and_right}
use Rattle.ascii.proofs.NumberLaws.{digit_bounds}
use Rattle.ascii.proofs.NumeralLaws.{denotes}
use Rattle.ascii.proofs.SignedLaws.{unsigned_too_large, unsigned_unreadable}
use Rattle.lent.specs.declared.refusing.Flaw.{Flaw}
use Rattle.names.specs.Tables as N
use Rattle.names.specs.Severities.{severities, severity_code}
use Rattle.records.specs.Codes.{transformation_code}
use Rattle.single_action.specs.Marks.{stripped}
use Rattle.single_action.specs.Table.{Rule, plain, wanted, unmarked, up_to, severity, equation, expiry, setting, Row, largest, rows, Found, found, missing, find}
use Rattle.single_action.specs.Actions.{Slot, absent, present, worded, Single, done, bad, unknown, number_by, or_word, severity_number, with_text, with_none, found_by, named, split_by, transforms, single}
use Rattle.single_action.specs.Flaws.{Wants, a_text, a_number, a_severity, an_equation, a_setting, Numeral, itself, bared, Amiss, none_there, no_number, past_width, name_in, argument_in, Flawed, parsed, severity_by, severity_parsed, severity_ours, severity_theirs}
use Rattle.single_action.specs.contracts.naming.Rule.{the_type as rule_type}
use Rattle.single_action.proofs.WidthLaws.{no_name}

-- ---- what a refusal tells

abbrev way : Single → ℕ
way (done x) = 0
way (bad flaw name) = 1
way (unknown name) = 0

abbrev flaw_in : Single → Flaw
flaw_in (done x) = Flaw.Absent
flaw_in (bad flaw name) = flaw
flaw_in (unknown name) = Flaw.Absent

abbrev name_of : Single → List ℕ
name_of (done x) = []
name_of (bad flaw name) = name
name_of (unknown name) = []

-- ---- a rule on its argument

-- by the rule, whatever the row
abbrev by : Rule → Row → Slot → Single
by u r absent = with_none u r
by u r (present t) = with_text u r t

module _ (r : Row) (flaw : Flaw) (name : List ℕ) where
  -- what is to be shown of a rule and its argument
  abbrev Told : Rule → Slot → Type 0
  Told u arg = (r.name ≡ name) × Amiss u arg flaw

  not_done : {A : Type 0} {x : Single} → way x ≡ 0 → x ≡ bad flaw name → A
  not_done h e = absurd (never (sym h ∙ ap way e))

  -- a refusal for that flaw
  told : {u : Rule} {arg : Slot} {f : Flaw} → Amiss u arg f → bad f r.name ≡ bad flaw name → Told u arg
  told {u} {arg} a e = (ap name_of e, subst (Amiss u arg) (ap flaw_in e) a)

  module _ {u : Rule} {t text : List ℕ} {most : ℕ} (n : Numeral u t text most) where
    -- a number that is not there, by what was read of it
    read_told : (x : Result ℕ NumberError) → (x ≡ (Err Unreadable) → ((v : ℕ) → Unsigned text v → ⊥) × (u ≡ severity → severity_code text ≡ None))
        → (x ≡ (Err TooLarge) → (v : ℕ) × Unsigned text v × (most < v)) → number_by r x ≡ bad flaw name → Told u (present t)
    read_told (Ok v) f g e = not_done refl e
    read_told (Err Unreadable) f g e = told (no_number n (f refl).0 (f refl).1) e
    read_told (Err TooLarge) f g e = let p = g refl in told (past_width n p.0 p.1 p.2) e

  number_told : (most : ℕ) (t : List ℕ) → number_by r (unsigned_by most t) ≡ bad flaw name → Told (up_to most) (present t)
  number_told most t = read_told itself (unsigned_by most t) (λ e. ((unsigned_unreadable most t).0 e, λ z. absurd (upto_not most z))) (unsigned_too_large most t).0
    where
      upto_not : (most : ℕ) → up_to most ≡ severity → ⊥
      upto_not most z = let q : ◌≡◌ {A = ℕ} 3 4 = ap (tag_of rule_type) z in omega arith

  severity_told : (t : List ℕ) → number_by r (severity_number (stripped t)) ≡ bad flaw name → Told severity (present t)
  unfolding severity_number
  severity_told t = go (unsigned_by (largest 8) (stripped t)) refl (severity_code (stripped t)) refl
    where
      go : (x : Result ℕ NumberError) → unsigned_by (largest 8) (stripped t) ≡ x → (w : Option ℕ) → severity_code (stripped t) ≡ w → number_by r (or_word (unsigned_by (largest 8) (stripped t)) (stripped t)) ≡ bad flaw name
          → Told severity (present t)
      go (Ok v) p w q e = not_done refl (rw p at e)
      go (Err Unreadable) p (Some v) q e = not_done refl (rw (p, q) at e)
      go (Err Unreadable) p None q e = told (no_number bared ((unsigned_unreadable (largest 8) (stripped t)).0 p) (λ z. q)) (rw (p, q) at e)
      go (Err TooLarge) p w q e = let d = (unsigned_too_large (largest 8) (stripped t)).0 p in told (past_width bared d.0 d.1 d.2) (rw p at e)

  text_told : (u : Rule) (t : List ℕ) → with_text u r t ≡ bad flaw name → Told u (present t)
  unfolding with_text
  text_told plain t e = not_done refl e
  text_told wanted t e = not_done refl e
  text_told unmarked t e = not_done refl e
  text_told (up_to most) t e = number_told most t e
  text_told severity t e = severity_told t e
  text_told equation t e = not_done refl e
  text_told expiry t e = not_done refl e
  text_told setting t e = not_done refl e

  none_told : (u : Rule) → with_none u r ≡ bad flaw name → Told u absent
  unfolding with_none
  none_told plain e = not_done refl e
  none_told wanted e = told (none_there a_text) e
  none_told unmarked e = not_done refl e
  none_told (up_to most) e = told (none_there a_number) e
  none_told severity e = told (none_there a_severity) e
  none_told equation e = told (none_there an_equation) e
  none_told expiry e = not_done refl e
  none_told setting e = told (none_there a_setting) e

  by_told : (u : Rule) (arg : Slot) → by u r arg ≡ bad flaw name → Told u arg
  by_told u absent e = none_told u e
  by_told u (present t) e = text_told u t e

-- and back

wants_bad : (r : Row) {u : Rule} → Wants u → with_none u r ≡ bad Flaw.Absent r.name
unfolding with_none
wants_bad r a_text = refl
wants_bad r a_number = refl
wants_bad r a_severity = refl
wants_bad r an_equation = refl
wants_bad r a_setting = refl

unread_bad : (r : Row) {u : Rule} {t text : List ℕ} {most : ℕ} → Numeral u t text most → ((v : ℕ) → Unsigned text v → ⊥) → (u ≡ severity → severity_code text ≡ None)
    → with_text u r t ≡ bad Flaw.Unreadable r.name
unfolding with_text severity_number
unread_bad r {t = t} {most = most} itself f w = rw ((unsigned_unreadable most t).1 f)
unread_bad r {t = t} bared f w = rw ((unsigned_unreadable (largest 8) (stripped t)).1 f, w refl)

large_bad : (r : Row) {u : Rule} {t text : List ℕ} {most : ℕ} → Numeral u t text most → (v : ℕ) → Unsigned text v → most < v → with_text u r t ≡ bad Flaw.TooLarge r.name
unfolding with_text severity_number
large_bad r {t = t} {most = most} itself v d h = rw ((unsigned_too_large most t).1 (v, d, h))
large_bad r {t = t} bared v d h = rw ((unsigned_too_large (largest 8) (stripped t)).1 (v, d, h))

amiss_bad : (r : Row) {u : Rule} {arg : Slot} {flaw : Flaw} → Amiss u arg flaw → by u r arg ≡ bad flaw r.name
amiss_bad r (none_there w) = wants_bad r w
amiss_bad r (no_number n f w) = unread_bad r n f w
amiss_bad r (past_width n v d h) = large_bad r n v d h

-- ---- a piece

-- what a piece comes to that is no transformation
found_bad : (x : Split) → split_by x ≡ found_by (find rows (lowered (name_in x))) (lowered (name_in x)) (argument_in x)
unfolding named
found_bad (whole n) = refl
found_bad (halves n t) = refl

ruled_by_lem : (r : Row) (name : List ℕ) (arg : Slot) → found_by (found r) name arg ≡ by r.rule r arg
ruled_by_lem r name absent = refl
ruled_by_lem r name (present t) = refl

-- the name of a transformation is one byte, and no row's
after_t : (p : List ℕ) → transforms p ≡ true → split 58 p ≡ halves (116 ∷ []) (drop 2 p)
unfolding same bytes split
after_t [] h = absurd (never (ap bit h))
after_t (b ∷ []) h = absurd (never (ap bit (and_right (eqb b 116) false h)))
after_t (b ∷ c ∷ r) h =
    let x = eqb-true b 116 (and_left (eqb b 116) (and (eqb c 58) true) h) in
    let y = eqb-true c 58 (and_left (eqb c 58) true (and_right (eqb b 116) (and (eqb c 58) true) h)) in
    rw (x, y)

abbrev finds : Found → ℕ
finds (found r) = 1
finds missing = 0

no_row : (p : List ℕ) (r : Row) → find rows (lowered (name_in (split 58 p))) ≡ found r → transforms p ≡ false
no_row p r e = go (transforms p) refl
  where
    go : (t : Bool) → transforms p ≡ t → t ≡ false
    go false h = refl
    go true h = absurd (never (ap finds (sym (no_name (116 ∷ []) (omega arith)) ∙ (rw (after_t p h) at e))))

-- a piece is refused for a flaw, with a name, exactly where its argument is amiss
pub flawed : (p name : List ℕ) (flaw : Flaw) → (single p ≡ bad flaw name) ↔ Flawed p name flaw
unfolding single
flawed p name flaw = (λ e. go (transforms p) e, back)
  where
    by_row : (f : Found) → find rows (lowered (name_in (split 58 p))) ≡ f → found_by f (lowered (name_in (split 58 p))) (argument_in (split 58 p)) ≡ bad flaw name → Flawed p name flaw
    by_row missing q e = not_done (record { name = []; code = 0; rule = plain }) flaw name refl e
    by_row (found r) q e =
        let t = by_told r flaw name r.rule (argument_in (split 58 p)) (sym (ruled_by_lem r (lowered (name_in (split 58 p))) (argument_in (split 58 p))) ∙ e) in
        record { row = r; there = q; spelled = t.0; amiss = t.1 }

    go : (t : Bool) → pick t (done (worded transformation_code (drop 2 p))) (split_by (split 58 p)) ≡ bad flaw name → Flawed p name flaw
    go true e = not_done (record { name = []; code = 0; rule = plain }) flaw name refl e
    go false e = by_row (find rows (lowered (name_in (split 58 p)))) refl (sym (found_bad (split 58 p)) ∙ e)

    back : Flawed p name flaw → pick (transforms p) (done (worded transformation_code (drop 2 p))) (split_by (split 58 p)) ≡ bad flaw name
    back x =
        let r = x.row in
        rw (no_row p r x.there)
        (found_bad (split 58 p) ∙ ap (λ (f : Found). found_by f (lowered (name_in (split 58 p))) (argument_in (split 58 p))) x.there
        ∙ ruled_by_lem r (lowered (name_in (split 58 p))) (argument_in (split 58 p)) ∙ amiss_bad r x.amiss ∙ ap (bad flaw) x.spelled)

-- ---- the Rust's severities

-- a byte up to `9` is no letter
lower_low : (b : ℕ) → b ≤ 57 → lower b ≤ 57
unfolding lower
lower_low b h = go (within 65 90 b) refl
  where
    go : (t : Bool) → within 65 90 b ≡ t → pick t (b + 32) b ≤ 57
    go true e = let p = bounds 65 90 b e in absurd (omega (arith, p.0))
    go false e = h

-- and no word of the table begins with one
no_letter : (b : ℕ) (r : List ℕ) → b ≤ 57 → severity_code (b ∷ r) ≡ None
unfolding severity_code severities N.find same bytes
no_letter b r h =
    let l = lower_low b h in
    let n : (k : ℕ) → 97 ≤ k → eqb k (lower b) ≡ false = λ k g. ne_eqb k (lower b) (λ e. omega (arith, l)) in
    rw (n 101 (omega arith), n 97 (omega arith), n 99 (omega arith), n 119 (omega arith), n 110 (omega arith), n 105 (omega arith), n 100 (omega arith))

-- so a text that denotes a number is no word
no_word : (u : List ℕ) (v : ℕ) → Unsigned u v → severity_code u ≡ None
unfolding all_digits
no_word u v (plus {s = s} d) = no_letter 43 s (omega arith)
no_word u v (bare d) = go u (denotes d).some (denotes d).digits
  where
    go : (u : List ℕ) → 0 < length u → all_digits u ≡ true → severity_code u ≡ None
    go [] h k = absurd (omega arith)
    go (b ∷ r) h k = no_letter b r (digit_bounds b (and_left (digit b) (all_digits r) k)).1

-- what our rule says of a severity is what parse_severity says, to the letter
pub severity_original : (r : Row) (t : List ℕ) → severity_ours r t ≡ severity_theirs r t
unfolding with_text severity_number
severity_original r t = go (unsigned_by (largest 8) (stripped t)) refl (severity_code (stripped t)) refl
  where
    go : (x : Result ℕ NumberError) → unsigned_by (largest 8) (stripped t) ≡ x → (w : Option ℕ) → severity_code (stripped t) ≡ w
        → parsed (number_by r (or_word x (stripped t))) ≡ severity_parsed r (severity_by x (stripped t))
    go (Ok v) p w q = refl
    go (Err Unreadable) p (Some v) q = rw q
    go (Err Unreadable) p None q = rw q
    go (Err TooLarge) p w q = let d = (unsigned_too_large (largest 8) (stripped t)).0 p in rw (no_word (stripped t) d.0 d.1)
