-- One action by places: what each way out of its functions says of the text.
use Rattle.ascii.specs.declared.numbers.NumberError.TheVariants.{Unreadable}
use Rattle.ascii.specs.declared.numbers.NumberError.{NumberError}
use Rattle.std.specs.Option.{ok_or}
use Rattle.std.specs.Result.{result_unwrap_or}
use Rattle.std.specs.Prelude.{Option, Some, None, Result, Ok, Err}
use mathlib.Core.Path.{◌≡◌, ◌∙◌, refl, sym, ap}
use mathlib.Core.Bool.{Bool, true, false, ◌&&◌}
use mathlib.Core.Logic.{◌⊎◌, inl, inr}
use mathlib.Core.List.{List, [], ◌∷◌}
use Prim.Native.Nat.{ℕ, ◌+◌, ◌≤◌, ◌<◌}
use native.Mathlib.Nat.{eq-or-lt_of_le}
use native.Mathlib.Omega.{arith}
use types.Run.{OneOf, miss}
use denote.Enum.Declared.{tag_of}
use lib.ListN.{length, take, drop}
use lib.Pointwise.{pointwise}
use lib.Seq.{take_all}
use lib.Dec.{eqb, ltb}
use borrow.Author.Tests.{ltb-true, ltb-false, eqb-true, eq-eqb}
use Rattle.ascii.specs.Choice.{and}
use Rattle.ascii.specs.Text.{bytes}
use Rattle.ascii.specs.Fold.{lowered, same}
use Rattle.ascii.specs.Numbers.{unsigned_by}
use Rattle.ascii.specs.Splits.{whole, halves, split, first_of}
use Rattle.ascii.specs.declared.trimming.Part.{Part}
use Rattle.ascii.proofs.SplitLaws.{first_fits, split_halves, split_whole}
use Rattle.lent.specs.declared.refusing.Flaw.{Flaw}
use Rattle.ascii.proofs.SameLaws.{never}
use Rattle.records.specs.Codes.{transformation_code}
use Rattle.single_action.specs.Marks.{stripped}
use Rattle.single_action.specs.Setvar.{setvar}
use Rattle.single_action.specs.Table.{Rule, plain, wanted, unmarked, up_to, severity, equation, expiry, setting, Row, largest, row_at, Placed}
use Rattle.single_action.specs.Actions.{Action, action, numbered, absent, present, done, bad, unknown, number_by, word_number, or_word, severity_number, both_by, seconds, expiry_by, setvar_action, with_text, with_none, named, transforms, single}
use Rattle.single_action.specs.Plans.{cut, Planned, text_plan, Judged, Stripped}
use Rattle.single_action.specs.declared.plans.Plan.{Plan}
use Rattle.single_action.specs.declared.plans.Origin.TheVariants.{Absent, Copied}
use Rattle.single_action.specs.declared.plans.PlanError.TheVariants.{Bad, Unknown}
use Rattle.single_action.specs.contracts.naming.Rule.{the_type as rule_type}
use Rattle.single_action.proofs.CutLaws.{cut_end, cut_none, found_within, cut_whole, cut_halves}

module _ (s : List ℕ) where
  pub done_plan : {p : Plan} {x : Action} → Planned s p x → Judged s (Ok p) (done x)
  done_plan h = record { means = ap done h.means; sound = h.inside }

  pub bad_row : (flaw : Flaw) (row : ℕ) → row < 41 → Judged s (Err (Bad flaw row)) (bad flaw (row_at row).name)
  bad_row flaw row h = record { means = refl; sound = h }

  pub number_plan : (code n : ℕ) → Planned s (text_plan code n Absent) (numbered code n)
  number_plan code n = record { means = refl; inside = record { a = tt; b = tt; c = tt } }

  pub copied_plan : (code n f p : ℕ) (t : List ℕ) → f ≤ p → p ≤ length s → cut s f p ≡ t → Planned s (text_plan code n (Copied f p)) (action code n (present t) absent)
  copied_plan code n f p t o h e = record { means = rw e; inside = record { a = (o, h); b = tt; c = tt } }

-- a severity, by what is read of it as a number
pub severity_read : (t : List ℕ) {n : (Result ℕ NumberError)} → unsigned_by (largest 8) t ≡ n → or_word n t ≡ severity_number t
unfolding severity_number
severity_read t e = rw e

-- a word of the table, or none
pub word_or : (x : Option ℕ) → ok_or x Unreadable ≡ word_number x
word_or (Some n) = refl
word_or None = refl

pub seconds_or : (x : Result ℕ NumberError) → seconds x ≡ result_unwrap_or x 0
seconds_or (Ok n) = refl
seconds_or (Err e) = refl

-- ---- split at the first `=`

module _ (s : List ℕ) (from code : ℕ) (h : from ≤ length s) (n : ℕ) (e : n ≡ first_of 61 (cut s from (length s))) where
  pub equals_within : from + n ≤ length s
  equals_within = found_within s from (length s) (omega arith) 61 n e h

  apart : from + n < length s → split 61 (drop from s) ≡ halves (cut s from (from + n)) (cut s (from + n + 1) (length s))
  apart l = ap (split 61) (sym (cut_end s from)) ∙ cut_halves s from (length s) (omega arith) 61 n e l

  together : length s ≤ from + n → split 61 (drop from s) ≡ whole (cut s from (from + n))
  together l =
      let q : length s ≡ from + n = omega (arith, equals_within) in
      ap (split 61) (sym (cut_end s from)) ∙ cut_whole s from (length s) (omega arith) 61 n e h l ∙ ap (λ (p : ℕ). whole (cut s from p)) q

  pub both_halves : from + n < length s
      → Planned s (record { code = code; number = 0; a = Copied from (from + n); b = Copied (from + n + 1) (length s); kind = 0; c = Absent }) (both_by code (split 61 (drop from s)))
  both_halves l = rw (apart l) (record { means = refl; inside = record { a = (omega arith, omega arith); b = (omega arith, omega arith); c = tt } })

  pub both_whole : length s ≤ from + n
      → Planned s (record { code = code; number = 0; a = Copied from (from + n); b = Copied (length s) (length s); kind = 0; c = Absent }) (both_by code (split 61 (drop from s)))
  both_whole l =
      rw (together l)
      (record { means = rw (cut_none s (length s) (length s) (omega arith)); inside = record { a = (omega arith, equals_within); b = (omega arith, omega arith); c = tt } })

  pub expiry_whole : length s ≤ from + n → Planned s (text_plan code 0 (Copied from (from + n))) (expiry_by code (split 61 (drop from s)))
  expiry_whole l = rw (together l) (copied_plan s code 0 from (from + n) (cut s from (from + n)) (omega arith) equals_within refl)

  pub expiry_halves : from + n < length s → (k : ℕ) → seconds (unsigned_by (largest 64) (cut s (from + n + 1) (length s))) ≡ k
      → Planned s (text_plan code k (Copied from (from + n))) (expiry_by code (split 61 (drop from s)))
  expiry_halves l k q = rw (apart l, q) (copied_plan s code k from (from + n) (cut s from (from + n)) (omega arith) equals_within refl)

-- ---- a row's rule

-- a row's code and rule as the code has them, and where its argument starts
pub record Ruled (s : List ℕ) (from : ℕ) (r : Row) (code : ℕ) (rule : Rule) : Type 0 where
  pub within : from ≤ length s
  pub coded : code ≡ r.code
  pub ruled : rule ≡ r.rule

module _ {s : List ℕ} {from : ℕ} {r : Row} {code : ℕ} {rule : Rule} (k : Ruled s from r code rule) where
  pub text_plain : rule ≡ plain → Judged s (Ok (text_plan code 0 Absent)) (with_text r.rule r (drop from s))
  unfolding with_text
  text_plain w = rw (sym k.ruled ∙ w, k.coded) (done_plan s (number_plan s r.code 0))

  pub text_wanted : rule ≡ wanted → Judged s (Ok (text_plan code 0 (Copied from (length s)))) (with_text r.rule r (drop from s))
  unfolding with_text
  text_wanted w =
      rw (sym k.ruled ∙ w, k.coded)
      (done_plan s (copied_plan s r.code 0 from (length s) (drop from s) k.within (omega arith) (cut_end s from)))

  pub text_unmarked : rule ≡ unmarked → {p : Part} → Stripped s from p → Judged s (Ok (text_plan code 0 (Copied p.first p.past))) (with_text r.rule r (drop from s))
  unfolding with_text
  text_unmarked w {p} m =
      rw (sym k.ruled ∙ w, k.coded)
      (done_plan s (copied_plan s r.code 0 p.first p.past (stripped (drop from s)) m.ordered m.inside m.text))

  pub text_number_lem : {most : ℕ} → rule ≡ up_to most → with_text r.rule r (drop from s) ≡ number_by r (unsigned_by most (cut s from (length s)))
  unfolding with_text
  text_number_lem w = rw (sym k.ruled ∙ w, cut_end s from)

  pub text_severity : rule ≡ severity → {p : Part} → Stripped s from p
      → with_text r.rule r (drop from s) ≡ number_by r (severity_number (cut s p.first p.past))
  unfolding with_text
  text_severity w m = rw (sym k.ruled ∙ w, m.text)

  pub text_equation : rule ≡ equation → {p : Plan} → Planned s p (both_by code (split 61 (drop from s))) → Judged s (Ok p) (with_text r.rule r (drop from s))
  unfolding with_text
  text_equation w x = rw (sym k.ruled ∙ w, ← k.coded) (done_plan s x)

  pub text_expiry : rule ≡ expiry → {p : Plan} → Planned s p (expiry_by code (split 61 (drop from s))) → Judged s (Ok p) (with_text r.rule r (drop from s))
  unfolding with_text
  text_expiry w x = rw (sym k.ruled ∙ w, ← k.coded) (done_plan s x)

  pub text_setting : rule ≡ setting → {p : Plan} → Planned s p (setvar_action code (setvar (drop from s))) → Judged s (Ok p) (with_text r.rule r (drop from s))
  unfolding with_text
  text_setting w x = rw (sym k.ruled ∙ w, ← k.coded) (done_plan s x)

-- and where there is no argument
module _ (s : List ℕ) (r : Row) {code : ℕ} {rule : Rule} (e : code ≡ r.code) (k : rule ≡ r.rule) where
  pub none_plain : rule ≡ plain → Judged s (Ok (text_plan code 0 Absent)) (with_none r.rule r)
  unfolding with_none
  none_plain w = rw (sym k ∙ w, e) (done_plan s (number_plan s r.code 0))

  pub none_unmarked : rule ≡ unmarked → Judged s (Ok (text_plan code 0 (Copied 0 0))) (with_none r.rule r)
  unfolding with_none
  none_unmarked w = rw (sym k ∙ w, e) (done_plan s (copied_plan s r.code 0 0 0 [] (omega arith) (omega arith) refl))

  pub none_expiry : rule ≡ expiry → Judged s (Ok (text_plan code 0 (Copied 0 0))) (with_none r.rule r)
  unfolding with_none
  none_expiry w = rw (sym k ∙ w, e) (done_plan s (copied_plan s r.code 0 0 0 [] (omega arith) (omega arith) refl))

abbrev pub refusing : List ℕ
refusing = 1 ∷ 3 ∷ 4 ∷ 5 ∷ 7 ∷ []

pub none_bad : (k : Rule) (r : Row) → OneOf refusing (tag_of rule_type k) → with_none k r ≡ bad Flaw.Absent r.name
unfolding with_none
none_bad plain r h = absurd (miss refusing 0 tt h)
none_bad wanted r h = refl
none_bad unmarked r h = absurd (miss refusing 2 tt h)
none_bad (up_to most) r h = refl
none_bad severity r h = refl
none_bad equation r h = refl
none_bad expiry r h = absurd (miss refusing 6 tt h)
none_bad setting r h = refl

-- ---- one piece

-- what std says of the start of a text
eqb_swap : (a b : ℕ) → eqb a b ≡ eqb b a
eqb_swap a b = go (eqb a b) refl (eqb b a) refl
  where
    go : (t : Bool) → eqb a b ≡ t → (u : Bool) → eqb b a ≡ u → t ≡ u
    go true e true f = refl
    go false e false f = refl
    go true e false f = sym (sym f ∙ eq-eqb b a (sym (eqb-true a b e)))
    go false e true f = sym e ∙ eq-eqb a b (sym (eqb-true b a f))

pub starts_same : (xs ys : List ℕ) → pointwise eqb xs ys ≡ same ys xs
unfolding same
starts_same [] [] = refl
starts_same [] (y ∷ ys) = refl
starts_same (x ∷ xs) [] = refl
starts_same (x ∷ xs) (y ∷ ys) = rw (eqb_swap x y, starts_same xs ys) (go (eqb y x))
  where
    go : (t : Bool) → (t && same ys xs) ≡ and t (same ys xs)
    go true = refl
    go false = refl

pub transform_short : (s : List ℕ) → length s < 2 → transforms s ≡ false
unfolding same bytes
transform_short [] h = refl
transform_short (x ∷ []) h = go (eqb x 116)
  where
    go : (t : Bool) → and t false ≡ false
    go true = refl
    go false = refl
transform_short (x ∷ y ∷ r) h = absurd (omega arith)

transform_long : (s : List ℕ) → transforms s ≡ true → 2 ≤ length s
transform_long s e = go (ltb (length s) 2) refl
  where
    go : (t : Bool) → ltb (length s) 2 ≡ t → 2 ≤ length s
    go true l = let q = transform_short s (ltb-true (length s) 2 l) in absurd (never cc)
    go false l = ltb-false (length s) 2 l

pub transform_done : (s : List ℕ) → transforms s ≡ true → Judged s (Ok (text_plan transformation_code 0 (Copied 2 (length s)))) (single s)
unfolding single
transform_done s e = rw e (done_plan s (copied_plan s transformation_code 0 2 (length s) (drop 2 s) (transform_long s e) (omega arith) (cut_end s 2)))

-- the name stands before the first `:`, and it is no transformation
pub record Parted (s : List ℕ) (n : ℕ) : Type 0 where
  pub at : n ≡ first_of 58 s
  pub other : transforms s ≡ false

module _ (s : List ℕ) (n : ℕ) (k : Parted s n) where
  pub colon_within : n ≤ length s
  colon_within = omega (arith, k.at, first_fits 58 s)

  with_colon : n < length s → single s ≡ named (lowered (take n s)) (present (drop (n + 1) s))
  unfolding single
  with_colon l = rw (k.other, split_halves 58 s (omega (arith, k.at)), ← k.at)

  without_colon : length s ≤ n → single s ≡ named (lowered (take n s)) absent
  unfolding single
  without_colon l = rw (k.other, split_whole 58 s (omega (arith, k.at)), take_all n s l)

  pub single_unknown : Placed (take n s) None → Judged s (Err (Unknown n)) (single s)
  unfolding named
  single_unknown p = record { means = go (eq-or-lt_of_le colon_within); sound = colon_within }
    where
      go : (n ≡ length s) ⊎ (n < length s) → unknown (lowered (take n s)) ≡ single s
      go (inl e) = sym (without_colon (omega arith) ∙ rw p)
      go (inr l) = sym (with_colon l ∙ rw p)

  module _ (row : ℕ) (p : Placed (take n s) (Some row)) where
    pub single_text : n < length s → single s ≡ with_text (row_at row).rule (row_at row) (drop (n + 1) s)
    unfolding named
    single_text l = with_colon l ∙ rw p.1

    pub single_none : length s ≤ n → single s ≡ with_none (row_at row).rule (row_at row)
    unfolding named
    single_none l = without_colon l ∙ rw p.1
