-- A setvar by places: what each way out of its functions says of the text.
use Rattle.ascii.specs.declared.numbers.NumberError.{NumberError}
use Rattle.std.specs.Prelude.{Ok, Err}
use mathlib.Core.Path.{◌≡◌, ◌∙◌, refl, sym, ap}
use mathlib.Core.Bool.{Bool, true, false}
use mathlib.Core.List.{List}
use Prim.Native.Nat.{ℕ, ◌+◌, ◌-◌, ◌≤◌, ◌<◌}
use native.Mathlib.Omega.{arith}
use lib.ListN.{length, take, drop, get_or, length-drop}
use lib.Dec.{eqb, leb}
use borrow.Author.Tests.{eq-eqb, leb-true}
use Rattle.ascii.specs.Choice.{pick, and}
use Rattle.ascii.specs.Text.{bytes}
use Rattle.ascii.specs.Classes.{white}
use Rattle.ascii.specs.declared.trimming.Part.{Part}
use Rattle.ascii.specs.Trim.{leading, trim_ends, trimmed_part}
use Rattle.ascii.specs.Numbers.{signed_word}
use Rattle.ascii.specs.Splits.{first_of, leads}
use Rattle.ascii.proofs.TrimLaws.{ends_are, ends_fit}
use Rattle.ascii.proofs.SameLaws.{never}
use Rattle.single_action.specs.Marks.{quotation, paired, unpaired}
use Rattle.single_action.specs.Setvar.{text, name_of, has_macro, number_or, plain_value, value_of, setvar_of, delete, setvar_bare, setvar, VarName, SetValue}
use Rattle.single_action.specs.Actions.{setvar_action}
use Rattle.single_action.specs.Plans.{cut, step_plan, setvar_plan, NamePlanned, ValuePlanned, Planned}
use Rattle.single_action.specs.declared.plans.Origin.TheVariants.{Absent, Copied, Lowered, Tx, One}
use Rattle.single_action.specs.declared.settings.NamePlan.{NamePlan}
use Rattle.single_action.specs.declared.settings.ValuePlan.{ValuePlan}
use Rattle.single_action.proofs.CutLaws.{cut_end, cut_shift, cut_length, cut_take, cut_drop, leads_cut, cut_whole, cut_halves}

module _ (s : List ℕ) (f p : ℕ) (ordered : f ≤ p) (fits : p ≤ length s) where
  -- ---- a name

  module _ (n : ℕ) (e : n ≡ first_of 46 (cut s f p)) where
    pub name_whole : p ≤ f + n → NamePlanned s (record { collection = Tx; key = Copied f p }) (name_of (cut s f p))
    unfolding name_of
    name_whole h =
        let w = cut_whole s f p fits 46 n e ordered h in
        record { collection = rw w; key = rw w; collection_lies = tt; key_lies = (ordered, fits) }

    pub name_halves : f + n < p → NamePlanned s (record { collection = Lowered f (f + n); key = Copied (f + n + 1) p }) (name_of (cut s f p))
    unfolding name_of
    name_halves h =
        let w = cut_halves s f p fits 46 n e h in
        record { collection = rw w; key = rw w; collection_lies = (omega arith, omega arith); key_lies = (omega arith, fits) }

  -- ---- a value

  pub value_plus : f < p → get_or s f 0 ≡ 43 → ValuePlanned s (step_plan 3 (signed_word (cut s (f + 1) p))) (plain_value (cut s f p))
  unfolding plain_value
  value_plus h e =
      let w : leads 43 (cut s f p) ≡ true = leads_cut s f p fits 43 h ∙ eq-eqb _ _ e in
      rw (w, cut_drop s f p fits 1 (omega arith)) (record { number = refl; kind = refl; text = refl; lies = tt })

  pub value_minus : f < p → get_or s f 0 ≡ 45 → ValuePlanned s (step_plan 4 (signed_word (cut s (f + 1) p))) (plain_value (cut s f p))
  unfolding plain_value
  value_minus h e =
      let v : leads 43 (cut s f p) ≡ false = leads_cut s f p fits 43 h ∙ rw e in
      let w : leads 45 (cut s f p) ≡ true = leads_cut s f p fits 45 h ∙ eq-eqb _ _ e in
      rw (v, w, cut_drop s f p fits 1 (omega arith)) (record { number = refl; kind = refl; text = refl; lies = tt })

  -- neither sign stands first
  pub unsigned_value : leads 43 (cut s f p) ≡ false → leads 45 (cut s f p) ≡ false → plain_value (cut s f p) ≡ number_or (cut s f p) (signed_word (cut s f p))
  unfolding plain_value
  unsigned_value v w = rw (v, w)

  pub value_number : plain_value (cut s f p) ≡ number_or (cut s f p) (signed_word (cut s f p)) → (v : ℕ) → signed_word (cut s f p) ≡ Ok v
      → ValuePlanned s (record { number = v; kind = 2; text = Absent }) (plain_value (cut s f p))
  value_number w v e = rw (w, e) (record { number = refl; kind = refl; text = refl; lies = tt })

  pub value_text : plain_value (cut s f p) ≡ number_or (cut s f p) (signed_word (cut s f p)) → {x : NumberError} → signed_word (cut s f p) ≡ Err x
      → ValuePlanned s (record { number = 0; kind = 1; text = Copied f p }) (plain_value (cut s f p))
  value_text w e = rw (w, e) (record { number = refl; kind = refl; text = refl; lies = (ordered, fits) })

  pub value_macro : has_macro (cut s f p) ≡ true → ValuePlanned s (record { number = 0; kind = 6; text = Copied f p }) (value_of (cut s f p))
  unfolding value_of
  value_macro e = rw e (record { number = refl; kind = refl; text = refl; lies = (ordered, fits) })

  pub value_plain : has_macro (cut s f p) ≡ false → value_of (cut s f p) ≡ plain_value (cut s f p)
  unfolding value_of
  value_plain e = rw e

-- ---- the whole

module _ (s : List ℕ) (code : ℕ) {n : NamePlan} {v : ValuePlan} {name : VarName} {value : SetValue} where
  pub setvar_planned : NamePlanned s n name → ValuePlanned s v value → Planned s (setvar_plan code n v) (setvar_action code (setvar_of name value))
  setvar_planned a b = record {
    means = rw (b.number, a.collection, a.key, b.kind, b.text);
    inside = record { a = a.collection_lies; b = a.key_lies; c = b.lies };
  }

pub deleted : (s : List ℕ) → ValuePlanned s (record { number = 0; kind = 5; text = Absent }) delete
deleted s = record { number = refl; kind = refl; text = refl; lies = tt }

pub one : (s : List ℕ) → ValuePlanned s (record { number = 0; kind = 1; text = One }) (text (bytes "1"))
one s = record { number = refl; kind = refl; text = refl; lies = tt }

module _ (s : List ℕ) (f p : ℕ) (ordered : f ≤ p) (fits : p ≤ length s) where
  pub bare_delete : f < p → get_or s f 0 ≡ 33 → setvar_bare (cut s f p) ≡ setvar_of (name_of (cut s (f + 1) p)) delete
  unfolding setvar_bare
  bare_delete h e =
      let w : leads 33 (cut s f p) ≡ true = leads_cut s f p fits 33 h ∙ eq-eqb _ _ e in
      rw (w, cut_drop s f p fits 1 (omega arith))

  module _ (n : ℕ) (e : n ≡ first_of 61 (cut s f p)) (w : leads 33 (cut s f p) ≡ false) where
    pub bare_one : p ≤ f + n → setvar_bare (cut s f p) ≡ setvar_of (name_of (cut s f p)) (text (bytes "1"))
    unfolding setvar_bare
    bare_one h = rw (w, cut_whole s f p fits 61 n e ordered h)

    pub bare_both : f + n < p → setvar_bare (cut s f p) ≡ setvar_of (name_of (cut s f (f + n))) (value_of (cut s (f + n + 1) p))
    unfolding setvar_bare
    bare_both h = rw (w, cut_halves s f p fits 61 n e h)

-- ---- marks

pub paired_long : (t : List ℕ) → paired t ≡ true → 2 ≤ length t
unfolding paired
paired_long t = go (leb 2 (length t)) refl
  where
    go : (b : Bool) → leb 2 (length t) ≡ b → pick b (and (quotation (get_or t 0 0)) (eqb (get_or t (length t - 1) 0) (get_or t 0 0))) false ≡ true → 2 ≤ length t
    go true l e = leb-true 2 (length t) l
    go false l e = absurd (never cc)

-- the part of a text that is trimmed from a place on
module _ (s : List ℕ) (from : ℕ) where
  abbrev pub rest : List ℕ
  rest = drop from s

  pub trimmed_cut : cut s (from + leading white rest) (from + (leading white rest + length (trim_ends rest))) ≡ trim_ends rest
  trimmed_cut =
      let e : leading white rest + length (trim_ends rest) - leading white rest ≡ length (trim_ends rest) = omega arith in
      sym (cut_shift s from (leading white rest) (leading white rest + length (trim_ends rest)))
      ∙ ap (λ (n : ℕ). take n (drop (leading white rest) rest)) e
      ∙ ends_are white rest

module _ (s : List ℕ) (f p : ℕ) (ordered : f ≤ p) (fits : p ≤ length s) where
  pub without_pair : paired (cut s f p) ≡ true → unpaired (cut s f p) ≡ cut s (f + 1) (p - 1)
  unfolding unpaired
  without_pair e =
      let l = cut_length s f p fits in
      let k = paired_long (cut s f p) e in
      let h : f + 2 ≤ p = omega (arith, l, k) in
      let g : length (cut s f p) - 2 ≡ p - f - 2 = omega (arith, l) in
      let q : f + 1 + (p - f - 2) ≡ p - 1 = omega (arith, h) in
      rw (e, g, cut_drop s f p fits 1 (omega arith), cut_take s (f + 1) p fits (p - f - 2) (omega arith), q)

  pub no_pair : paired (cut s f p) ≡ false → unpaired (cut s f p) ≡ cut s f p
  unfolding unpaired
  no_pair e = rw e

-- where the trimmed argument stands
pub record Held (s : List ℕ) (from : ℕ) (part : Part) : Type 0 where
  pub ordered : from + part.first ≤ from + part.past
  pub inside : from + part.past ≤ length s
  pub is : cut s (from + part.first) (from + part.past) ≡ trim_ends (drop from s)

pub held : (s : List ℕ) (from : ℕ) (part : Part) → from ≤ length s → part ≡ trimmed_part (cut s from (length s)) → Held s from part
held s from part h e =
    rw (e ∙ ap trimmed_part (cut_end s from))
    (record { ordered = omega arith; inside = omega (arith, ends_fit white (drop from s), length-drop from s); is = trimmed_cut s from })

-- two marks stand in it
abbrev pub Room : ℕ → Part → Type 0
Room from part = from + part.first + 2 ≤ from + part.past

module _ (s : List ℕ) (from : ℕ) (part : Part) (h : Held s from part) where
  abbrev pub held_part : List ℕ
  held_part = cut s (from + part.first) (from + part.past)

  pub held_long : paired held_part ≡ true → Room from part
  held_long e = omega (arith, paired_long held_part e, cut_length s (from + part.first) (from + part.past) h.inside)

  pub setvar_paired : paired held_part ≡ true → setvar (drop from s) ≡ setvar_bare (cut s (from + part.first + 1) (from + part.past - 1))
  unfolding setvar
  setvar_paired e =
      ap setvar_bare (ap unpaired (sym h.is) ∙ without_pair s (from + part.first) (from + part.past) h.ordered h.inside e)

  pub setvar_unpaired : paired held_part ≡ false → setvar (drop from s) ≡ setvar_bare held_part
  unfolding setvar
  setvar_unpaired e =
      ap setvar_bare (ap unpaired (sym h.is) ∙ no_pair s (from + part.first) (from + part.past) h.ordered h.inside e)
