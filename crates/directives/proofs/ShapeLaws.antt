-- Which body a directive has, by its shape and the count of its arguments, and the room for each part of it.
use Rattle.std.specs.Prelude.{Result, Ok, Err}
use mathlib.Core.Path.{◌≡◌, refl, sym, ap, ◌∙◌, subst}
use mathlib.Core.Bool.{true, false}
use mathlib.Core.List.{List, [], ◌∷◌}
use Prim.Native.Nat.{ℕ, zero, suc, ◌+◌, ◌-◌, ◌≤◌}
use native.Mathlib.Omega.{arith}
use lib.ListN.{length, take, drop, length-drop}
use lib.Seq.{length-take-le}
use lib.Dec.{eqb}
use borrow.Author.Tests.{eqb-true, le-leb, lt-leb}
use Rattle.ascii.specs.Choice.{bit}
use Rattle.lent.specs.Sizes.{limit}
use Rattle.lent.specs.Endings.{starts}
use Rattle.lent.specs.Sources.{Sourced}
use Rattle.lent.specs.Table.{Outcome, reads}
use Rattle.lent.proofs.StartLaws.{starts_is}
use Rattle.lent.proofs.BufferLaws.{padded_none}
use Rattle.lexer.specs.Steps.{part}
use Rattle.records.specs.Actions.{Action}
use Rattle.ascii.specs.Trim.{strip_start, strip_end}
use Rattle.actions.specs.Normal.{normalised, normalised_from, text_held}
use Rattle.actions.specs.Pieces.{pieces_from, parts_from, pieces_of}
use Rattle.actions.specs.Lists.{actions_from}
use Rattle.directives.specs.Directives.{Body, act, marker, defaults, unknown, wrong_count, variables_read, operator_read, actions_read, Shape, of_rule, of_action, of_marker, of_defaults, of_other, rule_by, act_by, told, shape_of, body_by, Fault}
use Rattle.directives.specs.Steps.{empty_entry, Fell, AddsVariables, AddsOperator, Bodied, takes, held_by, held_arguments, Ready}
use Rattle.directives.specs.declared.Fault.{Fault as Told}
use Rattle.directives.specs.declared.LineFault.TheVariants.{WrongCount}
use Rattle.directives.specs.declared.arguments.Arguments.{Arguments}
use Rattle.directives.specs.declared.parts.Tally.{Tally}
use Rattle.directives.specs.declared.parts.Entry.{Entry}
use Rattle.directives.proofs.BodyLaws.{variables_text, operator_text}

-- ---- by the count of arguments

module _ (l : ℕ) (name v o x : List ℕ) where
  pub count_wrong : (k : Shape) (n : ℕ) → takes k n ≡ false → body_by k l name (held_by n v o x) ≡ Err (wrong_count l)
  count_wrong of_rule zero e = refl
  count_wrong of_rule (suc zero) e = refl
  count_wrong of_rule (suc (suc zero)) e = absurd (omega (arith, ap bit e))
  count_wrong of_rule (suc (suc (suc zero))) e = absurd (omega (arith, ap bit e))
  count_wrong of_rule (suc (suc (suc (suc n)))) e = refl
  count_wrong of_action zero e = refl
  count_wrong of_action (suc zero) e = absurd (omega (arith, ap bit e))
  count_wrong of_action (suc (suc zero)) e = refl
  count_wrong of_action (suc (suc (suc zero))) e = refl
  count_wrong of_action (suc (suc (suc (suc n)))) e = refl
  count_wrong of_marker zero e = refl
  count_wrong of_marker (suc zero) e = absurd (omega (arith, ap bit e))
  count_wrong of_marker (suc (suc zero)) e = refl
  count_wrong of_marker (suc (suc (suc zero))) e = refl
  count_wrong of_marker (suc (suc (suc (suc n)))) e = refl
  count_wrong of_defaults zero e = refl
  count_wrong of_defaults (suc zero) e = absurd (omega (arith, ap bit e))
  count_wrong of_defaults (suc (suc zero)) e = refl
  count_wrong of_defaults (suc (suc (suc zero))) e = refl
  count_wrong of_defaults (suc (suc (suc (suc n)))) e = refl
  count_wrong of_other n e = absurd (omega (arith, ap bit e))

  no_actions : actions_read [] ≡ reads []
  unfolding normalised normalised_from text_held pieces_from parts_from pieces_of strip_end strip_start actions_from
  no_actions = refl

  four_or_more : (i : ℕ) → takes of_rule (suc (suc (suc (suc i)))) ≡ false
  four_or_more i = rw (le-leb 2 (suc (suc (suc (suc i)))) (omega arith), lt-leb (suc (suc (suc (suc i)))) 3 (omega arith))

  -- a rule: where there is no third argument its text is empty
  pub count_rule : (n : ℕ) → takes of_rule n ≡ true → (n ≡ 2 → x ≡ []) → body_by of_rule l name (held_by n v o x) ≡ told l (rule_by (variables_read v) (operator_read o) (actions_read x))
  count_rule zero e f = absurd (omega (arith, ap bit e))
  count_rule (suc zero) e f = absurd (omega (arith, ap bit e))
  count_rule (suc (suc zero)) e f = ap (λ (m : Outcome (List (Sourced Action))). told l (rule_by (variables_read v) (operator_read o) m)) (sym no_actions ∙ ap actions_read (sym (f refl)))
  count_rule (suc (suc (suc zero))) e f = refl
  count_rule (suc (suc (suc (suc i)))) e f = absurd (omega (arith, ap bit (sym (four_or_more i) ∙ e)))

  -- one argument
  pub count_one : (k : Shape) (n : ℕ) → eqb n 1 ≡ true → body_by k l name (held_by n v o x) ≡ body_by k l name (v ∷ [])
  count_one k n e = let z : n ≡ 1 = eqb-true n 1 e in rw z

-- a directive of the wrong count
pub wrong_fell : (line : ℕ) (text : List ℕ) → Fell (wrong_count line) text text (Err (Told.Line WrongCount line))
wrong_fell line text = record { told = Told.Line WrongCount line; is = refl; faulted = record { given = refl; left = sym (padded_none (length text)) } }

-- ---- places

module _ {scratch text : List ℕ} {name : ℕ} {a : Arguments} {t : Tally} (x : Ready scratch text name a t) where
  part_long : (i j : ℕ) → j ≤ length scratch → length (part scratch i j) ≡ j - i
  part_long i j h = length-take-le (j - i) (drop i scratch) (omega (arith, length-drop i scratch))

  pub first_long : length (part scratch name a.one) ≡ a.one - name
  first_long = part_long name a.one (omega (arith, x.second, x.third, x.inside))

  pub second_long : length (part scratch a.one a.two) ≡ a.two - a.one
  second_long = part_long a.one a.two (omega (arith, x.third, x.inside))

  pub third_none : a.count ≡ 2 → part scratch a.two a.three ≡ []
  third_none e = let z : a.three - a.two ≡ 0 = omega (arith, x.pair e) in rw z (take_none (drop a.two scratch))
    where
      take_none : (l : List ℕ) → take 0 l ≡ []
      take_none [] = refl
      take_none (b ∷ l) = refl

  -- each part starts where there is room for it
  pub first_starts : starts (length (part scratch name a.one)) (length text) t.text t.variables ≡ true
  first_starts = (starts_is _ _ _ _).1 (record {
    within = omega (arith, first_long, x.second, x.third, x.short);
    offset_low = omega (arith, x.short);
    count_low = x.variables_low;
    room = omega (arith, first_long, x.second, x.third, x.room, x.first);
  })

  pub alone_starts : starts (a.one - name) (length text) t.text t.actions ≡ true
  alone_starts = (starts_is _ _ _ _).1 (record {
    within = omega (arith, x.second, x.third, x.short);
    offset_low = omega (arith, x.short);
    count_low = x.actions_low;
    room = omega (arith, x.second, x.third, x.room, x.first);
  })

  module _ (line : ℕ) (text₁ variables variables₁ : List ℕ) (e : Entry) (l : length text₁ ≡ length text)
      (y : AddsVariables (empty_entry of_rule t.text) line t.variables text text₁ variables variables₁ (variables_read (part scratch name a.one)) (Ok e)) where
    e_low : e.text ≤ t.text + (a.one - name)
    e_low = omega (arith, variables_text (empty_entry of_rule t.text) line t.variables (part scratch name a.one) text text₁ variables variables₁ e y, first_long)

    pub second_fits : (e.text + length (part scratch a.one a.two) ≤ length text₁) × (e.text + length (part scratch a.one a.two) ≤ limit)
    second_fits = (omega (arith, e_low, second_long, x.first, x.second, x.third, x.room), omega (arith, e_low, second_long, x.first, x.second, x.third, x.short))

    pub third_starts : (text₂ : List ℕ) (d : Entry) → length text₂ ≡ length text₁ → AddsOperator e line text₁ text₂ (operator_read (part scratch a.one a.two)) (Ok d)
        → starts (a.three - a.two) (length text₂) d.text t.actions ≡ true
    third_starts text₂ d k z =
        let f = operator_text e line 0 (part scratch a.one a.two) text₁ text₂ [] [] d z in
        (starts_is _ _ _ _).1 (record {
          within = omega (arith, x.short);
          offset_low = omega (arith, f, second_fits.1);
          count_low = x.actions_low;
          room = omega (arith, f, e_low, second_long, x.first, x.second, x.third, x.room);
        })

-- ---- by shape

pub as_body : (shrunk : ℕ) (t : Tally) (text text' variables variables' actions actions' : List ℕ) (r : Result Entry Told) {b d : Result Body Fault} → b ≡ d
    → Bodied d shrunk t text text' variables variables' actions actions' r → Bodied b shrunk t text text' variables variables' actions actions' r
as_body shrunk t text text' variables variables' actions actions' r e x = subst (λ (b : Result Body Fault). Bodied b shrunk t text text' variables variables' actions actions' r) (sym e) x

module _ (shape : Shape) (line : ℕ) (scratch : List ℕ) (name : ℕ) (a : Arguments) (is : shape ≡ shape_of (take name scratch)) where
  abbrev first : List ℕ
  first = part scratch name a.one

  abbrev second : List ℕ
  second = part scratch a.one a.two

  abbrev third : List ℕ
  third = part scratch a.two a.three

  abbrev body : Result Body Fault
  body = body_by (shape_of (take name scratch)) line (take name scratch) (held_arguments scratch name a)

  as_shape : body ≡ body_by shape line (take name scratch) (held_arguments scratch name a)
  as_shape = ap (λ (i : Shape). body_by i line (take name scratch) (held_arguments scratch name a)) (sym is)

  pub wrong_shape : takes shape a.count ≡ false → body ≡ Err (wrong_count line)
  wrong_shape e = as_shape ∙ count_wrong line (take name scratch) first second third shape a.count e

  module _ {k : Shape} (q : shape ≡ k) where
    shaped : body ≡ body_by k line (take name scratch) (held_arguments scratch name a)
    shaped = as_shape ∙ ap (λ (i : Shape). body_by i line (take name scratch) (held_arguments scratch name a)) q

    taken : takes shape a.count ≡ true → takes k a.count ≡ true
    taken e = sym (ap (λ (i : Shape). takes i a.count) q) ∙ e

    alone : eqb a.count 1 ≡ true → body ≡ body_by k line (take name scratch) (first ∷ [])
    alone e = shaped ∙ count_one line (take name scratch) first second third k a.count e

  pub rule_shape : shape ≡ of_rule → takes shape a.count ≡ true → (a.count ≡ 2 → third ≡ []) → body ≡ told line (rule_by (variables_read first) (operator_read second) (actions_read third))
  rule_shape q e f = shaped q ∙ count_rule line (take name scratch) first second third a.count (taken q e) f

  pub action_shape : shape ≡ of_action → takes shape a.count ≡ true → body ≡ told line (act_by act (actions_read first))
  action_shape q e = alone q (taken q e)

  pub defaults_shape : shape ≡ of_defaults → takes shape a.count ≡ true → body ≡ told line (act_by defaults (actions_read first))
  defaults_shape q e = alone q (taken q e)

  pub marker_shape : shape ≡ of_marker → takes shape a.count ≡ true → body ≡ Ok (marker first)
  marker_shape q e = alone q (taken q e)

  pub other_shape : shape ≡ of_other → body ≡ Ok (unknown (take name scratch))
  other_shape q = shaped q

-- the room for a name alone
module _ {scratch text : List ℕ} {name : ℕ} {a : Arguments} {t : Tally} (x : Ready scratch text name a t) where
  pub name_inside : name ≤ length scratch
  name_inside = omega (arith, x.first, x.second, x.third, x.inside)

  pub name_long : length (take name scratch) ≡ name
  name_long = length-take-le name scratch name_inside

  pub marker_fits : (t.text + length (part scratch name a.one) ≤ length text) × ((t.text ≤ limit) × (length (part scratch name a.one) ≤ limit))
  marker_fits =
      let n = first_long x in
      (omega (arith, n, x.second, x.third, x.room), (omega (arith, x.short), omega (arith, n, x.second, x.third, x.short)))

  pub other_fits : (t.text + length (take name scratch) ≤ length text) × ((t.text ≤ limit) × (length (take name scratch) ≤ limit))
  other_fits =
      (omega (arith, name_long, x.first, x.second, x.third, x.room), (omega (arith, x.short), omega (arith, name_long, x.first, x.second, x.third, x.short)))
