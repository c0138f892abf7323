-- The normaliser and the cutter leave a text with no quotation mark, backslash, comma or round bracket alone,
-- and so the spelling of an action with such texts.
use mathlib.Core.Path.{◌≡◌, ◌∙◌, refl, sym, ap}
use mathlib.Core.Bool.{Bool, true, false}
use mathlib.Core.List.{List, [], ◌∷◌, ◌++◌, append-nil}
use mathlib.Core.Logic.{⊎_elim}
use Prim.Native.Nat.{ℕ, ◌^◌, ◌-◌}
use native.Mathlib.Omega.{arith}
use lib.Dec.{eqb, ltb}
use borrow.Author.Tests.{ne_eqb}
use Rattle.ascii.specs.Choice.{pick, or}
use Rattle.ascii.specs.Text.{bytes}
use Rattle.ascii.specs.Classes.{digit}
use Rattle.ascii.specs.Fold.{same}
use Rattle.ascii.specs.Numbers.{all_digits}
use Rattle.ascii.proofs.NumberLaws.{digit_bounds}
use Rattle.ascii.proofs.TestLaws.{both, joins, or_false}
use Rattle.records.specs.Codes.{transformation_code}
use Rattle.records.specs.Actions.{Action, slot_text, action_text}
use Rattle.single_action.specs.Marks.{quotation}
use Rattle.single_action.specs.Setvar.{SetValue, text, int, increment, decrement, delete, macro}
use Rattle.single_action.specs.declared.naming.Rule.{Rule}
use Rattle.single_action.specs.declared.naming.Rule.TheVariants.{Plain as plain, Wanted as wanted, Unmarked as unmarked, UpTo as up_to, Severity as severity, Equation as equation, Expiry as expiry, Setting as setting}
use Rattle.single_action.specs.Table.{rows}
use Rattle.single_action.specs.Actions.{text_of}
use Rattle.actions.specs.Pieces.{Nest, nest, outside, nest_bare, nest_quoted, nest_after, cuts}
use Rattle.listing.specs.Json.{decimal}
use Rattle.spelled.specs.Spelling.{coded, has, between, marked, signed, value_in, setvar_in, bang, tail, setvar_text, argument, spell}
use Rattle.spelled.specs.Condition.{isnt, steady, uncut, nest_past, rough, smooth}
use Rattle.spelled.specs.Texts.{rule_in, walk_of}
use Rattle.spelled.proofs.TestLaws.{denied, deny}
use Rattle.spelled.proofs.DecimalLaws.{digits_cons, decimal_digits}
use Rattle.spelled.proofs.SetvarLaws.{value_text}
use Rattle.spelled.proofs.PassLaws.{past_spelling, steady_passes, spelling_uncut, spelling_nest}

-- ---- smooth texts

smooth_cons : (b : ℕ) (r : List ℕ) → smooth (b ∷ r) ≡ true → (rough b ≡ false) × (smooth r ≡ true)
unfolding smooth
smooth_cons b r h = let p = both (isnt (rough b)) (smooth r) h in (denied (rough b) p.0, p.1)

smooth_append : (a b : List ℕ) → smooth a ≡ true → smooth b ≡ true → smooth (a ++ b) ≡ true
unfolding smooth
smooth_append [] b h k = k
smooth_append (x ∷ a) b h k = let p = both (isnt (rough x)) (smooth a) h in joins p.0 (smooth_append a b p.1 k)

smooth_parts : (a b : List ℕ) → smooth (a ++ b) ≡ true → (smooth a ≡ true) × (smooth b ≡ true)
unfolding smooth
smooth_parts [] b h = (refl, h)
smooth_parts (x ∷ a) b h =
    let p = both (isnt (rough x)) (smooth (a ++ b)) h in
    let q = smooth_parts a b p.1 in
    (joins p.0 q.0, q.1)

digit_smooth : (b : ℕ) → digit b ≡ true → rough b ≡ false
unfolding quotation
digit_smooth b d =
    let g = digit_bounds b d in
    let l = g.0 in
    rw (ne_eqb b 34 (λ e. omega (arith, e, l)), ne_eqb b 39 (λ e. omega (arith, e, l)), ne_eqb b 92 (λ e. omega (arith, e, g.1)), ne_eqb b 44 (λ e. omega (arith, e, l)), ne_eqb b 40 (λ e. omega (arith, e, l)), ne_eqb b 41 (λ e. omega (arith, e, l)))

digits_smooth : (s : List ℕ) → all_digits s ≡ true → smooth s ≡ true
unfolding smooth
digits_smooth [] d = refl
digits_smooth (b ∷ r) d = let p = digits_cons b r d in joins (deny (digit_smooth b p.0)) (digits_smooth r p.1)

pub decimal_smooth : (n : ℕ) → smooth (decimal n) ≡ true
decimal_smooth n = digits_smooth (decimal n) (decimal_digits n)

pub signed_smooth : (n : ℕ) → smooth (signed n) ≡ true
unfolding signed smooth quotation
signed_smooth n = go (ltb n (2 ^ 63))
  where
    go : (t : Bool) → smooth (pick t (decimal n) (45 ∷ decimal (2 ^ 64 - n))) ≡ true
    go true = decimal_smooth n
    go false = decimal_smooth (2 ^ 64 - n)

-- ---- passed by each walk

-- what a byte is not
pub record Smooth (b : ℕ) : Type 0 where
  pub mark : quotation b ≡ false
  slash : eqb b 92 ≡ false
  pub comma : eqb b 44 ≡ false
  pub opening : eqb b 40 ≡ false
  pub closing : eqb b 41 ≡ false

pub smooth_byte : (b : ℕ) → rough b ≡ false → Smooth b
smooth_byte b h =
    let p = or_false (quotation b) (or (eqb b 92) (or (eqb b 44) (or (eqb b 40) (eqb b 41)))) h in
    let q = or_false (eqb b 92) (or (eqb b 44) (or (eqb b 40) (eqb b 41))) p.1 in
    let r = or_false (eqb b 44) (or (eqb b 40) (eqb b 41)) q.1 in
    let s = or_false (eqb b 40) (eqb b 41) r.1 in
    record { mark = p.0; slash = q.0; comma = r.0; opening = s.0; closing = s.1 }

steady_past : (t s : List ℕ) → smooth t ≡ true → steady (t ++ s) ≡ steady s
unfolding steady
steady_past [] s h = refl
steady_past (b ∷ r) s h =
    let p = smooth_cons b r h in
    rw ((smooth_byte b p.0).slash, steady_past r s p.1)

-- with nothing open
bare_byte : (b : ℕ) → Smooth b → (cuts outside b ≡ false) × (nest_after outside b ≡ outside)
unfolding cuts nest_after nest_bare
bare_byte b x = (rw x.comma, rw (x.mark, x.opening, x.closing))

-- with a single mark open
abbrev marking : Nest
marking = nest 39 0

marked_byte : (b : ℕ) → Smooth b → (cuts marking b ≡ false) × (nest_after marking b ≡ marking)
unfolding cuts nest_after nest_quoted quotation
marked_byte b x = (rw x.comma, rw (or_false (eqb b 34) (eqb b 39) x.mark).1)

module _ (n : Nest) (stays : (b : ℕ) → Smooth b → (cuts n b ≡ false) × (nest_after n b ≡ n)) where
  pub uncut_past : (t s : List ℕ) → smooth t ≡ true → uncut n (t ++ s) ≡ uncut n s
  unfolding uncut
  uncut_past [] s h = refl
  uncut_past (b ∷ r) s h =
      let p = smooth_cons b r h in
      let x = stays b (smooth_byte b p.0) in
      rw (x.0, x.1) (uncut_past r s p.1)

  pub nest_past_lem : (t s : List ℕ) → smooth t ≡ true → nest_past n (t ++ s) ≡ nest_past n s
  unfolding nest_past
  nest_past_lem [] s h = refl
  nest_past_lem (b ∷ r) s h =
      let p = smooth_cons b r h in
      let x = stays b (smooth_byte b p.0) in
      ap (λ (m : Nest). nest_past m (r ++ s)) x.1 ∙ nest_past_lem r s p.1

-- a text that all three leave alone
pub record Calm (t : List ℕ) : Type 0 where
  pub steadily : steady t ≡ true
  pub whole_is : uncut outside t ≡ true
  pub closed : nest_past outside t ≡ outside

pub calm_smooth : (t : List ℕ) → smooth t ≡ true → Calm t
unfolding steady uncut nest_past
calm_smooth t h = record {
  steadily = ap steady (sym (append-nil t)) ∙ steady_past t [] h;
  whole_is = ap (uncut outside) (sym (append-nil t)) ∙ uncut_past outside bare_byte t [] h;
  closed = ap (nest_past outside) (sym (append-nil t)) ∙ nest_past_lem outside bare_byte t [] h;
}

no_single : (t : List ℕ) → smooth t ≡ true → has 39 t ≡ false
unfolding has quotation
no_single [] h = refl
no_single (b ∷ r) h =
    let p = smooth_cons b r h in
    rw ((or_false (eqb b 34) (eqb b 39) (smooth_byte b p.0).mark).1, no_single r p.1)

calm_between : (t : List ℕ) → smooth t ≡ true → Calm (between 39 t)
unfolding steady uncut nest_past cuts nest_after nest_bare nest_quoted quotation
calm_between t h = record {
  steadily = steady_past t (39 ∷ []) h;
  whole_is = uncut_past marking marked_byte t (39 ∷ []) h;
  closed = nest_past_lem marking marked_byte t (39 ∷ []) h;
}

calm_marked : (t : List ℕ) → smooth t ≡ true → Calm (marked t)
unfolding marked
calm_marked t h = rw (no_single t h) (calm_between t h)

-- ---- by the rule

pub bang_smooth : (v : SetValue) → smooth (bang v) ≡ true
unfolding smooth quotation
bang_smooth (text t) = refl
bang_smooth (int n) = refl
bang_smooth (increment n) = refl
bang_smooth (decrement n) = refl
bang_smooth delete = refl
bang_smooth (macro t) = refl

tail_smooth : (v : SetValue) → smooth (slot_text (text_of v)) ≡ true → smooth (tail v) ≡ true
unfolding smooth quotation
tail_smooth (text t) h = go (same t (bytes "1"))
  where
    go : (b : Bool) → smooth (pick b [] (61 ∷ t)) ≡ true
    go true = refl
    go false = h
tail_smooth (int n) h = decimal_smooth n
tail_smooth (increment n) h = signed_smooth n
tail_smooth (decrement n) h = signed_smooth n
tail_smooth delete h = refl
tail_smooth (macro t) h = h

value_in_smooth : (k n : ℕ) (t : List ℕ) → smooth t ≡ true → smooth (slot_text (text_of (value_in k n t))) ≡ true
unfolding smooth
value_in_smooth k n t h = ⊎_elim (λ e. rw e h) (λ e. rw e) (value_text k n t)

dotted : (k : List ℕ) → smooth k ≡ true → smooth (46 ∷ k) ≡ true
unfolding smooth quotation
dotted k h = h

equated : (k : List ℕ) → smooth k ≡ true → smooth (61 ∷ k) ≡ true
unfolding smooth quotation
equated k h = h

calm_nil : Calm []
unfolding steady uncut nest_past
calm_nil = record { steadily = refl; whole_is = refl; closed = refl }

calm_argument : (u : Rule) (x : Action) → smooth (action_text x) ≡ true → Calm (slot_text (argument u x))
unfolding argument action_text setvar_text
calm_argument u x h = go u (smooth_parts (slot_text x.a) (slot_text x.b ++ slot_text x.c) h).0 rest.0 rest.1
  where
    rest : (smooth (slot_text x.b) ≡ true) × (smooth (slot_text x.c) ≡ true)
    rest = smooth_parts (slot_text x.b) (slot_text x.c) (smooth_parts (slot_text x.a) (slot_text x.b ++ slot_text x.c) h).1

    go : (u : Rule) → smooth (slot_text x.a) ≡ true → smooth (slot_text x.b) ≡ true → smooth (slot_text x.c) ≡ true → Calm (slot_text (argument u x))
    go plain a b c = calm_nil
    go wanted a b c = calm_smooth (slot_text x.a) a
    go unmarked a b c = calm_marked (slot_text x.a) a
    go (up_to most) a b c = calm_smooth (decimal x.number) (decimal_smooth x.number)
    go severity a b c = calm_smooth (decimal x.number) (decimal_smooth x.number)
    go equation a b c = calm_smooth (slot_text x.a ++ (61 ∷ slot_text x.b)) (smooth_append (slot_text x.a) (61 ∷ slot_text x.b) a (equated (slot_text x.b) b))
    go expiry a b c =
        calm_smooth (slot_text x.a ++ (61 ∷ decimal x.number))
        (smooth_append (slot_text x.a) (61 ∷ decimal x.number) a (equated (decimal x.number) (decimal_smooth x.number)))
    go setting a b c =
        let v = value_in x.kind x.number (slot_text x.c) in
        let w = tail_smooth v (value_in_smooth x.kind x.number (slot_text x.c) c) in
        calm_marked (setvar_text (setvar_in x))
        (smooth_append (bang v) (slot_text x.a ++ (46 ∷ (slot_text x.b ++ tail v))) (bang_smooth v)
        (smooth_append (slot_text x.a) (46 ∷ (slot_text x.b ++ tail v)) a
        (dotted (slot_text x.b ++ tail v) (smooth_append (slot_text x.b) (tail v) b w))))

calm_walk : (x : Action) → smooth (action_text x) ≡ true → Calm (walk_of x)
unfolding action_text
calm_walk x h = go (eqb x.code transformation_code)
  where
    go : (t : Bool) → Calm (pick t (slot_text x.a) (slot_text (argument (rule_in (coded rows x.code)) x)))
    go true = calm_smooth (slot_text x.a) (smooth_parts (slot_text x.a) (slot_text x.b ++ slot_text x.c) h).0
    go false = calm_argument (rule_in (coded rows x.code)) x h

pub calm_spelling : (x : Action) → smooth (action_text x) ≡ true → Calm (spell x)
calm_spelling x h =
    let c = calm_walk x h in
    record {
      steadily = past_spelling steady steady_passes x ∙ c.steadily;
      whole_is = spelling_uncut x ∙ c.whole_is;
      closed = spelling_nest x ∙ c.closed;
    }
